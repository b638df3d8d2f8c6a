-- The passes that a caller has of the ports of links.
use Rattle.std.proofs.Common.{◌≡◌, ◌∙◌, ℕ, zero, suc, ◌<◌, List, [], ◌∷◌, length, get_or, refl, arith, ap, sym, subst}
use Rattle.demi_port.specs.Seen.{PassValue, PortId}
use Rattle.demi_port_core.specs.Trails.{Behind}
use Rattle.demi_link.specs.Sights.{Side, side_of}
use Rattle.demi_pdpix.specs.Seen.{AreAt}
use Rattle.demi_worker.specs.Stopping.{Stops}
use Rattle.demi_closed.specs.Closed.{Added}
use Rattle.demi_context.specs.ContextPorts.{side_at}

pub at_many : {D T B : Type 0} (ps : List (PassValue D T B)) (xs : List (PortId B)) → AreAt ps xs → length ps ≡ length xs
at_many [] [] are = refl
at_many [] (x ∷ xs) are = absurd are
at_many (p ∷ ps) [] are = absurd are
at_many (p ∷ ps) (x ∷ xs) are = ap suc (at_many ps xs are.1)

-- what the pass of a place has
pub side_there : {D T B : Type 0} (ps : List (PassValue D T B)) (k : ℕ) (p : PassValue D T B) → k < length ps → side_of (get_or ps k p) ≡ side_at ps k
side_there [] k p low = absurd (omega (arith, low))
side_there (q ∷ ps) zero p low = refl
side_there (q ∷ ps) (suc k) p low = side_there ps k p (omega (arith, low))

-- a pass that stopped its port, seen once it had
pub added_by : {D T O B : Type 0} (admits : O → List D → List (ℕ × T) → ℕ → Type 0) (stop : D) (a b : Side D T) (p : PassValue D T B) → Stops admits stop a b → side_of p ≡ b → Added stop a p
added_by {D} {T} admits stop a b p s is = record {
  place = s.place;
  token = s.token;
  submitted = ap (λ (z : Side D T). z.submitted) (is ∙ s.redeems.side) ∙ ap (λ (z : Side D T). z.submitted) s.submits.side;
  grows =
      let had : Behind b.known a.known = subst (λ (z : Side D T). Behind b.known z.known) s.submits.side s.redeems.grows in
      subst (λ (z : Side D T). Behind z.known a.known) (sym is) had;
}
