-- Links none of which has anything under way.
use Rattle.std.proofs.Common.{◌≡◌, ℕ, zero, suc, ◌+◌, ◌<◌, All, List, [], ◌∷◌, ◌++◌, length, get_or, set, refl, ap, sym, subst, ◌∙◌, arith}
use Rattle.demi_port.specs.Seen.{PassValue, PortId}
use Rattle.demi_port_core.specs.History.{total}
use Rattle.demi_bench.specs.Linking.{ArePaired, AreIdle, AreOver, IsLineOf, IsOnlyPass, IsStill, OwesAll, OwesFor, at_rx, at_store, at_tx}
use Rattle.demi_bench.specs.declared.line.Line.{Line}
use Rattle.demi_bench.specs.declared.line.Wire.{Wire}

pub over_idle : (requests : ℕ) (lines : List Line) → AreOver requests lines → AreIdle lines
over_idle requests lines over i d low = (over i d low).0

pub idle_total : (lines : List Line) → AreIdle lines → total (λ l. at_store l.waits) lines ≡ 0
idle_total [] idle = refl
idle_total (x ∷ xs) idle = let a = ap at_store (idle 0 x (omega arith)) in let b = idle_total xs (λ i d low. idle (suc i) d (omega (arith, low))) in omega (arith, a, b)

pub idle_still : (requests : ℕ) (wires : List Wire) (lines : List Line) → ArePaired (IsLineOf requests) wires lines → AreIdle lines → ArePaired IsStill wires lines
idle_still requests wires lines p idle = (
  p.0,
  λ i w l low.
      let is = p.1 i w l low in let e = p.0 in let none = idle i l (omega (arith, low, e)) in
      let at = get_or lines i l in let by = get_or wires i w in
      (subst (λ n. IsOnlyPass by.rx n at.rx) (ap at_rx none) is.0, subst (λ n. IsOnlyPass by.tx n at.tx) (ap at_tx none) is.1),
)

pub total_put : {A : Type 0} (f : A → ℕ) (xs : List A) (k : ℕ) (q d : A) → k < length xs → total f (set xs k q) + f (get_or xs k d) ≡ total f xs + f q
total_put f [] k q d low = absurd (omega (arith, low))
total_put f (x ∷ xs) zero q d low = omega arith
total_put f (x ∷ xs) (suc k) q d low = let e = total_put f xs k q d (omega (arith, low)) in omega (arith, e)

-- what the pass owes where one of the links went on
pub owes_set : {D T B : Type 0} (port : PortId B) (lines : List Line) (i : ℕ) (d m : Line) (p q : PassValue D T B)
    → OwesAll port lines p → i < length lines → OwesFor (get_or lines i d) p m q → OwesAll port (set lines i m) q
owes_set port lines i d m p q owes low moves =
    let t = total_put (λ (x : Line). at_store x.waits) lines i m d low in let b = moves.2 in let o = owes.1 in (moves.0 ∙ owes.0, omega (arith, t, b, o))
