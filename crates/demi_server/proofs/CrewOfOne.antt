-- What a crew of one comes to.
use Rattle.std.proofs.Common.{◌≡◌, ◌∙◌, List, [], ◌∷◌, ◌++◌, ap, arith, get_or, length, length-append, refl, subst, sym}
use Rattle.demi_pdpix.specs.Owing.{Owes}
use Rattle.demi_pdpix.specs.Seen.{IsOf}
use Rattle.demi_worker.specs.declared.ended.Ended.{Ended}
use Rattle.demi_context.specs.ContextPorts.{Caller, Whole}
use Rattle.demi_server.specs.Hands.{Done, HandValue, HasFinished, HasServed, MayFinish}
use Rattle.demi_work.specs.Working.{IsCrewDone, Then}
use Rattle.demi_server.proofs.Callers.{owes_none}

too_many : {A : Type 0} (y c : A) (ys cs : List A) → cs ≡ (y ∷ ys) ++ c ∷ [] → length cs ≡ 1 → ⊥
too_many y c ys cs is one = let n = ap length is ∙ length-append (y ∷ ys) (c ∷ []) in absurd (omega (arith, n, one))

-- a list of one from which one was taken
pub none_left : {A : Type 0} (cs left : List A) (c : A) → length cs ≡ 1 → cs ≡ left ++ c ∷ [] → left ≡ []
none_left cs [] c one is = refl
none_left cs (y ∷ ys) c one is = absurd (too_many y c ys cs is one)

-- the one of a crew did its work, and then the last of it
pub crew_did : {A : Type 0} (done finished : A → A → Type 0) (old new left : List A) (s t : A) → old ≡ s ∷ [] → IsCrewDone done finished old new → new ≡ left ++ t ∷ [] → Then done finished s t
crew_did done finished old new [] s t was did is =
    let first = did.first s in
    subst (λ x. Then done finished s x) (ap (λ l. get_or l 0 s) is) (subst (λ x. Then done finished x (get_or new 0 s)) (ap (λ l. get_or l 0 s) was) first)
crew_did done finished old new (y ∷ ys) s t was did is = absurd (too_many y t ys new is (did.as_many ∙ ap length was))

module _ (s t : HandValue) (did : Then HasServed HasFinished s t) where
  -- it may be taken apart
  pub may_part : MayFinish t
  may_part = (did.2.after, did.2.ended, did.2.is, subst (λ d. IsOf d did.2.after) (sym did.2.demi) did.2.of)

  -- and then nothing is outstanding of its caller
  pub did_owes : (d : Whole) (caller : Caller) (ended : List Ended) → s.demi ≡ d → s.number ≡ 0 → t.stage ≡ Done caller ended → Owes d 0 [] caller
  did_owes d caller ended demi number is = owes_none d s did.0 t caller ended demi number did.1 did.2 is
