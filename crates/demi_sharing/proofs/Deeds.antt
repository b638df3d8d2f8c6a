-- What workers' deeds are: which of them push, and which numbers their pops got.
use Rattle.std.proofs.Common.{◌≡◌, ℕ, zero, suc, ◌+◌, ◌<◌, List, [], ◌∷◌, ◌++◌, length, Some, refl, arith, ◌∙◌, ap, sym, inl, inr}
use Rattle.std.specs.Prelude.{slice_get}
use Rattle.std.specs.List.{AllByRecursion, AllZip}
use Rattle.demi_heap.specs.Seen.{HalfValue}
use Rattle.demi_memq.specs.declared.op.MemOp.TheVariants.{Push, Pop}
use Rattle.demi_memq.specs.declared.out.MemOut.{MemOut}
use Rattle.demi_memq.specs.declared.out.MemOut.TheVariants.{Item}
use Rattle.demi_port_core.specs.History.{Among}
use Rattle.demi_served.specs.Served.{Placed}
use Rattle.demi_served.specs.Sharing.{number_of}
use Rattle.demi_sharing.proofs.Lists.{all_at, among_place, some_is, zip_at}
use Rattle.demi_sharing.specs.Dealing.{Deed, IsPopOf, IsPushOf}

-- it is no push on queue 0
abbrev pub IsNoPush : Deed → Type 0
IsNoPush d = (sga : List HalfValue) → d.0 ≡ Push 0 sga → ⊥

-- a number that it got is among these
abbrev pub Notes : List ℕ → Deed → Type 0
Notes numbers d = (sga : List HalfValue) → d ≡ (Pop 0, Item sga) → Among (number_of sga) numbers

pub pops_no_push : (numbers : List ℕ) (pops : List Deed) → AllZip IsPopOf numbers pops → AllByRecursion IsNoPush pops
pops_no_push [] [] h = tt
pops_no_push [] (d ∷ pops) h = absurd h
pops_no_push (l ∷ numbers) [] h = absurd h
pops_no_push (l ∷ numbers) (d ∷ pops) h =
    ((λ sga e. let k = h.0 in let two : Pop 0 ≡ Push 0 sga = sym (ap (λ (z : Deed). z.0) k.1) ∙ e in absurd (cc)), pops_no_push numbers pops h.1)

pub pops_noted : (all numbers : List ℕ) (pops : List Deed) → ((l : ℕ) → Among l numbers → Among l all)
    → AllZip IsPopOf numbers pops → AllByRecursion (Notes all) pops
pops_noted all [] [] f h = tt
pops_noted all [] (d ∷ pops) f h = absurd h
pops_noted all (l ∷ numbers) [] f h = absurd h
pops_noted all (l ∷ numbers) (d ∷ pops) f h = (
  (λ sga e.
      let k = h.0 in
      let two : Item k.0 ≡ Item sga = ap (λ (z : Deed). z.1) (sym k.1 ∙ e) in
      let same : k.0 ≡ sga = cc in
      f (number_of sga) (inl (ap number_of (sym same) ∙ k.2))),
  pops_noted all numbers pops (λ m a. f m (inr a)) h.1,
)

pub pops_got : (numbers : List ℕ) (pops : List Deed) (l : ℕ) → AllZip IsPopOf numbers pops → Among l numbers
    → (i : ℕ) × (sga : List HalfValue) × (slice_get pops i ≡ Some (Pop 0, Item sga)) × (number_of sga ≡ l)
pops_got numbers pops l h a =
    let j = among_place numbers l a in
    let k = zip_at IsPopOf numbers pops j.0 l h j.1 in
    (j.0, k.2.0, k.1 ∙ ap Some k.2.1, k.2.2)

pub pushes_noted : (all : List ℕ) (base : ℕ) (pushes : List Deed) → Placed IsPushOf base pushes
    → AllByRecursion (Notes all) pushes
pushes_noted all base [] h = tt
pushes_noted all base (d ∷ pushes) h =
    ((λ sga e. let k = h.0 in let two : Push 0 k.0 ≡ Pop 0 = ap (λ (z : Deed). z.0) (sym k.1 ∙ e) in absurd (cc)), pushes_noted all (base + 1) pushes h.1)

first_number : (base n l : ℕ) → n ≡ base → (base + 0 ≡ n) × (0 < suc l)
first_number base n l e = (omega arith, omega arith)

next_number : (base j n l : ℕ) → (base + 1 + j ≡ n) × (j < l) → (base + suc j ≡ n) × (suc j < suc l)
next_number base j n l h = let e = h.0 in let less = h.1 in (omega arith, omega arith)

-- the number that was pushed says which push it was
pub push_at : (base : ℕ) (pushes rest : List Deed) (j : ℕ) (sga : List HalfValue) (out : MemOut)
    → Placed IsPushOf base pushes → AllByRecursion IsNoPush rest
    → slice_get (pushes ++ rest) j ≡ Some (Push 0 sga, out) → (base + j ≡ number_of sga) × (j < length pushes)
push_at base [] rest j sga out h calm e = absurd (all_at IsNoPush rest j (Push 0 sga, out) calm e sga refl)
push_at base (d ∷ pushes) rest zero sga out h calm e =
    let k = h.0 in
    let two : Push 0 k.0 ≡ Push 0 sga = ap (λ (z : Deed). z.0) (sym k.1 ∙ some_is e) in
    let same : k.0 ≡ sga = cc in
    first_number base (number_of sga) (length pushes) (ap number_of (sym same) ∙ k.2)
push_at base (d ∷ pushes) rest (suc j) sga out h calm e =
    next_number base j (number_of sga) (length pushes) (push_at (base + 1) pushes rest j sga out h.1 calm e)
