use Rattle.std.proofs.Common.{◌≡◌, ℕ, zero, suc, ◌+◌, ◌<◌, ◌⊎◌, inl, inr, List, [], ◌∷◌, ◌++◌, length, refl, sym, ap, ◌∙◌, subst, arith, length-append}
use mathlib.Core.Option.{some, some-injective, some-ne-none}
use lib.ListN.{get_elem?}
use Rattle.demi_buf.specs.Bufs.{BufValue, fresh, superblock_of, IsSuperblock}
use Rattle.demi_buf.specs.declared.class.Class.{Class}
use Rattle.demi_buf.specs.declared.class.Class.TheVariants.{Large}
use Rattle.demi_buf.proofs.tests.buffers_join_in_any_order.Goals as goal

snoc_parts : (l m : List BufValue) (a b : BufValue) → l ++ a ∷ [] ≡ m ++ b ∷ [] → (l ≡ m) × (a ≡ b)
snoc_parts [] [] a b e = (refl, some-injective a b (ap (λ (q : List BufValue). get_elem? q 0) e))
snoc_parts [] (y ∷ ys) a b e = let n = ap length e in let w = length-append ys (b ∷ []) in absurd (omega arith)
snoc_parts (x ∷ xs) [] a b e = let n = ap length e in let w = length-append xs (a ∷ []) in absurd (omega arith)
snoc_parts (x ∷ xs) (y ∷ ys) a b e = let h = some-injective x y (ap (λ (q : List BufValue). get_elem? q 0) e) in let r = snoc_parts xs ys a b (ap tail e) in ((λ i. h i ∷ r.0 i), r.1)
  where
    tail : List BufValue → List BufValue
    tail [] = []
    tail (z ∷ zs) = zs

module _ (k : ℕ) (c : Class) (bytes : List ℕ) where
  abbrev turned : List BufValue
  turned = fresh k c 3 1 ∷ record (fresh k c 3 2) { bytes = bytes } ∷ fresh k c 3 0 ∷ []

  at : (i : ℕ) (a : BufValue) → get_elem? turned i ≡ some a → (a.block ≡ k) × (a.count ≡ 3) × (((i < 2) × (a.slot ≡ i + 1)) ⊎ ((i ≡ 2) × (a.slot ≡ 0)))
  at zero a e = let s = some-injective (fresh k c 3 1) a e in (ap (λ (b : BufValue). b.block) (sym s), ap (λ (b : BufValue). b.count) (sym s), inl (omega arith, ap (λ (b : BufValue). b.slot) (sym s)))
  at (suc zero) a e = let s = some-injective (record (fresh k c 3 2) { bytes = bytes }) a e in (ap (λ (b : BufValue). b.block) (sym s), ap (λ (b : BufValue). b.count) (sym s), inl (omega arith, ap (λ (b : BufValue). b.slot) (sym s)))
  at (suc (suc zero)) a e = let s = some-injective (fresh k c 3 0) a e in (ap (λ (b : BufValue). b.block) (sym s), ap (λ (b : BufValue). b.count) (sym s), inr (refl, ap (λ (b : BufValue). b.slot) (sym s)))
  at (suc (suc (suc i))) a e = absurd (some-ne-none a (sym e))

  whole : IsSuperblock turned
  whole = record {
    block = k;
    alike = λ i b e. let f = at i b e in (f.0, f.1);
    once = λ i j a b e f same. elim (at i a e).2 [
      | inl u ↦ elim (at j b f).2 [ inl v ↦ omega (arith, u.1, v.1, same) | inr v ↦ absurd (omega (arith, u.1, v.1, same)) ]
      | inr u ↦ elim (at j b f).2 [ inl v ↦ absurd (omega (arith, u.1, v.1, same)) | inr v ↦ u.0 ∙ sym v.0 ]
    ];
  }

pub join-requires : goal.join-requires
join-requires g c =
    let items = c.in-Ok.bufs.items in let k = superblock_of items in let f : ℕ → BufValue = fresh k Large 3 in
    let last = snoc_parts c.take_last-last.new.self.items (f 0 ∷ f 1 ∷ []) c.take_last-last.result (f 2) (sym c.take_last-last.ensures.items ∙ c.in-Ok.ensures.bufs) in
    let middle = snoc_parts c.take_last-middle.new.self.items (f 0 ∷ []) c.take_last-middle.result (f 1) (sym c.take_last-middle.ensures.items ∙ last.0) in
    let first = snoc_parts c.take_last-first.new.self.items [] c.take_last-first.result (f 0) (sym c.take_last-first.ensures.items ∙ middle.0) in
    let long : BufValue = c.set_len.new.self in let ens = c.set_len.ensures in
    let is : long ≡ record (f 2) { bytes = long.bytes } = ens ∙ (ap (λ (l : List ℕ). record c.take_last-last.result { bytes = l }) (sym (ap (λ (b : BufValue). b.bytes) ens)) ∙ ap (λ (b : BufValue). record b { bytes = long.bytes }) last.1) in
    let pushed = c.push_reserved-3.ensures.items ∙ ap (λ (l : List BufValue). l ++ c.take_last-first.result ∷ []) (c.push_reserved-2.ensures.items ∙ ap (λ (l : List BufValue). l ++ long ∷ []) c.push_reserved.ensures.items) in
    subst IsSuperblock (sym (pushed ∙ (λ i. ((first.0 i ++ middle.1 i ∷ []) ++ is i ∷ []) ++ first.1 i ∷ []))) (whole k Large long.bytes)
