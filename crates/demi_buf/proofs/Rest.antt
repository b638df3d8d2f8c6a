-- A superblock's buffers are taken out by their numbers, from 0.
use Rattle.std.proofs.Common.{◌≡◌, ◌≢◌, ℕ, zero, suc, ◌+◌, ◌-◌, ◌<◌, ◌⊎◌, inl, inr, List, [], ◌∷◌, ◌++◌, length, get_or, sym, refl, ap, ◌∙◌, arith}
use mathlib.Core.Logic.{dite}
use mathlib.Core.Option.{some, some-injective, some-ne-none}
use native.Mathlib.Decide.{ℕ_discrete}
use lib.ListN.{get_elem?}
use Rattle.std_collections.proofs.IndexTableLemmas.Probe.{pigeonhole}
use Rattle.demi_buf.specs.Bufs.{BufValue, carved, fresh, superblock_of, IsRest}
use Rattle.demi_buf.specs.declared.class.Class.{Class}

module _ {X : Type 0} where
  pub elem_or : (xs : List X) (i : ℕ) (b d : X) → get_elem? xs i ≡ some b → (i < length xs) × (get_or xs i d ≡ b)
  elem_or [] i b d e = absurd (some-ne-none b (sym e))
  elem_or (x ∷ xs) zero b d e = (omega arith, some-injective x b e)
  elem_or (x ∷ xs) (suc i) b d e = let r = elem_or xs i b d e in (omega (arith, r.0), r.1)

  pub or_elem : (xs : List X) (i : ℕ) (d : X) → i < length xs → get_elem? xs i ≡ some (get_or xs i d)
  or_elem [] i d lt = absurd (omega arith)
  or_elem (x ∷ xs) zero d lt = refl
  or_elem (x ∷ xs) (suc i) d lt = or_elem xs i d (omega arith)

module _ (block count k : ℕ) (xs : List BufValue) (rest : IsRest block count k xs) where
  -- one of them has the lowest number that is left
  pub no_room : k < count → ((j : ℕ) (b : BufValue) → j < length xs → get_elem? xs j ≡ some b → (b.slot < b.count) × (b.slot ≢ k)) → ⊥
  no_room some_left other = by_head xs refl
    where
      by_head : (ys : List BufValue) → ys ≡ xs → ⊥
      by_head [] e = let left = rest.left in let none : 0 ≡ length xs = ap length e in omega arith
      by_head (d ∷ ds) e =
          let n = length xs in let left = rest.left in
          let at : (j : ℕ) → j < n → BufValue = λ j lt. get_or xs j d in
          let slot : ℕ → ℕ = λ j. (get_or xs j d).slot in
          let low : (j : ℕ) → j < n → (k < slot j) × (slot j < count) = λ j lt. let is = or_elem xs j d lt in let a = rest.alike j (get_or xs j d) is in let o = other j (get_or xs j d) lt is in
          (omega (arith, a.2, o.1), omega (arith, o.0, a.1)) in
          let f : ℕ → ℕ = λ j. slot j - (k + 1) in
          let into : (j : ℕ) → j < n → f j < n - 1 = λ j lt. let l = low j lt in omega (arith, l.0, l.1, left) in
          let one : (i j : ℕ) → i < n → j < n → f i ≡ f j → i ≡ j = λ i j li lj same. let a = low i li in let b = low j lj in
          rest.once i j (get_or xs i d) (get_or xs j d) (or_elem xs i d li) (or_elem xs j d lj) (omega (arith, a.0, b.0, same)) in
          let small = pigeonhole n (n - 1) f into one in omega (arith, small, left, some_left)

  module _ (ys : List BufValue) (p : ℕ) (b : BufValue) (in_it : p < length xs) (is : b ≡ get_or xs p b) (low : b.slot ≡ k) (one : length ys + 1 ≡ length xs)
      (moved : ((d : BufValue) → p + 1 < length xs → get_or ys p d ≡ get_or xs (length xs - 1) d) × ((j : ℕ) (d : BufValue) → j ≢ p → j + 1 < length xs → get_or ys j d ≡ get_or xs j d)) where
    here : get_elem? xs p ≡ some b
    here = or_elem xs p b in_it ∙ ap some (sym is)

    -- where it was
    from : (j : ℕ) (c : BufValue) → get_elem? ys j ≡ some c → (o : ℕ) × (get_elem? xs o ≡ some c) × (o ≢ p) × (((o ≡ j) × (j ≢ p)) ⊎ ((j ≡ p) × (o ≡ length xs - 1)))
    from j c e = let r = elem_or ys j c c e in let inside = r.0 in dite (ℕ_discrete j p)
        (λ same. let last : length xs - 1 < length xs = omega arith in
        (length xs - 1, or_elem xs (length xs - 1) c last ∙ ap some (sym (moved.0 c (omega arith)) ∙ (ap (λ i. get_or ys i c) (sym same) ∙ r.1)), (λ no. absurd (omega (arith, no, inside, same, one))), inr (same, refl)))
        (λ other. (j, or_elem xs j c (omega arith) ∙ ap some (sym (moved.1 j c other (omega arith)) ∙ r.1), other, inl (refl, other)))

    pub taken : (b.block ≡ block) × (b.count ≡ count) × IsRest block count (k + 1) ys
    taken = let mine = rest.alike p b here in let left = rest.left in (
      mine.0,
      mine.1,
      record {
        left = omega arith;
        alike = λ j c e. let f = from j c e in let a = rest.alike f.0 c f.1 in
            (a.0, a.1, dite (ℕ_discrete c.slot k) (λ same. absurd (f.2 (rest.once f.0 p c b f.1 here (same ∙ sym low)))) (λ other. omega (arith, a.2, other)));
        once = λ i j a c e g same. let f = from i a e in let h = from j c g in let o = rest.once f.0 h.0 a c f.1 h.1 same in
            let li = (elem_or ys i a a e).0 in let lj = (elem_or ys j c c g).0 in
            elim f.3 [
              | inl u ↦ elim h.3 [ inl v ↦ omega (arith, u.0, v.0, o) | inr v ↦ absurd (omega (arith, u.0, v.1, o, li, one)) ]
              | inr u ↦ elim h.3 [ inl v ↦ absurd (omega (arith, u.1, v.0, o, lj, one)) | inr v ↦ omega (arith, u.0, v.0) ]
            ];
      },
    )

head_snoc : (l : List BufValue) (x : BufValue) (b : ℕ) → x.block ≡ b → (0 < length l → superblock_of l ≡ b) → superblock_of (l ++ x ∷ []) ≡ b
head_snoc [] x b e h = e
head_snoc (y ∷ l) x b e h = h (omega arith)

-- new buffers are of the superblock that is named
pub carved_first : (b : ℕ) (c : Class) (n m : ℕ) → 0 < m → superblock_of (carved b c n m) ≡ b
carved_first b c n zero lt = absurd (omega arith)
carved_first b c n (suc zero) lt = refl
carved_first b c n (suc (suc m)) lt = head_snoc (carved b c n (suc m)) (fresh b c n (suc m)) b refl (λ h. carved_first b c n (suc m) (omega arith))
