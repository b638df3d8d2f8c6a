-- Superblocks that lie in a row of slots.
use Rattle.std.proofs.Common.{◌≡◌, ℕ, zero, suc, ◌+◌, ◌-◌, ◌<◌, ◌≤◌, ◌⊎◌, inl, inr, ⊎_elim, Bool, cond, ltb, List, [], ◌∷◌, ◌++◌, length, sym, refl, ap, ◌∙◌, subst, arith, length-append, append_assoc}
use Rattle.std.proofs.lemmas.Bool.{lt-ltb, le-ltb}
use mathlib.Core.Logic.{dite}
use mathlib.Core.Option.{some, some-injective, some-ne-none}
use native.Mathlib.Decide.{ℕ_discrete, dec_le}
use lib.ListN.{get_elem?}
use Rattle.std.specs.Prelude.{Option, Some, None}
use Rattle.atomic_table.proofs.Lists.{at_longer, at_last}
use Rattle.demi_buf.specs.Bufs.{BufValue, carved, fresh, IsSuperblock}
use Rattle.demi_buf.specs.declared.class.Class.{Class}
use Rattle.demi_buf.specs.declared.class.Class.TheVariants.{Small, Page, Large}
use Rattle.demi_heap_core.specs.declared.shape.Shape.{Shape}
use Rattle.demi_heap_core.specs.declared.shape.Superblock.{Superblock}
use Rattle.demi_heap_core.specs.Owner.{total}
use Rattle.demi_heap.specs.Rule.{class_at, first_of, end_of, lies_in, IsAt}
use Rattle.demi_heap.specs.Laid.{places, EachLies, IsLaid, HasClasses, IsFront, IsWholeFrom, IsHome}

module _ {A : Type 0} where
  pub at_shorter : (l : List A) (a : A) (k : ℕ) → k < length l → get_elem? (l ++ a ∷ []) k ≡ get_elem? l k
  at_shorter [] a k h = absurd (omega arith)
  at_shorter (x ∷ xs) a zero h = refl
  at_shorter (x ∷ xs) a (suc k) h = at_shorter xs a k (omega arith)

  pub within : (l : List A) (k : ℕ) (a : A) → get_elem? l k ≡ some a → k < length l
  within [] k a e = absurd (some-ne-none a (sym e))
  within (x ∷ xs) zero a e = omega arith
  within (x ∷ xs) (suc k) a e = let r = within xs k a e in omega arith

  pub at_end : (l : List A) (a b : A) (k : ℕ) → get_elem? (l ++ a ∷ []) k ≡ some b → (get_elem? l k ≡ some b) ⊎ ((k ≡ length l) × (a ≡ b))
  at_end [] a b zero e = inr (refl, some-injective a b e)
  at_end [] a b (suc k) e = absurd (some-ne-none b (sym e))
  at_end (x ∷ xs) a b zero e = inl e
  at_end (x ∷ xs) a b (suc k) e = ⊎_elim (λ t. inl t) (λ t. let t₀ = t.0 in inr (omega arith, t.1)) (at_end xs a b k e)

  pub snoc_parts : (l m : List A) (a b : A) → l ++ a ∷ [] ≡ m ++ b ∷ [] → (l ≡ m) × (a ≡ b)
  snoc_parts [] [] a b e = (refl, some-injective a b (ap (λ (q : List A). get_elem? q 0) e))
  snoc_parts [] (y ∷ ys) a b e = let n = ap length e in let w = length-append ys (b ∷ []) in absurd (omega arith)
  snoc_parts (x ∷ xs) [] a b e = let n = ap length e in let w = length-append xs (a ∷ []) in absurd (omega arith)
  snoc_parts (x ∷ xs) (y ∷ ys) a b e = let h = some-injective x y (ap (λ (q : List A). get_elem? q 0) e) in let r = snoc_parts xs ys a b (ap tail e) in ((λ i. h i ∷ r.0 i), r.1)
    where
      tail : List A → List A
      tail [] = []
      tail (z ∷ zs) = zs

-- the last buffer of a new superblock's first m
pub carved_last : (b : ℕ) (c : Class) (n m : ℕ) (items items' : List BufValue) (x : BufValue) → items ≡ carved b c n m → 0 < m → items ≡ items' ++ x ∷ [] → (items' ≡ carved b c n (m - 1)) × (x ≡ fresh b c n (m - 1))
carved_last b c n zero items items' x e h q = absurd (omega arith)
carved_last b c n (suc m) items items' x e h q = let p = snoc_parts items' (carved b c n m) x (fresh b c n m) (sym q ∙ e) in let k : suc m - 1 ≡ m = omega arith in
    (p.0 ∙ ap (carved b c n) (sym k), p.1 ∙ ap (fresh b c n) (sym k))

-- a slot below the others is where it was
pub lies_before : (rs xs : List Superblock) (k : ℕ) → k < total places rs → lies_in (rs ++ xs) k ≡ lies_in rs k
lies_before [] xs k h = absurd (omega arith)
lies_before (r ∷ rs) xs k h = dite (dec_le r.count k)
    (λ past. let no = le-ltb k r.count past in let rest = lies_before rs xs (k - r.count) (omega arith) in
    ap (λ (t : Bool). cond t (Some (r, k)) (lies_in (rs ++ xs) (k - r.count))) no ∙ (rest ∙ sym (ap (λ (t : Bool). cond t (Some (r, k)) (lies_in rs (k - r.count))) no)))
    (λ early. let near : k < r.count = omega arith in let yes = lt-ltb k r.count near in
    ap (λ (t : Bool). cond t (Some (r, k)) (lies_in (rs ++ xs) (k - r.count))) yes ∙ sym (ap (λ (t : Bool). cond t (Some (r, k)) (lies_in rs (k - r.count))) yes))

-- the slots of a superblock behind others
pub lies_here : (rs : List Superblock) (r : Superblock) (xs : List Superblock) (k i : ℕ) → k ≡ total places rs + i → i < r.count → lies_in (rs ++ r ∷ xs) k ≡ Some (r, i)
lies_here [] r xs k i e h = let same : k ≡ i = omega arith in ap (λ (t : Bool). cond t (Some (r, k)) (lies_in xs (k - r.count))) (lt-ltb k r.count (omega arith)) ∙ ap (λ (n : ℕ). Some (r, n)) same
lies_here (q ∷ rs) r xs k i e h = ap (λ (t : Bool). cond t (Some (q, k)) (lies_in (rs ++ r ∷ xs) (k - q.count))) (le-ltb k q.count (omega arith)) ∙ lies_here rs r xs (k - q.count) i (omega arith) h

pub total_snoc : (rs : List Superblock) (r : Superblock) → total places (rs ++ r ∷ []) ≡ total places rs + r.count
total_snoc [] r = omega arith
total_snoc (q ∷ rs) r = let t = total_snoc rs r in omega arith

module _ (rs xs : List Superblock) (row : List (Option BufValue)) (small : length row ≤ total places rs) where
  -- a row that lies in these superblocks lies in more of them
  pub lies_wider : EachLies rs row → EachLies (rs ++ xs) row
  lies_wider each = record { at = λ k h. let b = each.at k h in (b.0, b.1, subst (λ (p : Option (Superblock × ℕ)). IsAt p b.0) (sym (lies_before rs xs k (omega arith))) b.2) }

  pub lies_narrower : EachLies (rs ++ xs) row → EachLies rs row
  lies_narrower each = record { at = λ k h. let b = each.at k h in (b.0, b.1, subst (λ (p : Option (Superblock × ℕ)). IsAt p b.0) (lies_before rs xs k (omega arith)) b.2) }

-- one buffer more
pub lies_more : (rs : List Superblock) (row : List (Option BufValue)) (b : BufValue) → EachLies rs row → IsAt (lies_in rs (length row)) b → EachLies rs (row ++ Some b ∷ [])
lies_more rs row b each here = record {
  at = λ k h. let len = length-append row (Some b ∷ []) in dite (ℕ_discrete k (length row))
      (λ e. (b, at_last row (Some b) k (sym e), subst (λ (n : ℕ). IsAt (lies_in rs n) b) (sym e) here))
      (λ ne. let old = each.at k (omega arith) in (old.0, at_longer row (Some b ∷ []) k (Some old.0) old.1, old.2));
}

pub in_it : (x y : BufValue) → Some x ≡ Some y → x ≡ y
in_it x y q = ap (out x) q
  where
    out : BufValue → Option BufValue → BufValue
    out d None = d
    out d (Some z) = z

pub classes_more : (h : Shape) (row : List (Option BufValue)) (b : BufValue) → HasClasses h row → b.class ≡ class_at h (length row) → HasClasses h (row ++ Some b ∷ [])
classes_more h row b old is = record {
  of = λ k c e. ⊎_elim (λ (t : get_elem? row k ≡ some (Some c)). old.of k c t)
      (λ (t : (k ≡ length row) × (Some b ≡ Some c)). ap (λ (z : BufValue). z.class) (sym (in_it b c t.1)) ∙ (is ∙ ap (class_at h) (sym t.0)))
      (at_end row (Some b) (Some c) k e);
}

-- the last buffer of a row, and the row without it
pub lies_less : (rs : List Superblock) (row : List (Option BufValue)) (x : Option BufValue) → EachLies rs (row ++ x ∷ []) → EachLies rs row × ((b : BufValue) × (x ≡ Some b) × IsAt (lies_in rs (length row)) b)
lies_less rs row x each = let len = length-append row (x ∷ []) in (
  record { at = λ k h. let b = each.at k (omega arith) in (b.0, sym (at_shorter row x k h) ∙ b.1, b.2) },
  (let b = each.at (length row) (omega arith) in (b.0, some-injective x (Some b.0) (sym (at_last row x (length row) refl) ∙ b.1), b.2)),
)

pub along : (h : Shape) (rs rs' : List Superblock) (row row' : List (Option BufValue)) → rs' ≡ rs → row' ≡ row → IsLaid rs row × HasClasses h row → IsLaid rs' row' × HasClasses h row'
along h rs rs' row row' e f p = (subst (λ (x : List Superblock). IsLaid x row') (sym e) (subst (λ (y : List (Option BufValue)). IsLaid rs y) (sym f) p.0), subst (HasClasses h) (sym f) p.1)

-- the class of a slot between the first and the last of it
pub class_within : (h : Shape) (c : Class) (k : ℕ) → first_of h c ≤ k → k < end_of h c → c ≡ class_at h k
class_within h Small k low high = sym (ap (λ (t : Bool). cond t Small (cond (ltb k (h.small + h.page)) Page Large)) (lt-ltb k h.small high))
class_within h Page k low high = sym (ap (λ (t : Bool). cond t Small (cond (ltb k (h.small + h.page)) Page Large)) (le-ltb k h.small low) ∙ ap (λ (t : Bool). cond t Page Large) (lt-ltb k (h.small + h.page) high))
class_within h Large k low high = sym (ap (λ (t : Bool). cond t Small (cond (ltb k (h.small + h.page)) Page Large)) (le-ltb k h.small (omega arith)) ∙ ap (λ (t : Bool). cond t Page Large) (le-ltb k (h.small + h.page) low))

-- the next buffer of a superblock, which lies one place before the last
pub front_more : (r : Superblock) (bufs : List BufValue) (b : BufValue) (i : ℕ) → IsFront r bufs → IsAt (Some (r, i)) b → length bufs + i + 1 ≡ r.count → IsFront r (bufs ++ b ∷ [])
front_more r bufs b i front at len = record {
  at = λ j x e. ⊎_elim (λ (t : get_elem? bufs j ≡ some x). front.at j x t)
      (λ (t : (j ≡ length bufs) × (b ≡ x)).
      let block : r ≡ at.block = ap (λ o. (out (r, i) o).0) at.there in let number : i ≡ at.number = ap (λ o. (out (r, i) o).1) at.there in
      let slot = at.is.2 in let count : r.count ≡ at.block.count = ap (λ (q : Superblock). q.count) block in let j₀ = t.0 in let is : b.slot ≡ j = omega arith in
      (ap (λ (z : BufValue). z.block) (sym t.1) ∙ (at.is.0 ∙ ap (λ (q : Superblock). q.place) (sym block)), ap (λ (z : BufValue). z.count) (sym t.1) ∙ (at.is.1 ∙ sym count), ap (λ (z : BufValue). z.slot) (sym t.1) ∙ is))
      (at_end bufs b x j e);
}
  where
    out : Superblock × ℕ → Option (Superblock × ℕ) → Superblock × ℕ
    out d None = d
    out d (Some q) = q

-- all of them are the superblock
pub front_whole : (r : Superblock) (bufs : List BufValue) → IsFront r bufs → length bufs ≡ r.count → IsSuperblock bufs
front_whole r bufs front len = record {
  block = r.place;
  alike = λ i b e. let f = front.at i b e in (f.0, f.1 ∙ sym len);
  once = λ i j a b e f same. sym (front.at i a e).2 ∙ (same ∙ (front.at j b f).2);
}

pub front_none : (r : Superblock) → IsFront r []
front_none r = record { at = λ j b e. absurd (some-ne-none b (sym e)) }

-- the next buffer of a new superblock goes into the row
pub lay_next : (h : Shape) (c : Class) (rs : List Superblock) (p : ℕ) (n m i : ℕ) (bufs bufs' : List BufValue) (x : BufValue) (row row' : List (Option BufValue))
    → bufs ≡ carved p c n m → 0 < m → m + i ≡ n → bufs ≡ bufs' ++ x ∷ [] → row' ≡ row ++ Some x ∷ [] → length row ≡ total places rs + i
    → EachLies (rs ++ record { place = p; count = n } ∷ []) row → HasClasses h row → first_of h c ≤ length row → length row < end_of h c
    → (bufs' ≡ carved p c n (m - 1)) × EachLies (rs ++ record { place = p; count = n } ∷ []) row' × HasClasses h row' × (x ≡ fresh p c n (m - 1))
lay_next h c rs p n m i bufs bufs' x row row' is some_left all last pushed len each classes low high =
    let l = carved_last p c n m bufs bufs' x is some_left last in let r : Superblock = record { place = p; count = n } in
    let slot : x.slot ≡ m - 1 = ap (λ (z : BufValue). z.slot) l.1 in
    let here : IsAt (lies_in (rs ++ r ∷ []) (length row)) x = record {
      block = r;
      number = i;
      there = lies_here rs r [] (length row) i len (omega arith);
      is = (ap (λ (z : BufValue). z.block) l.1, ap (λ (z : BufValue). z.count) l.1, omega arith);
    } in (
      l.0,
      subst (EachLies (rs ++ r ∷ [])) (sym pushed) (lies_more (rs ++ r ∷ []) row x each here),
      subst (HasClasses h) (sym pushed) (classes_more h row x classes (ap (λ (z : BufValue). z.class) l.1 ∙ class_within h c (length row) low high)),
      l.1,
    )

-- the value of the slot before the `taken` last ones of a superblock
pub taken_value : (r : Superblock) (end taken : ℕ) (row row' : List (Option BufValue)) (x : Option BufValue) → r.count ≤ end → taken < r.count → row' ≡ row → IsWholeFrom (end - r.count) row r → get_elem? row' (end - taken - 1) ≡ some x
    → (b : BufValue) × (x ≡ Some b) × IsAt (Some (r, r.count - (taken + 1))) b
taken_value r end taken row row' x long more same whole e = let i : ℕ = r.count - (taken + 1) in let h = whole.at i (omega arith) in let index : end - taken - 1 ≡ end - r.count + i = omega arith in
    (h.0, some-injective x (Some h.0) (sym e ∙ (ap (λ (l : List (Option BufValue)). get_elem? l (end - taken - 1)) same ∙ (ap (λ (k : ℕ). get_elem? row k) index ∙ h.1))), h.2)

-- the last superblock's buffers are at home where its words are 0
pub whole_block : (words : List ℕ) (row : List (Option BufValue)) (all rs done : List Superblock) (r : Superblock) (end : ℕ) → all ≡ (rs ++ r ∷ []) ++ done → end ≡ total places rs + r.count → IsHome words row all
    → ((k : ℕ) → end - r.count ≤ k → k < end → get_elem? words k ≡ some 0) → IsWholeFrom (end - r.count) row r
whole_block words row all rs done r end is len home free = record {
  at = λ i h. let k : ℕ = end - r.count + i in let b = home.at k (free k (omega arith) (omega arith)) in
      (b.0, b.1, subst (λ (p : Option (Superblock × ℕ)). IsAt p b.0) (ap (λ (l : List Superblock). lies_in l k) (is ∙ append_assoc rs (r ∷ []) done) ∙ lies_here rs r done k i (omega arith) h) b.2);
}
