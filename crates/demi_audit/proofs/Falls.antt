-- The auditor's rule on versions along a link, by the greatest so far.
use Rattle.std.proofs.Common.{◌≡◌, ℕ, ◌≤◌, ◌<◌, Bool, true, false, List, [], ◌∷◌, ◌++◌, Option, Some, None, refl, ap, sym, ◌∙◌, arith, inl, inr, ◌⊎◌}
use Rattle.std.specs.Prelude.{◌==◌, ◌&&◌, ◌||◌, max, nat_lt}
use Rattle.std.specs.List.{list_any}
use Rattle.std.proofs.lemmas.Bool.{cases_lt, cases_order}
use Rattle.std.proofs.lemmas.Bool.Decides.{nat_tests}
use Rattle.demi_spec.specs.Reply.{Reply}
use Rattle.demi_served.specs.Answers.{is_stored, version_of}
use Rattle.demi_audit.specs.Verdict.{falls, falls_by}
use Rattle.demi_audit.specs.Falling.{greatest_of, later_of}

or_false : (b : Bool) → (b || false) ≡ b
or_false true = refl
or_false false = refl

none_falls : (strict : Bool) (o : Option ℕ) → falls_by strict o None ≡ false
none_falls strict None = refl
none_falls strict (Some v) = refl

or_true : (b : Bool) → (b || true) ≡ true
or_true true = refl
or_true false = refl

neither : (s b : Bool) → ((s && false) || b) ≡ b
neither true b = refl
neither false b = refl

-- whether a version falls under another
abbrev under : Bool → ℕ → ℕ → Bool
under strict v w = nat_lt w v || (strict && (w == v))

-- what falls under one falls under a greater one
under_less : (strict : Bool) (a b w : ℕ) → a ≤ b → (under strict a w || under strict b w) ≡ under strict b w
under_less strict a b w less = go strict (cases_order w b)
  where
    go : (s : Bool) → (w ≡ b) ⊎ ((w < b) ⊎ (b < w)) → (under s a w || under s b w) ≡ under s b w
    go true (inl is) = let t : nat_lt w b ≡ false = grind (arith, nat_tests) in let u : (w == b) ≡ true = grind (arith, nat_tests) in rw (t, u) (or_true (under true a w))
    go false (inl is) = let t : nat_lt w b ≡ false = grind (arith, nat_tests) in let u : nat_lt w a ≡ false = grind (arith, nat_tests) in rw (t, u) refl
    go s (inr (inl is)) = let t : nat_lt w b ≡ true = grind (arith, nat_tests) in rw t (or_true (under s a w))
    go s (inr (inr is)) = let t : nat_lt w a ≡ false = grind (arith, nat_tests) in let u : (w == a) ≡ false = grind (arith, nat_tests) in rw (t, u) (neither s (under s b w))

or_turned : (a b : Bool) → (a || b) ≡ (b || a)
or_turned true true = refl
or_turned true false = refl
or_turned false true = refl
or_turned false false = refl

falls_max : (strict : Bool) (a b w : ℕ) → under strict (max a b) w ≡ (under strict a w || under strict b w)
falls_max strict a b w = go (cases_lt b a)
  where
    go : (b < a) ⊎ (a ≤ b) → under strict (max a b) w ≡ (under strict a w || under strict b w)
    go (inl more) =
        let e : max a b ≡ a = omega arith in
        ap (λ (m : ℕ). under strict m w) e ∙ sym (under_less strict b a w (omega arith)) ∙ or_turned (under strict b w) (under strict a w)
    go (inr less) = let e : max a b ≡ b = omega arith in ap (λ (m : ℕ). under strict m w) e ∙ sym (under_less strict a b w less)

falls_later : (strict : Bool) (a b w : Option ℕ) → falls_by strict (later_of a b) w ≡ (falls_by strict a w || falls_by strict b w)
falls_later strict None b None = refl
falls_later strict None b (Some w) = refl
falls_later strict (Some a) None None = refl
falls_later strict (Some a) None (Some w) = sym (or_false (falls_by strict (Some a) (Some w)))
falls_later strict (Some a) (Some b) None = refl
falls_later strict (Some a) (Some b) (Some w) = falls_max strict a b w

-- it falls below one of them exactly where it falls below the greatest
pub falls_any : (r : Reply) (mine : List Reply) → list_any (falls r) mine ≡ falls_by (is_stored r.answer) (greatest_of mine) (version_of r.answer)
falls_any r [] = refl
falls_any r (x ∷ mine) =
    ap (λ (b : Bool). falls r x || b) (falls_any r mine) ∙ sym (falls_later (is_stored r.answer) (version_of x.answer) (greatest_of mine) (version_of r.answer))

later_on : (a b c : Option ℕ) → later_of a (later_of b c) ≡ later_of (later_of a b) c
later_on None b c = refl
later_on (Some a) None c = refl
later_on (Some a) (Some b) None = refl
later_on (Some a) (Some b) (Some c) = ap Some (omega arith)

pub greatest_push : (mine : List Reply) (r : Reply) → greatest_of (mine ++ r ∷ []) ≡ later_of (greatest_of mine) (version_of r.answer)
greatest_push [] r = alone (version_of r.answer)
  where
    alone : (o : Option ℕ) → later_of o None ≡ o
    alone None = refl
    alone (Some v) = refl
greatest_push (x ∷ mine) r = ap (later_of (version_of x.answer)) (greatest_push mine r) ∙ later_on (version_of x.answer) (greatest_of mine) (version_of r.answer)
