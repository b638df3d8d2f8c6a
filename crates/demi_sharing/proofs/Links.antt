-- Numbers of links, one more at a time.
use Rattle.std.proofs.Common.{◌≡◌, ◌≢◌, ℕ, ◌+◌, ◌<◌, List, [], ◌∷◌, ◌++◌, length, length-append, arith, sym, subst}
use Rattle.std.specs.List.{AllZip}
use Rattle.demi_port_core.specs.History.{Each}
use Rattle.demi_sched.specs.Going.{Differ}
use Rattle.demi_served.specs.Served.{Placed}
use Rattle.demi_sharing.specs.Acting.{AreLinks}

pub each_more : {X : Type 0} (P : X → Type 0) (xs : List X) (x : X) → Each P xs → P x → Each P (xs ++ x ∷ [])
each_more P [] x h p = (p, tt)
each_more P (y ∷ xs) x h p = (h.0, each_more P xs x h.1 p)

differ_more : (ns : List ℕ) (n : ℕ) → Differ ns → Each (λ m. m ≢ n) ns → Differ (ns ++ n ∷ [])
differ_more [] n d others = (tt, tt)
differ_more (m ∷ ns) n d others = (each_more (λ k. k ≢ m) ns n d.0 (λ e. others.0 (sym e)), differ_more ns n d.1 others.1)

pub links_more : (links : ℕ) (ns : List ℕ) (n : ℕ) → AreLinks links ns → n < links → length ns < links → Each (λ m. m ≢ n) ns → AreLinks links (ns ++ n ∷ [])
links_more links ns n are low room others = record {
  differ = differ_more ns n are.differ others;
  few = let long = length-append ns (n ∷ []) in omega arith;
  below = each_more (λ m. m < links) ns n are.below low;
}

pub no_links : (links : ℕ) → AreLinks links []
no_links links = record { differ = tt; few = omega arith; below = tt }

pub placed_more : {X : Type 0} (R : ℕ → X → Type 0) (base : ℕ) (xs : List X) (x : X) → Placed R base xs → R (base + length xs) x → Placed R base (xs ++ x ∷ [])
placed_more R base [] x h r = let e : base + 0 ≡ base = omega arith in (subst (λ m. R m x) e r, tt)
placed_more R base (y ∷ xs) x h r = let e : base + length (y ∷ xs) ≡ base + 1 + length xs = omega arith in (h.0, placed_more R (base + 1) xs x h.1 (subst (λ m. R m x) e r))

pub zip_one_more : {X Y : Type 0} (R : X → Y → Type 0) (xs : List X) (ys : List Y) (x : X) (y : Y) → AllZip R xs ys → R x y → AllZip R (xs ++ x ∷ []) (ys ++ y ∷ [])
zip_one_more R [] [] x y h r = (r, tt)
zip_one_more R [] (b ∷ ys) x y h r = absurd h
zip_one_more R (a ∷ xs) [] x y h r = absurd h
zip_one_more R (a ∷ xs) (b ∷ ys) x y h r = (h.0, zip_one_more R xs ys x y h.1 r)
