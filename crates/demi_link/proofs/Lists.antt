-- Lists that grow by one.
use Rattle.std.specs.Prelude.{◌≡◌, ℕ, ◌+◌, ◌<◌, ◌≤◌, List, [], ◌∷◌, ◌++◌, Some, length, map, refl, slice_get}
use Rattle.std.specs.List.{AllByRecursion}
use Rattle.std.proofs.Common.{◌∙◌, ap, arith, inl, inr}
use Rattle.demi_device.specs.Serving.{RiseFrom}
use Rattle.demi_port_core.specs.History.{AllAbove, Among}
use Rattle.demi_port_core.specs.Trails.{NoneBelow}
use Rattle.demi_link.specs.Fitting.{ops_of, places}

pub among_last : {A : Type 0} (xs : List A) (a : A) → Among a (xs ++ a ∷ [])
among_last [] a = inl refl
among_last (x ∷ xs) a = inr (among_last xs a)

pub among_more : {A : Type 0} (a : A) (xs ys : List A) → Among a xs → Among a (xs ++ ys)
among_more a [] ys h = absurd h
among_more a (x ∷ xs) ys (inl e) = inl e
among_more a (x ∷ xs) ys (inr h) = inr (among_more a xs ys h)

pub all_as : {X : Type 0} (P Q : X → Type 0) (xs : List X) → ((x : X) → P x → Q x) → AllByRecursion P xs → AllByRecursion Q xs
all_as P Q [] f h = tt
all_as P Q (x ∷ xs) f h = (f x h.0, all_as P Q xs f h.1)

pub all_next : {X : Type 0} (P : X → Type 0) (xs : List X) (x : X) → AllByRecursion P xs → P x → AllByRecursion P (xs ++ x ∷ [])
all_next P [] x h p = (p, tt)
all_next P (y ∷ xs) x h p = (h.0, all_next P xs x h.1 p)

pub last_at : {X : Type 0} (xs : List X) (x : X) (n : ℕ) → n ≡ length xs → slice_get (xs ++ x ∷ []) n ≡ Some x
last_at xs x n e = ap (slice_get (xs ++ x ∷ [])) e ∙ go xs x
  where
    go : {X : Type 0} (xs : List X) (x : X) → slice_get (xs ++ x ∷ []) (length xs) ≡ Some x
    go [] x = refl
    go (y ∷ xs) x = go xs x

pub places_next : {X : Type 0} (xs : List (ℕ × X)) (x : ℕ × X) → places (xs ++ x ∷ []) ≡ places xs ++ x.0 ∷ []
places_next [] x = refl
places_next (y ∷ xs) x = ap (λ l. y.0 ∷ l) (places_next xs x)

pub ops_next : {D : Type 0} (xs : List (ℕ × (ℕ × D))) (x : ℕ × (ℕ × D)) → ops_of (xs ++ x ∷ []) ≡ ops_of xs ++ x.1.1 ∷ []
ops_next [] x = refl
ops_next (y ∷ xs) x = ap (λ l. y.1.1 ∷ l) (ops_next xs x)

pub map_next : {X Y : Type 0} (f : X → Y) (xs : List X) (x : X) → map f (xs ++ x ∷ []) ≡ map f xs ++ f x ∷ []
map_next f [] x = refl
map_next f (y ∷ xs) x = ap (λ l. f y ∷ l) (map_next f xs x)

pub rises_next : {X : Type 0} (n s : ℕ) (xs : List (ℕ × X)) (x : ℕ × X) → n ≤ x.0 → RiseFrom n xs → AllByRecursion (λ y. y.0 < s) xs → s ≤ x.0 → RiseFrom n (xs ++ x ∷ [])
rises_next n s [] x le r b up = (le, tt)
rises_next n s (y ∷ xs) x le r b up = (r.0, rises_next (y.0 + 1) s xs x (let c = b.0 in omega arith) r.1 b.1 up)

pub above_floor : {T : Type 0} (place floor : ℕ) (later : List (ℕ × T)) → place < floor → NoneBelow floor later → AllAbove place later
above_floor place floor [] l n = tt
above_floor place floor (t ∷ later) l n = (let m = n.0 in omega arith, above_floor place floor later l n.1)
