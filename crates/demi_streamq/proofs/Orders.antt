-- Outcomes in the order of their places, and what they told.
use Rattle.std.proofs.Common.{◌≡◌, ◌≢◌, ℕ, ◌+◌, ◌<◌, ◌≤◌, List, [], ◌∷◌, ◌++◌, length, Option, Some, None, Bool, true, false, cond, refl, sym, ap, ◌∙◌, arith, append_assoc}
use Rattle.std.specs.Prelude.{◌==◌, ltb, slice_get}
use Rattle.std.proofs.lemmas.Bool.Decides.{nat_tests}
use Rattle.demi_port_core.specs.Trails.{MayTell, told_at as telling}
use Rattle.demi_port_core.specs.History.{Each}
use Rattle.demi_device.specs.Serving.{first_stop, trail, places, above}
use Rattle.demi_streamq.specs.Receiving.{told_at}
use Rattle.demi_streamq.specs.RxKept.{InOrder}
use Rattle.demi_streamq.specs.RxSteady.{append_none}

unfoldable pub or : {A : Type 0} → Option A → Option A → Option A
or (Some a) b = Some a
or None b = b

pub low : (a p : ℕ) → a < p → ltb a p ≡ true
low a p lt = grind (arith, nat_tests)

pub not_low : (p : ℕ) → ltb p p ≡ false
not_low p = grind (arith, nat_tests)

pub same : (p : ℕ) → (p == p) ≡ true
same p = grind (arith, nat_tests)

pub differs : (a p : ℕ) → a < p → (a == p) ≡ false
differs a p lt = grind (arith, nat_tests)

-- each is of a place below p
abbrev pub Lows : {T : Type 0} → ℕ → List (ℕ × T) → Type 0
Lows p [] = Unit {0}
Lows p (e ∷ es) = (e.0 < p) × Lows p es

lows_append : {T : Type 0} (p : ℕ) (a b : List (ℕ × T)) → Lows p a → Lows p b → Lows p (a ++ b)
lows_append p [] b x y = y
lows_append p (e ∷ es) b x y = (x.0, lows_append p es b x.1 y)

lows_telling : {T : Type 0} (p k : ℕ) (t : Option T) → k < p → Lows p (telling k t)
lows_telling p k None lt = tt
lows_telling p k (Some t) lt = (lt, tt)

pub lows_of : {T U : Type 0} (told : U → Option T) (p k : ℕ) (f : List (ℕ × U)) → InOrder k f → k + length f ≤ p → Lows p (trail told f)
lows_of told p k [] i le = tt
lows_of told p k (o ∷ os) i le = lows_append p (telling o.0 (told o.1)) (trail told os) (lows_telling p o.0 (told o.1) (let e = i.0 in omega arith)) (lows_of told p (k + 1) os i.1 (omega arith))

pub trail_more : {T U : Type 0} (told : U → Option T) (f : List (ℕ × U)) (n : ℕ) (o : U) → trail told (f ++ (n, o) ∷ []) ≡ trail told f ++ telling n (told o)
trail_more told [] n o = append_none (telling n (told o))
trail_more told (x ∷ xs) n o = ap (λ l. telling x.0 (told x.1) ++ l) (trail_more told xs n o) ∙ sym (append_assoc (telling x.0 (told x.1)) (trail told xs) (telling n (told o)))

pub told_past : {T : Type 0} (p : ℕ) (t more : List (ℕ × T)) → Lows p t → told_at p (t ++ more) ≡ told_at p more
told_past p [] more l = refl
told_past p (e ∷ es) more l = ap (λ b. cond b (Some e.1) (told_at p (es ++ more))) (differs e.0 p l.0) ∙ told_past p es more l.1

pub told_here : {T : Type 0} (p : ℕ) (t : Option T) → told_at p (telling p t) ≡ t
told_here p None = refl
told_here p (Some t) = ap (λ b. cond b (Some t) None) (same p)

pub or_none : {A : Type 0} (a : Option A) → or a None ≡ a
unfolding or
or_none None = refl
or_none (Some a) = refl

pub order_more : {U : Type 0} (k n : ℕ) (f : List (ℕ × U)) (o : U) → InOrder k f → k + length f ≡ n → InOrder k (f ++ (n, o) ∷ [])
order_more k n [] o i e = (omega arith, tt)
order_more k n (x ∷ xs) o i e = (i.0, order_more (k + 1) n xs o i.1 (omega arith))

pub get_last : {X : Type 0} (l : List X) (x : X) → slice_get (l ++ x ∷ []) (length l) ≡ Some x
get_last [] x = refl
get_last (y ∷ ys) x = get_last ys x

pub fresh : {U : Type 0} (n i : ℕ) (f : List (ℕ × U)) → InOrder i f → i + length f ≤ n → Each (λ p. p ≢ n) (places f)
fresh n i [] o le = tt
fresh n i (x ∷ xs) o le = (λ e. let a = o.0 in omega arith, fresh n (i + 1) xs o.1 (omega arith))

pub none_above : {U : Type 0} (n i : ℕ) (f : List (ℕ × U)) → InOrder i f → i + length f ≤ n → above (places f) ≤ n
none_above n i [] o le = omega arith
none_above n i (x ∷ xs) o le = let b = none_above n (i + 1) xs o.1 (omega arith) in let a = o.0 in omega arith

pub may_tell : {T : Type 0} (floor p : ℕ) (t : Option T) → floor ≤ p → MayTell floor p t
may_tell floor p None le = tt
may_tell floor p (Some t) le = le

pub stop_append : {D : Type 0} (is_stop : D → Bool) (p n : ℕ) (h : List D) (op : D) → p + length h ≡ n → first_stop is_stop p (h ++ op ∷ []) ≡ or (first_stop is_stop p h) (first_stop is_stop n (op ∷ []))
unfolding or
stop_append is_stop p n [] op e = let same : p ≡ n = omega arith in ap (λ k. first_stop is_stop k (op ∷ [])) same
stop_append is_stop p n (d ∷ ds) op e = pick (is_stop d) (stop_append is_stop (p + 1) n ds op (omega arith))
  where
    pick : (c : Bool) → first_stop is_stop (p + 1) (ds ++ op ∷ []) ≡ or (first_stop is_stop (p + 1) ds) (first_stop is_stop n (op ∷ [])) → cond c (Some p) (first_stop is_stop (p + 1) (ds ++ op ∷ [])) ≡ or (cond c (Some p) (first_stop is_stop (p + 1) ds)) (first_stop is_stop n (op ∷ []))
    pick true h = refl
    pick false h = h
