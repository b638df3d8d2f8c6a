-- Passes that have come back to their ports.
use Rattle.std.proofs.Common.{◌≡◌, ℕ, zero, suc, ◌+◌, ◌<◌, ◌≤◌, List, [], ◌∷◌, ◌++◌, ◌⊎◌, inl, inr, length, get_or, set, map, refl, ap, sym, subst, ◌∙◌, append_assoc, append-nil, reverse, arith}
use Rattle.std.proofs.lemmas.List.{reverse-append}
use Rattle.demi_port_core.specs.History.{Each, total}
use Rattle.demi_port.specs.Seen.{PassValue}
use Rattle.demi_pdpix.specs.Lanes.{LaneValue, with_home}
use Rattle.demi_pdpix.specs.Returning.{HasReturned, HasRoom}
use Rattle.demi_pdpix.proofs.Columns.{same_there, set_there}

pub map_snoc : {A B : Type 0} (f : A → B) (xs : List A) (x : A) → map f (xs ++ x ∷ []) ≡ map f xs ++ f x ∷ []
map_snoc f [] x = refl
map_snoc f (y ∷ xs) x = ap (λ l. f y ∷ l) (map_snoc f xs x)

pub map_length : {A B : Type 0} (f : A → B) (xs : List A) → length (map f xs) ≡ length xs
map_length f [] = refl
map_length f (x ∷ xs) = ap suc (map_length f xs)

pub home_twice : {D T B : Type 0} (l : LaneValue D T B) (ps qs : List (PassValue D T B)) → with_home (with_home l ps) qs ≡ with_home l (ps ++ qs)
home_twice l ps qs = λ i. record l { home = append_assoc l.home ps qs i }

pub home_snoc : {A D T B : Type 0} (f : A → PassValue D T B) (l : LaneValue D T B) (gone : List A) (c : A) → with_home (with_home l (map f gone)) (f c ∷ []) ≡ with_home l (map f (gone ++ c ∷ []))
home_snoc f l gone c = home_twice l (map f gone) (f c ∷ []) ∙ ap (with_home l) (sym (map_snoc f gone c))

pub home_none : {D T B : Type 0} (l : LaneValue D T B) → l ≡ with_home l []
home_none l = λ i. record l { home = sym (append-nil l.home) i }

pub one_back : {A D T B : Type 0} (f : ℕ → PassValue D T B → A → PassValue D T B) (old now new : List (LaneValue D T B)) (gone : List A) (c : A)
    → HasReturned f old gone now → length now ≡ length old
    → ((k : ℕ) (l : LaneValue D T B) (p : PassValue D T B) → k < length now → get_or new k l ≡ with_home (get_or now k l) (f k p c ∷ []))
    → HasReturned f old (gone ++ c ∷ []) new
one_back f old now new gone c has len each k l p low =
    each k l p (rw len low) ∙ ap (λ m. with_home m (f k p c ∷ [])) (has k l p low) ∙ home_snoc (f k p) (get_or old k l) gone c

-- a pass that has done nothing, of some port
pub some_pass : {D T B : Type 0} → LaneValue D T B → PassValue D T B
some_pass l = record { port = l.port; number = 0; seen = 0; submitted = []; redeemed = []; notes = 0; learnt = 0; clock = 0; looks = []; owes = 0; heard = []; trail = []; floor = 0 }

pub room_left : {A D T B : Type 0} (f : ℕ → PassValue D T B → A → PassValue D T B) (old now : List (LaneValue D T B)) (gone : List A) (n : ℕ)
    → HasReturned f old gone now → length now ≡ length old → length gone < n → HasRoom n old
    → (k : ℕ) (l : LaneValue D T B) → k < length now → length (get_or now k l).home < (get_or now k l).callers
room_left f old now gone n has len few room k l low =
    let p = some_pass l in let e = has k l p (rw (sym len) low) in let r = room k l (rw (sym len) low) in
    let h : length (get_or now k l).home ≡ length gone = ap (λ (m : LaneValue _ _ _). length m.home) e ∙ ap (λ h. length (h ++ map (f k p) gone)) r.0 ∙ map_length (f k p) gone in
    let c : (get_or now k l).callers ≡ (get_or old k l).callers = ap (λ (m : LaneValue _ _ _). m.callers) e in
    let big = r.1 in omega (arith, h, c, big, few)

pub none_back : {A D T B : Type 0} (f : ℕ → PassValue D T B → A → PassValue D T B) (lanes : List (LaneValue D T B)) → HasReturned f lanes [] lanes
none_back f lanes k l p low = home_none (get_or lanes k l)

pub set_length : {A : Type 0} (xs : List A) (k : ℕ) (q : A) → length (set xs k q) ≡ length xs
set_length [] k q = refl
set_length (x ∷ xs) zero q = refl
set_length (x ∷ xs) (suc k) q = ap suc (set_length xs k q)

pub set_other : {A : Type 0} (xs : List A) (j k : ℕ) (q d : A) → (j ≡ k → ⊥) → get_or (set xs k q) j d ≡ get_or xs j d
set_other [] j k q d ne = refl
set_other (x ∷ xs) zero zero q d ne = absurd (ne refl)
set_other (x ∷ xs) zero (suc k) q d ne = refl
set_other (x ∷ xs) (suc j) zero q d ne = refl
set_other (x ∷ xs) (suc j) (suc k) q d ne = set_other xs j k q d (λ e. ne (ap suc e))

pub at_end : {A : Type 0} (xs : List A) (x : A) (more : List A) (p : A) → get_or (xs ++ x ∷ more) (length xs) p ≡ x
at_end [] x more p = refl
at_end (y ∷ xs) x more p = at_end xs x more p

pub here_or_above : (k j : ℕ) → k ≤ j → (j ≡ k) ⊎ (k + 1 ≤ j)
here_or_above zero zero low = inl refl
here_or_above zero (suc j) low = inr (omega arith)
here_or_above (suc k) zero low = absurd (omega (arith, low))
here_or_above (suc k) (suc j) low = elim (here_or_above k j (omega (arith, low))) [
  | inl e ↦ inl (ap suc e)
  | inr more ↦ inr (omega (arith, more))
]

-- what has come back so far, of the passes of the places from k on
pub record BackFrom {D T B : Type 0} (old now : List (LaneValue D T B)) (all : List (PassValue D T B)) (k : ℕ) : Type 0 where
  pub len : length now ≡ length old
  pub still : (j : ℕ) (d : LaneValue D T B) → j < k → get_or now j d ≡ get_or old j d
  pub back : (j : ℕ) (d : LaneValue D T B) (p : PassValue D T B) → k ≤ j → j < length old → get_or now j d ≡ with_home (get_or old j d) (get_or all j p ∷ [])

pub one_place : {D T B : Type 0} (old now : List (LaneValue D T B)) (all left more : List (PassValue D T B)) (x : PassValue D T B) (k : ℕ) (m new : LaneValue D T B)
    → BackFrom old now all (k + 1) → k ≡ length left → all ≡ left ++ x ∷ more → k < length now → m ≡ get_or now k m → new ≡ with_home m (x ∷ []) → BackFrom old (set now k new) all k
one_place old now all left more x k m new b at is low here becomes = record {
  len = set_length now k new ∙ b.len;
  still = λ j d small. set_other now j k new d (λ e. omega (arith, small, e)) ∙ b.still j d (omega (arith, small));
  back = λ j d p from small. elim (here_or_above k j from) [
    | inl e ↦ subst (λ i. get_or (set now k new) i d ≡ with_home (get_or old i d) (get_or all i p ∷ [])) (sym e)
        (set_there now k new d low ∙ becomes
        ∙ ap (λ z. with_home z (x ∷ [])) (here ∙ same_there now k m d low ∙ b.still k d (omega arith))
        ∙ ap (λ z. with_home (get_or old k d) (z ∷ [])) (sym (ap (λ l. get_or l k p) is ∙ ap (λ i. get_or (left ++ x ∷ more) i p) at ∙ at_end left x more p)))
    | inr above ↦ set_other now j k new d (λ e. omega (arith, above, e)) ∙ b.back j d p above small
  ];
}

-- a sum over the passes that came back to a port is one over the callers
pub total_map : {A B : Type 0} (f : B → ℕ) (g : A → B) (l : List A) → total f (map g l) ≡ total (λ c. f (g c)) l
total_map f g [] = refl
total_map f g (c ∷ l) = ap (λ n. f (g c) + n) (total_map f g l)

-- one pass more has come back to a lane
pub lane_back : {A D T B : Type 0} (f : A → PassValue D T B) (l now new : LaneValue D T B) (gone : List A) (c : A) → now ≡ with_home l (map f gone) → new ≡ with_home now (f c ∷ []) → new ≡ with_home l (map f (gone ++ c ∷ []))
lane_back f l now new gone c is becomes = becomes ∙ ap (λ m. with_home m (f c ∷ [])) is ∙ home_snoc f l gone c

-- the next of the callers that are left
pub next_gone : {A : Type 0} (all gone left new : List A) (c : A) → all ≡ gone ++ reverse left → left ≡ new ++ c ∷ [] → all ≡ (gone ++ c ∷ []) ++ reverse new
next_gone all gone left new c is pops = is ∙ ap (λ l. gone ++ reverse l) pops ∙ ap (λ l. gone ++ l) (reverse-append new (c ∷ [])) ∙ sym (append_assoc gone (c ∷ []) (reverse new))

pub each_mid : {A : Type 0} (P : A → Type 0) (xs : List A) (x : A) (ys : List A) → Each P (xs ++ x ∷ ys) → P x
each_mid P [] x ys e = e.0
each_mid P (z ∷ xs) x ys e = each_mid P xs x ys e.1

-- what holds of each caller holds of the next one
pub of_next : {A : Type 0} (P : A → Type 0) (all gone left new : List A) (c : A) → Each P all → all ≡ gone ++ reverse left → left ≡ new ++ c ∷ [] → P c
of_next P all gone left new c each is pops =
    each_mid P gone c (reverse new) (subst (Each P) (next_gone all gone left new c is pops ∙ append_assoc gone (c ∷ []) (reverse new)) each)

pub fewer : {A : Type 0} (all gone left new : List A) (c : A) → all ≡ gone ++ reverse left → left ≡ new ++ c ∷ [] → length gone < length all
fewer all gone left new c is pops = let e = ap length (next_gone all gone left new c is pops ∙ append_assoc gone (c ∷ []) (reverse new)) in let f = long gone c (reverse new) in omega (arith, e, f)
  where
    long : {A : Type 0} (xs : List A) (x : A) (ys : List A) → length xs < length (xs ++ x ∷ ys)
    long [] x ys = omega arith
    long (z ∷ xs) x ys = let r = long xs x ys in omega (arith, r)

pub next_at : {A : Type 0} (all gone left new : List A) (c d : A) → all ≡ gone ++ reverse left → left ≡ new ++ c ∷ [] → get_or all (length gone) d ≡ c
next_at all gone left new c d is pops = ap (λ l. get_or l (length gone) d) (next_gone all gone left new c is pops ∙ append_assoc gone (c ∷ []) (reverse new)) ∙ at_end gone c (reverse new) d

-- where none is left, all are gone
pub all_gone : {A : Type 0} (all gone left : List A) → all ≡ gone ++ reverse left → length left ≡ 0 → all ≡ gone
all_gone all gone [] is e = is ∙ append-nil gone
all_gone all gone (x ∷ xs) is e = absurd (omega (arith, e))
