-- What a device holds over a fetch, a serve and a finish.
use Rattle.std.proofs.Common.{◌⊎◌, ◌≡◌, ◌≢◌, ⊎_elim, inl, inr, ℕ, zero, suc, ◌+◌, ◌*◌, ◌/◌, ◌%◌, ◌<◌, ◌≤◌, List, [], ◌∷◌, ◌++◌, length, get_or, set, sym, ap, subst, ◌∙◌, refl, arith, length-append}
use Rattle.std.specs.Prelude.{Option, Some, None, replicate}
use Rattle.std.proofs.Math.Nat.{div-add-mod, mul-le-mul_left, mul-suc, mod_self, mod-eq_of_lt, mod-add-mod, mod-lt, zero-mod}
use Rattle.std.proofs.lemmas.List.{get_or-set_same, get_or-set_other, length-set, length-replicate}
use mathlib.Core.Logic.{dite}
use mathlib.Core.Option.{some}
use native.Mathlib.Decide.{ℕ_discrete}
use lib.ListN.{get_elem?}
use Rattle.demi_port_core.specs.declared.place.Token.{Token}
use Rattle.demi_port_core.specs.declared.place.Place.{Place}
use Rattle.demi_port_core.specs.History.{Among, AnyOf, Apart, Each, ground_of}
use Rattle.demi_port_core.proofs.Lists.{among_left, among_right, any_each, apart_snoc, each_among, each_back, each_front, each_more, each_snoc}
use Rattle.demi_device.specs.declared.early.Early.{Early}
use Rattle.demi_device.specs.Holding.{Holds, IsKept, IsOpen, Lies, by_number}
use Rattle.demi_device.proofs.Gapless.{any_left, any_right, covers_more, covers_next, each_all, ground_next}

-- an item of a list, whatever stands in for what is not there
pub item_is : {A : Type 0} (l : List A) (i : ℕ) (x d : A) → i < length l → x ≡ get_or l i x → get_or l i d ≡ x
item_is [] i x d within e = absurd (omega arith)
item_is (y ∷ ys) zero x d within e = sym e
item_is (y ∷ ys) (suc i) x d within e = item_is ys i x d (omega arith) e

pub sides : (i j : ℕ) → (i ≤ j) ⊎ (j < i)
sides zero j = inl (omega arith)
sides (suc i) zero = inr (omega arith)
sides (suc i) (suc j) = ⊎_elim (λ h. inl (omega arith)) (λ h. inr (omega arith)) (sides i j)

module _ (c : ℕ) where
  multiples : (a b : ℕ) → a < b → c * a + c ≤ c * b
  multiples a b less = let e = mul-suc c a in let le : suc a ≤ b = omega arith in let m = mul-le-mul_left c le in omega arith

  -- two numbers with one remainder that are less than c apart are equal
  pub same_turn : (n p : ℕ) → n ≤ p → p < n + c → p % c ≡ n % c → p ≡ n
  same_turn n p le small e = let d = div-add-mod p c in let f = div-add-mod n c in dite (ℕ_discrete (p / c) (n / c))
      (λ same. let g : c * (p / c) ≡ c * (n / c) = ap (λ q. c * q) same in omega arith)
      (λ ne. ⊎_elim (λ (le : n / c ≤ p / c). let m = multiples (n / c) (p / c) (omega arith) in absurd (omega arith)) (λ (less : p / c < n / c). let m = multiples (p / c) (n / c) less in absurd (omega arith)) (sides (n / c) (p / c)))

  pub same_place : (n p q : ℕ) → n ≤ p → p < n + c → n ≤ q → q < n + c → p % c ≡ q % c → p ≡ q
  same_place n p q a b d f e = ⊎_elim (λ (le : p ≤ q). sym (same_turn p q le (omega arith) (sym e))) (λ (less : q < p). same_turn q p (omega arith) (omega arith) e) (sides p q)

  pub turns_over : (n at : ℕ) → at ≡ n % c → at + 1 ≡ c → 0 ≡ (n + 1) % c
  turns_over n at e last = sym (sym (mod-add-mod n c 1) ∙ ap (λ i. (i + 1) % c) (sym e) ∙ ap (λ i. i % c) last ∙ mod_self c)

  pub turns_on : (n at : ℕ) → at ≡ n % c → at + 1 < c → at + 1 ≡ (n + 1) % c
  turns_on n at e small = sym (sym (mod-add-mod n c 1) ∙ ap (λ i. (i + 1) % c) (sym e) ∙ mod-eq_of_lt small)

module _ {A : Type 0} (P : A → Type 0) where
  pub each_out : (a : List A) (x : A) (b : List A) → Each P (a ++ x ∷ b) → P x × Each P (a ++ b)
  each_out [] x b h = h
  each_out (y ∷ a) x b h = let k = each_out a x b h.1 in (k.0, (h.0, k.1))

  pub any_out : (a : List A) (x : A) (b : List A) → (P x → ⊥) → AnyOf P (a ++ x ∷ b) → AnyOf P (a ++ b)
  any_out [] x b ne h = ⊎_elim (λ p. absurd (ne p)) (λ t. t) h
  any_out (y ∷ a) x b ne h = ⊎_elim inl (λ t. inr (any_out a x b ne t)) h

module _ {A : Type 0} where
  pub apart_out : (a : List (ℕ × A)) (x : ℕ × A) (b : List (ℕ × A)) → Apart (a ++ x ∷ b) → Each (λ (y : ℕ × A). y.0 ≢ x.0) (a ++ b) × Apart (a ++ b)
  apart_out [] x b h = h
  apart_out (y ∷ a) x b h = let k = apart_out a x b h.1 in let o = each_out (λ (z : ℕ × A). z.0 ≢ y.0) a x b h.0 in (((λ e. o.0 (sym e)), k.0), (o.1, k.1))

  pub length_out : (a : List A) (x : A) (b : List A) → length (a ++ x ∷ b) ≡ length (a ++ b) + 1
  length_out [] x b = omega arith
  length_out (y ∷ a) x b = let e = length_out a x b in omega arith

by_number_append : (a b : List (Place × Token)) → by_number (a ++ b) ≡ by_number a ++ by_number b
by_number_append [] b = refl
by_number_append (y ∷ a) b = λ i. (y.0.0, y.1.0) ∷ by_number_append a b i

module _ {O D : Type 0} (said : O → D) (proper : D → Type 0) (c n at early : ℕ) (ring : List (Option (Early O))) (unanswered : List (Place × Token)) (fetched : List (ℕ × (ℕ × D))) (finished : List (ℕ × ℕ)) (h : Holds said proper c n at early ring unanswered fetched finished) where
  not_before : (p : ℕ) → Each (λ (x : ℕ × (ℕ × D)). x.0 ≢ p) fetched → p < n → ⊥
  not_before p fresh low = let w = any_each (λ (x : ℕ × (ℕ × D)). x.0 ≡ p) (λ (x : ℕ × (ℕ × D)). x.0 ≢ p) fetched (h.gapless p low) fresh in w.2 w.1

  pub not_gone : (p : ℕ) → Each (λ (x : ℕ × (ℕ × D)). x.0 ≢ p) fetched → n ≤ p
  not_gone p fresh = ⊎_elim (λ (le : n ≤ p). le) (λ (less : p < n). absurd (not_before p fresh less)) (sides n p)

  -- nothing lies where an operation of a new place goes
  pub slot_free : (p : ℕ) (e : Early O) → Each (λ (x : ℕ × (ℕ × D)). x.0 ≢ p) fetched → p < n + c → get_or ring (p % c) None ≡ Some e → ⊥
  slot_free p e fresh near is = let l = h.lies (p % c) e is in
      each_among (λ (x : ℕ × (ℕ × D)). x.0 ≢ p) fetched (e.place.0, (e.token.0, said e.op)) fresh l.known (same_place c n e.place.0 p l.from l.to (not_gone p fresh) near l.there)

  lies_more : (y : ℕ × (ℕ × D)) (i : ℕ) (e : Early O) → Lies said proper c n fetched i e → Lies said proper c n (fetched ++ y ∷ []) i e
  lies_more y i e l = record { there = l.there; from = l.from; to = l.to; known = among_left (e.place.0, (e.token.0, said e.op)) fetched (y ∷ []) l.known; is_proper = l.is_proper }

  -- an operation was fetched and lies in the ring
  pub holds_fetched : (e : Early O) → Each (λ (x : ℕ × (ℕ × D)). x.0 ≢ e.place.0) fetched → e.place.0 < n + c → length fetched < length finished + c → e.place.0 % c < c → proper (said e.op)
      → Holds said proper c n at (early + 1) (set ring (e.place.0 % c) (Some e)) unanswered (fetched ++ (e.place.0, (e.token.0, said e.op)) ∷ []) finished
  holds_fetched e fresh near few within is_proper = let p : ℕ = e.place.0 in let y : ℕ × (ℕ × D) = (p, (e.token.0, said e.op)) in let all = fetched ++ y ∷ [] in let r = set ring (p % c) (Some e) in let len = length-append fetched (y ∷ []) in let sized = h.sized in let held = h.held in record {
    given = h.given;
    sized = length-set ring (p % c) (Some e) ∙ h.sized;
    at_next = h.at_next;
    held = omega arith;
    room = omega arith;
    lies = λ i e' is. dite (ℕ_discrete i (p % c))
        (λ same. let old : Some e ≡ Some e' = sym (get_or-set_same ring (p % c) (Some e) None (omega arith)) ∙ ap (λ j. get_or r j None) (sym same) ∙ is in let eq : e ≡ e' = cc in
        subst (λ (z : ℕ × Early O). Lies said proper c n all z.0 z.1) (λ k. (sym same k, eq k)) record { there = refl; from = not_gone p fresh; to = near; known = among_right y fetched (y ∷ []) (inl refl); is_proper = is_proper })
        (λ other. lies_more y i e' (h.lies i e' (sym (get_or-set_other ring (p % c) i (Some e) None other) ∙ is)));
    kept = each_snoc (IsKept c n r) fetched y
        (each_more (IsKept c n ring) (IsKept c n r) fetched (λ x k. ⊎_elim inl (λ t. inr (t.0, get_or-set_other ring (p % c) (x.0 % c) (Some e) None (λ (same : x.0 % c ≡ p % c). slot_free p t.0 fresh near (ap (λ j. get_or ring j None) (sym same) ∙ t.1)) ∙ t.1, t.2)) k) h.kept)
        (inr (e, get_or-set_same ring (p % c) (Some e) None (omega arith), refl));
    gapless = λ q low. any_left (λ (x : ℕ × (ℕ × D)). x.0 ≡ q) fetched (y ∷ []) (h.gapless q low);
    apart = apart_snoc fetched y h.apart fresh;
    low = h.low;
    once = h.once;
    open_yet = each_more (IsOpen n fetched finished) (IsOpen n all finished) (by_number unanswered) (λ x o. (o.0, (o.1.0, among_left (x.0, (x.1, o.1.0)) fetched (y ∷ []) o.1.1), o.2)) h.open_yet;
    open_apart = h.open_apart;
    rest = h.rest;
  }

  -- where one is early the next place is in the ring
  pub at_within : (early ≡ 0 → ⊥) → at < c
  at_within any = let held = h.held in let room = h.room in let given = h.given in let e = h.at_next in let m = mod-lt n {m = c} (omega arith) in omega arith

  -- what lies at the next place of the ring is the next operation
  pub next_is : (e : Early O) → get_or ring at None ≡ Some e → e.place.0 ≡ n
  next_is e is = let l = h.lies at e is in same_turn c n e.place.0 l.from l.to (l.there ∙ h.at_next)

  pub next_known : (e : Early O) → get_or ring at None ≡ Some e → get_elem? (ground_of fetched) n ≡ some (said e.op)
  next_known e is = let l = h.lies at e is in let p = next_is e is in
      ground_next n e.token.0 (said e.op) fetched h.apart h.gapless (subst (λ q. Among (q, (e.token.0, said e.op)) fetched) p l.known)

  -- where nothing lies there, it was not fetched
  pub next_none : get_or ring at None ≡ None → Each (λ (x : ℕ × (ℕ × D)). x.0 ≢ n) fetched
  next_none is = each_more (IsKept c n ring) (λ (x : ℕ × (ℕ × D)). x.0 ≢ n) fetched (λ x k same. ⊎_elim (λ (low : x.0 < n). omega arith)
      (λ t. let here : get_or ring (x.0 % c) None ≡ None = ap (λ q. get_or ring (q % c) None) same ∙ ap (λ j. get_or ring j None) (sym h.at_next) ∙ is in let there : get_or ring (x.0 % c) None ≡ Some t.0 = t.1 in let bad : None ≡ Some t.0 = sym here ∙ there in (cc)) k) h.kept

  -- nor where none is early
  pub next_none_early : early ≡ 0 → Each (λ (x : ℕ × (ℕ × D)). x.0 ≢ n) fetched
  next_none_early z = each_all (λ (x : ℕ × (ℕ × D)). x.0 ≢ n) fetched (λ x a same. let more = covers_more n x fetched h.apart h.gapless a (omega arith) in let held = h.held in omega arith)

  -- the ring is empty then
  pub none_early : early ≡ 0 → (i : ℕ) (e : Early O) → get_or ring i None ≡ Some e → ⊥
  none_early z i e is = let l = h.lies i e is in let more = covers_more n (e.place.0, (e.token.0, said e.op)) fetched h.apart h.gapless l.known l.from in let held = h.held in omega arith

  -- the next operation was taken out of the ring, and its token kept
  pub holds_next : (e : Early O) (left turned : ℕ) → get_or ring at None ≡ Some e → at < c → early ≡ left + 1 → turned ≡ (n + 1) % c
      → Holds said proper c (n + 1) turned left (set ring at None) (unanswered ++ (e.place, e.token) ∷ []) fetched finished
  holds_next e left turned is within one t = let y : Place × Token = (e.place, e.token) in let r = set ring at None in let all = unanswered ++ y ∷ [] in let p = next_is e is in let l = h.lies at e is in
      let given = h.given in let held = h.held in let room = h.room in let sized = h.sized in let len = length-append unanswered (y ∷ []) in
      let known = subst (λ q. Among (q, (e.token.0, said e.op)) fetched) p l.known in
      let high : Each (λ (x : ℕ × ℕ). x.0 ≢ e.place.0) finished = each_more (λ (x : ℕ × ℕ). x.0 < n) (λ (x : ℕ × ℕ). x.0 ≢ e.place.0) finished (λ x low same. omega arith) h.low in record {
        given = omega arith;
        sized = length-set ring at None ∙ h.sized;
        at_next = t;
        held = omega arith;
        room = h.room;
        lies = λ i e' was. dite (ℕ_discrete i at)
            (λ same. let bad : None ≡ Some e' = sym (get_or-set_same ring at None None (omega arith)) ∙ ap (λ j. get_or r j None) (sym same) ∙ was in (cc))
            (λ other. let k = h.lies i e' (sym (get_or-set_other ring at i None None other) ∙ was) in
            let ne : e'.place.0 ≢ n = λ same. other (sym k.there ∙ ap (λ q. q % c) same ∙ sym h.at_next) in let from = k.from in let to = k.to in
            record { there = k.there; from = omega arith; to = omega arith; known = k.known; is_proper = k.is_proper });
        kept = each_more (IsKept c n ring) (IsKept c (n + 1) r) fetched (λ x k. ⊎_elim (λ (low : x.0 < n). inl (omega arith))
            (λ u. dite (ℕ_discrete (x.0 % c) at)
            (λ same. let both : Some e ≡ Some u.0 = sym is ∙ ap (λ j. get_or ring j None) (sym same) ∙ u.1 in let eq : e ≡ u.0 = cc in let z : x.0 ≡ n = sym u.2 ∙ ap (λ v. v.place.0) (sym eq) ∙ p in inl (omega arith))
            (λ other. inr (u.0, get_or-set_other ring at (x.0 % c) None None other ∙ u.1, u.2))) k) h.kept;
        gapless = covers_next n (e.token.0, said e.op) fetched h.gapless known;
        apart = h.apart;
        low = each_more (λ (x : ℕ × ℕ). x.0 < n) (λ (x : ℕ × ℕ). x.0 < n + 1) finished (λ x low. omega arith) h.low;
        once = h.once;
        open_yet = subst (Each (IsOpen (n + 1) fetched finished)) (sym (by_number_append unanswered (y ∷ []))) (each_snoc (IsOpen (n + 1) fetched finished) (by_number unanswered) (e.place.0, e.token.0)
            (each_more (IsOpen n fetched finished) (IsOpen (n + 1) fetched finished) (by_number unanswered) (λ x o. let low = o.0 in (omega arith, o.1, o.2)) h.open_yet)
            (omega arith, (said e.op, l.known), high));
        open_apart = subst Apart (sym (by_number_append unanswered (y ∷ []))) (apart_snoc (by_number unanswered) (e.place.0, e.token.0) h.open_apart
            (each_more (IsOpen n fetched finished) (λ (x : ℕ × ℕ). x.0 ≢ e.place.0) (by_number unanswered) (λ x o same. let low = o.0 in omega arith) h.open_yet));
        rest = λ q low other. dite (ℕ_discrete q n)
            (λ same. any_right (λ (z : Place × Token). z.0.0 ≡ q) unanswered (y ∷ []) (inl (p ∙ sym same)))
            (λ ne. any_left (λ (z : Place × Token). z.0.0 ≡ q) unanswered (y ∷ []) (h.rest q (omega arith) other));
      }

  -- the token of a place that was given and not finished was fetched with it
  pub token_known : (p : Place) (t : Token) (a b : List (Place × Token)) → unanswered ≡ a ++ (p, t) ∷ b → (d : D) × Among (p.0, (t.0, d)) fetched
  token_known p t a b e = (each_out (IsOpen n fetched finished) (by_number a) (p.0, t.0) (by_number b) (subst (Each (IsOpen n fetched finished)) (ap by_number e ∙ by_number_append a ((p, t) ∷ b)) h.open_yet)).0.1

  -- one operation was finished
  pub holds_finished : (p : Place) (t : Token) (a b : List (Place × Token)) → unanswered ≡ a ++ (p, t) ∷ b → p.0 < n → Each (λ (x : ℕ × ℕ). x.0 ≢ p.0) finished
      → Holds said proper c n at early ring (a ++ b) fetched (finished ++ (p.0, t.0) ∷ [])
  holds_finished p t a b e low other = let y : ℕ × ℕ = (p.0, t.0) in let all = finished ++ y ∷ [] in let given = h.given in let room = h.room in let len = length-append finished (y ∷ []) in let out = ap length e ∙ length_out a (p, t) b in
      let o = each_out (IsOpen n fetched finished) (by_number a) y (by_number b) (subst (Each (IsOpen n fetched finished)) (ap by_number e ∙ by_number_append a ((p, t) ∷ b)) h.open_yet) in
      let q = apart_out (by_number a) y (by_number b) (subst Apart (ap by_number e ∙ by_number_append a ((p, t) ∷ b)) h.open_apart) in record {
        given = omega arith;
        sized = h.sized;
        at_next = h.at_next;
        held = h.held;
        room = omega arith;
        lies = h.lies;
        kept = h.kept;
        gapless = h.gapless;
        apart = h.apart;
        low = each_snoc (λ (x : ℕ × ℕ). x.0 < n) finished y h.low low;
        once = apart_snoc finished y h.once other;
        open_yet = subst (Each (IsOpen n fetched all)) (sym (by_number_append a b)) (still (by_number a ++ by_number b) o.1 q.0);
        open_apart = subst Apart (sym (by_number_append a b)) q.1;
        rest = λ i small rest. let k = each_back (λ (x : ℕ × ℕ). x.0 ≢ i) finished (y ∷ []) rest in
            any_out (λ (z : Place × Token). z.0.0 ≡ i) a (p, t) b (λ same. k.0 same) (subst (AnyOf (λ (z : Place × Token). z.0.0 ≡ i)) e (h.rest i small (each_front (λ (x : ℕ × ℕ). x.0 ≢ i) finished (y ∷ []) rest)));
      }
    where
      still : (l : List (ℕ × ℕ)) → Each (IsOpen n fetched finished) l → Each (λ (x : ℕ × ℕ). x.0 ≢ p.0) l → Each (IsOpen n fetched (finished ++ (p.0, t.0) ∷ [])) l
      still [] o ne = tt
      still (x ∷ xs) o ne = ((o.0.0, o.0.1, each_snoc (λ (z : ℕ × ℕ). z.0 ≢ x.0) finished (p.0, t.0) o.0.2 (λ same. ne.0 (sym same))), still xs o.1 ne.1)

-- nothing is held at the start
pub holds_none : {O D : Type 0} (said : O → D) (proper : D → Type 0) (c : ℕ) → Holds said proper c 0 0 0 (replicate c None) [] [] []
holds_none {O} {D} said proper c = record {
  given = refl;
  sized = length-replicate c None;
  at_next = sym (zero-mod c);
  held = refl;
  room = omega arith;
  lies = λ i e is. absurd (nothing c i e is);
  kept = tt;
  gapless = λ p low. absurd (omega arith);
  apart = tt;
  low = tt;
  once = tt;
  open_yet = tt;
  open_apart = tt;
  rest = λ p low other. absurd (omega arith);
}
  where
    nothing : (m i : ℕ) (e : Early O) → get_or (replicate m None) i None ≡ Some e → ⊥
    nothing zero i e is = cc
    nothing (suc m) zero e is = cc
    nothing (suc m) (suc i) e is = nothing m i e is
