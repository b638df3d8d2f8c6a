-- A device serves one more operation.
use Rattle.std.proofs.Common.{◌≡◌, ◌≢◌, ℕ, suc, ◌+◌, ◌<◌, ◌≤◌, List, [], ◌∷◌, ◌++◌, length, sym, ap, subst, ◌∙◌, refl, arith, append_assoc, append-nil, length-append}
use Rattle.std.specs.Prelude.{Option, Bool}
use mathlib.Core.Logic.{◌↔◌}
use mathlib.Core.Option.{some, some-injective, some-ne-none}
use lib.ListN.{get_elem?}
use Rattle.demi_port.specs.Seen.{DeviceValue}
use Rattle.demi_port_core.specs.History.{AllAbove, Apart, Each, ground_of}
use Rattle.demi_port_core.specs.Trails.{StartsWith, told_at}
use Rattle.demi_port_core.proofs.Lists.{any_each, each_more, ground_grows}
use Rattle.demi_port.proofs.Devices.{starts_more}
use Rattle.demi_device.specs.Holding.{Serves, TookIn}
use Rattle.demi_device.specs.Turning.{Agrees, IsAtHand, IsFresh, NoBell}
use Rattle.std.proofs.lemmas.Nat.Bits.{bit_at-zero}
use Rattle.std.specs.Int.{bit_at}
use Rattle.demi_device.specs.Serving.{AllAdmitted, AllCome, EachMayPend, HasStop, NonePends, RiseFrom, places, trail}
use Rattle.demi_device.proofs.Outcomes.{places_append, trail_append}
use Rattle.demi_device.proofs.Admitting.{more_admitted}
use Rattle.demi_device.proofs.Rising.{still_rises}

module _ {T U : Type 0} (n : ℕ) (told : U → Option T) (a b : List (ℕ × T) → ℕ → U → Type 0) (f : (t : List (ℕ × T)) (p : ℕ) (o : U) → a t p o → b t p o) where
  pub each_comes : (t : List (ℕ × T)) (before : List ℕ) (added : List (ℕ × U)) → AllCome n told a t before added → AllCome n told b t before added
  each_comes t before [] all = tt
  each_comes t before (o ∷ os) all =
      (record { served = all.0.served; open_yet = all.0.open_yet; may_tell = all.0.may_tell; admitted = f (t ++ told_at o.0 (told o.1)) o.0 o.1 all.0.admitted }, each_comes (t ++ told_at o.0 (told o.1)) (before ++ o.0 ∷ []) os all.1)

-- what was admitted stays admitted in a longer history
pub stays_admitted : {D T U : Type 0} (admits : List D → List (ℕ × T) → ℕ → U → Type 0) → ((h more : List D) (t later : List (ℕ × T)) (p : ℕ) (o x : U) → admits h t p o → AllAbove p later → (admits (h ++ more) (t ++ later) p x ↔ admits h t p x))
    → (g s : List D) → StartsWith g s → (t : List (ℕ × T)) (p : ℕ) (o : U) → admits s t p o → admits g t p o
stays_admitted admits steady g s starts t p o is = subst (λ h. admits h t p o) (sym starts.1) (subst (λ l. admits (s ++ starts.0) l p o) (append-nil t) ((steady s starts.0 t [] p o o is tt).1 is))

module _ {D : Type 0} where
  after : (s more : List D) → get_elem? (s ++ more) (length s) ≡ get_elem? more 0
  after [] more = refl
  after (x ∷ s) more = after s more

  first_of_rest : (more : List D) (d : D) → get_elem? more 0 ≡ some d → (rest : List D) × (more ≡ d ∷ rest)
  first_of_rest [] d e = absurd (some-ne-none d (sym e))
  first_of_rest (m ∷ ms) d e = (ms, λ q. some-injective m d e q ∷ ms)

  -- the next operation of a list that begins with these
  pub starts_next : (g s : List D) (d : D) → StartsWith g s → get_elem? g (length s) ≡ some d → StartsWith g (s ++ d ∷ [])
  starts_next g s d h e = let r = first_of_rest h.0 d (sym (after s h.0) ∙ ap (λ l. get_elem? l (length s)) (sym h.1) ∙ e) in (r.0, h.1 ∙ ap (λ l. s ++ l) r.1 ∙ sym (append_assoc s (d ∷ []) r.0))

-- the ground only grows
pub ground_more : {D : Type 0} (l more : List (ℕ × (ℕ × D))) → StartsWith (ground_of (l ++ more)) (ground_of l)
ground_more {D} l [] = subst (λ (z : List (ℕ × (ℕ × D))). StartsWith (ground_of z) (ground_of l)) (sym (append-nil l)) ([], sym (append-nil (ground_of l)))
ground_more {D} l (y ∷ more) = subst (λ (z : List (ℕ × (ℕ × D))). StartsWith (ground_of z) (ground_of l)) (append_assoc l (y ∷ []) more) (starts_more _ _ _ (ground_more (l ++ y ∷ []) more) (ground_grows l y))

pub length_places : {A : Type 0} (l : List (ℕ × A)) → length (places l) ≡ length l
length_places [] = refl
length_places (x ∷ xs) = ap suc (length_places xs)

pub not_next : {D T B : Type 0} (p q : ℕ) (s : DeviceValue D T B) → p ≡ q → Each (λ (x : ℕ × (ℕ × D)). x.0 ≢ p) s.fetched → IsAtHand q s → ⊥
not_next {D} p q s e other has = let w = any_each (λ (x : ℕ × (ℕ × D)). x.0 ≡ q) (λ (x : ℕ × (ℕ × D)). x.0 ≢ p) s.fetched has other in w.2 (w.1 ∙ sym e)

module _ {D T U B : Type 0} (told : U → Option T) (admits : B → List D → List (ℕ × T) → ℕ → U → Type 0) (may_pend : List D → ℕ → Type 0) (stops : D → Bool) (base : B) (room given : ℕ) (served : List D) (finished : List (ℕ × U)) (seat : DeviceValue D T B) (h : Serves told admits may_pend stops base room given served finished seat) where
  -- one more operation was served, and what came was finished
  pub serves_next : (base' : B) (room' given' : ℕ) (d : D) (served' : List D) (added finished' : List (ℕ × U)) (new : DeviceValue D T B) → base' ≡ base → room' ≡ room → given' ≡ given + 1 → get_elem? (ground_of seat.fetched) given ≡ some d → served' ≡ served ++ d ∷ [] → finished' ≡ finished ++ added
      → new ≡ record seat { finished = new.finished; trail = seat.trail ++ trail told added; owes = new.owes } → places new.finished ≡ places seat.finished ++ places added → Apart new.finished
      → ((l more : List D) (t later : List (ℕ × T)) (p : ℕ) (o x : U) → admits base l t p o → AllAbove p later → (admits base (l ++ more) (t ++ later) p x ↔ admits base l t p x)) → AllCome (length served') told (admits base' served') (trail told finished) (places finished) added
      → EachMayPend (may_pend served') (length served') (places finished') → (HasStop stops served' → NonePends (length served') (places finished')) → Serves told admits may_pend stops base' room' given' served' finished' new
  serves_next base' room' given' d served' added finished' new eb er eg at es ef e ep once steady comes pends ends = record {
    same_base = eb ∙ h.same_base ∙ sym (ap (λ z. z.port.key.base) e);
    enough = (let a = h.enough in let b = ap (λ z. z.port.tokens.slots) e in omega arith);
    all_given = (let a = h.all_given in let b = ap length es in let k = length-append served (d ∷ []) in omega arith);
    begins = subst (λ (z : List D × DeviceValue D T B). StartsWith (ground_of z.1.fetched) z.0) (λ q. (sym es q, sym e q)) (starts_next (ground_of seat.fetched) served d h.begins (ap (get_elem? (ground_of seat.fetched)) (sym h.all_given) ∙ at));
    same_places = ep ∙ ap (λ l. l ++ places added) h.same_places ∙ sym (places_append finished added) ∙ ap places (sym ef);
    once = once;
    same_trail = ap (λ z. z.trail) e ∙ ap (λ l. l ++ trail told added) h.same_trail ∙ sym (trail_append told finished added) ∙ ap (trail told) (sym ef);
    rises = subst (RiseFrom 0) (sym (trail_append told finished added) ∙ ap (trail told) (sym ef)) (still_rises (length served') told (admits base' served') finished added h.rises comes);
    cleared = subst (λ (z : DeviceValue D T B). NoBell z.port.tokens.slots z.rang) (sym e) h.cleared;
    admitted = subst (λ (z : B × List (ℕ × U)). AllAdmitted (length served') (admits z.0 served') (trail told z.1) z.1) (λ q. (sym eb q, sym ef q))
        (subst (λ l. AllAdmitted (length served') (admits base served') l (finished ++ added)) (sym (trail_append told finished added))
        (more_admitted (length served') told (admits base served') (λ t later p o is above. subst (λ l. admits base l (t ++ later) p o) (append-nil served') ((steady served' [] t later p o o is above).1 is))
        finished (trail told finished) added
        (each_more (λ (o : ℕ × U). (o.0 < length served) × admits base served (trail told finished) o.0 o.1) (λ (o : ℕ × U). (o.0 < length served') × admits base served' (trail told finished) o.0 o.1) finished
        (λ o k. let lo = k.0 in let a = ap length es in let b = length-append served (d ∷ []) in (omega arith, stays_admitted (admits base) steady served' served (d ∷ [], es) (trail told finished) o.0 o.1 k.1)) h.admitted)
        (subst (λ z. AllCome (length served') told (admits z served') (trail told finished) (places finished) added) eb comes)));
    pends = pends;
    ends = ends;
  }

  -- the same with the number of operations as the engine has it
  pub serves_all : Serves told admits may_pend stops base room (length served) served finished seat
  serves_all = record { same_base = h.same_base; enough = h.enough; all_given = refl; begins = h.begins; same_places = h.same_places; once = h.once; same_trail = h.same_trail; rises = h.rises; cleared = h.cleared; admitted = h.admitted; pends = h.pends; ends = h.ends }

  -- what contracts say of it
  pub serves_agrees : Agrees told (admits base) served finished seat
  serves_agrees = record { begins = h.begins; finishes = h.same_places; once = h.once; admitted = h.admitted; tells = h.same_trail; rises = subst (RiseFrom 0) (sym h.same_trail) h.rises }

  -- further operations were fetched
  pub serves_took : (given' : ℕ) (new : DeviceValue D T B) → given' ≡ given → TookIn seat new → NoBell seat.port.tokens.slots new.rang → Serves told admits may_pend stops base room given' served finished new
  serves_took given' new eg took cleared = let e = took.4 in record {
    same_base = h.same_base ∙ sym (ap (λ z. z.port.key.base) e);
    enough = (let a = h.enough in let b = ap (λ z. z.port.tokens.slots) e in omega arith);
    all_given = eg ∙ h.all_given;
    begins = starts_more _ _ _ (subst (λ (l : List (ℕ × (ℕ × D))). StartsWith (ground_of l) (ground_of seat.fetched)) (sym (ap (λ z. z.fetched) e)) (ground_more seat.fetched took.2)) h.begins;
    same_places = ap (λ z. places z.finished) e ∙ h.same_places;
    once = subst (λ (z : DeviceValue D T B). Apart z.finished) (sym e) h.once;
    same_trail = ap (λ z. z.trail) e ∙ h.same_trail;
    rises = h.rises;
    cleared = subst (λ (n : ℕ). NoBell n new.rang) (sym (ap (λ z. z.port.tokens.slots) e)) cleared;
    admitted = h.admitted;
    pends = h.pends;
    ends = h.ends;
  }

-- an engine that served nothing at a seat that did nothing
pub serves_none : {D T U B : Type 0} (told : U → Option T) (admits : B → List D → List (ℕ × T) → ℕ → U → Type 0) (may_pend : List D → ℕ → Type 0) (stops : D → Bool) (base : B) (room given : ℕ) (served : List D) (finished : List (ℕ × U)) (seat : DeviceValue D T B)
    → base ≡ seat.port.key.base → seat.port.tokens.slots ≤ room → given ≡ 0 → served ≡ [] → finished ≡ [] → IsFresh seat → Serves told admits may_pend stops base room given served finished seat
serves_none {D} {T} {U} {B} told admits may_pend stops base room given served finished seat eb le eg es ef fresh = record {
  same_base = eb;
  enough = le;
  all_given = eg ∙ ap length (sym es);
  begins = subst (StartsWith (ground_of seat.fetched)) (sym es) (ground_of seat.fetched, refl);
  same_places = ap places fresh.2 ∙ ap places (sym ef);
  once = subst Apart (sym fresh.2) tt;
  same_trail = fresh.3 ∙ ap (trail told) (sym ef);
  rises = subst (λ (l : List (ℕ × U)). RiseFrom 0 (trail told l)) (sym ef) tt;
  cleared = λ i small bound. ap (λ n. bit_at n i) fresh.0 ∙ bit_at-zero i;
  admitted = subst (λ (l : List (ℕ × U)). AllAdmitted (length served) (admits base served) (trail told l) l) (sym ef) tt;
  pends = λ p low other. let n = ap length es in absurd (omega arith);
  ends = λ has p low other. let n = ap length es in omega arith;
}
