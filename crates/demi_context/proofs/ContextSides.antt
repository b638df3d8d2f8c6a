-- What the calls of a caller do to what its links see of its passes.
use Rattle.std.proofs.Common.{◌≡◌, ◌≢◌, ℕ, Bool, zero, suc, ◌<◌, List, [], ◌∷◌, ◌++◌, Option, Some, None, length, get_or, set, refl, ap, sym, subst, ◌∙◌, arith}
use Rattle.std.specs.Prelude.{slice_get}
use mathlib.Core.Option.{some}
use lib.ListN.{get_elem?}
use Rattle.demi_port.specs.Seen.{Found, OnlyLooked, PassValue}
use Rattle.demi_port_core.specs.History.{Among}
use Rattle.demi_pdpix.specs.Answers.{Redeemed}
use Rattle.demi_pdpix.specs.Calls.{Changed, SubmittedAt}
use Rattle.demi_pdpix.specs.Notes.{Scanned}
use Rattle.demi_store.specs.Laws.{Admits, StoreBasis}
use Rattle.demi_store.specs.declared.ask.StoreAsk.{StoreAsk}
use Rattle.demi_store.specs.declared.out.StoreOut.{StoreOut}
use Rattle.demi_store.specs.declared.told.StoreTold.{StoreTold}
use Rattle.demi_streamq.specs.Receiving as rx
use Rattle.demi_streamq.specs.Receiving.{RxAdmits}
use Rattle.demi_streamq.specs.Sending as tx
use Rattle.demi_streamq.specs.Sending.{TxAdmits}
use Rattle.demi_streamq.specs.declared.rx_op.RxOp.{RxOp}
use Rattle.demi_streamq.specs.declared.rx_out.RxOut.{RxOut}
use Rattle.demi_streamq.specs.declared.rx_told.RxTold.{RxTold}
use Rattle.demi_streamq.specs.declared.tx_op.TxOp.{TxOp}
use Rattle.demi_streamq.specs.declared.tx_out.TxOut.{TxOut}
use Rattle.demi_link.specs.Sights.{Redeems, Side, Submits, side_of}
use Rattle.demi_context.specs.ContextPorts.{side_at}

-- One pass.
pub looked_side : {D T B : Type 0} (p q : PassValue D T B) → OnlyLooked p q → side_of q ≡ side_of p
looked_side p q is = ap side_of is

pub found_side : {D T B : Type 0} (p q : PassValue D T B) (token : ℕ) (F : ℕ → Type 0) → Found p q token F → side_of q ≡ side_of p
found_side p q token F found = ap side_of found.4

pub scanned_side : {D T B : Type 0} (p q : PassValue D T B) (mask bits : List ℕ) → Scanned mask bits p q → side_of q ≡ side_of p
scanned_side p q mask bits scanned = ap side_of scanned.4

pub submitted_side : {D T B : Type 0} (place : ℕ) (p q : PassValue D T B) (token : ℕ) (d : D) → SubmittedAt place p q token d → Submits place (side_of p) (side_of q) token d
submitted_side place p q token d s = record { above = s.above; side = ap side_of s.pass; fresh = s.fresh }

get_elem : {D : Type 0} (xs : List D) (p : ℕ) (x : D) → slice_get xs p ≡ Some x → get_elem? xs p ≡ some x
get_elem [] p x e = absurd (cc)
get_elem (y ∷ xs) zero x e = ap some (some_is e)
  where
    some_is : {A : Type 0} {a b : A} → Some a ≡ Some b → a ≡ b
    some_is e = cc
get_elem (y ∷ xs) (suc p) x e = get_elem xs p x e

get_left : {D : Type 0} (xs more : List D) (p : ℕ) (x : D) → slice_get xs p ≡ Some x → slice_get (xs ++ more) p ≡ Some x
get_left [] more p x e = absurd (cc)
get_left (y ∷ xs) more zero x e = e
get_left (y ∷ xs) more (suc p) x e = get_left xs more p x e

pub redeemed_side : {D T B : Type 0} (admits : List D → List (ℕ × T) → ℕ → Type 0) (token place : ℕ) (p q : PassValue D T B) → ((h : List D) (t : List (ℕ × T)) → admits h t place → (d : D) × (slice_get h place ≡ Some d))
    → Redeemed admits token place p q → Redeems admits token place (side_of p) (side_of q)
redeemed_side {D} {T} {B} admits token place p q there r =
    let s = r.stands in
    let own : (d : D) → Among (place, (token, d)) p.submitted → slice_get s.known.heard place ≡ Some d =
    λ d a. let x = there s.known.heard s.known.told s.admitted in x.1 ∙ ap (λ (y : D). Some y) (s.said d x.0 a (get_elem s.known.heard place x.0 x.1)) in
    record {
      side = ap side_of r.pass;
      grows = r.grows;
      admitted = r.admitted;
      below = r.below;
      own = r.own;
      said = λ d a. ap (λ (l : List D). slice_get l place) s.handed.heard.1 ∙ get_left s.known.heard s.handed.heard.0 place d (own d a);
    }

-- What is admitted is so of an operation that is there.
pub store_there : (b : StoreBasis) (o : StoreOut) (place : ℕ) (h : List StoreAsk) (t : List (ℕ × StoreTold)) → Admits b h t place o → (d : StoreAsk) × (slice_get h place ≡ Some d)
store_there b o place h t a = (a.0, a.1)

pub rx_there : (o : RxOut) (place : ℕ) (h : List RxOp) (t : List (ℕ × RxTold)) → RxAdmits h t place o → (d : RxOp) × (slice_get h place ≡ Some d)
rx_there o place h t a = go _ (slice_get h place) refl _ _ _ a
  where
    go : (stop : Option ℕ) (op : Option RxOp) → slice_get h place ≡ op → (found : Option RxOut) (here : Option RxTold) (n : ℕ) → rx.RxAnswer stop op found here n o → (d : RxOp) × (slice_get h place ≡ Some d)
    go (Some s) None e found here n a = absurd a.1
    go (Some s) (Some d) e found here n a = (d, e)
    go None None e found here n a = absurd a
    go None (Some d) e found here n a = (d, e)

pub tx_there : (o : TxOut) (place : ℕ) (h : List TxOp) (t : List (ℕ × ℕ)) → TxAdmits h t place o → (d : TxOp) × (slice_get h place ≡ Some d)
tx_there o place h t a = go _ (slice_get h place) refl _ _ _ a
  where
    go : (stop : Option ℕ) (op : Option TxOp) → slice_get h place ≡ op → (broken : Option ℕ) (closed : Bool) (here : Option ℕ) → tx.TxAnswer stop op broken closed here o → (d : TxOp) × (slice_get h place ≡ Some d)
    go (Some s) None e broken closed here a = absurd a.1
    go (Some s) (Some d) e broken closed here a = (d, e)
    go None None e broken closed here a = absurd a
    go None (Some d) e broken closed here a = (d, e)

-- Passes by index.
pub side_here : {D T B : Type 0} (ps : List (PassValue D T B)) (k : ℕ) (e : PassValue D T B) → k < length ps → side_at ps k ≡ side_of (get_or ps k e)
side_here [] k e low = absurd (omega (arith, low))
side_here (p ∷ ps) zero e low = refl
side_here (p ∷ ps) (suc k) e low = side_here ps k e (omega (arith, low))

set_else : {D T B : Type 0} (ps : List (PassValue D T B)) (k j : ℕ) (q : PassValue D T B) → k ≢ j → side_at (set ps k q) j ≡ side_at ps j
set_else [] k j q other = refl
set_else (p ∷ ps) zero zero q other = absurd (other refl)
set_else (p ∷ ps) zero (suc j) q other = refl
set_else (p ∷ ps) (suc k) zero q other = refl
set_else (p ∷ ps) (suc k) (suc j) q other = set_else ps k j q (λ e. other (ap suc e))

set_here : {D T B : Type 0} (ps : List (PassValue D T B)) (k : ℕ) (q : PassValue D T B) → k < length ps → side_at (set ps k q) k ≡ side_of q
set_here [] k q low = absurd (omega (arith, low))
set_here (p ∷ ps) zero q low = refl
set_here (p ∷ ps) (suc k) q low = set_here ps k q (omega (arith, low))

pub some_pass : {D T B : Type 0} (ps : List (PassValue D T B)) (k : ℕ) → k < length ps → PassValue D T B
some_pass [] k low = absurd (omega (arith, low))
some_pass (p ∷ ps) k low = p

module _ {D T B : Type 0} (P : PassValue D T B → PassValue D T B → Type 0) (k : ℕ) (xs ys : List (PassValue D T B)) (low : k < length xs) (changed : Changed k xs ys P) where
  -- the others are as they were
  pub changed_else : (j : ℕ) → k ≢ j → side_at ys j ≡ side_at xs j
  changed_else j other = let e = some_pass xs k low in ap (λ (l : List (PassValue D T B)). side_at l j) (changed e).0 ∙ set_else xs k j (get_or ys k e) other

  -- what became of one pass became of what is seen of it
  pub changed_here : (S : Side D T → Side D T → Type 0) → ((p q : PassValue D T B) → P p q → S (side_of p) (side_of q)) → S (side_at xs k) (side_at ys k)
  changed_here S gives =
      let e = some_pass xs k low in
      let here : side_at ys k ≡ side_of (get_or ys k e) = ap (λ (l : List (PassValue D T B)). side_at l k) (changed e).0 ∙ set_here xs k (get_or ys k e) low in
      subst (λ (s : Side D T). S s (side_at ys k)) (sym (side_here xs k e low)) (subst (S (side_of (get_or xs k e))) (sym here) (gives (get_or xs k e) (get_or ys k e) (changed e).1))

set_same : {D T B : Type 0} (ps : List (PassValue D T B)) (k : ℕ) (q e : PassValue D T B) → side_of q ≡ side_of (get_or ps k e) → (j : ℕ) → side_at (set ps k q) j ≡ side_at ps j
set_same [] k q e same j = refl
set_same (p ∷ ps) zero q e same zero = same
set_same (p ∷ ps) zero q e same (suc j) = refl
set_same (p ∷ ps) (suc k) q e same zero = refl
set_same (p ∷ ps) (suc k) q e same (suc j) = set_same ps k q e same j

-- where nothing is seen of the change, all is seen as it was
pub changed_same : {D T B : Type 0} (P : PassValue D T B → PassValue D T B → Type 0) (k : ℕ) (xs ys : List (PassValue D T B)) (e : PassValue D T B) → ((p q : PassValue D T B) → P p q → side_of q ≡ side_of p) → Changed k xs ys P
    → (j : ℕ) → side_at ys j ≡ side_at xs j
changed_same P k xs ys e gives changed j =
    let c = changed e in
    ap (λ (l : List (PassValue _ _ _)). side_at l j) c.0 ∙ set_same xs k (get_or ys k e) e (gives (get_or xs k e) (get_or ys k e) c.1) j
