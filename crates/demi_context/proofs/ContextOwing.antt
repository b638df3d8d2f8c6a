-- What the calls of a caller do to what is outstanding of it.
use Rattle.std.proofs.Common.{◌≡◌, ℕ, ◌+◌, Bool, true, false, cond, List, length, get_or, refl, ap, sym, subst, ◌∙◌, inl, inr, arith}
use Rattle.demi_port.specs.Seen.{Found, PassValue}
use Rattle.demi_pdpix.specs.Answers.{SawUnknown}
use Rattle.demi_pdpix.specs.Asks.{Asked}
use Rattle.demi_pdpix.specs.Calls.{Changed, FindsNone, OnHeap, OnRx, OnService, OnTx, SubmittedAt, Submits}
use Rattle.demi_pdpix.specs.Notes.{Scanned, ScannedAt}
use Rattle.demi_pdpix.specs.Owing.{IsDue, IsDueAt, same_kind}
use Rattle.demi_pdpix.specs.declared.kind.PortKind.{PortKind}
use Rattle.demi_pdpix.specs.declared.kind.PortKind.TheVariants.{Memory, Service, Journal, Receiving, Sending, Nowhere}
use Rattle.demi_pdpix.proofs.Outstanding.{asks_due, changed_due, changed_first, none_due_at, submits_due}
use Rattle.demi_store.specs.declared.ask.StoreAsk.{StoreAsk}
use Rattle.demi_context.specs.ContextPorts.{Caller, OwesLess, OwesMore, OwesSame, more_at}

-- what a pass owes is as before where this is
abbrev Keeps : {D T B : Type 0} → (PassValue D T B → PassValue D T B → Type 0) → Type 0
Keeps {D} {T} {B} P = (n m : ℕ) (p q : PassValue D T B) → P p q → IsDue n m p → IsDue n m q

pub found_keeps : {D T B : Type 0} (token : ℕ) (F : ℕ → Type 0) (n m : ℕ) (p q : PassValue D T B) → Found p q token F → IsDue n m p → IsDue n m q
found_keeps token F n m p q found due =
    let new = found.4 in
    (ap (λ (x : PassValue _ _ _). x.number) new ∙ due.0, ap (λ (x : PassValue _ _ _). length x.submitted) new ∙ due.1 ∙ ap (λ (j : ℕ). j + m) (sym (ap (λ (x : PassValue _ _ _). length x.redeemed) new)))

pub unknown_keeps : {D T B : Type 0} (token n m : ℕ) (p q : PassValue D T B) → SawUnknown token p q → IsDue n m p → IsDue n m q
unknown_keeps token n m p q saw due = elim saw.found [
  | inl past ↦ subst (IsDue n m) (sym past.1) due
  | inr found ↦ found_keeps token _ n m p q found due
]

scanned_keeps : {D T B : Type 0} (mask bits : List ℕ) (n m : ℕ) (p q : PassValue D T B) → Scanned mask bits p q → IsDue n m p → IsDue n m q
scanned_keeps mask bits n m p q scanned due =
    let new = scanned.4 in
    (ap (λ (x : PassValue _ _ _). x.number) new ∙ due.0, ap (λ (x : PassValue _ _ _). length x.submitted) new ∙ due.1 ∙ ap (λ (j : ℕ). j + m) (sym (ap (λ (x : PassValue _ _ _). length x.redeemed) new)))

-- by the port of what changed
pub service_owes : (P : _ → _ → Type 0) (c e : Caller) → Keeps P → OnService c e → P c.service e.service → OwesSame c e
service_owes P c e keeps only is = λ n f due. subst (IsDueAt n f) (sym only) (due.0, keeps n (f Service) c.service e.service is due.1, due.2, due.3, due.4)

pub rx_owes : (P : _ → _ → Type 0) (k : ℕ) (c e : Caller) → Keeps P → OnRx c e → Changed k c.rx e.rx P → OwesSame c e
rx_owes P k c e keeps only changed = λ n f due. subst (IsDueAt n f) (sym only)
    (due.0, due.1, due.2, changed_due P n k (λ j. f (Receiving j)) (λ j. f (Receiving j)) c.rx e.rx (keeps n (f (Receiving k))) (λ j other. refl) changed due.3, due.4)

pub tx_owes : (P : _ → _ → Type 0) (k : ℕ) (c e : Caller) → Keeps P → OnTx c e → Changed k c.tx e.tx P → OwesSame c e
tx_owes P k c e keeps only changed = λ n f due. subst (IsDueAt n f) (sym only)
    (due.0, due.1, due.2, due.3, changed_due P n k (λ j. f (Sending j)) (λ j. f (Sending j)) c.tx e.tx (keeps n (f (Sending k))) (λ j other. refl) changed due.4)

pub heap_owes : (c e : Caller) → OnHeap c e → OwesSame c e
heap_owes c e only = λ n f due. subst (IsDueAt n f) (sym only) due

pub same_owes : (c e : Caller) → e ≡ c → OwesSame c e
same_owes c e is = λ n f due. subst (IsDueAt n f) (sym is) due

pub submits_owes : (kind : PortKind) (asked : Asked) (token : ℕ) (c e : Caller) → Submits kind asked c e token → OwesMore kind c e
submits_owes kind asked token c e s = λ n f due. submits_due kind asked n token f c e s due

pub asks_owes : (place token : ℕ) (d : StoreAsk) (c e : Caller) → OnService c e → SubmittedAt place c.service e.service token d → OwesMore Service c e
asks_owes place token d c e only s = λ n f due. asks_due n place token d f c e only s due

pub none_owes : (kind : PortKind) (c e : Caller) → FindsNone kind c e → OwesSame c e
none_owes kind c e s = λ n f due. none_due_at kind n f c e s due

pub scanned_owes : (kind : PortKind) (mask bits : List ℕ) (c e : Caller) → ScannedAt kind mask bits c e → OwesSame c e
scanned_owes Memory mask bits c e s = λ n f due. subst (IsDueAt n f) (sym s.0) (scanned_keeps mask bits n (f Memory) c.memory e.memory s.1 due.0, due.1, due.2, due.3, due.4)
scanned_owes Service mask bits c e s = service_owes (Scanned mask bits) c e (scanned_keeps mask bits) s.0 s.1
scanned_owes Journal mask bits c e s = λ n f due. subst (IsDueAt n f) (sym s.0)
    (due.0, due.1, changed_first (Scanned mask bits) n (f Journal) (f Journal) c.journal e.journal (scanned_keeps mask bits n (f Journal)) s.1 due.2, due.3, due.4)
scanned_owes (Receiving k) mask bits c e s = rx_owes (Scanned mask bits) k c e (scanned_keeps mask bits) s.0 s.1
scanned_owes (Sending k) mask bits c e s = tx_owes (Scanned mask bits) k c e (scanned_keeps mask bits) s.0 s.1
scanned_owes Nowhere mask bits c e s = absurd s

-- what is outstanding, said by another function
pub along : (n : ℕ) (f g : PortKind → ℕ) (c : Caller) → ((k : PortKind) → f k ≡ g k) → IsDueAt n f c → IsDueAt n g c
along n f g c same due = (
  subst (λ (m : ℕ). IsDue n m c.memory) (same Memory) due.0,
  subst (λ (m : ℕ). IsDue n m c.service) (same Service) due.1,
  (λ p low. subst (λ (m : ℕ). IsDue n m (get_or c.journal 0 p)) (same Journal) (due.2 p low)),
  (λ k p low. subst (λ (m : ℕ). IsDue n m (get_or c.rx k p)) (same (Receiving k)) (due.3 k p low)),
  (λ k p low. subst (λ (m : ℕ). IsDue n m (get_or c.tx k p)) (same (Sending k)) (due.4 k p low)),
)

pub none_more : (b : Bool) (m : ℕ) → cond b (m + 0) m ≡ m
none_more true m = omega arith
none_more false m = refl

-- nothing less is as before
pub same_less : (kind : PortKind) (c e : Caller) → OwesSame c e → OwesLess kind 0 c e
same_less kind c e same = λ n f due. same n f (along n (more_at kind 0 f) f c (λ k. none_more (same_kind kind k) (f k)) due)
