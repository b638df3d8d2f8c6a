-- What calls do to what is outstanding.
use Rattle.std.proofs.Common.{◌≡◌, ℕ, zero, suc, ◌+◌, ◌<◌, Bool, true, false, cond, ◌⊎◌, inl, inr, List, [], ◌∷◌, ◌++◌, length, append-nil, length-append, get_or, replicate, refl, ap, sym, subst, ◌∙◌, arith}
use Rattle.demi_port_core.specs.declared.place.QToken.{QToken}
use Rattle.demi_port.specs.Seen.{IsNewPass, PassValue, PortId}
use Rattle.demi_pdpix.specs.declared.kind.PortKind.{PortKind}
use Rattle.demi_pdpix.specs.declared.kind.PortKind.TheVariants.{Memory, Service, Journal, Receiving, Sending, Nowhere}
use Rattle.demi_pdpix.specs.declared.outcomes.QResult.{QResult}
use Rattle.demi_pdpix.specs.declared.outcomes.QResult.TheVariants.{Mem, Service as Serviced, Log, Rx, Tx}
use Rattle.demi_pdpix.specs.declared.outcomes.Answer.{Answer}
use Rattle.demi_pdpix.specs.declared.outcomes.Answer.TheVariants.{Ready, NotYet, Spent, Unknown}
use Rattle.std.specs.Prelude.{◌==◌}
use borrow.Author.Tests.{eqb-false}
use Rattle.std.proofs.lemmas.Bool.{ne_eqb}
use Rattle.demi_heap.specs.Seen.{HeapId}
use Rattle.demi_heap.specs.Seen.{PassValue as HeapPassValue}
use Rattle.demi_port_core.specs.declared.place.Place.{Place}
use Rattle.std.specs.Prelude.{Some}
use Rattle.demi_memq.specs.Counting.{result_at}
use Rattle.demi_memq.specs.Said.{IsFrom as IsFromHeap, out_said}
use Rattle.demi_logq.specs.Answers.{Admits, IsFrom as IsFromLog}
use Rattle.demi_streamq.specs.Receiving.{IsFrom as IsOnHeap, RxAdmits}
use Rattle.demi_streamq.specs.Sending.{TxAdmits}
use Rattle.demi_pdpix.specs.Answers.{Redeemed, SawBusy}
use Rattle.demi_pdpix.specs.Asks.{Asked, bad_qd, bad_size, to_memory, to_log, to_receiver, to_sender}
use Rattle.demi_pdpix.specs.Calls.{Changed, FindsNone, FoundNone, OnService, Submits, Submitted, SubmittedAt}
use Rattle.demi_pdpix.specs.Kinds.{kind_of}
use Rattle.demi_pdpix.specs.Owing.{AreDue, IsDue, IsDueAt, IsFirstDue, Owes, due_at, one_more_at, same_kind, without_at}
use Rattle.demi_pdpix.specs.Seen.{AreAt, AreNewAt, CallerValue, DemiId, IsNewCaller, IsOf, LogPass, MemPass, RxPass, TxPass}
use Rattle.demi_pdpix.specs.declared.outcomes.Any.TheVariants.{Ready as ReadyAt}
use Rattle.demi_pdpix.specs.Several.{StoppedAt, WaitedAny, rounds}
use Rattle.demi_pdpix.specs.Together.{AllCame}
use Rattle.demi_pdpix.specs.Tries.{AllBusy, BusyAt, TriedAt, TriedJournal, TriedMemory, TriedRx, TriedService, TriedTx, Waited}
use Rattle.demi_pdpix.proofs.Returned.{set_length, set_other}

-- what one pass did
pub submitted_due : {D T B : Type 0} (n m place : ℕ) (p q : PassValue D T B) (token : ℕ) (d : D) → SubmittedAt place p q token d → IsDue n m p → IsDue n (m + 1) q
submitted_due n m place p q token d s due =
    let a = ap (λ (x : PassValue _ _ _). length x.submitted) s.pass in let b = length-append p.submitted ((place, (token, d)) ∷ []) in let c = ap (λ (x : PassValue _ _ _). length x.redeemed) s.pass in let e = due.1 in
    (ap (λ (x : PassValue _ _ _). x.number) s.pass ∙ due.0, omega (arith, a, b, c, e))

pub redeemed_due : {D T B : Type 0} (admits : List D → List (ℕ × T) → ℕ → Type 0) (n m token place : ℕ) (p q : PassValue D T B) → Redeemed admits token place p q → IsDue n (m + 1) p → IsDue n m q
redeemed_due admits n m token place p q r due =
    let a = ap (λ (x : PassValue _ _ _). length x.redeemed) r.pass in let b = length-append p.redeemed ((place, token) ∷ []) in let c = ap (λ (x : PassValue _ _ _). length x.submitted) r.pass in let e = due.1 in
    (ap (λ (x : PassValue _ _ _). x.number) r.pass ∙ due.0, omega (arith, a, b, c, e))

pub busy_due : {D T B : Type 0} (n m token : ℕ) (p q : PassValue D T B) → SawBusy token p q → IsDue n m p → IsDue n m q
busy_due n m token p q (t, k, after, is, new) due =
    (ap (λ (x : PassValue _ _ _). x.number) new ∙ due.0, ap (λ (x : PassValue _ _ _). length x.submitted) new ∙ due.1 ∙ ap (λ j. j + m) (sym (ap (λ (x : PassValue _ _ _). length x.redeemed) new)))

pub none_due : {D T B : Type 0} (n m : ℕ) (p q : PassValue D T B) → FoundNone p q → IsDue n m p → IsDue n m q
none_due n m p q f due =
    (ap (λ (x : PassValue _ _ _). x.number) f.only ∙ due.0, ap (λ (x : PassValue _ _ _). length x.submitted) f.only ∙ due.1 ∙ ap (λ j. j + m) (sym (ap (λ (x : PassValue _ _ _). length x.redeemed) f.only)))

here_or_other : (j k : ℕ) → (j ≡ k) ⊎ (j ≡ k → ⊥)
here_or_other zero zero = inl refl
here_or_other zero (suc k) = inr (λ e. omega (arith, e))
here_or_other (suc j) zero = inr (λ e. omega (arith, e))
here_or_other (suc j) (suc k) = elim (here_or_other j k) [
  | inl e ↦ inl (ap suc e)
  | inr ne ↦ inr (λ e. ne (omega (arith, e)))
]

-- what the one pass that changed did is what the list did
pub changed_due : {D T B : Type 0} (P : PassValue D T B → PassValue D T B → Type 0) (n k : ℕ) (f g : ℕ → ℕ) (xs ys : List (PassValue D T B))
    → ((p q : PassValue D T B) → P p q → IsDue n (f k) p → IsDue n (g k) q) → ((j : ℕ) → (j ≡ k → ⊥) → f j ≡ g j)
    → Changed k xs ys P → AreDue n f xs → AreDue n g ys
changed_due P n k f g xs ys one others changed due j p low =
    let c = changed p in let long : length ys ≡ length xs = ap length c.0 ∙ set_length xs k (get_or ys k p) in let low-old : j < length xs = omega (arith, low, long) in
    elim (here_or_other j k) [
      | inl e ↦ subst (λ i. IsDue n (g i) (get_or ys i p)) (sym e) (one (get_or xs k p) (get_or ys k p) c.1 (due k p (subst (λ i. i < length xs) e low-old)))
      | inr ne ↦ subst (λ m. IsDue n m (get_or ys j p)) (others j ne)
          (subst (λ x. IsDue n (f j) x) (sym (ap (λ l. get_or l j p) c.0 ∙ set_other xs j k (get_or ys k p) p ne)) (due j p low-old))
    ]

pub changed_first : {D T B : Type 0} (P : PassValue D T B → PassValue D T B → Type 0) (n a b : ℕ) (xs ys : List (PassValue D T B))
    → ((p q : PassValue D T B) → P p q → IsDue n a p → IsDue n b q) → Changed 0 xs ys P → IsFirstDue n a xs → IsFirstDue n b ys
changed_first P n a b xs ys one changed due p low =
    let c = changed p in let long : length ys ≡ length xs = ap length c.0 ∙ set_length xs 0 (get_or ys 0 p) in
    one (get_or xs 0 p) (get_or ys 0 p) c.1 (due p (omega (arith, low, long)))

self_test : (q : ℕ) → (q == q) ≡ true
self_test q = pick (q == q) refl
  where
    pick : (b : Bool) → (q == q) ≡ b → b ≡ true
    pick true e = refl
    pick false e = absurd (eqb-false q q e refl)

-- at its own place one more is due, and at no other
more_here : {D T B : Type 0} (n k : ℕ) (f : ℕ → ℕ) (q : PassValue D T B) → IsDue n (f k + 1) q → IsDue n (cond (k == k) (f k + 1) (f k)) q
more_here n k f q due = subst (λ b. IsDue n (cond b (f k + 1) (f k)) q) (sym (self_test k)) due

less_here : {D T B : Type 0} (n k : ℕ) (f : ℕ → ℕ) (q : PassValue D T B) → IsDue n (cond (k == k) (f k + 1) (f k)) q → IsDue n (f k + 1) q
less_here n k f q due = subst (λ b. IsDue n (cond b (f k + 1) (f k)) q) (self_test k) due

elsewhere : (f : ℕ → ℕ) (k j : ℕ) → (j ≡ k → ⊥) → f j ≡ cond (k == j) (f j + 1) (f j)
elsewhere f k j ne = ap (λ b. cond b (f j + 1) (f j)) (sym (ne_eqb k j (λ e. ne (sym e))))

-- one submission to the port of this kind
pub submits_due : {D T B : Type 0} (kind : PortKind) (asked : Asked) (n token : ℕ) (f : PortKind → ℕ) (c e : CallerValue D T B) → Submits kind asked c e token → IsDueAt n f c → IsDueAt n (one_more_at kind f) e
submits_due Memory (to_memory op) n token f c e s due = subst (IsDueAt n (one_more_at Memory f)) (sym s.0)
    (submitted_due n (f Memory) s.1.0 c.memory e.memory token op s.1.1 due.0, due.1, due.2, due.3, due.4)
submits_due Journal (to_log op) n token f c e s due = subst (IsDueAt n (one_more_at Journal f)) (sym s.0)
    (due.0, due.1, changed_first (λ p q. Submitted p q token op) n (f Journal) (f Journal + 1) c.journal e.journal (λ p q h. submitted_due n (f Journal) h.0 p q token op h.1) s.1 due.2, due.3, due.4)
submits_due (Receiving j) (to_receiver op) n token f c e s due = subst (IsDueAt n (one_more_at (Receiving j) f)) (sym s.0) (
  due.0,
  due.1,
  due.2,
  changed_due (λ p q. Submitted p q token op) n j (λ k. f (Receiving k)) (λ k. one_more_at (Receiving j) f (Receiving k)) c.rx e.rx
      (λ p q h d. more_here n j (λ k. f (Receiving k)) q (submitted_due n (f (Receiving j)) h.0 p q token op h.1 d)) (elsewhere (λ k. f (Receiving k)) j) s.1 due.3,
  due.4,
)
submits_due (Sending j) (to_sender op) n token f c e s due = subst (IsDueAt n (one_more_at (Sending j) f)) (sym s.0) (
  due.0,
  due.1,
  due.2,
  due.3,
  changed_due (λ p q. Submitted p q token op) n j (λ k. f (Sending k)) (λ k. one_more_at (Sending j) f (Sending k)) c.tx e.tx
      (λ p q h d. more_here n j (λ k. f (Sending k)) q (submitted_due n (f (Sending j)) h.0 p q token op h.1 d)) (elsewhere (λ k. f (Sending k)) j) s.1 due.4,
)
submits_due Memory (to_log op) n token f c e s due = absurd s
submits_due Memory (to_receiver op) n token f c e s due = absurd s
submits_due Memory (to_sender op) n token f c e s due = absurd s
submits_due Memory bad_qd n token f c e s due = absurd s
submits_due Memory bad_size n token f c e s due = absurd s
submits_due Journal (to_memory op) n token f c e s due = absurd s
submits_due Journal (to_receiver op) n token f c e s due = absurd s
submits_due Journal (to_sender op) n token f c e s due = absurd s
submits_due Journal bad_qd n token f c e s due = absurd s
submits_due Journal bad_size n token f c e s due = absurd s
submits_due (Receiving j) (to_memory op) n token f c e s due = absurd s
submits_due (Receiving j) (to_log op) n token f c e s due = absurd s
submits_due (Receiving j) (to_sender op) n token f c e s due = absurd s
submits_due (Receiving j) bad_qd n token f c e s due = absurd s
submits_due (Receiving j) bad_size n token f c e s due = absurd s
submits_due (Sending j) (to_memory op) n token f c e s due = absurd s
submits_due (Sending j) (to_log op) n token f c e s due = absurd s
submits_due (Sending j) (to_receiver op) n token f c e s due = absurd s
submits_due (Sending j) bad_qd n token f c e s due = absurd s
submits_due (Sending j) bad_size n token f c e s due = absurd s
submits_due Service asked n token f c e s due = absurd s
submits_due Nowhere asked n token f c e s due = absurd s

-- one submission to the service
pub asks_due : {D T B : Type 0} (n place token : ℕ) (d : D) (f : PortKind → ℕ) (c e : CallerValue D T B) → OnService c e → SubmittedAt place c.service e.service token d → IsDueAt n f c → IsDueAt n (one_more_at Service f) e
asks_due n place token d f c e only s due = subst (IsDueAt n (one_more_at Service f)) (sym only) (due.0, submitted_due n (f Service) place c.service e.service token d s due.1, due.2, due.3, due.4)

-- a try that found no token, at the port of this kind
pub none_due_at : {D T B : Type 0} (kind : PortKind) (n : ℕ) (f : PortKind → ℕ) (c e : CallerValue D T B) → FindsNone kind c e → IsDueAt n f c → IsDueAt n f e
none_due_at Memory n f c e s due = subst (IsDueAt n f) (sym s.0) (none_due n (f Memory) c.memory e.memory s.1 due.0, due.1, due.2, due.3, due.4)
none_due_at Service n f c e s due = subst (IsDueAt n f) (sym s.0) (due.0, none_due n (f Service) c.service e.service s.1 due.1, due.2, due.3, due.4)
none_due_at Journal n f c e s due = subst (IsDueAt n f) (sym s.0) (due.0, due.1, changed_first FoundNone n (f Journal) (f Journal) c.journal e.journal (none_due n (f Journal)) s.1 due.2, due.3, due.4)
none_due_at (Receiving j) n f c e s due = subst (IsDueAt n f) (sym s.0) (due.0, due.1, due.2, changed_due FoundNone n j (λ k. f (Receiving k)) (λ k. f (Receiving k)) c.rx e.rx (none_due n (f (Receiving j))) (λ k ne. refl) s.1 due.3, due.4)
none_due_at (Sending j) n f c e s due = subst (IsDueAt n f) (sym s.0) (due.0, due.1, due.2, due.3, changed_due FoundNone n j (λ k. f (Sending k)) (λ k. f (Sending k)) c.tx e.tx (none_due n (f (Sending j))) (λ k ne. refl) s.1 due.4)
none_due_at Nowhere n f c e s due = absurd s

-- a try that found an operation still to come
pub busy_due_at : {D T B : Type 0} (kind : PortKind) (n token : ℕ) (f : PortKind → ℕ) (c e : CallerValue D T B) → BusyAt kind token c e → IsDueAt n f c → IsDueAt n f e
busy_due_at Memory n token f c e s due = subst (IsDueAt n f) (sym s.0) (busy_due n (f Memory) token c.memory e.memory s.1 due.0, due.1, due.2, due.3, due.4)
busy_due_at Service n token f c e s due = subst (IsDueAt n f) (sym s.0) (due.0, busy_due n (f Service) token c.service e.service s.1 due.1, due.2, due.3, due.4)
busy_due_at Journal n token f c e s due = subst (IsDueAt n f) (sym s.0) (due.0, due.1, changed_first (SawBusy token) n (f Journal) (f Journal) c.journal e.journal (busy_due n (f Journal) token) s.1 due.2, due.3, due.4)
busy_due_at (Receiving j) n token f c e s due = subst (IsDueAt n f) (sym s.0) (due.0, due.1, due.2, changed_due (SawBusy token) n j (λ k. f (Receiving k)) (λ k. f (Receiving k)) c.rx e.rx (busy_due n (f (Receiving j)) token) (λ k ne. refl) s.1 due.3, due.4)
busy_due_at (Sending j) n token f c e s due = subst (IsDueAt n f) (sym s.0) (due.0, due.1, due.2, due.3, changed_due (SawBusy token) n j (λ k. f (Sending k)) (λ k. f (Sending k)) c.tx e.tx (busy_due n (f (Sending j)) token) (λ k ne. refl) s.1 due.4)
busy_due_at Nowhere n token f c e s due = absurd s

-- what a pass owes that redeemed an outcome of its kind
mem_redeemed : {L P O S T B : Type 0} (heap : HeapId) (n m token : ℕ) (place : Place) (p q : MemPass) (r : QResult L P O S T B) → TriedMemory {L = L} {P = P} {O = O} {S = S} {T = T} {B = B} heap token p q (Ready place r) → IsDue n (m + 1) p → IsDue n m q
mem_redeemed heap n m token place p q (Mem o) h due = redeemed_due (λ h t k. (result_at 1024 h k ≡ Some (out_said o)) × IsFromHeap heap o) n m token place.0 p q h due
mem_redeemed heap n m token place p q (Serviced o) h due = absurd h
mem_redeemed heap n m token place p q (Log o) h due = absurd h
mem_redeemed heap n m token place p q (Rx o) h due = absurd h
mem_redeemed heap n m token place p q (Tx o) h due = absurd h

service_redeemed : {L P O S T B : Type 0} (admits : B → List S → List (ℕ × T) → ℕ → O → Type 0) (n m token : ℕ) (place : Place) (p q : PassValue S T B) (r : QResult L P O S T B) → TriedService admits token p q (Ready place r) → IsDue n (m + 1) p → IsDue n m q
service_redeemed admits n m token place p q (Mem o) h due = absurd h
service_redeemed admits n m token place p q (Serviced o) h due = redeemed_due (λ h t k. admits p.port.key.base h t k o) n m token place.0 p q h due
service_redeemed admits n m token place p q (Log o) h due = absurd h
service_redeemed admits n m token place p q (Rx o) h due = absurd h
service_redeemed admits n m token place p q (Tx o) h due = absurd h

log_redeemed : {L P O S T B : Type 0} (heap : HeapId) (n m token : ℕ) (place : Place) (p q : LogPass) (r : QResult L P O S T B) → TriedJournal {L = L} {P = P} {O = O} {S = S} {T = T} {B = B} heap token p q (Ready place r) → IsDue n (m + 1) p → IsDue n m q
log_redeemed heap n m token place p q (Mem o) h due = absurd h
log_redeemed heap n m token place p q (Serviced o) h due = absurd h
log_redeemed heap n m token place p q (Log o) h due = redeemed_due (λ h t k. Admits p.port.key.base h t k o × IsFromLog heap o) n m token place.0 p q h due
log_redeemed heap n m token place p q (Rx o) h due = absurd h
log_redeemed heap n m token place p q (Tx o) h due = absurd h

rx_redeemed : {L P O S T B : Type 0} (heap : HeapId) (n m token : ℕ) (place : Place) (p q : RxPass) (r : QResult L P O S T B) → TriedRx {L = L} {P = P} {O = O} {S = S} {T = T} {B = B} heap token p q (Ready place r) → IsDue n (m + 1) p → IsDue n m q
rx_redeemed heap n m token place p q (Mem o) h due = absurd h
rx_redeemed heap n m token place p q (Serviced o) h due = absurd h
rx_redeemed heap n m token place p q (Log o) h due = absurd h
rx_redeemed heap n m token place p q (Rx o) h due = redeemed_due (λ h t k. RxAdmits h t k o × IsOnHeap heap o) n m token place.0 p q h due
rx_redeemed heap n m token place p q (Tx o) h due = absurd h

tx_redeemed : {L P O S T B : Type 0} (n m token : ℕ) (place : Place) (p q : TxPass) (r : QResult L P O S T B) → TriedTx {L = L} {P = P} {O = O} {S = S} {T = T} {B = B} token p q (Ready place r) → IsDue n (m + 1) p → IsDue n m q
tx_redeemed n m token place p q (Mem o) h due = absurd h
tx_redeemed n m token place p q (Serviced o) h due = absurd h
tx_redeemed n m token place p q (Log o) h due = absurd h
tx_redeemed n m token place p q (Rx o) h due = absurd h
tx_redeemed n m token place p q (Tx o) h due = redeemed_due (λ h t k. TxAdmits h t k o) n m token place.0 p q h due

abbrev is_unknown : {L P O S T B : Type 0} → Answer L P O S T B → Type 0
is_unknown (Ready p o) = ⊥
is_unknown NotYet = ⊥
is_unknown Spent = ⊥
is_unknown Unknown = Unit {0}

-- one redemption at the port of this kind
pub redeems_due : {L P O S T B : Type 0} (kind : PortKind) (admits : B → List S → List (ℕ × T) → ℕ → O → Type 0) (heap : HeapId) (n token : ℕ) (f : PortKind → ℕ) (c e : CallerValue S T B) (place : Place) (r : QResult L P O S T B)
    → TriedAt kind admits heap token c e (Ready place r) → IsDueAt n (one_more_at kind f) c → IsDueAt n f e
redeems_due Memory admits heap n token f c e place r s due = subst (IsDueAt n f) (sym s.0)
    (mem_redeemed heap n (f Memory) token place c.memory e.memory r s.1 due.0, due.1, due.2, due.3, due.4)
redeems_due Service admits heap n token f c e place r s due = subst (IsDueAt n f) (sym s.0)
    (due.0, service_redeemed admits n (f Service) token place c.service e.service r s.1 due.1, due.2, due.3, due.4)
redeems_due {L} {P} {O} {S} {T} {B} Journal admits heap n token f c e place r s due = subst (IsDueAt n f) (sym s.0)
    (due.0, due.1, changed_first (λ p q. TriedJournal {L = L} {P = P} {O = O} {S = S} {T = T} {B = B} heap token p q (Ready place r)) n (f Journal + 1) (f Journal) c.journal e.journal (λ p q h d. log_redeemed heap n (f Journal) token place p q r h d) s.1 due.2, due.3, due.4)
redeems_due {L} {P} {O} {S} {T} {B} (Receiving j) admits heap n token f c e place r s due = subst (IsDueAt n f) (sym s.0) (
  due.0,
  due.1,
  due.2,
  changed_due (λ p q. TriedRx {L = L} {P = P} {O = O} {S = S} {T = T} {B = B} heap token p q (Ready place r)) n j (λ k. one_more_at (Receiving j) f (Receiving k)) (λ k. f (Receiving k)) c.rx e.rx
      (λ p q h d. rx_redeemed heap n (f (Receiving j)) token place p q r h (less_here n j (λ k. f (Receiving k)) p d)) (λ k ne. sym (elsewhere (λ k. f (Receiving k)) j k ne)) s.1 due.3,
  due.4,
)
redeems_due {L} {P} {O} {S} {T} {B} (Sending j) admits heap n token f c e place r s due = subst (IsDueAt n f) (sym s.0) (
  due.0,
  due.1,
  due.2,
  due.3,
  changed_due (λ p q. TriedTx {L = L} {P = P} {O = O} {S = S} {T = T} {B = B} token p q (Ready place r)) n j (λ k. one_more_at (Sending j) f (Sending k)) (λ k. f (Sending k)) c.tx e.tx
      (λ p q h d. tx_redeemed n (f (Sending j)) token place p q r h (less_here n j (λ k. f (Sending k)) p d)) (λ k ne. sym (elsewhere (λ k. f (Sending k)) j k ne)) s.1 due.4,
)
redeems_due Nowhere admits heap n token f c e place r s due = absurd (subst is_unknown (sym s.0) tt)

pub all_busy_due : {D T B : Type 0} (d : DemiId B) (tokens : List QToken) (n : ℕ) (f : PortKind → ℕ) (c e : CallerValue D T B) → AllBusy d tokens c e → IsDueAt n f c → IsDueAt n f e
all_busy_due d [] n f c e is due = subst (IsDueAt n f) (sym is) due
all_busy_due d (t ∷ ts) n f c e busy due = all_busy_due d ts n f busy.0 e busy.2 (busy_due_at (kind_of d t.port) n t.token.0 f c busy.0 busy.1 due)

-- a wait for a token of the caller's that gave an outcome
pub waited_due : {L P O S T B : Type 0} (admits : B → List S → List (ℕ × T) → ℕ → O → Type 0) (d : DemiId B) (t : QToken) (n : ℕ) (f : PortKind → ℕ) (c e : CallerValue S T B) (place : Place) (r : QResult L P O S T B)
    → Waited admits d t c e (Ready place r) → IsDueAt n (one_more_at (kind_of d t.port) f) c → IsDueAt n f e
waited_due admits d t n f c e place r w due = redeems_due (kind_of d t.port) admits d.heap n t.token.0 f w.1 e place r w.3 (all_busy_due d (replicate w.0 t) n (one_more_at (kind_of d t.port) f) c w.1 w.2 due)

-- a round of tries, or a wait for any, that redeemed the token at an index
due_middle : {B : Type 0} (d : DemiId B) (before : List QToken) (t : QToken) (after : List QToken) (kind : PortKind) → due_at d (before ++ t ∷ after) kind ≡ one_more_at (kind_of d t.port) (due_at d (before ++ after)) kind
due_middle d [] t after kind = refl
due_middle d (x ∷ xs) t after kind =
    ap (λ m. cond (same_kind (kind_of d x.port) kind) (m + 1) m) (due_middle d xs t after kind) ∙ swap (same_kind (kind_of d x.port) kind) (same_kind (kind_of d t.port) kind) (due_at d (xs ++ after) kind)
  where
    swap : (a b : Bool) (m : ℕ) → cond a (cond b (m + 1) m + 1) (cond b (m + 1) m) ≡ cond b (cond a (m + 1) m + 1) (cond a (m + 1) m)
    swap true true m = refl
    swap true false m = refl
    swap false true m = refl
    swap false false m = refl

along_first : {D T B : Type 0} (n : ℕ) (f g : PortKind → ℕ) (c : CallerValue D T B) → ((k : PortKind) → f k ≡ g k) → IsDueAt n f c → IsDueAt n g c
along_first n f g c same due = (
  subst (λ m. IsDue n m c.memory) (same Memory) due.0,
  subst (λ m. IsDue n m c.service) (same Service) due.1,
  (λ p low. subst (λ m. IsDue n m (get_or c.journal 0 p)) (same Journal) (due.2 p low)),
  (λ k p low. subst (λ m. IsDue n m (get_or c.rx k p)) (same (Receiving k)) (due.3 k p low)),
  (λ k p low. subst (λ m. IsDue n m (get_or c.tx k p)) (same (Sending k)) (due.4 k p low)),
)

-- the token at an index of a list that was redeemed is no more outstanding, and the others are
pub stopped_due : {L P O S T B : Type 0} (admits : B → List S → List (ℕ × T) → ℕ → O → Type 0) (d : DemiId B) (tokens : List QToken) (n i : ℕ) (c e : CallerValue S T B) (place : Place) (r : QResult L P O S T B)
    → StoppedAt admits d tokens c e i (Ready place r) → IsDueAt n (due_at d tokens) c → IsDueAt n (due_at d (without_at i tokens)) e
stopped_due admits d tokens n i c e place r (before, t, after, m, is, many, busy, tried) due =
    let here : IsDueAt n (one_more_at (kind_of d t.port) (due_at d (before ++ after))) m =
    all_busy_due d before n (one_more_at (kind_of d t.port) (due_at d (before ++ after))) c m busy
    (along_first n (due_at d tokens) (one_more_at (kind_of d t.port) (due_at d (before ++ after))) c (λ k. ap (λ ts. due_at d ts k) is ∙ due_middle d before t after k) due) in
    subst (λ ts. IsDueAt n (due_at d ts) e) (sym (ap (without_at i) is ∙ ap (λ j. without_at j (before ++ t ∷ after)) (sym many) ∙ without_middle before t after))
    (redeems_due (kind_of d t.port) admits d.heap n t.token.0 (due_at d (before ++ after)) m e place r tried here)
  where
    without_middle : (before : List QToken) (t : QToken) (after : List QToken) → without_at (length before) (before ++ t ∷ after) ≡ before ++ after
    without_middle [] t after = refl
    without_middle (x ∷ xs) t after = ap (λ l. x ∷ l) (without_middle xs t after)

-- all were redeemed
pub all_came_due : {L P O S T B : Type 0} (admits : B → List S → List (ℕ × T) → ℕ → O → Type 0) (d : DemiId B) (tokens rest : List QToken) (results : List (Place × QResult L P O S T B)) (n : ℕ) (c e : CallerValue S T B)
    → AllCame admits d tokens results c e → IsDueAt n (due_at d (tokens ++ rest)) c → IsDueAt n (due_at d rest) e
all_came_due admits d [] rest [] n c e came due = subst (IsDueAt n (due_at d rest)) (sym came) due
all_came_due admits d [] rest (r ∷ rs) n c e came due = absurd came
all_came_due admits d (t ∷ ts) rest [] n c e came due = absurd came
all_came_due admits d (t ∷ ts) rest (r ∷ rs) n c e came due = all_came_due admits d ts rest rs n came.0 e came.2 (waited_due admits d t n (due_at d (ts ++ rest)) c came.0 r.0 r.1 came.1 due)

new_due : {D T B : Type 0} (n : ℕ) (p : PassValue D T B) (x : PortId B) → IsNewPass x n p → IsDue n 0 p
new_due n p x is = (ap (λ (q : PassValue _ _ _). q.number) is, (let a = ap (λ (q : PassValue _ _ _). length q.submitted) is in let b = ap (λ (q : PassValue _ _ _). length q.redeemed) is in omega (arith, a, b)))

new_at : {D T B : Type 0} (n : ℕ) (ps : List (PassValue D T B)) (xs : List (PortId B)) → AreNewAt n ps xs → AreAt ps xs
new_at n [] [] are = tt
new_at n [] (x ∷ xs) are = absurd are
new_at n (q ∷ ps) [] are = absurd are
new_at n (q ∷ ps) (x ∷ xs) are = (ap (λ (p : PassValue _ _ _). p.port) are.0, new_at n ps xs are.1)

new_due_at : {D T B : Type 0} (n : ℕ) (ps : List (PassValue D T B)) (xs : List (PortId B)) → AreNewAt n ps xs → AreDue n (λ k. 0) ps
new_due_at n [] [] are k p low = absurd (omega (arith, low))
new_due_at n [] (x ∷ xs) are k p low = absurd are
new_due_at n (q ∷ ps) [] are k p low = absurd are
new_due_at n (q ∷ ps) (x ∷ xs) are zero p low = new_due n q x are.0
new_due_at n (q ∷ ps) (x ∷ xs) are (suc k) p low = new_due_at n ps xs are.1 k p (omega (arith, low))

-- a new caller owes nothing
pub new_owes : {D T B : Type 0} (d : DemiId B) (n : ℕ) (c : CallerValue D T B) → IsNewCaller d n c → Owes d n [] c
new_owes d n c new = (
  record {
    heap = ap (λ (p : HeapPassValue). p.heap) new.heap;
    memory = ap (λ (p : PassValue _ _ _). p.port) new.memory;
    service = ap (λ (p : PassValue _ _ _). p.port) new.service;
    journal = new_at n c.journal d.journal new.journal;
    rx = new_at n c.rx d.rx new.rx;
    tx = new_at n c.tx d.tx new.tx;
  },
  (
    new_due n c.memory d.memory new.memory,
    new_due n c.service d.service new.service,
    (λ p low. new_due_at n c.journal d.journal new.journal 0 p low),
    new_due_at n c.rx d.rx new.rx,
    new_due_at n c.tx d.tx new.tx,
  ),
)

-- What the calls do, as a caller cites it.
module _ {D T B : Type 0} (d : DemiId B) (n : ℕ) (tokens : List QToken) (c e : CallerValue D T B) (of : IsOf d e) where
  pub owes_asked : (t : QToken) (place : ℕ) (op : D) → t.port ≡ 1 → OnService c e → SubmittedAt place c.service e.service t.token.0 op → Owes d n tokens c → Owes d n (t ∷ tokens) e
  owes_asked t place op at only s owes = (of, subst (λ k. IsDueAt n (one_more_at k (due_at d tokens)) e) (sym (ap (kind_of d) at)) (asks_due n place t.token.0 op (due_at d tokens) c e only s owes.1))

  pub owes_more : (t : QToken) (port : ℕ) (asked : Asked) → t.port ≡ port → Submits (kind_of d port) asked c e t.token.0 → Owes d n tokens c → Owes d n (t ∷ tokens) e
  owes_more t port asked at s owes = (of, subst (λ k. IsDueAt n (one_more_at k (due_at d tokens)) e) (sym (ap (kind_of d) at)) (submits_due (kind_of d port) asked n t.token.0 (due_at d tokens) c e s owes.1))

  pub owes_same : (kind : PortKind) → FindsNone kind c e → Owes d n tokens c → Owes d n tokens e
  owes_same kind s owes = (of, none_due_at kind n (due_at d tokens) c e s owes.1)

  pub owes_heap : e ≡ record c { heap = e.heap } → Owes d n tokens c → Owes d n tokens e
  owes_heap only owes = (of, subst (IsDueAt n (due_at d tokens)) (sym only) owes.1)

module _ {L P O S T B : Type 0} (admits : B → List S → List (ℕ × T) → ℕ → O → Type 0) (d : DemiId B) (n : ℕ) (c e : CallerValue S T B) (of : IsOf d e) where
  pub owes_less : (t : QToken) (tokens : List QToken) (place : Place) (r : QResult L P O S T B) → Waited admits d t c e (Ready place r) → Owes d n (t ∷ tokens) c → Owes d n tokens e
  owes_less t tokens place r w owes = (of, waited_due admits d t n (due_at d tokens) c e place r w owes.1)

  pub owes_but : (tokens : List QToken) (i : ℕ) (place : Place) (r : QResult L P O S T B) → WaitedAny admits d tokens c e (ReadyAt i place r) → Owes d n tokens c → Owes d n (without_at i tokens) e
  owes_but tokens i place r w owes = (of, stopped_due admits d tokens n i w.1 e place r w.3 (all_busy_due d (rounds w.0 tokens) n (due_at d tokens) c w.1 w.2 owes.1))

  pub owes_none : (tokens : List QToken) (results : List (Place × QResult L P O S T B)) → AllCame admits d tokens results c e → Owes d n tokens c → Owes d n [] e
  owes_none tokens results came owes = (of, all_came_due admits d tokens [] results n c e came (subst (λ ts. IsDueAt n (due_at d ts) c) (sym (append-nil tokens)) owes.1))
