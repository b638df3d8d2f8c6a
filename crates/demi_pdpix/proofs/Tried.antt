-- What a try of a port tells of the caller, by the port's kind.
use Rattle.std.proofs.Common.{◌≡◌, ℕ, ◌<◌, List, [], All, length, get_or, map, ap, sym, subst, ◌∙◌}
use Rattle.std.specs.Prelude.{Some}
use Rattle.demi_heap.specs.Seen.{HeapId}
use Rattle.demi_port.specs.Seen.{PassValue, PortId, StandsOn}
use Rattle.demi_port.specs.declared.redeem.Redeem.{Redeem}
use Rattle.demi_port.specs.declared.redeem.Redeem.TheVariants.{Ready, NotYet, Spent, Unknown}
use Rattle.demi_memq.specs.Counting.{result_at}
use Rattle.demi_memq.specs.Said.{out_said}
use Rattle.demi_memq.specs.Said.{IsFrom as IsFromHeap}
use Rattle.demi_memq.specs.declared.op.MemOp.{MemOp}
use Rattle.demi_memq.specs.declared.out.MemOut.{MemOut}
use Rattle.demi_logq.specs.Answers.{Admits, LogBasis}
use Rattle.demi_logq.specs.Answers.{IsFrom as IsFromLog}
use Rattle.demi_logq.specs.declared.op.LogOp.{LogOp}
use Rattle.demi_logq.specs.declared.out.LogOut.{LogOut}
use Rattle.demi_logq.specs.declared.told.LogTold.{LogTold}
use Rattle.demi_streamq.specs.Receiving.{RxAdmits}
use Rattle.demi_streamq.specs.Receiving.{IsFrom as IsOnHeap}
use Rattle.demi_streamq.specs.Sending.{TxAdmits}
use Rattle.demi_streamq.specs.declared.rx_op.RxOp.{RxOp}
use Rattle.demi_streamq.specs.declared.rx_out.RxOut.{RxOut}
use Rattle.demi_streamq.specs.declared.rx_told.RxTold.{RxTold}
use Rattle.demi_streamq.specs.declared.tx_op.TxOp.{TxOp}
use Rattle.demi_streamq.specs.declared.tx_out.TxOut.{TxOut}
use Rattle.demi_pdpix.specs.declared.kind.PortKind.TheVariants.{Memory, Journal, Receiving, Sending}
use Rattle.demi_pdpix.specs.declared.outcomes.Answer.{Answer}
use Rattle.demi_pdpix.specs.Answers.{TriedBy, log_answer, mem_answer, rx_answer, tx_answer}
use Rattle.demi_pdpix.specs.Calls.{Changed}
use Rattle.demi_pdpix.specs.Lanes.{LaneValue, port_of}
use Rattle.demi_pdpix.specs.Seen.{AreAt, CallerValue, LogPass, MemPass, RxPass, TxPass}
use Rattle.demi_pdpix.specs.Tries.{TriedAt, TriedJournal, TriedMemory, TriedRx, TriedTx}
use Rattle.demi_pdpix.proofs.Columns.{at_port}

-- what an outcome stands on where it is admitted in one way, it stands on where that admits it in another
stands_as : {D T B : Type 0} (F G : List D → List (ℕ × T) → ℕ → Type 0) (token place : ℕ) (p q : PassValue D T B) → ((heard : List D) (told : List (ℕ × T)) (n : ℕ) → F heard told n → G heard told n)
    → StandsOn F token place p q → StandsOn G token place p q
stands_as F G token place p q gives s = record {
  known = s.known;
  handed = s.handed;
  admitted = gives s.known.heard s.known.told place s.admitted;
  below = s.below;
  said = s.said;
}

pub for_memory : {K Q : Type 0} (L P O S T B : Type 0) (heap : HeapId) (token : ℕ) (p q : MemPass) (r : Redeem K Q MemOut MemOp (Unit {0}) HeapId)
    → p.port.key.base ≡ heap → TriedBy (λ b h t n o. (result_at 1024 h n ≡ Some (out_said o)) × IsFromHeap b o) token p q r
    → TriedMemory {L = L} {P = P} {O = O} {S = S} {T = T} {B = B} heap token p q (mem_answer r)
for_memory L P O S T B heap token p q (Ready n o) e h = record {
  admitted = (h.admitted.0, subst (λ b. IsFromHeap b o) e h.admitted.1);
  below = h.below;
  pass = h.pass;
  done = h.done;
  own = h.own;
  stands = stands_as (λ a t k. (result_at 1024 a k ≡ Some (out_said o)) × IsFromHeap p.port.key.base o)
      (λ a t k. (result_at 1024 a k ≡ Some (out_said o)) × IsFromHeap heap o) token n.0 p q (λ a t k is. (is.0, subst (λ b. IsFromHeap b o) e is.1)) h.stands;
  once = h.once;
  later = h.later;
  grows = h.grows;
}
for_memory L P O S T B heap token p q NotYet e h = h
for_memory L P O S T B heap token p q Spent e h = h
for_memory L P O S T B heap token p q Unknown e h = h

pub for_journal : {K Q : Type 0} (L P O S T B : Type 0) (heap : HeapId) (token : ℕ) (p q : LogPass) (r : Redeem K Q LogOut LogOp LogTold LogBasis)
    → p.port.key.base.heap ≡ heap → TriedBy Admits token p q r → TriedJournal {L = L} {P = P} {O = O} {S = S} {T = T} {B = B} heap token p q (log_answer r)
for_journal L P O S T B heap token p q (Ready n o) e h = record {
  admitted = (h.admitted, subst (λ b. IsFromLog b o) e h.admitted.3);
  below = h.below;
  pass = h.pass;
  done = h.done;
  own = h.own;
  stands = stands_as (λ a t k. Admits p.port.key.base a t k o) (λ a t k. Admits p.port.key.base a t k o × IsFromLog heap o)
      token n.0 p q (λ a t k is. (is, subst (λ b. IsFromLog b o) e is.3)) h.stands;
  once = h.once;
  later = h.later;
  grows = h.grows;
}
for_journal L P O S T B heap token p q NotYet e h = h
for_journal L P O S T B heap token p q Spent e h = h
for_journal L P O S T B heap token p q Unknown e h = h

pub for_rx : {K Q : Type 0} (L P O S T B : Type 0) (heap : HeapId) (token : ℕ) (p q : RxPass) (r : Redeem K Q RxOut RxOp RxTold HeapId)
    → p.port.key.base ≡ heap → TriedBy (λ b h t n o. RxAdmits h t n o × IsOnHeap b o) token p q r
    → TriedRx {L = L} {P = P} {O = O} {S = S} {T = T} {B = B} heap token p q (rx_answer r)
for_rx L P O S T B heap token p q (Ready n o) e h = record {
  admitted = (h.admitted.0, subst (λ b. IsOnHeap b o) e h.admitted.1);
  below = h.below;
  pass = h.pass;
  done = h.done;
  own = h.own;
  stands = stands_as (λ a t k. RxAdmits a t k o × IsOnHeap p.port.key.base o) (λ a t k. RxAdmits a t k o × IsOnHeap heap o)
      token n.0 p q (λ a t k is. (is.0, subst (λ b. IsOnHeap b o) e is.1)) h.stands;
  once = h.once;
  later = h.later;
  grows = h.grows;
}
for_rx L P O S T B heap token p q NotYet e h = h
for_rx L P O S T B heap token p q Spent e h = h
for_rx L P O S T B heap token p q Unknown e h = h

pub for_tx : {K Q : Type 0} (L P O S T B : Type 0) (token : ℕ) (p q : TxPass) (r : Redeem K Q TxOut TxOp ℕ HeapId)
    → TriedBy (λ b h t n o. TxAdmits h t n o) token p q r → TriedTx {L = L} {P = P} {O = O} {S = S} {T = T} {B = B} token p q (tx_answer r)
for_tx L P O S T B token p q (Ready n o) h = h
for_tx L P O S T B token p q NotYet h = h
for_tx L P O S T B token p q Spent h = h
for_tx L P O S T B token p q Unknown h = h

-- the passes of opened values are at the opened ports
pub at_inside : {D T B : Type 0} (ps qs : List (PassValue D T B)) (xs ys : List (PortId B)) → ps ≡ qs → xs ≡ ys → AreAt qs ys → AreAt ps xs
at_inside ps qs xs ys same ports are = subst (λ z. AreAt z xs) (sym same) (subst (λ z. AreAt qs z) (sym ports) are)

-- the pass of a port stands on the port's base
pub on_base : {D T : Type 0} (heap : HeapId) (ps : List (PassValue D T HeapId)) (ls : List (LaneValue D T HeapId)) (k : ℕ) → AreAt ps (map port_of ls) → k < length ls
    → All (λ (l : LaneValue D T HeapId). l.port.key.base ≡ heap) ls → (e : PassValue D T HeapId) → (get_or ps k e).port.key.base ≡ heap
on_base heap ps ls k are low base e = let l : LaneValue _ _ HeapId = record { port = e.port; home = []; callers = 0 } in
    ap (λ (x : PortId HeapId). x.key.base) (at_port ps ls k e l are low) ∙ base k l low

pub on_log_base : (heap : HeapId) (ps : List LogPass) (ls : List (LaneValue LogOp LogTold LogBasis)) (k : ℕ) → AreAt ps (map port_of ls) → k < length ls
    → All (λ (l : LaneValue LogOp LogTold LogBasis). l.port.key.base.heap ≡ heap) ls → (e : LogPass) → (get_or ps k e).port.key.base.heap ≡ heap
on_log_base heap ps ls k are low base e = let l : LaneValue LogOp LogTold LogBasis = record { port = e.port; home = []; callers = 0 } in
    ap (λ (x : PortId LogBasis). x.key.base.heap) (at_port ps ls k e l are low) ∙ base k l low

module _ {L P O S T B : Type 0} (admits : B → List S → List (ℕ × T) → ℕ → O → Type 0) (heap : HeapId) (token : ℕ) (x c : CallerValue S T B) (answer : Answer L P O S T B) (same : x ≡ c) where
  pub tried_memory : {K Q : Type 0} (new : MemPass) (r : Redeem K Q MemOut MemOp (Unit {0}) HeapId) → answer ≡ mem_answer r → x.memory.port.key.base ≡ heap
      → TriedBy (λ b h t n o. (result_at 1024 h n ≡ Some (out_said o)) × IsFromHeap b o) token x.memory new r
      → TriedAt Memory admits heap token c (record x { memory = new }) answer
  tried_memory new r is base tried = (
    ap (λ (z : CallerValue _ _ _). record z { memory = new }) same,
    subst (λ (p : MemPass). TriedMemory heap token p new answer) (ap (λ (z : CallerValue _ _ _). z.memory) same)
        (subst (TriedMemory heap token x.memory new) (sym is) (for_memory _ _ _ _ _ _ heap token x.memory new r base tried)),
  )

  pub tried_journal : {K Q : Type 0} (new : List LogPass) (r : Redeem K Q LogOut LogOp LogTold LogBasis) → answer ≡ log_answer r → ((e : LogPass) → (get_or x.journal 0 e).port.key.base.heap ≡ heap)
      → Changed 0 x.journal new (λ p q. TriedBy Admits token p q r) → TriedAt Journal admits heap token c (record x { journal = new }) answer
  tried_journal new r is base changed = (
    ap (λ (z : CallerValue _ _ _). record z { journal = new }) same,
    subst (λ ps. Changed 0 ps new (λ p q. TriedJournal heap token p q answer)) (ap (λ (z : CallerValue _ _ _). z.journal) same)
        (λ e. ((changed e).0, subst (TriedJournal heap token (get_or x.journal 0 e) (get_or new 0 e)) (sym is) (for_journal _ _ _ _ _ _ heap token (get_or x.journal 0 e) (get_or new 0 e) r (base e) (changed e).1))),
  )

  pub tried_rx : {K Q : Type 0} (k : ℕ) (new : List RxPass) (r : Redeem K Q RxOut RxOp RxTold HeapId) → answer ≡ rx_answer r → ((e : RxPass) → (get_or x.rx k e).port.key.base ≡ heap)
      → Changed k x.rx new (λ p q. TriedBy (λ b h t n o. RxAdmits h t n o × IsOnHeap b o) token p q r) → TriedAt (Receiving k) admits heap token c (record x { rx = new }) answer
  tried_rx k new r is base changed = (
    ap (λ (z : CallerValue _ _ _). record z { rx = new }) same,
    subst (λ ps. Changed k ps new (λ p q. TriedRx heap token p q answer)) (ap (λ (z : CallerValue _ _ _). z.rx) same)
        (λ e. ((changed e).0, subst (TriedRx heap token (get_or x.rx k e) (get_or new k e)) (sym is) (for_rx _ _ _ _ _ _ heap token (get_or x.rx k e) (get_or new k e) r (base e) (changed e).1))),
  )

  pub tried_tx : {K Q : Type 0} (k : ℕ) (new : List TxPass) (r : Redeem K Q TxOut TxOp ℕ HeapId) → answer ≡ tx_answer r
      → Changed k x.tx new (λ p q. TriedBy (λ b h t n o. TxAdmits h t n o) token p q r) → TriedAt (Sending k) admits heap token c (record x { tx = new }) answer
  tried_tx k new r is changed = (
    ap (λ (z : CallerValue _ _ _). record z { tx = new }) same,
    subst (λ ps. Changed k ps new (λ p q. TriedTx token p q answer)) (ap (λ (z : CallerValue _ _ _). z.tx) same)
        (λ e. ((changed e).0, subst (TriedTx token (get_or x.tx k e) (get_or new k e)) (sym is) (for_tx _ _ _ _ _ _ token (get_or x.tx k e) (get_or new k e) r (changed e).1))),
  )
