-- What a submission gives, at the caller that made it.
use Rattle.std.proofs.Common.{◌≡◌, ℕ, List, length, ap, sym, subst, ◌∙◌}
use Rattle.std.specs.Prelude.{Result, Ok, Err, IfOk}
use Rattle.demi_heap.specs.Seen.{HalfValue}
use Rattle.demi_heap.specs.Seen.{PassValue as HeapPassValue}
use Rattle.demi_sga.specs.Arrays.{loaned_by}
use Rattle.demi_logq.specs.declared.op.LogOp.{LogOp}
use Rattle.demi_streamq.specs.declared.rx_op.RxOp.{RxOp}
use Rattle.demi_streamq.specs.declared.tx_op.TxOp.{TxOp}
use Rattle.demi_port_core.specs.declared.place.QToken.{QToken}
use Rattle.demi_port_core.specs.declared.place.Token.{Token}
use Rattle.demi_pdpix.specs.Asks.{Asked, to_log, to_receiver, to_sender}
use Rattle.demi_pdpix.specs.Calls.{Changed, Submits, Submitted, having_lent}
use Rattle.demi_pdpix.specs.Notes.{Scanned, ScannedAt}
use Rattle.demi_pdpix.specs.Seen.{CallerValue, LogPass, RxPass, TxPass}
use Rattle.demi_pdpix.specs.declared.kind.PortKind.{PortKind}
use Rattle.demi_pdpix.specs.declared.kind.PortKind.TheVariants.{Journal, Receiving, Sending}

pub ok_at : {A E : Type 0} (r : Result A E) (a : A) (P : A → Type 0) → r ≡ Ok a → P a → IfOk r P
ok_at r a P is h = subst (λ z. IfOk z P) (sym is) h

pub ok_else : {A E : Type 0} (r : Result A E) (e : E) (P : A → Type 0) → r ≡ Err e → IfOk r P
ok_else r e P is = subst (λ z. IfOk z P) (sym is) tt

pub to_journal : {D T B : Type 0} (op : LogOp) (x c : CallerValue D T B) (new : List LogPass) (t : QToken) (token : Token)
    → x ≡ c → t.token ≡ token → Changed 0 x.journal new (λ p q. Submitted p q token.0 op)
    → Submits Journal (to_log op) c (record x { journal = new }) t.token.0
to_journal op x c new t token same is changed = (
  ap (λ (z : CallerValue _ _ _). record z { journal = new }) same,
  subst (λ (y : Token). Changed 0 c.journal new (λ p q. Submitted p q y.0 op)) (sym is)
      (subst (λ (z : CallerValue _ _ _). Changed 0 z.journal new (λ p q. Submitted p q token.0 op)) same changed),
)

pub to_rx : {D T B : Type 0} (k : ℕ) (op : RxOp) (x c : CallerValue D T B) (new : List RxPass) (t : QToken) (token : Token)
    → x ≡ c → t.token ≡ token → Changed k x.rx new (λ p q. Submitted p q token.0 op)
    → Submits (Receiving k) (to_receiver op) c (record x { rx = new }) t.token.0
to_rx k op x c new t token same is changed = (
  ap (λ (z : CallerValue _ _ _). record z { rx = new }) same,
  subst (λ (y : Token). Changed k c.rx new (λ p q. Submitted p q y.0 op)) (sym is)
      (subst (λ (z : CallerValue _ _ _). Changed k z.rx new (λ p q. Submitted p q token.0 op)) same changed),
)

pub to_tx : {D T B : Type 0} (k : ℕ) (op : TxOp) (x c : CallerValue D T B) (new : List TxPass) (t : QToken) (token : Token)
    → x ≡ c → t.token ≡ token → Changed k x.tx new (λ p q. Submitted p q token.0 op)
    → Submits (Sending k) (to_sender op) c (record x { tx = new }) t.token.0
to_tx k op x c new t token same is changed = (
  ap (λ (z : CallerValue _ _ _). record z { tx = new }) same,
  subst (λ (y : Token). Changed k c.tx new (λ p q. Submitted p q y.0 op)) (sym is)
      (subst (λ (z : CallerValue _ _ _). Changed k z.tx new (λ p q. Submitted p q token.0 op)) same changed),
)

-- what was asked with a lent array is asked with the array, by the caller that lent it
pub lent_to : {D T B : Type 0} (kind : PortKind) (asked : List HalfValue → Asked) (x c e : CallerValue D T B) (heap : HeapPassValue) (dev sga : List HalfValue) (token : ℕ)
    → x ≡ c → heap ≡ loaned_by x.heap (length sga) → dev ≡ sga → Submits kind (asked dev) (record x { heap = heap }) e token
    → Submits kind (asked sga) (having_lent c (length sga)) e token
lent_to kind asked x c e heap dev sga token same lends is submits =
    let becomes : record x { heap = heap } ≡ having_lent c (length sga) =
    ap (λ (h : HeapPassValue). record x { heap = h }) lends ∙ ap (λ (z : CallerValue _ _ _). having_lent z (length sga)) same in
    subst (λ (z : CallerValue _ _ _). Submits kind (asked sga) z e token) becomes (subst (λ (s : List HalfValue). Submits kind (asked s) (record x { heap = heap }) e token) is submits)

-- what a scan took, by the kind of the port
pub scan_of_journal : {D T B : Type 0} (kind : PortKind) (mask bits : List ℕ) (x c : CallerValue D T B) (new : List LogPass) → Journal ≡ kind → x ≡ c → Changed 0 x.journal new (Scanned mask bits) → ScannedAt kind mask bits c (record x { journal = new })
scan_of_journal kind mask bits x c new is same changed = subst (λ (k : PortKind). ScannedAt k mask bits c (record x { journal = new })) is
    (ap (λ (z : CallerValue _ _ _). record z { journal = new }) same, subst (λ (z : CallerValue _ _ _). Changed 0 z.journal new (Scanned mask bits)) same changed)

pub scan_of_rx : {D T B : Type 0} (k : ℕ) (kind : PortKind) (mask bits : List ℕ) (x c : CallerValue D T B) (new : List RxPass) → Receiving k ≡ kind → x ≡ c → Changed k x.rx new (Scanned mask bits) → ScannedAt kind mask bits c (record x { rx = new })
scan_of_rx k kind mask bits x c new is same changed = subst (λ (z : PortKind). ScannedAt z mask bits c (record x { rx = new })) is
    (ap (λ (z : CallerValue _ _ _). record z { rx = new }) same, subst (λ (z : CallerValue _ _ _). Changed k z.rx new (Scanned mask bits)) same changed)

pub scan_of_tx : {D T B : Type 0} (k : ℕ) (kind : PortKind) (mask bits : List ℕ) (x c : CallerValue D T B) (new : List TxPass) → Sending k ≡ kind → x ≡ c → Changed k x.tx new (Scanned mask bits) → ScannedAt kind mask bits c (record x { tx = new })
scan_of_tx k kind mask bits x c new is same changed = subst (λ (z : PortKind). ScannedAt z mask bits c (record x { tx = new })) is
    (ap (λ (z : CallerValue _ _ _). record z { tx = new }) same, subst (λ (z : CallerValue _ _ _). Changed k z.tx new (Scanned mask bits)) same changed)
