-- What links see of their worker's caller, and what calls do to what is outstanding of it.
use Rattle.std.specs.Prelude.{◌≡◌, ◌≢◌, ℕ, zero, suc, ◌+◌, ◌*◌, false, cond, List, [], ◌∷◌}
use Rattle.demi_port.specs.Seen.{PassValue}
use Rattle.demi_pdpix.specs.Owing.{IsDueAt, one_more_at, same_kind}
use Rattle.demi_pdpix.specs.Seen.{CallerValue, DemiId}
use Rattle.demi_pdpix.specs.declared.kind.PortKind.{PortKind}
use Rattle.demi_pdpix.specs.declared.outcomes.Answer.{Answer}
use Rattle.demi_pdpix.specs.declared.outcomes.Answer.TheVariants.{NotYet, Ready, Spent, Unknown}
use Rattle.demi_pdpix.specs.declared.outcomes.QResult.{QResult}
use Rattle.demi_store.specs.Laws.{StoreBasis}
use Rattle.demi_store.specs.declared.ask.StoreAsk.{StoreAsk}
use Rattle.demi_store.specs.declared.told.StoreTold.{StoreTold}
use Rattle.demi_link.specs.Sights.{Side, side_of}

-- a worker's caller, and the whole that it calls
abbrev pub Caller : Type 0
Caller = CallerValue StoreAsk StoreTold StoreBasis

abbrev pub Whole : Type 0
Whole = DemiId StoreBasis

-- the ports of a link, by number
abbrev pub rx_port : ℕ → ℕ
rx_port link = 3 + 2 * link

abbrev pub tx_port : ℕ → ℕ
tx_port link = 4 + 2 * link

-- what a pass has that did nothing
abbrev pub no_side : {D T : Type 0} → Side D T
no_side = record { seen = 0; submitted = []; redeemed = []; known = record { device = false; heard = []; told = []; floor = 0; handed = [] } }

-- what the pass of this index has, or where there is none, what one has that did nothing
abbrev pub side_at : {D T B : Type 0} → List (PassValue D T B) → ℕ → Side D T
side_at [] k = no_side
side_at (p ∷ ps) zero = side_of p
side_at (p ∷ ps) (suc k) = side_at ps k

-- the passes of two callers have the same: that of the memory queues, that of the store's port, those of the receiving ports, those of the sending ones
abbrev pub SameMemory : Caller → Caller → Type 0
SameMemory c e = side_of e.memory ≡ side_of c.memory

abbrev pub SameStore : Caller → Caller → Type 0
SameStore c e = side_of e.service ≡ side_of c.service

abbrev pub SameRx : Caller → Caller → Type 0
SameRx c e = (k : ℕ) → side_at e.rx k ≡ side_at c.rx k

abbrev pub SameTx : Caller → Caller → Type 0
SameTx c e = (k : ℕ) → side_at e.tx k ≡ side_at c.tx k

-- those of the links but one
abbrev pub SameRxBut : ℕ → Caller → Caller → Type 0
SameRxBut link c e = (k : ℕ) → link ≢ k → side_at e.rx k ≡ side_at c.rx k

abbrev pub SameTxBut : ℕ → Caller → Caller → Type 0
SameTxBut link c e = (k : ℕ) → link ≢ k → side_at e.tx k ≡ side_at c.tx k

-- all of them, and all but one
abbrev pub SameSides : Caller → Caller → Type 0
SameSides c e = SameStore c e × SameRx c e × SameTx c e × SameMemory c e

abbrev pub SameButMemory : Caller → Caller → Type 0
SameButMemory c e = SameStore c e × SameRx c e × SameTx c e

abbrev pub SameButRx : ℕ → Caller → Caller → Type 0
SameButRx link c e = SameStore c e × SameRxBut link c e × SameTx c e × SameMemory c e

abbrev pub SameButTx : ℕ → Caller → Caller → Type 0
SameButTx link c e = SameStore c e × SameRx c e × SameTxBut link c e × SameMemory c e

abbrev pub SameButStore : Caller → Caller → Type 0
SameButStore c e = SameRx c e × SameTx c e × SameMemory c e

-- at this port so many more than f says
abbrev pub more_at : PortKind → ℕ → (PortKind → ℕ) → PortKind → ℕ
more_at here many f kind = cond (same_kind here kind) (f kind + many) (f kind)

-- of the caller as much is outstanding as before
abbrev pub OwesSame : Caller → Caller → Type 0
OwesSame c e = (n : ℕ) (f : PortKind → ℕ) → IsDueAt n f c → IsDueAt n f e

-- one more, at this port
abbrev pub OwesMore : PortKind → Caller → Caller → Type 0
OwesMore kind c e = (n : ℕ) (f : PortKind → ℕ) → IsDueAt n f c → IsDueAt n (one_more_at kind f) e

-- so many less, at this port
abbrev pub OwesLess : PortKind → ℕ → Caller → Caller → Type 0
OwesLess kind many c e = (n : ℕ) (f : PortKind → ℕ) → IsDueAt n (more_at kind many f) c → IsDueAt n f e

-- an outcome that came is of one kind of port
abbrev pub IsIn : {L P O S T B R : Type 0} → (QResult L P O S T B → (R → Type 0) → Type 0) → Answer L P O S T B → Type 0
IsIn Is (Ready place came) = Is came (λ _. Unit {0})
IsIn Is NotYet = Unit {0}
IsIn Is Spent = Unit {0}
IsIn Is Unknown = Unit {0}
