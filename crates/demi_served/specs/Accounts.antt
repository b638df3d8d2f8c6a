-- Accounted: what the one history of the store's port has of each reply and each record of a session.
use Rattle.std.specs.Prelude.{◌≡◌, ◌≢◌, ℕ, ◌<◌, ◌≤◌, ◌⊎◌, List, [], ◌∷◌, ◌++◌, length, map, slice_get, Option, Some, None}
use Rattle.std.specs.List.{AllByRecursion}
use Rattle.demi_port.specs.Seen.{says}
use Rattle.demi_spec.specs.Input.{Asked}
use Rattle.demi_spec.specs.Record.{Record}
use Rattle.demi_spec.specs.Reply.{Reply}
use Rattle.demi_store.specs.History.{Standing, standing, struck_at}
use Rattle.demi_store.specs.Laws.{StoreBasis}
use Rattle.demi_store.specs.declared.ask.StoreAsk.{StoreAsk}
use Rattle.demi_store.specs.declared.told.StoreTold.{StoreTold}
use Rattle.demi_served.specs.Talks.{Run, Talk}
use Rattle.demi_served.specs.Served.{Pairwise, IsAsked}
use Rattle.demi_served.specs.Asking.{Ask, Puts, Gets, Stops, asks_for, ask_of, plain_answer, IsToldTo}

-- an entry of the store's history: the pass, the token and what the operation says
abbrev pub StoreEntry : Type 0
StoreEntry = ℕ × (ℕ × StoreAsk)

-- what an entry asks
abbrev pub asks_at : StoreEntry → Ask
asks_at e = asks_for e.1.1.op

-- what the operations of a history ask, by place
abbrev pub asked_in : List StoreAsk → List Ask
asked_in history = map (λ s. asks_for s.op) history

-- what stands at the end of a history
abbrev pub standing_at_end : StoreBasis → List StoreAsk → List (ℕ × StoreTold) → Standing
standing_at_end b history trail = standing b.limit b.records (struck_at trail) history

-- nothing more, or the record of the put at whose place the disk failed
abbrev pub IsLeft : Option ℕ → List Ask → List Record → Type 0
IsLeft fault asks extra =
    (extra ≡ [])
    ⊎ ((p : ℕ) × (r : Record) × (fault ≡ Some p) × (slice_get asks p ≡ Some (Puts r)) × (extra ≡ r ∷ []))

-- The records of a log at the session's end: those that the history leaves, and at most one more, that of the put at
-- whose place the disk failed, where its entry was left whole.
pub record LeftInLog (b : StoreBasis) (history : List StoreAsk) (trail : List (ℕ × StoreTold))
    (records : List Record) : Type 0 where
  pub extra : List Record
  pub all : records ≡ (standing_at_end b history trail).records ++ extra
  pub left : IsLeft (standing_at_end b history trail).fault (asked_in history) extra

-- the reply's operation stands at the place p with the reply's worker and number, and the reply is what is said there
pub record IsAnsweredAt (b : StoreBasis) (history : List StoreEntry) (trail : List (ℕ × StoreTold)) (ask : Ask)
    (r : Reply) (p : ℕ) : Type 0 where
  pub entry : StoreEntry
  pub here : slice_get history p ≡ Some entry
  pub worker : entry.0 ≡ r.worker
  pub sequence : entry.1.1.sequence ≡ r.sequence
  pub asks : asks_at entry ≡ ask
  pub said : IsToldTo b (says history) trail p r.answer

-- a reply whose request asks the store has an operation of its own; another is what stands for its request
abbrev pub IsAccounted : StoreBasis → List StoreEntry → List (ℕ × StoreTold) → Asked → Reply → Option Ask → Type 0
IsAccounted b history trail q r (Some ask) = (p : ℕ) × IsAnsweredAt b history trail ask r p
IsAccounted b history trail q r None = r.answer ≡ plain_answer q

-- it asks something, and does not stop the store
abbrev pub IsNoStop : Ask → Type 0
IsNoStop (Puts r) = Unit {0}
IsNoStop (Gets key) = Unit {0}
IsNoStop Stops = ⊥

-- the second of two operations, neither of them a stop, has the greater number
abbrev pub IsLater : StoreAsk → StoreAsk → Type 0
IsLater first second = IsNoStop (asks_for first.op) → IsNoStop (asks_for second.op) → first.sequence < second.sequence

-- along a link: one worker, and rising numbers
abbrev pub IsNext : Reply → Reply → Type 0
IsNext first second = (first.worker ≡ second.worker) × (first.sequence < second.sequence)

-- Every reply and every record of a session is accounted for by the one history of the store's port.
pub record Accounted (b : StoreBasis) (history : List StoreEntry) (trail : List (ℕ × StoreTold)) (run : Run)
    (talks : List Talk) : Type 0 where
  -- the base is the old records and the limit
  pub old : length b.records ≡ run.old
  pub limit : b.limit ≡ run.limit
  -- the log has the records of the history
  pub logged : LeftInLog b (says history) trail run.records
  -- the puts of the history are puts of the links, each at most once
  pub puts : (p : ℕ) (x : StoreEntry) (r : Record) → slice_get history p ≡ Some x → asks_at x ≡ Puts r
      → IsAsked talks r
  pub once : (p q : ℕ) (x y : StoreEntry) (r s : Record) → slice_get history p ≡ Some x → slice_get history q ≡ Some y
      → asks_at x ≡ Puts r → asks_at y ≡ Puts s
      → r.link ≡ s.link → r.index ≡ s.index → p ≡ q
  -- the asks of one worker have numbers from 1 on, which rise by place
  pub counted : (p : ℕ) (x : StoreEntry) → slice_get history p ≡ Some x → IsNoStop (asks_at x) → 1 ≤ x.1.1.sequence
  pub rises : (p q : ℕ) (x y : StoreEntry) → p < q → slice_get history p ≡ Some x → slice_get history q ≡ Some y
      → x.0 ≡ y.0 → IsLater x.1.1 y.1.1
  -- each reply stands where a request does, and is accounted for
  pub replied : (link index : ℕ) (t : Talk) (r : Reply) → slice_get talks link ≡ Some t
      → slice_get t.replies index ≡ Some r
      → (q : Asked) × (slice_get t.asks index ≡ Some q) × (1 ≤ r.sequence) × IsAccounted b history trail q r
      (ask_of link index q)
  -- all replies of a link have one worker, and their numbers rise
  pub along : AllByRecursion (λ t. Pairwise IsNext t.replies) talks
  -- replies of one worker on two links have different numbers
  pub apart : (link other i j : ℕ) (t u : Talk) (r s : Reply) → link ≢ other → slice_get talks link ≡ Some t
      → slice_get talks other ≡ Some u
      → slice_get t.replies i ≡ Some r → slice_get u.replies j ≡ Some s → r.worker ≡ s.worker
      → r.sequence ≢ s.sequence
