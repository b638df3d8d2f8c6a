-- What one worker keeps of its own pass, and what one link's coroutine keeps of its worker's.
use Rattle.std.specs.Prelude.{◌≡◌, ℕ, ◌+◌, ◌-◌, ◌==◌, ◌<◌, ◌≤◌, cond, List, [], ◌∷◌, slice_get, Option, Some, None}
use Rattle.std.specs.List.{AllByRecursion}
use Rattle.demi_port_core.specs.History.{Among}
use Rattle.demi_port_core.specs.declared.trail.Trail.{Trail}
use Rattle.demi_spec.specs.Input.{Asked}
use Rattle.demi_spec.specs.Reply.{Reply}
use Rattle.demi_store.specs.Laws.{StoreBasis}
use Rattle.demi_store.specs.declared.ask.StoreAsk.{StoreAsk}
use Rattle.demi_store.specs.declared.told.StoreTold.{StoreTold}
use Rattle.demi_served.specs.Served.{Pairwise}
use Rattle.demi_served.specs.Asking.{Ask, asks_for, ask_of, plain_answer, IsToldTo}
use Rattle.demi_served.specs.Accounts.{IsNoStop, IsLater}

-- for what a worker drew a sequence number: a link, an index on it, and the request there
pub record Draw : Type 0 where
  pub link : ℕ
  pub index : ℕ
  pub request : Asked

-- A worker: the operations that its pass submitted to the store, each with its place and token, what the pass was
-- handed, and for what each sequence number was drawn, from 1 on.
pub record Worker : Type 0 where
  pub submitted : List (ℕ × (ℕ × StoreAsk))
  pub known : Trail StoreAsk StoreTold
  pub draws : List Draw

-- the sequence number was drawn for this
abbrev pub IsDrawn : List Draw → ℕ → Draw → Type 0
IsDrawn draws sequence d = (1 ≤ sequence) × (slice_get draws (sequence - 1) ≡ Some d)

-- an operation that is no stop asks what its sequence number was drawn for
abbrev pub IsOfDraw : List Draw → ℕ × (ℕ × StoreAsk) → Type 0
IsOfDraw draws x = IsNoStop (asks_for x.1.1.op) → (d : Draw) × IsDrawn draws x.1.1.sequence d × (ask_of d.link d.index d.request ≡ Some (asks_for x.1.1.op))

-- of two draws for one link the second has the greater index
abbrev pub IsFurther : Draw → Draw → Type 0
IsFurther first second = first.link ≡ second.link → first.index < second.index

abbrev pub IsLaterAsk : ℕ × (ℕ × StoreAsk) → ℕ × (ℕ × StoreAsk) → Type 0
IsLaterAsk x y = IsLater x.1.1 y.1.1

-- What a worker keeps: it asks with the numbers that it drew, and by place its asks have rising numbers.
pub record WorkerKeeps (w : Worker) : Type 0 where
  pub asks : AllByRecursion (IsOfDraw w.draws) w.submitted
  pub rises : Pairwise IsLaterAsk w.submitted
  pub further : Pairwise IsFurther w.draws

-- A link: its worker's number, the requests for which a sequence number was drawn, in order, and the replies that were
-- pushed.
pub record Link : Type 0 where
  pub worker : ℕ
  pub drawn : List Asked
  pub replies : List Reply

-- the draws for one link
abbrev pub of_link : ℕ → List Draw → List Draw
of_link link [] = []
of_link link (d ∷ draws) = cond (d.link == link) (d ∷ of_link link draws) (of_link link draws)

-- the draws for these requests of a link, the first of which has this index
abbrev pub numbered : ℕ → ℕ → List Asked → List Draw
numbered link index [] = []
numbered link index (q ∷ asks) = record { link = link; index = index; request = q } ∷ numbered link (index + 1) asks

-- the reply was asked at the place p, and it is what is said there by what the pass was handed
pub record IsAnswered (b : StoreBasis) (w : Worker) (ask : Ask) (r : Reply) (p : ℕ) : Type 0 where
  pub token : ℕ
  pub asked : StoreAsk
  pub submitted : Among (p, (token, asked)) w.submitted
  pub sequence : asked.sequence ≡ r.sequence
  pub asks : asks_for asked.op ≡ ask
  pub said : IsToldTo b w.known.heard w.known.told p r.answer
  pub low : p < w.known.floor

-- a reply to a request that asks the store was asked; another is what stands for its request
abbrev pub IsReplied : StoreBasis → Worker → Asked → Reply → Option Ask → Type 0
IsReplied b w q r (Some ask) = (p : ℕ) × IsAnswered b w ask r p
IsReplied b w q r None = r.answer ≡ plain_answer q

-- A link's replies, the first of which has this index: each has the worker's number and a sequence number that was
-- drawn for its request, above the one before, and its answer stands.
abbrev pub RepliesKeep : StoreBasis → Worker → ℕ → ℕ → ℕ → ℕ → List Asked → List Reply → Type 0
RepliesKeep b w number link above index asks [] = Unit {0}
RepliesKeep b w number link above index [] (r ∷ replies) = ⊥
RepliesKeep b w number link above index (q ∷ asks) (r ∷ replies) =
    (r.worker ≡ number) × (above < r.sequence) × IsDrawn w.draws r.sequence (record { link = link; index = index; request = q })
    × IsReplied b w q r (ask_of link index q)
    × RepliesKeep b w number link r.sequence (index + 1) asks replies

-- What a link's coroutine keeps: the draws for its link are its own, in order, and each reply has the number and the
-- answer of its request.
pub record LinkKeeps (b : StoreBasis) (w : Worker) (link : ℕ) (k : Link) : Type 0 where
  pub own : of_link link w.draws ≡ numbered link 0 k.drawn
  pub replied : RepliesKeep b w k.worker link 0 0 k.drawn k.replies
