-- Served, and whole: what stands on all links and the log together.
use Rattle.std.specs.Prelude.{◌≡◌, ◌≢◌, ℕ, ◌+◌, ◌<◌, ◌≤◌, ◌⊎◌, Bool, false, ◌==◌, List, [], ◌∷◌, ◌++◌, length, take, drop, flat_map, slice_get, count_by, Some, IfSome, IsTrue}
use Rattle.std.specs.List.{AllByRecursion, AllZip, list_any}
use Rattle.demi_spec.specs.Request.{Put}
use Rattle.demi_spec.specs.Input.{Request_of, asked}
use Rattle.demi_spec.specs.Record.{Record}
use Rattle.demi_spec.specs.Reply.{Answer, Reply, IsReply, Stored, spelling}
use Rattle.demi_served.specs.Talks.{LinkRun, Run, Talk, all_of}
use Rattle.demi_served.specs.Answers.{AnswersEach, version_of, is_stored}

-- R holds of each element and each later one
abbrev pub Pairwise : {X : Type 0} → (X → X → Type 0) → List X → Type 0
Pairwise R [] = Unit {0}
Pairwise R (x ∷ xs) = AllByRecursion (R x) xs × Pairwise R xs

-- R holds of each place and the element there; the first has this place
abbrev pub Placed : {X : Type 0} → (ℕ → X → Type 0) → ℕ → List X → Type 0
Placed R i [] = Unit {0}
Placed R i (x ∷ xs) = R i x × Placed R (i + 1) xs

-- R holds of the versions of two replies, where both have one
abbrev pub Versions : (ℕ → ℕ → Type 0) → Reply → Reply → Type 0
Versions R a b = IfSome (version_of a.answer) (λ v. IfSome (version_of b.answer) (λ w. R v w))

-- along a link no version is below an earlier one, and a stored reply's is above each earlier one
abbrev pub NeverFalls : Reply → Reply → Type 0
NeverFalls earlier later = Versions (λ v w. (v ≤ w) × (IsTrue (is_stored later.answer) → v < w)) earlier later

-- two replies of one worker have different sequence numbers, and the one with the greater number has no smaller version
pub record InStep (a b : Reply) : Type 0 where
  pub differ : a.worker ≡ b.worker → a.sequence ≢ b.sequence
  pub rises : a.worker ≡ b.worker → a.sequence < b.sequence → Versions (λ v w. v ≤ w) a b
  pub falls : a.worker ≡ b.worker → b.sequence < a.sequence → Versions (λ v w. w ≤ v) a b

-- The replies of all links are those of one store.
pub record Consistent (run : Run) (talks : List Talk) : Type 0 where
  pub answers : Placed (λ link t. AnswersEach run link 0 t.asks t.replies) 0 talks
  pub links : AllByRecursion (λ t. Pairwise NeverFalls t.replies) talks
  pub counted : AllByRecursion (λ r. 1 ≤ r.sequence) (all_of talks)
  pub workers : Pairwise InStep (all_of talks)

-- the record is that of a put which its link asked
abbrev pub IsAsked : List Talk → Record → Type 0
IsAsked talks r = (t : Talk) × (slice_get talks r.link ≡ Some t) × (slice_get t.asks r.index ≡ Some (Request_of (Put r.key r.value)))

-- two records are of different requests
abbrev pub OfTwoRequests : Record → Record → Type 0
OfTwoRequests a b = a.link ≡ b.link → a.index ≢ b.index

-- Each new record is one put of one link, and no put has two.
pub record Recorded (run : Run) (talks : List Talk) : Type 0 where
  pub asked : AllByRecursion (IsAsked talks) (drop run.old run.records)
  pub once : Pairwise OfTwoRequests (drop run.old run.records)

-- all replies were written, or all but the end of the last
abbrev pub Torn : List ℕ → List Reply → Type 0
Torn written replies =
    (written ≡ flat_map spelling replies)
    ⊎ ((before : List Reply) × (last : Reply) × (k : ℕ) × (replies ≡ before ++ last ∷ [])
    × (k < length (spelling last)) × (written ≡ flat_map spelling before ++ take k (spelling last)))

-- the talk is what was read of a link and what was written to it
pub record TornTalk (link : LinkRun) (talk : Talk) : Type 0 where
  pub asks : talk.asks ≡ asked link.read link.ended
  pub fits : AllByRecursion IsReply talk.replies
  pub written : Torn link.written talk.replies

-- What stands at each end of a session, also after faults.
pub record Served (run : Run) : Type 0 where
  pub talks : List Talk
  pub read : AllZip TornTalk run.links talks
  pub consistent : Consistent run talks
  pub recorded : Recorded run talks

-- each request that was read has its reply, and each reply was written
pub record WholeTalk (link : LinkRun) (talk : Talk) : Type 0 where
  pub asks : talk.asks ≡ asked link.read link.ended
  pub fits : AllByRecursion IsReply talk.replies
  pub written : link.written ≡ flat_map spelling talk.replies
  pub each : length talk.replies ≡ length talk.asks

abbrev pub same_worker : Reply → Reply → Bool
same_worker a b = b.worker == a.worker

-- whether an answer is that of a put which was stored as this version
abbrev pub stores_as : ℕ → Answer → Bool
stores_as version (Stored v value) = v == version
stores_as version other = false

abbrev pub stored_as : ℕ → Reply → Bool
stored_as version r = stores_as version r.answer

-- What stands where nothing failed: it served, each request has its reply, a worker with n replies numbered them from
-- 1 to n, and each new record is that of a stored reply.
pub record Whole (run : Run) : Type 0 where
  pub talks : List Talk
  pub read : AllZip WholeTalk run.links talks
  pub consistent : Consistent run talks
  pub recorded : Recorded run talks
  pub numbered : AllByRecursion (λ r. r.sequence ≤ count_by (same_worker r) (all_of talks)) (all_of talks)
  pub stored : Placed (λ v r. IsTrue (list_any (stored_as v) (all_of talks))) (run.old + 1) (drop run.old run.records)
