-- What a reply answers: what the store on one thread says after the records that the reply names.
use Rattle.std.specs.Prelude.{◌≡◌, ℕ, ◌+◌, ◌-◌, ◌<◌, ◌≤◌, Bool, true, false, List, [], ◌∷◌, ◌++◌, length, take, Option, Some, None, IfSome, IsTrue}
use Rattle.demi_spec.specs.Input.{Asked}
use Rattle.demi_spec.specs.Record.{Record}
use Rattle.demi_spec.specs.Reply.{Answer, Reply, Stored, Found, Missing, Refused, Bye, Full}
use Rattle.demi_spec.specs.Store.{answer, added}
use Rattle.demi_served.specs.Talks.{Run}

-- the version that an answer names; a bye and a refusal name none
abbrev pub version_of : Answer → Option ℕ
version_of (Stored version value) = Some version
version_of (Found version value) = Some version
version_of (Missing version) = Some version
version_of (Full version) = Some version
version_of (Refused code) = None
version_of Bye = None

abbrev pub is_stored : Answer → Bool
is_stored (Stored version value) = true
is_stored (Found version value) = false
is_stored (Missing version) = false
is_stored (Full version) = false
is_stored (Refused code) = false
is_stored Bye = false

-- the records on which an answer was given: all that it names, but for a stored put its own
abbrev pub looked_at : List Record → Answer → List Record
looked_at records (Stored version value) = take (version - 1) records
looked_at records (Found version value) = take version records
looked_at records (Missing version) = take version records
looked_at records (Full version) = take version records
looked_at records (Refused code) = []
looked_at records Bye = []

-- An answer stands for the request of a link with this index: the store on one thread gives it on the records that
-- were looked at, it names records of this log, and a stored put's record is the last that it names.
pub record Answers (run : Run) (link index : ℕ) (q : Asked) (a : Answer) : Type 0 where
  pub said : answer (looked_at run.records a) run.limit q ≡ a
  pub names : IfSome (version_of a) (λ v. (run.old ≤ v) × (v ≤ length run.records))
  pub stores : IsTrue (is_stored a)
      → IfSome (version_of a) (λ v. (run.old < v) × (take v run.records ≡ looked_at run.records a ++ added (looked_at run.records a) run.limit link index q))

-- each reply stands where a request does, and answers it; the first has this index
abbrev pub AnswersEach : Run → ℕ → ℕ → List Asked → List Reply → Type 0
AnswersEach run link index asks [] = Unit {0}
AnswersEach run link index [] (r ∷ replies) = ⊥
AnswersEach run link index (q ∷ asks) (r ∷ replies) = Answers run link index q r.answer × AnswersEach run link (index + 1) asks replies
