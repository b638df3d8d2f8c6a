-- The outcome of a session, by how its links ended.
use Rattle.std.specs.Prelude.{◌≢◌, ℕ, ◌+◌, List, [], ◌∷◌, Option, Some, None, option_map}
use Rattle.std.specs.Option.{option_or}
use Rattle.demi_port_core.specs.History.{Each}
use Rattle.demi_link.specs.declared.phase.Cause.{Cause}
use Rattle.demi_link.specs.declared.phase.Cause.TheVariants as ended
use Rattle.demi_server.specs.declared.outcome.Outcome.{Outcome}
use Rattle.demi_server.specs.declared.outcome.Outcome.TheVariants as outcome

-- the least place of the list at which f tells something, with what it tells there; the first place is n
abbrev pub lowest : {A B : Type 0} → (A → Option B) → ℕ → List A → Option (ℕ × B)
lowest f n [] = None
lowest f n (x ∷ xs) = option_or (option_map (λ b. (n, b)) (f x)) (lowest f (n + 1) xs)

-- that a link ended for want of memory
abbrev pub no_memory : Cause → Option (Unit {0})
no_memory ended.NoMemory = Some tt
no_memory other = None

-- that it ended by the log
abbrev pub log_fault : Cause → Option (Unit {0})
log_fault ended.LogFault = Some tt
log_fault other = None

-- by a read
abbrev pub read_fault : Cause → Option (Unit {0})
read_fault ended.ReadFault = Some tt
read_fault other = None

-- by a write
abbrev pub write_fault : Cause → Option (Unit {0})
write_fault ended.WriteFault = Some tt
write_fault other = None

-- by a frame that was refused, with this code
abbrev pub refusal : Cause → Option ℕ
refusal (ended.Refused code) = Some code
refusal other = None

-- the first of these kinds of which there is one
abbrev pub first_kind : Option (ℕ × Unit {0}) → Option (ℕ × Unit {0}) → Option (ℕ × Unit {0}) → Option (ℕ × Unit {0}) → Option (ℕ × ℕ) → Outcome
first_kind (Some x) log read write refused = outcome.NoMemory
first_kind None (Some x) read write refused = outcome.LogFault
first_kind None None (Some x) write refused = outcome.ReadFault x.0
first_kind None None None (Some x) refused = outcome.WriteFault x.0
first_kind None None None None (Some x) = outcome.Refused x.0 x.1
first_kind None None None None None = outcome.Served

-- the outcome of a session whose links, by place, ended so
abbrev pub outcome_by : List Cause → Outcome
outcome_by causes = first_kind (lowest no_memory 0 causes) (lowest log_fault 0 causes) (lowest read_fault 0 causes) (lowest write_fault 0 causes) (lowest refusal 0 causes)

-- no link was lost
abbrev pub NoneLost : List Cause → Type 0
NoneLost = Each (λ c. c ≢ ended.Lost)

-- the outcome of a session whose link k alone ended so, where all others are served
abbrev pub told_of : ℕ → Cause → Outcome
told_of k ended.Clean = outcome.Served
told_of k ended.Bye = outcome.Served
told_of k (ended.Refused code) = outcome.Refused k code
told_of k ended.ReadFault = outcome.ReadFault k
told_of k ended.WriteFault = outcome.WriteFault k
told_of k ended.LogFault = outcome.LogFault
told_of k ended.NoMemory = outcome.NoMemory
told_of k ended.Lost = outcome.Served

-- the place of an outcome's kind in their order
abbrev pub rank_of : Outcome → ℕ
rank_of (outcome.BadLog at) = 0
rank_of outcome.NoMemory = 1
rank_of outcome.LogFault = 2
rank_of (outcome.ReadFault k) = 3
rank_of (outcome.WriteFault k) = 4
rank_of (outcome.Refused k code) = 5
rank_of outcome.Served = 6
