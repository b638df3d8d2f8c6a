-- Outcomes of some sessions.
use Rattle.std.proofs.Common.{◌≡◌, [], ◌∷◌, refl}
use Rattle.demi_link.specs.declared.phase.Cause.TheVariants as ended
use Rattle.demi_server.specs.declared.outcome.Outcome.TheVariants as outcome
use Rattle.demi_server.specs.Outcomes.{outcome_by}

all_ended_well : outcome_by (ended.Clean ∷ ended.Bye ∷ []) ≡ outcome.Served
all_ended_well = refl

memory_before_the_log : outcome_by (ended.LogFault ∷ ended.NoMemory ∷ []) ≡ outcome.NoMemory
memory_before_the_log = refl

the_log_before_a_read : outcome_by (ended.ReadFault ∷ ended.LogFault ∷ []) ≡ outcome.LogFault
the_log_before_a_read = refl

a_read_before_a_write : outcome_by (ended.WriteFault ∷ ended.Clean ∷ ended.ReadFault ∷ ended.ReadFault ∷ []) ≡ outcome.ReadFault 2
a_read_before_a_write = refl

a_write_before_a_refusal : outcome_by (ended.Refused 3 ∷ ended.WriteFault ∷ []) ≡ outcome.WriteFault 1
a_write_before_a_refusal = refl

the_lowest_of_two : outcome_by (ended.Bye ∷ ended.Refused 2 ∷ ended.Refused 1 ∷ []) ≡ outcome.Refused 1 2
the_lowest_of_two = refl
