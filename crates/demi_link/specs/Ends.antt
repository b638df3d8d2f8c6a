-- How a link begins and ends.
use Rattle.std.specs.Prelude.{ℕ, true, [], None}
use Rattle.demi_link.specs.Talks.{DeskValue, new_talk}
use Rattle.demi_link.specs.declared.phase.Cause.{Cause}
use Rattle.demi_link.specs.declared.phase.Cause.TheVariants as cause

-- a link that did nothing
abbrev pub new_desk : ℕ → ℕ → DeskValue
new_desk link worker = record { link = link; worker = worker; index = 0; decoder = record { rest = []; last = None; stop = None; hungry = true }; talk = new_talk worker }

-- its input came to an end: its last byte, an end frame or a refusal
abbrev pub IsDone : Cause → Type 0
IsDone cause.Clean = Unit {0}
IsDone cause.Bye = Unit {0}
IsDone (cause.Refused code) = Unit {0}
IsDone cause.ReadFault = ⊥
IsDone cause.WriteFault = ⊥
IsDone cause.LogFault = ⊥
IsDone cause.NoMemory = ⊥
IsDone cause.Lost = ⊥

-- it was not lost
abbrev pub IsKnown : Cause → Type 0
IsKnown cause.Clean = Unit {0}
IsKnown cause.Bye = Unit {0}
IsKnown (cause.Refused code) = Unit {0}
IsKnown cause.ReadFault = Unit {0}
IsKnown cause.WriteFault = Unit {0}
IsKnown cause.LogFault = Unit {0}
IsKnown cause.NoMemory = Unit {0}
IsKnown cause.Lost = ⊥
