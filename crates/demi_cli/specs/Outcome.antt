-- How a run ended: its status and its text.
use Rattle.std.specs.Prelude.{ℕ, ◌==◌, if◌then◌else◌, List, [], ◌++◌, codes}
use Rattle.std.specs.Fmt.{decimal}
use Rattle.demi_core.specs.World.{WorldState, after_warn}
use Rattle.demi_cli.specs.declared.outcome.Outcome.{Outcome}
use Rattle.demi_cli.specs.declared.outcome.Outcome.TheVariants as outcome

-- the exit status of an outcome
abbrev pub status_of : Outcome → ℕ
status_of outcome.Done = 0
status_of outcome.Usage = 1
status_of outcome.ReadFault = 2
status_of outcome.WriteFault = 3
status_of outcome.PrintFault = 3
status_of outcome.LogFault = 4
status_of outcome.NoMemory = 5
status_of (outcome.Refused code) = 6
status_of (outcome.BadLog at) = 7
status_of outcome.CannotOpen = 8
status_of outcome.NotYet = 1
status_of (outcome.BadReply link index) = 9
status_of (outcome.BadEntry version) = 9

-- a code is from 1 to 5: its digit
abbrev pub digit : ℕ → List ℕ
digit code = if code == 1 then codes "1" else if code == 2 then codes "2" else if code == 3 then codes "3" else if code == 4 then codes "4" else codes "5"

-- the warning of an outcome but the first
abbrev pub text_of : Outcome → List ℕ
text_of outcome.Done = []
text_of outcome.Usage = codes "usage: demi pipe, serve, bench, check or log"
text_of outcome.ReadFault = codes "demi: read fault on link 0"
text_of outcome.WriteFault = codes "demi: write fault on link 0"
text_of outcome.PrintFault = codes "demi: write fault on output"
text_of outcome.LogFault = codes "demi: log fault"
text_of outcome.NoMemory = codes "demi: out of memory"
text_of (outcome.Refused code) = codes "demi: link 0 refused with code " ++ digit code
text_of (outcome.BadLog at) = codes "demi: bad log at byte " ++ decimal at
text_of outcome.CannotOpen = codes "demi: cannot open"
text_of outcome.NotYet = codes "demi: serve and bench are not there yet"
text_of (outcome.BadReply link index) = codes "demi: link " ++ decimal link ++ codes " reply " ++ decimal index ++ codes " is inconsistent"
text_of (outcome.BadEntry version) = codes "demi: record " ++ decimal version ++ codes " is inconsistent"

-- a world that was warned, where there is something to say; what else it tells stays
abbrev pub reported : Outcome → WorldState → WorldState
reported outcome.Done w = w
reported other w = after_warn w (text_of other)
