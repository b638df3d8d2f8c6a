-- How the text of a link ends that was read to its end.
use Rattle.std.specs.Prelude.{List}
use Rattle.demi_link.specs.declared.phase.Cause.{Cause}
use Rattle.demi_link.specs.declared.phase.Cause.TheVariants as cause
use Rattle.demi_served.specs.Talks.{LinkRun}
use Rattle.demi_spec.specs.Input.{Ending, Clean, EndFrame, Open, Parses, Refused}
use Rattle.demi_spec.specs.Request.{Request}

-- how the text of a link ends, where its input came to an end
abbrev pub ending_of : Cause → Ending
ending_of cause.Clean = Clean
ending_of cause.Bye = EndFrame
ending_of (cause.Refused code) = Refused code
ending_of other = Open

-- What was read is requests and ends as the cause says.
pub record ReadToEnd (c : Cause) (l : LinkRun) : Type 0 where
  pub requests : List Request
  pub parses : Parses requests (ending_of c) l.ended l.read
