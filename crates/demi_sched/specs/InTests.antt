-- What the coroutine of the tests answers.
use Rattle.std.specs.Prelude.{Bool, true, false, [], ◌∷◌, Option, Some, None}
use Rattle.demi_port_core.specs.declared.place.Token.{Token}
use Rattle.demi_sched.specs.declared.next.Next.{Next}
use Rattle.demi_sched.specs.declared.next.Next.TheVariants.{Wait, Yield, Ended}

-- it is over, waits for a token of port 0, or is to be polled again
abbrev pub answer_of : Bool → Option Token → Next
answer_of true t = Ended
answer_of false None = Yield
answer_of false (Some t) = Wait (record { items = record { port = 0; token = t } ∷ [] })
