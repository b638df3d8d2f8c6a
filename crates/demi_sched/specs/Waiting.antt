-- What coroutines wait for, and how they stand between polls.
use Rattle.std.specs.Prelude.{ℕ, ◌+◌, ◌<◌, Bool, true, false, cond, List, [], ◌∷◌, ◌++◌}
use Rattle.demi_port_core.specs.History.{Each}
use Rattle.demi_port_core.specs.declared.place.QToken.{QToken}
use Rattle.demi_sched.specs.declared.held.Held.{Held}
use Rattle.demi_sched.specs.declared.next.Next.{Next}
use Rattle.demi_sched.specs.declared.next.Next.TheVariants.{Wait, Yield, Ended as Over}
use Rattle.demi_sched.specs.declared.state.State.{State}
use Rattle.demi_sched.specs.declared.state.State.TheVariants.{Due, Waiting, Ended}

-- how a coroutine stands after a poll that answered this
abbrev pub state_after : Next → State
state_after (Wait tokens) = Waiting tokens
state_after Yield = Due
state_after Over = Ended

-- the tokens that a coroutine in this state awaits
abbrev pub awaited : State → List QToken
awaited Due = []
awaited (Waiting tokens) = tokens.items
awaited Ended = []

-- each token that is waited for names one of so many ports
abbrev pub AreNamed : ℕ → Next → Type 0
AreNamed ports next = Each (λ (t : QToken). t.port < ports) (awaited (state_after next))

-- the tokens that coroutines await
abbrev pub all_awaited : {K : Type 0} → List (Held K) → List QToken
all_awaited [] = []
all_awaited (h ∷ hs) = awaited h.state ++ all_awaited hs

-- a coroutine in this state is over
abbrev pub has_ended : State → Bool
has_ended Due = false
has_ended (Waiting tokens) = false
has_ended Ended = true

-- how many of these are not over
abbrev pub live : {K : Type 0} → List (Held K) → ℕ
live [] = 0
live (h ∷ hs) = cond (has_ended h.state) 0 1 + live hs

-- a coroutine in this state is polled in the next round, whatever is woken
abbrev pub is_due : State → Bool
is_due Due = true
is_due (Waiting tokens) = false
is_due Ended = false

-- how many of these are
abbrev pub count_due : {K : Type 0} → List (Held K) → ℕ
count_due [] = 0
count_due (h ∷ hs) = cond (is_due h.state) 1 0 + count_due hs
