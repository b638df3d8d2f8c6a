-- What a link's input asks, request by request.
use Rattle.std.specs.Prelude.{ℕ, ◌+◌, ◌==◌, if◌then◌else◌, List, [], take, drop}
use Rattle.demi_spec.specs.Request as request
use Rattle.demi_spec.specs.Input.{Asked, Request_of, Refused_end}
use Rattle.demi_audit.specs.declared.ask.Ask.{Ask}
use Rattle.demi_audit.specs.declared.ask.Ask.TheVariants.{Put, Get, End, Refused}

-- the key and the value of a request that stands at the front of these bytes, behind six bytes of head
abbrev pub key_in : Ask → List ℕ → List ℕ
key_in (Put key value) bytes = take key (drop 6 bytes)
key_in (Get key) bytes = take key (drop 6 bytes)
key_in End bytes = []
key_in (Refused code) bytes = []

abbrev pub value_in : Ask → List ℕ → List ℕ
value_in (Put key value) bytes = take value (drop key (drop 6 bytes))
value_in (Get key) bytes = []
value_in End bytes = []
value_in (Refused code) bytes = []

-- what is asked there
abbrev pub asks : Ask → List ℕ → Asked
asks (Put key value) bytes = Request_of (request.Put (key_in (Put key value) bytes) (value_in (Put key value) bytes))
asks (Get key) bytes = Request_of (request.Get (key_in (Get key) bytes))
asks End bytes = Request_of request.End
asks (Refused code) bytes = Refused_end code

-- what is looked at behind it
abbrev pub rest_of : Ask → List ℕ → List ℕ
rest_of (Put key value) bytes = drop (key + value) (drop 6 bytes)
rest_of (Get key) bytes = drop key (drop 6 bytes)
rest_of End bytes = []
rest_of (Refused code) bytes = []

-- how many bytes it takes; of an end nothing is taken
abbrev pub size_of : Ask → ℕ
size_of (Put key value) = 6 + (key + value)
size_of (Get key) = 6 + key
size_of End = 0
size_of (Refused code) = 0

-- the request with this kind and these lengths
abbrev pub ask_by : ℕ → ℕ → ℕ → Ask
ask_by kind key value = if kind == 1 then Put key value else if kind == 2 then Get key else End
