-- Where the words of the token table lie.
use Rattle.std.specs.Prelude.{ℕ, ◌+◌, ◌*◌}
use Rattle.demi_port_core.specs.declared.words.TheConstants.{TICKET, BELLS, WAKERS, FIRST_TOKEN, TOKEN_STEP}

-- the word of the ticket
abbrev pub ticket_word : ℕ
ticket_word = TICKET

-- the word of the doorbell bits
abbrev pub bells_word : ℕ
bells_word = BELLS

-- the word of the waker bits
abbrev pub wakers_word : ℕ
wakers_word = WAKERS

-- the word of the token i, which is also how many words there are with i tokens
abbrev pub token_word : ℕ → ℕ
token_word i = i * TOKEN_STEP + FIRST_TOKEN
