-- Worked examples of the auditor's rules: they compute.
use Rattle.std.specs.Prelude.{◌≡◌, ℕ, true, false, List, [], ◌∷◌, refl, Some, None}
use Rattle.demi_spec.specs.Request.{Put}
use Rattle.demi_spec.specs.Input.{Asked, Request_of}
use Rattle.demi_spec.specs.Reply as spoken
use Rattle.demi_spec.specs.Reply.{Reply}
use Rattle.demi_served.specs.Talks.{Run}
use Rattle.demi_audit.specs.Turns.{turn_of}
use Rattle.demi_audit.specs.Verdict.{EntryAt, Heard, ReplyAt, first_fault}
use Rattle.demi_audit.specs.declared.heard.AnswerKind.TheVariants.{Stored}
use Rattle.demi_audit.specs.declared.heard.HeardReply.{HeardReply}

-- a stored reply of worker 0, by its number and its version
abbrev stored : ℕ → ℕ → HeardReply
stored sequence version = record { worker = 0; sequence = sequence; kind = Stored; version = version; from = 0; length = 0 }

numbers_rise : turn_of (stored 1 1 ∷ stored 2 2 ∷ []) (stored 1 1 ∷ []) (stored 2 2) ≡ true
numbers_rise = refl

a_number_is_given_twice : turn_of (stored 1 1 ∷ stored 1 2 ∷ []) (stored 1 1 ∷ []) (stored 1 2) ≡ false
a_number_is_given_twice = refl

a_number_is_left_out : turn_of (stored 2 1 ∷ []) [] (stored 2 1) ≡ false
a_number_is_left_out = refl

-- the reply that comes later in the transcript has the lower number and the greater version
a_later_reply_overtakes : turn_of (stored 2 1 ∷ stored 1 2 ∷ []) [] (stored 2 1) ≡ false
a_later_reply_overtakes = refl

-- a log with one record, that of a put of link 0
abbrev one_record : Run
one_record = record { links = []; records = record { link = 0; index = 0; key = 0x61 ∷ []; value = 0x31 ∷ [] } ∷ []; old = 0; limit = 5 }

abbrev put : Asked
put = Request_of (Put (0x61 ∷ []) (0x31 ∷ []))

-- the put was stored as this version
abbrev reply : ℕ → Reply
reply version = record { worker = 0; sequence = 1; answer = spoken.Stored version (0x31 ∷ []) }

-- one link that asked and said this, and said more
abbrev heard : List Asked → List Reply → List ℕ → List Heard
heard asks replies rest = record { talk = record { asks = asks; replies = replies }; rest = rest } ∷ []

all_is_explained : first_fault one_record (heard (put ∷ []) (reply 1 ∷ []) []) ≡ None
all_is_explained = refl

another_version : first_fault one_record (heard (put ∷ []) (reply 2 ∷ []) []) ≡ Some (ReplyAt 0 0)
another_version = refl

no_reply_came : first_fault one_record (heard (put ∷ []) [] []) ≡ Some (ReplyAt 0 0)
no_reply_came = refl

bytes_follow : first_fault one_record (heard (put ∷ []) (reply 1 ∷ []) (0x81 ∷ [])) ≡ Some (ReplyAt 0 1)
bytes_follow = refl

a_reply_was_not_asked_for : first_fault one_record (heard [] (reply 1 ∷ []) []) ≡ Some (ReplyAt 0 0)
a_reply_was_not_asked_for = refl

nobody_put_the_record : first_fault one_record (heard [] [] []) ≡ Some (EntryAt 1)
nobody_put_the_record = refl
