-- Worked examples: they compute.
use Rattle.std.specs.Prelude.{◌≡◌, ℕ, true, false, List, [], ◌∷◌, ◌++◌, flat_map, refl, Ok, Err}
use Rattle.demi_spec.specs.Request.{Put}
use Rattle.demi_spec.specs.Input.{front, parse, parse_within, EndFrame, Clean, Open, asked}
use Rattle.demi_spec.specs.Reply as reply
use Rattle.demi_spec.specs.LogText.{header, entries, entries_within, entry_front}
use Rattle.demi_spec.specs.Record.{Record, log_of, record_of, records}
use Rattle.demi_spec.specs.Store.{serial}

-- what is written for an input on these records under this limit, and the log that is left
abbrev output_on : List Record → ℕ → List ℕ → List ℕ
output_on old limit bytes = flat_map reply.spelling (serial old limit (asked bytes true)).replies

abbrev log_on : List Record → ℕ → List ℕ → List ℕ
log_on old limit bytes = log_of (old ++ (serial old limit (asked bytes true)).records)

-- on an empty log
abbrev output : List ℕ → List ℕ
output bytes = output_on [] 1000000 bytes

abbrev log : List ℕ → List ℕ
log bytes = log_on [] 1000000 bytes

-- a number in four and in eight bytes
abbrev n4 : ℕ → List ℕ
n4 n = 0 ∷ 0 ∷ 0 ∷ n ∷ []

abbrev n8 : ℕ → List ℕ
n8 n = n4 0 ++ n4 n

-- put a=1, put a=2, get a and end
abbrev put_1 : List ℕ
put_1 = 1 ∷ 1 ∷ n4 1 ++ 0x61 ∷ 0x31 ∷ []

abbrev put_2 : List ℕ
put_2 = 1 ∷ 1 ∷ n4 1 ++ 0x61 ∷ 0x32 ∷ []

abbrev get_a : List ℕ
get_a = 2 ∷ 1 ∷ n4 0 ++ 0x61 ∷ []

abbrev end : List ℕ
end = 3 ∷ 0 ∷ n4 0

-- a reply of worker 0 with this kind, sequence number, version and length
abbrev head : ℕ → ℕ → ℕ → ℕ → List ℕ
head kind sequence version size = kind ∷ 0 ∷ n8 sequence ++ n8 version ++ n4 size

-- the entry of a record of link 0 that puts a byte under the key `a`
abbrev entry_of : ℕ → ℕ → List ℕ
entry_of index value = n4 9 ++ 0 ∷ 0 ∷ n4 index ++ 1 ∷ 0x61 ∷ value ∷ []

a_put_is_parsed : parse put_1 true ≡ record { requests = Put (0x61 ∷ []) (0x31 ∷ []) ∷ []; how = Clean }
unfolding parse parse_within front
a_put_is_parsed = refl

a_put_is_stored : output put_1 ≡ head 0x81 1 1 1 ++ 0x31 ∷ []
unfolding parse parse_within front
a_put_is_stored = refl

a_put_is_logged : log put_1 ≡ header ++ entry_of 0 0x31
unfolding parse parse_within front
a_put_is_logged = refl

nothing_asked_leaves_a_header : log [] ≡ header
unfolding parse parse_within front
nothing_asked_leaves_a_header = refl

nothing_asked_has_no_reply : output [] ≡ []
unfolding parse parse_within front
nothing_asked_has_no_reply = refl

a_get_of_a_missing_key : output (2 ∷ 1 ∷ n4 0 ++ 0x62 ∷ []) ≡ head 0x83 1 0 0
unfolding parse parse_within front
a_get_of_a_missing_key = refl

gets_see_the_last_put : output (put_1 ++ get_a ++ put_2 ++ get_a ++ end) ≡
    (head 0x81 1 1 1 ++ 0x31 ∷ []) ++ (head 0x82 2 1 1 ++ 0x31 ∷ []) ++ (head 0x81 3 2 1 ++ 0x32 ∷ [])
    ++ (head 0x82 4 2 1 ++ 0x32 ∷ []) ++ head 0x85 5 0 0
unfolding parse parse_within front
gets_see_the_last_put = refl

records_keep_their_request : log (put_1 ++ get_a ++ put_2 ++ get_a ++ end) ≡ header ++ entry_of 0 0x31 ++ entry_of 2 0x32
unfolding parse parse_within front
records_keep_their_request = refl

what_follows_an_end_frame_is_no_input : (parse (end ++ put_1) true).how ≡ EndFrame
unfolding parse parse_within front
what_follows_an_end_frame_is_no_input = refl

an_empty_value : output (1 ∷ 1 ∷ n4 0 ++ 0x62 ∷ [] ++ 2 ∷ 1 ∷ n4 0 ++ 0x62 ∷ []) ≡ head 0x81 1 1 0 ++ head 0x82 2 1 0
unfolding parse parse_within front
an_empty_value = refl

a_full_store : output_on [] 1 (put_1 ++ put_2 ++ get_a) ≡ (head 0x81 1 1 1 ++ 0x31 ∷ []) ++ head 0x86 2 1 0 ++ (head 0x82 3 1 1 ++ 0x31 ∷ [])
unfolding parse parse_within front
a_full_store = refl

a_full_store_logs_nothing : log_on [] 1 (put_1 ++ put_2 ++ get_a) ≡ header ++ entry_of 0 0x31
unfolding parse parse_within front
a_full_store_logs_nothing = refl

old_records_are_found : output_on (record { link = 0; index = 0; key = 0x61 ∷ []; value = 0x31 ∷ [] } ∷ []) 1000000 get_a ≡ head 0x82 1 1 1 ++ 0x31 ∷ []
unfolding parse parse_within front
old_records_are_found = refl

-- an input that is a refused frame
abbrev refused_reply : ℕ → List ℕ
refused_reply code = head 0x84 1 0 1 ++ code ∷ []

a_kind_that_is_none : output (9 ∷ 0 ∷ 0 ∷ 1 ∷ 0 ∷ 1 ∷ []) ≡ refused_reply 1
unfolding parse parse_within front
a_kind_that_is_none = refl

a_put_without_a_key : output (1 ∷ 0 ∷ 0 ∷ 1 ∷ 0 ∷ 1 ∷ []) ≡ refused_reply 2
unfolding parse parse_within front
a_put_without_a_key = refl

a_put_with_too_long_a_value : output (1 ∷ 1 ∷ 0 ∷ 1 ∷ 0 ∷ 1 ∷ []) ≡ refused_reply 3
unfolding parse parse_within front
a_put_with_too_long_a_value = refl

a_get_with_too_long_a_value : output (2 ∷ 1 ∷ 0 ∷ 1 ∷ 0 ∷ 1 ∷ []) ≡ refused_reply 3
unfolding parse parse_within front
a_get_with_too_long_a_value = refl

a_get_with_a_value : output (2 ∷ 1 ∷ n4 1 ++ 0x61 ∷ 0x31 ∷ []) ≡ refused_reply 4
unfolding parse parse_within front
a_get_with_a_value = refl

an_end_with_a_length : output (3 ∷ 1 ∷ n4 0) ≡ refused_reply 4
unfolding parse parse_within front
an_end_with_a_length = refl

an_input_cut_inside_a_head : output (put_1 ++ 1 ∷ 1 ∷ 0 ∷ []) ≡ (head 0x81 1 1 1 ++ 0x31 ∷ []) ++ head 0x84 2 0 1 ++ 5 ∷ []
unfolding parse parse_within front
an_input_cut_inside_a_head = refl

an_input_cut_inside_its_content : output (1 ∷ 2 ∷ n4 3 ++ 0x61 ∷ 0x62 ∷ 0x31 ∷ []) ≡ refused_reply 5
unfolding parse parse_within front
an_input_cut_inside_its_content = refl

more_of_it_may_come : parse (1 ∷ 2 ∷ n4 3 ++ 0x61 ∷ 0x62 ∷ 0x31 ∷ []) false ≡ record { requests = []; how = Open }
unfolding parse parse_within front
more_of_it_may_come = refl

-- a log read back, and the first bad byte of one whose last entry is cut off
a_log_is_read : records (header ++ entry_of 0 0x31) ≡ Ok (record { link = 0; index = 0; key = 0x61 ∷ []; value = 0x31 ∷ [] } ∷ [])
unfolding entries entries_within entry_front record_of
a_log_is_read = refl

a_torn_log : records (header ++ entry_of 0 0x31 ++ n4 9 ++ 0 ∷ []) ≡ Err 21
unfolding entries entries_within entry_front record_of
a_torn_log = refl

-- an entry of one byte of nine, whose payload says nothing yet: it is torn, and no payload is cut short
a_torn_entry : entries (header ++ entry_of 0 0x31 ++ n4 9 ++ 0 ∷ []) ≡ Err 21
unfolding entries entries_within entry_front
a_torn_entry = refl

no_log : records (0x44 ∷ 0x45 ∷ []) ≡ Err 0
unfolding entries entries_within entry_front record_of
no_log = refl
