-- Worked examples: they compute.
use Rattle.std.specs.Prelude.{◌≡◌, ℕ, true, List, [], ◌∷◌, ◌++◌, refl, Ok, Err}
use Rattle.demi_spec.specs.LogText.{header, entries, entries_within, entry_front}
use Rattle.demi_spec.specs.Record.{Record, record_of}
use Rattle.demi_served.specs.Talks.{LinkRun, Run}
use Rattle.demi_audit.specs.Generator.{inputs, input_of, drawn, after_draw}
use Rattle.demi_audit.specs.Transcript.{mark, transcript, links_from, number_4, number_8, has_number, log_records, part_at}

-- a number in four and in eight bytes
abbrev pub n4 : ℕ → List ℕ
n4 n = 0 ∷ 0 ∷ 0 ∷ n ∷ []

abbrev pub n8 : ℕ → List ℕ
n8 n = n4 0 ++ n4 n

the_first_draws : drawn 0 ∷ drawn (after_draw 0) ∷ [] ≡ 167951807 ∷ 218396424 ∷ []
unfolding drawn after_draw
the_first_draws = refl

one_request : inputs 0 1 1 ≡ (2 ∷ 3 ∷ n4 0 ++ 0x6b ∷ 0x36 ∷ 0x33 ∷ 3 ∷ 0 ∷ n4 0) ∷ []
unfolding input_of drawn after_draw
one_request = refl

abbrev record1 : Record
record1 = record { link = 0; index = 0; key = 0x61 ∷ []; value = 0x31 ∷ [] }

abbrev log1 : List ℕ
log1 = header ++ n4 9 ++ 0 ∷ 0 ∷ n4 0 ++ 1 ∷ 0x61 ∷ 0x31 ∷ []

-- the fields of a transcript before its log, and two links that asked and said nothing
abbrev front_of : ℕ → ℕ → ℕ → ℕ → List ℕ
front_of limit old links size = mark ++ n4 limit ++ n4 old ++ n4 links ++ n8 size

abbrev quiet : List ℕ
quiet = n8 0 ++ n8 0 ++ n8 0 ++ n8 0

abbrev quiet_link : LinkRun
quiet_link = record { read = []; written = []; ended = true }

abbrev quiet_run : ℕ → Run
quiet_run old = record { links = quiet_link ∷ quiet_link ∷ []; records = record1 ∷ []; old = old; limit = 5 }

a_transcript_is_read : transcript (front_of 5 1 2 21 ++ log1 ++ quiet) ≡ Ok (quiet_run 1)
unfolding transcript links_from number_4 number_8 has_number log_records part_at entries entries_within entry_front record_of
a_transcript_is_read = refl

another_mark : transcript (0x44 ∷ 0x45 ∷ 0x4d ∷ 0x49 ∷ 0x54 ∷ 0x52 ∷ 0x4e ∷ 0x39 ∷ []) ≡ Err 0
unfolding transcript number_4 number_8 has_number log_records
another_mark = refl

no_limit : transcript (front_of 0 1 2 21 ++ log1 ++ quiet) ≡ Err 8
unfolding transcript number_4 number_8 has_number log_records
no_limit = refl

-- more old records than the log has come before a bad number of links
too_many_old : transcript (front_of 5 2 17 21 ++ log1 ++ quiet) ≡ Err 12
unfolding transcript number_4 number_8 has_number log_records entries entries_within entry_front record_of
too_many_old = refl

-- of a log that is cut off the old records are not looked at
too_many_links : transcript (front_of 5 2 17 60 ++ log1) ≡ Err 16
unfolding transcript number_4 number_8 has_number log_records
too_many_links = refl

a_cut_log : transcript (front_of 5 2 2 60 ++ log1) ≡ Err 28
unfolding transcript number_4 number_8 has_number log_records
a_cut_log = refl

-- the second byte of the log's first entry says that it is long
a_bad_entry : transcript (front_of 5 1 2 12 ++ header ++ n4 0 ++ quiet) ≡ Err 36
unfolding transcript number_4 number_8 has_number log_records entries entries_within entry_front
a_bad_entry = refl

a_cut_link : transcript (front_of 5 1 2 21 ++ log1 ++ n8 0 ++ n8 0 ++ n8 0) ≡ Err 73
unfolding transcript links_from number_4 number_8 has_number log_records part_at entries entries_within entry_front record_of
a_cut_link = refl

bytes_behind : transcript (front_of 5 1 2 21 ++ log1 ++ quiet ++ 7 ∷ []) ≡ Err 81
unfolding transcript links_from number_4 number_8 has_number log_records part_at entries entries_within entry_front record_of
bytes_behind = refl
