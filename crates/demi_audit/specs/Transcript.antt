-- The transcript of a session: a mark, the limit, the old records, the links, the log, and what each link read and wrote.
use Rattle.std.specs.Prelude.{ℕ, zero, suc, ◌+◌, Bool, true, ◌&&◌, not, nat_le, nat_lt, if◌then◌else◌, List, [], ◌∷◌, ◌++◌, length, take, drop, flat_map, Option, Some, None, Result, Ok, Err, bytes_eq}
use Rattle.std.specs.Int.{w32, w64, to_be_bytes, from_be_bytes}
use Rattle.demi_spec.specs.LogText.{put_first}
use Rattle.demi_spec.specs.Record.{Record, records}
use Rattle.demi_served.specs.Talks.{LinkRun, Run}

-- `DEMITRN1`
abbrev pub mark : List ℕ
mark = 0x44 ∷ 0x45 ∷ 0x4d ∷ 0x49 ∷ 0x54 ∷ 0x52 ∷ 0x4e ∷ 0x31 ∷ []

-- what one link read and wrote, each behind its length
abbrev pub link_text : LinkRun → List ℕ
link_text l = to_be_bytes w64 (length l.read) ++ l.read ++ to_be_bytes w64 (length l.written) ++ l.written

-- the transcript of a session whose log is this text
abbrev pub transcript_of : List ℕ → Run → List ℕ
transcript_of log run =
    mark ++ to_be_bytes w32 run.limit ++ to_be_bytes w32 run.old ++ to_be_bytes w32 (length run.links) ++ to_be_bytes w64 (length log) ++ log ++ flat_map link_text run.links

-- whether so many bytes stand at a place
abbrev pub has : List ℕ → ℕ → ℕ → Bool
has bytes at count = nat_le (at + count) (length bytes)

-- those bytes, and the number that four and eight of them spell
abbrev pub part : List ℕ → ℕ → ℕ → List ℕ
part bytes at count = take count (drop at bytes)

unfoldable pub number_4 : List ℕ → ℕ → ℕ
number_4 bytes at = from_be_bytes w32 (part bytes at 4)

unfoldable pub number_8 : List ℕ → ℕ → ℕ
number_8 bytes at = from_be_bytes w64 (part bytes at 8)

-- a number of four bytes within bounds stands at a place
unfoldable pub has_number : List ℕ → ℕ → ℕ → ℕ → Bool
has_number bytes at least most = has bytes at 4 && (nat_le least (number_4 bytes at) && nat_le (number_4 bytes at) most)

-- a length stands at a place, and so many bytes behind it
abbrev pub has_part : List ℕ → ℕ → Bool
has_part bytes at = has bytes at 8 && has bytes (at + 8) (number_8 bytes at)

-- the records of the log part, where neither it nor its length is cut off
unfoldable pub log_records : List ℕ → Option (Result (List Record) ℕ)
log_records bytes = if has_part bytes 20 then Some (records (part bytes 28 (number_8 bytes 20))) else None

-- so many records are not more than these, where they are known
abbrev pub are_within : ℕ → Option (Result (List Record) ℕ) → Bool
are_within old None = true
are_within old (Some (Err at)) = true
are_within old (Some (Ok rs)) = nat_le old (length rs)

-- How long the part is whose length stands at a place. Where one of the two is cut off, its first byte.
unfoldable pub part_at : List ℕ → ℕ → Result ℕ ℕ
part_at bytes at =
    if not (has bytes at 8) then Err at
    else if not (has bytes (at + 8) (number_8 bytes at)) then Err (at + 8)
    else Ok (number_8 bytes at)

abbrev pub with_part : {X : Type 0} → Result ℕ ℕ → (ℕ → Result X ℕ) → Result X ℕ
with_part (Ok size) rest = rest size
with_part (Err at) rest = Err at

-- a link whose input and output stand at these places and have these lengths
abbrev pub link_at : List ℕ → ℕ → ℕ → ℕ → ℕ → LinkRun
link_at bytes input input_size output output_size = record { read = part bytes input input_size; written = part bytes output output_size; ended = true }

-- What so many links read and wrote, from this place on to the end of the text. Of any other text the first byte of the
-- first length or part that is cut off, or of what follows the last link.
unfoldable pub links_from : ℕ → List ℕ → ℕ → Result (List LinkRun) ℕ
links_from zero bytes at = if nat_lt at (length bytes) then Err at else Ok []
links_from (suc n) bytes at =
    with_part (part_at bytes at) (λ input. with_part (part_at bytes (at + 8 + input)) (λ output.
    put_first (link_at bytes (at + 8) input (at + 8 + input + 8) output) (links_from n bytes (at + 8 + input + 8 + output))))

abbrev pub run_of : ℕ → ℕ → List Record → Result (List LinkRun) ℕ → Result Run ℕ
run_of limit old rs (Ok links) = Ok (record { links = links; records = rs; old = old; limit = limit })
run_of limit old rs (Err at) = Err at

-- the links are looked at last
abbrev pub behind_log : List ℕ → Option (Result (List Record) ℕ) → Result Run ℕ
behind_log bytes None = Err 28
behind_log bytes (Some (Err at)) = Err (28 + at)
behind_log bytes (Some (Ok rs)) = run_of (number_4 bytes 8) (number_4 bytes 12) rs (links_from (number_4 bytes 16) bytes (28 + number_8 bytes 20))

-- The session of a transcript. Of any other text the first byte of the first field that is cut off, out of range or
-- wrong, in their order: the mark, the limit, the old records, the links, the length of the log, the log, and each link.
-- The old records are compared with those of the log where that can be read.
unfoldable pub transcript : List ℕ → Result Run ℕ
transcript bytes =
    if not (bytes_eq (take 8 bytes) mark) then Err 0
    else if not (has_number bytes 8 1 1000000) then Err 8
    else if not (has bytes 12 4 && are_within (number_4 bytes 12) (log_records bytes)) then Err 12
    else if not (has_number bytes 16 1 16) then Err 16
    else if not (has bytes 20 8) then Err 20
    else behind_log bytes (log_records bytes)
