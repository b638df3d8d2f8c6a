-- The lines that the command `log` says of a log's records.
use Rattle.std.specs.Prelude.{ℕ, ◌+◌, List, [], ◌∷◌, ◌++◌, length, codes}
use Rattle.std.specs.Fmt.{decimal}
use Rattle.hex.specs.Hex.{encode_lower}
use Rattle.demi_spec.specs.Record.{Record}

-- `V link L index I key K value B` and a newline: K is the key in hexadecimal with small letters, B how many bytes the value has
abbrev pub line_of : ℕ → ℕ → ℕ → List ℕ → ℕ → List ℕ
line_of number link index key size =
    decimal number ++ codes " link " ++ decimal link ++ codes " index " ++ decimal index ++ codes " key " ++ encode_lower key ++ codes " value " ++ decimal size ++ codes "\n"

-- the line of the record of this number; the first record of a log has the number 1
abbrev pub line : ℕ → Record → List ℕ
line number r = line_of number r.link r.index r.key (length r.value)

-- the lines of records, one after another, of which the first has this number
abbrev pub lines_from : ℕ → List Record → List ℕ
lines_from number [] = []
lines_from number (r ∷ records) = line number r ++ lines_from (number + 1) records

-- `records N` and a newline
abbrev pub count_line : ℕ → List ℕ
count_line count = codes "records " ++ decimal count ++ codes "\n"

-- all that `log` says of a log with these records: a line of each, and how many they are
abbrev pub log_lines : List Record → List ℕ
log_lines records = lines_from 1 records ++ count_line (length records)

-- what `check` says of a transcript that is consistent
abbrev pub verdict_line : ℕ → ℕ → ℕ → List ℕ
verdict_line links replies records =
    codes "consistent: links " ++ decimal links ++ codes " replies " ++ decimal replies ++ codes " records " ++ decimal records ++ codes "\n"
