-- Which field of a transcript is bad.
use Rattle.std.proofs.Common.{◌≡◌, ℕ, ◌+◌, ◌≤◌, Bool, true, false, ◌&&◌, List, length, take, Option, Some, None, cond, refl, ap, sym, ◌∙◌, arith}
use Rattle.std.specs.Prelude.{Result, Ok, Err, bytes_eq, nat_le}
use Rattle.std.proofs.lemmas.Bool.Decides.{nat_tests}
use Rattle.demi_spec.specs.Record.{Record, records}
use Rattle.demi_served.specs.Talks.{LinkRun}
use Rattle.demi_audit.specs.Transcript.{mark, has, has_number, number_4, number_8, part, log_records, are_within, behind_log, links_from, run_of, transcript}

both : (a b : Bool) → a ≡ true → b ≡ true → (a && b) ≡ true
both true b p q = q
both false b p q = p

second : (a b : Bool) → b ≡ false → (a && b) ≡ false
second true b q = q
second false b q = refl

pub bad_mark : (bytes : List ℕ) → bytes_eq (take 8 bytes) mark ≡ false → transcript bytes ≡ Err 0
unfolding transcript
bad_mark bytes a = rw a refl

pub bad_limit : (bytes : List ℕ) → bytes_eq (take 8 bytes) mark ≡ true → has_number bytes 8 1 1000000 ≡ false → transcript bytes ≡ Err 8
unfolding transcript
bad_limit bytes a b = rw (a, b) refl

pub no_old : (bytes : List ℕ) → bytes_eq (take 8 bytes) mark ≡ true → has_number bytes 8 1 1000000 ≡ true → has bytes 12 4 ≡ false → transcript bytes ≡ Err 12
unfolding transcript
no_old bytes a b c = rw (a, b, c) refl

pub bad_old : (bytes : List ℕ) → bytes_eq (take 8 bytes) mark ≡ true → has_number bytes 8 1 1000000 ≡ true → are_within (number_4 bytes 12) (log_records bytes) ≡ false → transcript bytes ≡ Err 12
unfolding transcript
bad_old bytes a b c = let d = second (has bytes 12 4) (are_within (number_4 bytes 12) (log_records bytes)) c in rw (a, b, d) refl

pub bad_links : (bytes : List ℕ) → bytes_eq (take 8 bytes) mark ≡ true → has_number bytes 8 1 1000000 ≡ true → has bytes 12 4 ≡ true
    → are_within (number_4 bytes 12) (log_records bytes) ≡ true → has_number bytes 16 1 16 ≡ false → transcript bytes ≡ Err 16
unfolding transcript
bad_links bytes a b c d e = let f = both (has bytes 12 4) (are_within (number_4 bytes 12) (log_records bytes)) c d in rw (a, b, f, e) refl

pub no_size : (bytes : List ℕ) → bytes_eq (take 8 bytes) mark ≡ true → has_number bytes 8 1 1000000 ≡ true → has bytes 12 4 ≡ true
    → are_within (number_4 bytes 12) (log_records bytes) ≡ true → has_number bytes 16 1 16 ≡ true → has bytes 20 8 ≡ false → transcript bytes ≡ Err 20
unfolding transcript
no_size bytes a b c d e g = let f = both (has bytes 12 4) (are_within (number_4 bytes 12) (log_records bytes)) c d in rw (a, b, f, e, g) refl

pub all_good : (bytes : List ℕ) → bytes_eq (take 8 bytes) mark ≡ true → has_number bytes 8 1 1000000 ≡ true → has bytes 12 4 ≡ true
    → are_within (number_4 bytes 12) (log_records bytes) ≡ true → has_number bytes 16 1 16 ≡ true → has bytes 20 8 ≡ true → transcript bytes ≡ behind_log bytes (log_records bytes)
unfolding transcript
all_good bytes a b c d e g = let f = both (has bytes 12 4) (are_within (number_4 bytes 12) (log_records bytes)) c d in rw (a, b, f, e, g) refl

-- a number in range is within bounds
pub in_range : (bytes : List ℕ) (at least most : ℕ) → has_number bytes at least most ≡ true → (least ≤ number_4 bytes at) × (number_4 bytes at ≤ most)
unfolding has_number
in_range bytes at least most h =
    let a = parts (has bytes at 4) (nat_le least (number_4 bytes at) && nat_le (number_4 bytes at) most) h in
    let b = parts (nat_le least (number_4 bytes at)) (nat_le (number_4 bytes at) most) a.1 in
    (let t = b.0 in grind (arith, nat_tests), let t = b.1 in grind (arith, nat_tests))
  where
    parts : (a b : Bool) → (a && b) ≡ true → (a ≡ true) × (b ≡ true)
    parts true b h = (refl, h)
    parts false b h = absurd (cc)

-- a log that is there stands inside the text
pub log_inside : (bytes : List ℕ) (r : Result (List Record) ℕ) → log_records bytes ≡ Some r → 28 + number_8 bytes 20 ≤ length bytes
unfolding log_records
log_inside bytes r h = go (has bytes 20 8) (has bytes 28 (number_8 bytes 20)) refl h
  where
    go : (a b : Bool) → has bytes 28 (number_8 bytes 20) ≡ b → cond (a && b) (Some (records (part bytes 28 (number_8 bytes 20)))) None ≡ Some r → 28 + number_8 bytes 20 ≤ length bytes
    go true true t h = grind (arith, nat_tests)
    go true false t h = absurd (cc)
    go false true t h = absurd (cc)
    go false false t h = absurd (cc)

-- what is read when all is good
pub read_run : (bytes : List ℕ) (rs : List Record) (links : List LinkRun) (limit old count size : ℕ) → limit ≡ number_4 bytes 8 → old ≡ number_4 bytes 12 → count ≡ number_4 bytes 16 → size ≡ number_8 bytes 20
    → transcript bytes ≡ behind_log bytes (log_records bytes) → log_records bytes ≡ Some (Ok rs) → links_from count bytes (28 + size) ≡ Ok links
    → transcript bytes ≡ Ok (record { links = links; records = rs; old = old; limit = limit })
read_run bytes rs links limit old count size l o n s rest log read =
    let there : links_from (number_4 bytes 16) bytes (28 + number_8 bytes 20) ≡ Ok links =
    ap (λ k. links_from k bytes (28 + number_8 bytes 20)) (sym n) ∙ ap (λ k. links_from count bytes (28 + k)) (sym s) ∙ read in
    rest ∙ ap (behind_log bytes) log ∙ ap (run_of (number_4 bytes 8) (number_4 bytes 12) rs) there
    ∙ ap (λ k. run_of k (number_4 bytes 12) rs (Ok links)) (sym l) ∙ ap (λ k. run_of limit k rs (Ok links)) (sym o)

-- not more old records than there are
pub not_more : (old : ℕ) (o : Option (Result (List Record) ℕ)) (rs : List Record) → are_within old o ≡ true → o ≡ Some (Ok rs) → old ≤ length rs
not_more old o rs h is =
    let t : nat_le old (length rs) ≡ true = sym (ap (are_within old) is) ∙ h in
    grind (arith, nat_tests)
