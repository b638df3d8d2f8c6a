-- A record's payload is read as the record.
use Rattle.std.proofs.Common.{◌≡◌, ℕ, ◌+◌, Bool, false, true, ◌||◌, List, [], ◌∷◌, length, take, drop, None, Some, refl, arith, ◌∙◌, ap, sym, cond, map, length-append}
use Rattle.std.specs.Prelude.{nat_lt, ◌==◌, Ok}
use Rattle.std.specs.List.{AllByRecursion}
use Rattle.std.specs.Int.{w16, w32, from_be_bytes}
use Rattle.std.proofs.Math.Seq.{take-append_seam, drop-append_seam}
use Rattle.std.proofs.lemmas.Bool.Decides.{nat_tests}
use Rattle.std.proofs.lemmas.List.{drop-drop}
use Rattle.std.proofs.lemmas.Nat.{from_be_bytes-to_be_bytes_2, from_be_bytes-to_be_bytes_4}
use Rattle.demi_spec.specs.LogText.{put_first, IsPayload}
use Rattle.demi_spec.specs.Record.{Record, IsRecord, payload, record_of, records_from, records_in, records, after_record, log_of}
use Rattle.demi_spec.proofs.LogTexts.{entries_text}

pub record_again : (r : Record) → IsRecord r → record_of (payload r) ≡ Some r
unfolding record_of
record_again r h =
    let key : ℕ = length r.key in
    let long : length (payload r) ≡ 7 + (key + length r.value) = omega (arith, length-append r.key r.value) in
    let t1 : nat_lt (length (payload r)) 8 ≡ false = let k = h.key.0 in grind (arith, nat_tests) in
    let t2 : (key == 0) ≡ false = let k = h.key.0 in grind (arith, nat_tests) in
    let t3 : nat_lt (length (payload r)) (7 + key) ≡ false = grind (arith, nat_tests) in
    let t4 : nat_lt (65536 + (7 + key)) (length (payload r)) ≡ false = let k = h.value in grind (arith, nat_tests) in
    let e1 : from_be_bytes w16 (take 2 (payload r)) ≡ r.link = let k = h.link in from_be_bytes-to_be_bytes_2 r.link (omega arith) in
    let e2 : from_be_bytes w32 (take 4 (drop 2 (payload r))) ≡ r.index = let k = h.index in from_be_bytes-to_be_bytes_4 r.index (omega arith) in
    let e3 : take key (drop 7 (payload r)) ≡ r.key = take-append_seam r.key r.value in
    let e4 : drop (7 + key) (payload r) ≡ r.value = sym (drop-drop key 7 (payload r)) ∙ drop-append_seam r.key r.value in
    tests (nat_lt (length (payload r)) 8) (key == 0) (nat_lt (length (payload r)) (7 + key)) (nat_lt (65536 + (7 + key)) (length (payload r))) t1 t2 t3 t4
    (record { link = from_be_bytes w16 (take 2 (payload r)); index = from_be_bytes w32 (take 4 (drop 2 (payload r))); key = take key (drop 7 (payload r)); value = drop (7 + key) (payload r) })
    ∙ ap (λ n. Some (record { link = n; index = from_be_bytes w32 (take 4 (drop 2 (payload r))); key = take key (drop 7 (payload r)); value = drop (7 + key) (payload r) })) e1
    ∙ ap (λ n. Some (record { link = r.link; index = n; key = take key (drop 7 (payload r)); value = drop (7 + key) (payload r) })) e2
    ∙ ap (λ (l : List ℕ). Some (record { link = r.link; index = r.index; key = l; value = drop (7 + key) (payload r) })) e3
    ∙ ap (λ (l : List ℕ). Some (record { link = r.link; index = r.index; key = r.key; value = l })) e4
  where
    tests : (a b c d : Bool) → a ≡ false → b ≡ false → c ≡ false → d ≡ false → (x : Record) → cond (a || b || c || d) None (Some x) ≡ Some x
    tests false false false false p q s t x = refl
    tests true b c d p q s t x = absurd (cc)
    tests false true c d p q s t x = absurd (cc)
    tests false false true d p q s t x = absurd (cc)
    tests false false false true p q s t x = absurd (cc)

payload_fits : (r : Record) → IsRecord r → IsPayload (payload r)
payload_fits r h = let a = h.key.0 in let b = h.key.1 in let c = h.value in (omega (arith, length-append r.key r.value), omega (arith, length-append r.key r.value))

pub all_fit : (rs : List Record) → AllByRecursion IsRecord rs → AllByRecursion IsPayload (map payload rs)
all_fit [] h = tt
all_fit (r ∷ rs) h = (payload_fits r h.0, all_fit rs h.1)

from_again : (at : ℕ) (rs : List Record) → AllByRecursion IsRecord rs → records_from at (map payload rs) ≡ Ok rs
from_again at [] h = refl
from_again at (r ∷ rs) h =
    ap (λ o. after_record at o (records_from (at + (4 + length (payload r))) (map payload rs))) (record_again r h.0)
    ∙ ap (put_first r) (from_again (at + (4 + length (payload r))) rs h.1)

pub records_again : (rs : List Record) → AllByRecursion IsRecord rs → records (log_of rs) ≡ Ok rs
records_again rs h = ap records_in (entries_text (map payload rs) (all_fit rs h)) ∙ from_again 8 rs h
