-- Entries that were read as records, from the first on.
use Rattle.std.proofs.Common.{◌≡◌, ℕ, zero, suc, ◌+◌, ◌-◌, ◌<◌, ◌≤◌, min, List, [], ◌∷◌, ◌++◌, length, map, take, drop, get_or, Option, None, Some, refl, ap, sym, ◌∙◌, arith, cond, subst, length-append, length-take, length-drop, flat_map}
use Rattle.std.specs.Prelude.{IfSome, Ok, Err, bytes_eq, slice_index}
use Rattle.std.specs.List.{AllByRecursion}
use Rattle.std.proofs.lemmas.List.{take-take, take_all, length-replicate}
use Rattle.demi_spec.specs.LogText.{entry, put_first, IsPayload, log_text}
use Rattle.demi_spec.specs.Record.{Record, IsRecord, payload, record_of, records_from, records_in, after_record, records as records_of_text}
use Rattle.demi_spec.proofs.Payloads.{record_again, records_again}
use Rattle.demi_logq.specs.Logged.{Holds, place_of, ends_from, end_of}
use Rattle.demi_logq.proofs.Holding.{entry_at, payload_read, holds_read}
use Rattle.demi_logq.proofs.Entry.{length-ends}
use Rattle.demi_store.specs.Finding.{entry_of}
use Rattle.demi_store.specs.Openings.{Alike, payload_told, FitsRecord, ReadTo, heard}
use Rattle.demi_store.specs.declared.index.Index.{Index}
use Rattle.demi_store.proofs.Heard.{Spells, heard_fits, heard_length, heard_payload, no_record_of}
use Rattle.demi_store.proofs.Lasts.{last_more}
use Rattle.demi_store.proofs.Shelving.{fits_more}

pub alike_more : (told : Option (List ℕ)) (payloads : List (List ℕ)) (records : List Record) (i : ℕ) (r : Record) → Alike told (take i payloads) records → i < length payloads
    → length (get_or payloads i []) ≡ length (payload r) → IfSome told (λ _. get_or payloads i [] ≡ payload r) → Alike told (take (suc i) payloads) (records ++ r ∷ [])
alike_more told [] records i r a less long same = absurd (omega arith)
alike_more told (p ∷ payloads) [] zero r a less long same = (long, same, tt)
alike_more told (p ∷ payloads) (x ∷ records) zero r a less long same = absurd a
alike_more told (p ∷ payloads) [] (suc i) r a less long same = absurd a
alike_more told (p ∷ payloads) (x ∷ records) (suc i) r a less long same = (a.0, a.1, alike_more told payloads records i r a.2 (omega arith) long same)

-- the first payload that is no record
pub bad_from : (b : List ℕ) (at : ℕ) (payloads : List (List ℕ)) (records : List Record) (i : ℕ) → Alike (Some b) (take i payloads) records → AllByRecursion IsRecord records → i < length payloads → record_of (get_or payloads i []) ≡ None
    → records_from at payloads ≡ Err (at + length (flat_map entry (take i payloads)))
bad_from b at [] records i a fits less none = absurd (omega arith)
bad_from b at (p ∷ payloads) records zero a fits less none = ap (λ o. after_record at o (records_from (at + (4 + length p)) payloads)) none ∙ ap Err (omega arith)
bad_from b at (p ∷ payloads) [] (suc i) a fits less none = absurd a
bad_from b at (p ∷ payloads) (x ∷ records) (suc i) a fits less none =
    let rest = bad_from b (at + (4 + length p)) payloads records i a.2 fits.1 (omega arith) none in
    ap (λ o. after_record at o (records_from (at + (4 + length p)) payloads)) (ap record_of a.1 ∙ record_again x fits.0)
    ∙ ap (put_first x) rest
    ∙ ap Err (let l = length-append p (flat_map entry (take i payloads)) in omega arith)

-- all of them are, where each was read
fits_all : (told : Option (List ℕ)) (payloads : List (List ℕ)) (records : List Record) → Alike told payloads records → AllByRecursion IsPayload payloads → AllByRecursion IsPayload (map payload records)
fits_all told [] [] a all = tt
fits_all told [] (x ∷ records) a all = absurd a
fits_all told (p ∷ payloads) [] a all = absurd a
fits_all told (p ∷ payloads) (x ∷ records) a all = ((let f = all.0.0 in omega (arith, a.0), let f = all.0.1 in omega (arith, a.0)), fits_all told payloads records a.2 all.1)

ends_all : (told : Option (List ℕ)) (at : ℕ) (payloads : List (List ℕ)) (records : List Record) → Alike told payloads records → ends_from at payloads ≡ ends_from at (map payload records)
ends_all told at [] [] a = refl
ends_all told at [] (x ∷ records) a = absurd a
ends_all told at (p ∷ payloads) [] a = absurd a
ends_all told at (p ∷ payloads) (x ∷ records) a = ap (λ n. (at + (4 + n)) ∷ ends_from (at + (4 + n)) payloads) a.0 ∙ ap (λ (l : List ℕ). (at + (4 + length (payload x))) ∷ l) (ends_all told (at + (4 + length (payload x))) payloads records a.2)

same_all : (b : List ℕ) (payloads : List (List ℕ)) (records : List Record) → Alike (Some b) payloads records → payloads ≡ map payload records
same_all b [] [] a = refl
same_all b [] (x ∷ records) a = absurd a
same_all b (p ∷ payloads) [] a = absurd a
same_all b (p ∷ payloads) (x ∷ records) a = ap (λ (l : List ℕ). l ∷ payloads) a.1 ∙ ap (λ (l : List (List ℕ)). payload x ∷ l) (same_all b payloads records a.2)

pub holds_records : (told : Option (List ℕ)) (ends : List ℕ) (payloads : List (List ℕ)) (records : List Record) → Holds told ends payloads → Alike told payloads records → Holds told ends (map payload records)
holds_records told ends payloads records h a = record {
  fits = fits_all told payloads records a h.fits;
  places = h.places ∙ ends_all told 8 payloads records a;
  text = text_of told a h.text;
}
  where
    text_of : (o : Option (List ℕ)) → Alike o payloads records → IfSome o (λ b. take (end_of payloads) b ≡ log_text payloads) → IfSome o (λ b. take (end_of (map payload records)) b ≡ log_text (map payload records))
    text_of None a t = tt
    text_of (Some b) a t = subst (λ (l : List (List ℕ)). take (end_of l) b ≡ log_text l) (same_all b payloads records a) t

-- the bytes that are told at an entry are its payload
pub told_payload : (told : Option (List ℕ)) (ends : List ℕ) (payloads : List (List ℕ)) → Holds told ends payloads → (i at size : ℕ) → i < length ends → at ≡ place_of ends i + 4 → size ≡ length (get_or payloads i [])
    → IfSome told (λ _. payload_told told at size ≡ get_or payloads i [])
told_payload None ends payloads h i at size less place is = tt
told_payload (Some b) ends payloads h i at size less place is =
    let twice : take size (take size (drop at b)) ≡ take size (drop at b) = take-take size size (drop at b) (omega arith) in
    sym twice ∙ payload_read (Some b) ends payloads h i at size (take size (drop at b)) less place is twice

pub length_told : (told : Option (List ℕ)) (held at size : ℕ) → IfSome told (λ b. length b ≡ held) → at + size ≤ held → length (payload_told told at size) ≡ size
length_told None held at size long within = length-replicate size 0
length_told (Some b) held at size long within = omega (arith, length-take size (drop at b), length-drop at b)

-- the first entry that is no record
pub bad_read : (told : Option (List ℕ)) (ends : List ℕ) (payloads : List (List ℕ)) (records : List Record) (i count size place : ℕ) (room : List ℕ) → Holds told ends payloads → Alike told (take i payloads) records → AllByRecursion IsRecord records
    → i < length ends → size ≡ length (get_or payloads i []) → length (take count room) ≡ count → count ≡ min 262 size → IfSome told (λ b. take count room ≡ take count (get_or payloads i [])) → (FitsRecord (take count room) size → ⊥)
    → place ≡ place_of ends i + 4 → IfSome told (λ _. records_from 8 payloads ≡ Err (place - 4))
bad_read None ends payloads records i count size place room h a fits less is long front read never at = tt
bad_read (Some b) ends payloads records i count size place room h a fits less is long front read never at =
    let e = entry_at (Some b) ends payloads h i less in
    let l : length ends ≡ length payloads = ap length h.places ∙ length-ends 8 payloads in
    let p : List ℕ = get_or payloads i [] in
    let head : List ℕ = take count room in
    let same : head ≡ take (length head) p = read ∙ ap (λ n. take n p) (sym long) in
    let none : record_of p ≡ None = no_record_of p head size (sym is) (long ∙ front) same never in
    let here : 8 + length (flat_map entry (take i payloads)) ≡ place - 4 = omega (arith, e.here) in
    bad_from b 8 payloads records i a fits (omega arith) none ∙ ap Err here

-- one record more
pub read_more : (told : Option (List ℕ)) (held : ℕ) (ends : List ℕ) (index index' : Index) (records records' : List Record) (i count size place : ℕ) (room key : List ℕ) → ReadTo told ends index records i → IfSome told (λ b. length b ≡ held)
    → place + size ≤ held → i < length ends → place ≡ place_of ends i + 4 → ((payloads : List (List ℕ)) → Holds told ends payloads → size ≡ length (get_or payloads i []))
    → Spells (take count room) size (payload_told told place size) → FitsRecord (take count room) size → length (take count room) ≡ count
    → ((payloads : List (List ℕ)) → Holds told ends payloads → IfSome told (λ b. take count room ≡ take count (get_or payloads i [])))
    → key ≡ take (slice_index (take count room) 6) (drop 7 (take count room)) → ((other : List ℕ) → entry_of index' other ≡ cond (bytes_eq key other) (Some i) (entry_of index other))
    → records' ≡ records ++ heard (payload_told told place size) (take count room) ∷ [] → ReadTo told ends index' records' (i + 1)
read_more told held ends index index' records records' i count size place room key t long within less at sizes s f front parts keys entries grown =
    subst (λ (l : List Record). ReadTo told ends index' l (i + 1)) (sym grown)
    (record {
      alike = λ payloads h.
          let l : length ends ≡ length payloads = ap length h.places ∙ length-ends 8 payloads in
          let one : suc i ≡ i + 1 = omega arith in
          subst (λ n. Alike told (take n payloads) (records ++ r ∷ [])) one
          (alike_more told payloads records i r (t.alike payloads h) (omega arith) (sym (sizes payloads h) ∙ sym (heard_length head size p s f)) (same told (get_or payloads i []) (told_payload told ends payloads h i place size less at (sizes payloads h)) (parts payloads h)));
      fits = fits_more records r t.fits (heard_fits head size p s f);
      entries = λ other.
          entries other
          ∙ ap (λ (l : List ℕ). cond (bytes_eq l other) (Some i) (entry_of index other)) keys
          ∙ ap (λ n. cond (bytes_eq r.key other) (Some n) (entry_of index other)) (sym t.count)
          ∙ ap (λ o. cond (bytes_eq r.key other) (Some (length records)) o) (t.entries other)
          ∙ sym (last_more records r other);
      count = omega (arith, length-append records (r ∷ []), t.count);
    })
  where
    head : List ℕ
    head = take count room

    p : List ℕ
    p = payload_told told place size

    r : Record
    r = heard p head

    same : (o : Option (List ℕ)) (q : List ℕ) → IfSome o (λ _. p ≡ q) → IfSome o (λ b. head ≡ take count q) → IfSome o (λ _. q ≡ payload r)
    same None q a b = tt
    same (Some x) q a b =
        let here : head ≡ take (length head) p = b ∙ ap (take count) (sym a) ∙ ap (λ n. take n p) (sym front) in
        sym a ∙ sym (heard_payload head size p s f here)

-- the text of a log whose entries were read
pub text_read : (told : Option (List ℕ)) (held : ℕ) (ends : List ℕ) (payloads : List (List ℕ)) (records : List Record) → Holds told ends payloads → IfSome told (λ b. length b ≡ held) → held ≡ end_of payloads
    → Alike told payloads records → AllByRecursion IsRecord records → IfSome told (λ b. records_of_text b ≡ Ok records)
text_read None held ends payloads records h long whole a fits = tt
text_read (Some b) held ends payloads records h long whole a fits =
    let all : b ≡ log_text payloads = sym (take_all (end_of payloads) b (omega arith)) ∙ h.text in
    ap records_of_text (all ∙ ap log_text (same_all b payloads records a)) ∙ records_again records fits

pub text_bad : (told : Option (List ℕ)) (held : ℕ) (ends : List ℕ) (payloads : List (List ℕ)) (at : ℕ) → Holds told ends payloads → IfSome told (λ b. length b ≡ held) → held ≡ end_of payloads
    → IfSome told (λ _. records_from 8 payloads ≡ Err at) → IfSome told (λ b. records_of_text b ≡ Err at)
text_bad None held ends payloads at h long whole bad = tt
text_bad (Some b) held ends payloads at h long whole bad = ap records_in (holds_read (Some b) held ends payloads h long whole) ∙ bad

-- all of the entries
pub all_alike : (told : Option (List ℕ)) (ends : List ℕ) (payloads : List (List ℕ)) (records : List Record) (i : ℕ) → Holds told ends payloads → i ≡ length ends → Alike told (take i payloads) records → Alike told payloads records
all_alike told ends payloads records i h is a =
    let l : length ends ≡ length payloads = ap length h.places ∙ length-ends 8 payloads in
    subst (λ (x : List (List ℕ)). Alike told x records) (take_all i payloads (omega arith)) a
