-- Entries that a text has, and one entry more.
use Rattle.std.proofs.Common.{◌≡◌, ℕ, zero, suc, ◌+◌, ◌-◌, ◌≤◌, ◌<◌, List, [], ◌∷◌, ◌++◌, length, take, drop, get_or, map, flat_map, Some, refl, ap, sym, ◌∙◌, subst, arith, append_assoc, length-append, length-drop, length-take, inl, inr}
use Rattle.std.specs.Prelude.{Ok, slice_index}
use Rattle.std.specs.List.{AllByRecursion}
use Rattle.std.specs.Int.{w32, to_be_bytes}
use Rattle.std.proofs.lemmas.List.{append-nil, map-append, take_all, take_more, drop-take, drop_at, take_at, drop-drop}
use Rattle.std.proofs.lemmas.Grind.{flat_map-append}
use Rattle.demi_spec.specs.Request.{IsBytes}
use Rattle.demi_spec.specs.LogText.{header, entry, entries, entries_within}
use Rattle.demi_spec.specs.Record.{Record, IsRecord, IsRecordLog, payload, log_of, entries_of, records}
use Rattle.demi_spec.proofs.Payloads.{all_fit}
use Rattle.demi_spec.proofs.RecordReads.{records_are}
use Rattle.demi_logq.specs.Logged.{Holds, ends_from, place_of}
use Rattle.demi_audit.specs.Client.{headed}
use Rattle.demi_audit.specs.Entries.{Logs}
use Rattle.demi_audit.specs.TextStores.{IsWithin, bytes_at}
use Rattle.demi_audit.specs.declared.values.Span.{Span}
use Rattle.demi_audit.proofs.Logged.{counted, payload_is, span_fits}

-- a text with its header has the same records
pub records_headed : (log : List ℕ) (old : List Record) → records log ≡ Ok old → records (headed log) ≡ Ok old
unfolding entries entries_within
records_headed [] old is = is
records_headed (b ∷ log) old is = is

-- and is the text of these
pub headed_text : (log : List ℕ) (old : List Record) → IsBytes log → records log ≡ Ok old → (headed log ≡ log_of old) × AllByRecursion IsRecord old
headed_text log old fits is = by_text log (((records_are log old fits).0) is)
  where
    by_text : (l : List ℕ) → IsRecordLog l old → (headed l ≡ log_of old) × AllByRecursion IsRecord old
    by_text l (inl (e, none)) = (ap headed e ∙ ap log_of (sym none), subst (AllByRecursion IsRecord) (sym none) tt)
    by_text [] (inr (e, all)) = absurd (cc)
    by_text (b ∷ l) (inr (e, all)) = (e, all)

-- the entries of records behind others
pub entries-append : (old new : List Record) → log_of (old ++ new) ≡ log_of old ++ entries_of new
entries-append old new =
    ap (λ (ps : List (List ℕ)). header ++ flat_map entry ps) (map-append payload old new)
    ∙ ap (λ (l : List ℕ). header ++ l) (flat_map-append entry (map payload old) (map payload new))
    ∙ ap (λ (l : List ℕ). header ++ (flat_map entry (map payload old) ++ l)) (by_entry new)
  where
    by_entry : (rs : List Record) → flat_map entry (map payload rs) ≡ entries_of rs
    by_entry [] = refl
    by_entry (r ∷ rs) = ap (λ (l : List ℕ). entry (payload r) ++ l) (by_entry rs)

pub log-push : (old : List Record) (r : Record) → log_of old ++ entry (payload r) ≡ log_of (old ++ r ∷ [])
log-push old r = sym (entries-append old (r ∷ []) ∙ ap (λ (l : List ℕ). log_of old ++ l) (append-nil (entry (payload r))))

pub fits-push : (rs : List Record) (r : Record) → AllByRecursion IsRecord rs → IsRecord r → AllByRecursion IsRecord (rs ++ r ∷ [])
fits-push [] r all one = (one, tt)
fits-push (x ∷ rs) r all one = (all.0, fits-push rs r all.1 one)

-- the entries of a text that has one stand in it
pub logs_hold : (text ends : List ℕ) (rs : List Record) (i : ℕ) → Logs text ends rs → i < length ends → Holds (Some text) ends (map payload rs)
logs_hold text ends rs i l less = by_text rs l.text_is l.places
  where
    by_text : (xs : List Record) → IsRecordLog text xs → ends ≡ ends_from 8 (map payload xs) → Holds (Some text) ends (map payload xs)
    by_text xs (inl (e, none)) places = absurd (let n : length ends ≡ 0 = ap length (places ∙ ap (λ (ys : List Record). ends_from 8 (map payload ys)) none) in omega arith)
    by_text xs (inr (e, all)) places = record {
      fits = all_fit xs all;
      places = places;
      text = ap (take (length (log_of xs))) e ∙ take_all (length (log_of xs)) (log_of xs) (omega arith);
    }

abbrev pub no_record : Record
no_record = record { link = 0; index = 0; key = []; value = [] }

payload_of : (rs : List Record) (i : ℕ) → i < length rs → get_or (map payload rs) i [] ≡ payload (get_or rs i no_record)
payload_of [] i less = absurd (omega arith)
payload_of (r ∷ rs) zero less = refl
payload_of (r ∷ rs) (suc i) less = payload_of rs i (omega arith)

record_fits : (rs : List Record) (i : ℕ) → AllByRecursion IsRecord rs → i < length rs → IsRecord (get_or rs i no_record)
record_fits [] i all less = absurd (omega arith)
record_fits (r ∷ rs) zero all less = all.0
record_fits (r ∷ rs) (suc i) all less = record_fits rs i all.1 (omega arith)

-- Record number i of a text, whose payload was found there: this key, and this place of its value.
pub record Stands (text : List ℕ) (rs : List Record) (i : ℕ) (p : List ℕ) (at : ℕ) (r : Record) : Type 0 where
  pub is : p ≡ payload r
  pub more : take (i + 1) rs ≡ take i rs ++ r ∷ []
  pub text_is : take (length p) (drop at text) ≡ p
  pub within : at + length p ≤ length text
  pub fits : IsRecord r

pub stands_at : (text ends : List ℕ) (rs : List Record) (i : ℕ) (p : List ℕ) → Logs text ends rs → i < length ends → p ≡ get_or (map payload rs) i []
    → Stands text rs i p (place_of ends i + 4) (get_or rs i no_record)
stands_at text ends rs i p l less is =
    let h = logs_hold text ends rs i l less in
    let there : i < length rs = omega (arith, counted text ends rs l) in
    let k = span_fits text ends (map payload rs) i h less in
    let whole = payload_is text ends (map payload rs) i h less in
    let size : place_of ends (i + 1) - (place_of ends i + 4) ≡ length p = long_of text (place_of ends i + 4) (place_of ends (i + 1)) p k.0 k.1 (whole ∙ sym is) in
    record {
      is = is ∙ payload_of rs i there;
      more = take_more rs i no_record there;
      text_is = ap (λ n. take n (drop (place_of ends i + 4) text)) (sym size) ∙ whole ∙ sym is;
      within = omega (arith, k.0, k.1);
      fits = record_fits rs i l.fits there;
    }
  where
    long_of : (t : List ℕ) (a b : ℕ) (q : List ℕ) → a ≤ b → b ≤ length t → take (b - a) (drop a t) ≡ q → b - a ≡ length q
    long_of t a b q less within e = omega (arith, ap length e, length-take (b - a) (drop a t), length-drop a t)

-- the parts of a payload
pub key_size : (r : Record) → get_or (payload r) 6 0 ≡ length r.key
key_size r = refl

pub length-payload : (r : Record) → length (payload r) ≡ 7 + (length r.key + length r.value)
length-payload r = omega (arith, length-append r.key r.value)

pub key_part : (r : Record) → take (length r.key) (drop 7 (payload r)) ≡ r.key
key_part r = take_at r.key r.value (length r.key) refl

pub value_part : (r : Record) → drop (7 + length r.key) (payload r) ≡ r.value
value_part r = sym (drop-drop (length r.key) 7 (payload r)) ∙ drop_at r.key r.value (length r.key) refl

-- the place of the value in the text
pub value_there : (text : List ℕ) (rs : List Record) (i : ℕ) (p : List ℕ) (at : ℕ) (r : Record) (s : Span) → Stands text rs i p at r → s.from ≡ at + (7 + length r.key) → s.size ≡ length p - (7 + length r.key)
    → IsWithin text s × (bytes_at text s ≡ r.value)
value_there text rs i p at r s stands from size =
    let n : ℕ = 7 + length r.key in
    let long : length p ≡ n + length r.value = omega (arith, ap length stands.is, length-payload r) in
    let rest : ℕ = length p - n in
    let all : n + rest ≡ length p = omega arith in
    let w = stands.within in (
      omega arith,
      ap (λ k. take k (drop s.from text)) size
          ∙ ap (λ k. take rest (drop k text)) from
          ∙ ap (take rest) (sym (drop-drop n at text))
          ∙ sym (drop-take n rest (drop at text))
          ∙ ap (λ k. drop n (take k (drop at text))) all
          ∙ ap (drop n) (stands.text_is ∙ stands.is)
          ∙ value_part r,
    )

-- the head of a payload says where its key and its value stand
pub head_is : (text : List ℕ) (rs : List Record) (i : ℕ) (p : List ℕ) (at : ℕ) (r : Record) → Stands text rs i p at r → slice_index p 6 ≡ length r.key
head_is text rs i p at r stands = ap (λ (l : List ℕ). slice_index l 6) stands.is ∙ key_size r

pub head_fits : (text : List ℕ) (rs : List Record) (i : ℕ) (p : List ℕ) (at : ℕ) (r : Record) → Stands text rs i p at r → 7 + slice_index p 6 ≤ length p
head_fits text rs i p at r stands = omega (arith, head_is text rs i p at r stands, ap length stands.is, length-payload r)

pub key_is : (text : List ℕ) (rs : List Record) (i : ℕ) (p : List ℕ) (at : ℕ) (r : Record) (key : List ℕ) → Stands text rs i p at r → key ≡ take (slice_index p 6) (drop 7 p) → key ≡ r.key
key_is text rs i p at r key stands is =
    is ∙ ap (λ n. take n (drop 7 p)) (head_is text rs i p at r stands) ∙ ap (λ (l : List ℕ). take (length r.key) (drop 7 l)) stands.is ∙ key_part r

-- an entry that was written in parts
pub entry_written : (t t1 t2 t3 t4 t5 t6 key value : List ℕ) (n index : ℕ) → n ≡ 7 + length key + length value → t1 ≡ t ++ to_be_bytes w32 n → t2 ≡ t1 ++ 0 ∷ 0 ∷ [] → t3 ≡ t2 ++ to_be_bytes w32 index → t4 ≡ t3 ++ length key ∷ [] → t5 ≡ t4 ++ key
    → t6 ≡ t5 ++ value → t6 ≡ t ++ entry (payload (record { link = 0; index = index; key = key; value = value }))
entry_written t t1 t2 t3 t4 t5 t6 key value n index size e1 e2 e3 e4 e5 e6 =
    let r : Record = record { link = 0; index = index; key = key; value = value } in
    let long : n ≡ length (payload r) = omega (arith, length-payload r) in
    e6 ∙ ap (λ (l : List ℕ). l ++ value) (e5 ∙ ap (λ (l : List ℕ). l ++ key) (e4 ∙ ap (λ (l : List ℕ). l ++ length key ∷ []) (e3 ∙ ap (λ (l : List ℕ). l ++ to_be_bytes w32 index) (e2 ∙ ap (λ (l : List ℕ). l ++ 0 ∷ 0 ∷ []) e1))))
    ∙ ap (λ k. ((((t ++ to_be_bytes w32 k) ++ 0 ∷ 0 ∷ []) ++ to_be_bytes w32 index) ++ length key ∷ []) ++ key ++ value) long
    ∙ together (to_be_bytes w32 (length (payload r))) (0 ∷ 0 ∷ []) (to_be_bytes w32 index) (length key ∷ [])
  where
    together : (a b c d : List ℕ) → ((((t ++ a) ++ b) ++ c) ++ d) ++ key ++ value ≡ t ++ (a ++ ((b ++ c ++ (d ++ key)) ++ value))
    together a b c d = simp append_assoc

pub stands_here : (text ends : List ℕ) (rs : List Record) (i : ℕ) (p : List ℕ) → Logs text ends rs → i < length ends → ((payloads : List (List ℕ)) → Holds (Some text) ends payloads → p ≡ get_or payloads i [])
    → Stands text rs i p (place_of ends i + 4) (get_or rs i no_record)
stands_here text ends rs i p l less is = stands_at text ends rs i p l less (is (map payload rs) (logs_hold text ends rs i l less))

-- a text of old and new records, by what was there
pub text_after : (log text : List ℕ) (old new : List Record) → IsBytes log → records log ≡ Ok old → text ≡ log_of (old ++ new) → text ≡ headed log ++ entries_of new
text_after log text old new bytes is text_is =
    text_is ∙ entries-append old new ∙ ap (λ (l : List ℕ). l ++ entries_of new) (sym (headed_text log old bytes is).0)
