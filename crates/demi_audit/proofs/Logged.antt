-- Records of a log text that is in memory.
use Rattle.std.proofs.Common.{◌≡◌, ℕ, zero, suc, ◌+◌, ◌-◌, ◌≤◌, ◌<◌, List, [], ◌∷◌, ◌++◌, length, take, drop, get_or, map, Option, None, Some, refl, ap, sym, ◌∙◌, subst, arith, inl, inr}
use Rattle.std.specs.Prelude.{Ok, Err, Bool, true, false, ◌==◌, is_some, not, option_map}
use Rattle.std.proofs.lemmas.Bool.Decides.{nat_tests}
use Rattle.std.specs.List.{AllByRecursion}
use Rattle.std.proofs.lemmas.List.{length-map, map-append, nil_from_length, take_all, length-take, take-append-drop, take_more}
use Rattle.demi_spec.specs.Request.{IsBytes}
use Rattle.demi_spec.specs.LogText.{log_text, IsPayload, entries}
use Rattle.demi_spec.specs.Record.{Record, IsRecord, BadRecord, record_of, records, payload, log_of}
use Rattle.demi_spec.proofs.LogReads.{drop_bytes, take_bytes}
use Rattle.demi_spec.proofs.Payloads.{records_again}
use Rattle.demi_spec.proofs.RecordReads.{record_here, none_is, records_refuse}
use Rattle.demi_logq.specs.Logged.{Found, Holds, ends_from, end_of, place_of}
use Rattle.demi_logq.proofs.Entry.{length-ends, payload_there}
use Rattle.demi_logq.proofs.Holding.{entry_at}
use Rattle.demi_audit.specs.declared.entries.Parts.{Parts}
use Rattle.demi_audit.specs.Entries.{Logs, ReadTo, record_by}

-- how many entries there are
pub counted : (text ends : List ℕ) (rs : List Record) → Logs text ends rs → length ends ≡ length rs
counted text ends rs l = ap length l.places ∙ length-ends 8 (map payload rs) ∙ length-map rs payload

-- the entries of a text whose entries are found to its end
pub found_holds : (text ends : List ℕ) → (f : Found (Some text) (length text) ends (length text)) → Holds (Some text) ends f.before
found_holds text ends f = record { fits = f.fits; places = f.places; text = ap (λ n. take n text) (sym f.here) ∙ f.text }

pub found_text : (text ends : List ℕ) → (f : Found (Some text) (length text) ends (length text)) → text ≡ log_text f.before
found_text text ends f = sym (take_all (length text) text (omega arith)) ∙ f.text

-- one place where a payload stands
pub span_fits : (text ends : List ℕ) (payloads : List (List ℕ)) (i : ℕ) → Holds (Some text) ends payloads → i < length ends
    → (place_of ends i + 4 ≤ place_of ends (i + 1)) × (place_of ends (i + 1) ≤ length text)
span_fits text ends payloads i h less =
    let e = entry_at (Some text) ends payloads h i less in
    (omega (arith, e.next), omega (arith, e.within, ap length h.text, length-take (end_of payloads) text))

-- the payload that stands there
pub payload_is : (text ends : List ℕ) (payloads : List (List ℕ)) (i : ℕ) → Holds (Some text) ends payloads → i < length ends
    → take (place_of ends (i + 1) - (place_of ends i + 4)) (drop (place_of ends i + 4) text) ≡ get_or payloads i []
payload_is text ends payloads i h less =
    let e = entry_at (Some text) ends payloads h i less in
    let long : length ends ≡ length payloads = ap length h.places ∙ length-ends 8 payloads in
    let size : place_of ends (i + 1) - (place_of ends i + 4) ≡ length (get_or payloads i []) = omega (arith, e.next) in
    ap (λ n. take n (drop (place_of ends i + 4) text)) size
    ∙ ap (λ n. take (length (get_or payloads i [])) (drop (n + 4) text)) e.here
    ∙ payload_there text payloads i (omega arith) h.text

-- the payloads of bytes are bytes
pub payload_bytes : (text : List ℕ) (at count : ℕ) (p : List ℕ) → IsBytes text → p ≡ take count (drop at text) → IsBytes p
payload_bytes text at count p fits is = subst IsBytes (sym is) (take_bytes count (drop at text) (drop_bytes at text fits))

-- one payload more is a record's
pub read_more : (payloads : List (List ℕ)) (i : ℕ) (p : List ℕ) (r : Record) → i < length payloads → ReadTo i payloads → p ≡ get_or payloads i [] → IsBytes p → record_of p ≡ Some r
    → ReadTo (i + 1) payloads
read_more payloads i p r less t is fits found =
    let s = record_here p r fits found in
    record {
      records = t.records ++ r ∷ [];
      same = take_more payloads i [] less ∙ ap (λ (l : List (List ℕ)). l ++ get_or payloads i [] ∷ []) t.same
          ∙ ap (λ (x : List ℕ). map payload t.records ++ x ∷ []) (sym is ∙ s.0) ∙ sym (map-append payload t.records (r ∷ []));
      fits = records_fit t.records r t.fits s.1;
    }
  where
    records_fit : (rs : List Record) (x : Record) → AllByRecursion IsRecord rs → IsRecord x → AllByRecursion IsRecord (rs ++ x ∷ [])
    records_fit [] x all one = (one, tt)
    records_fit (y ∷ rs) x all one = (all.0, records_fit rs x all.1 one)

pub read_first : (payloads : List (List ℕ)) → ReadTo 0 payloads
read_first payloads = record { records = []; same = refl; fits = tt }

-- all payloads are records'
pub read_whole : (text ends : List ℕ) (f : Found (Some text) (length text) ends (length text)) → ReadTo (length ends) f.before
    → (rs : List Record) × (records text ≡ Ok rs) × Logs text ends rs
read_whole text ends f t =
    let long : length ends ≡ length f.before = ap length f.places ∙ length-ends 8 f.before in
    let all : f.before ≡ map payload t.records = sym (take_all (length ends) f.before (omega arith)) ∙ t.same in
    let is : text ≡ log_of t.records = found_text text ends f ∙ ap log_text all in (
      t.records,
      ap records is ∙ records_again t.records t.fits,
      record {
        places = f.places ∙ ap (ends_from 8) all;
        fits = t.fits;
        text_is = inr (is, t.fits);
      },
    )

-- a payload is no record's
pub read_bad : (text ends : List ℕ) (f : Found (Some text) (length text) ends (length text)) (i : ℕ) (p : List ℕ) → IsBytes text → i < length ends → ReadTo i f.before
    → p ≡ get_or f.before i [] → record_of p ≡ None → records text ≡ Err (place_of ends i)
read_bad text ends f i p fits less t is none =
    let long : length ends ≡ length f.before = ap length f.places ∙ length-ends 8 f.before in
    let there : i < length f.before = omega arith in
    let split : f.before ≡ map payload t.records ++ p ∷ drop (i + 1) f.before =
    sym (take-append-drop i f.before) ∙ ap (λ (l : List (List ℕ)). take i f.before ++ l) (drop_here f.before i there)
    ∙ ap (λ (l : List (List ℕ)). l ++ get_or f.before i [] ∷ drop (i + 1) f.before) t.same
    ∙ ap (λ (x : List ℕ). map payload t.records ++ x ∷ drop (i + 1) f.before) (sym is) in
    let e = entry_at (Some text) ends f.before (found_holds text ends f) i less in
    let bad : BadRecord text (place_of ends i) = record {
      before = t.records;
      bad = p;
      more = drop (i + 1) f.before;
      fits = t.fits;
      whole = fits_behind (map payload t.records) (p ∷ drop (i + 1) f.before) (subst (AllByRecursion IsPayload) split f.fits);
      text = found_text text ends f ∙ ap log_text split;
      place = e.here ∙ ap end_of t.same;
      none = none_is p none;
    } in
    (records_refuse text (place_of ends i) fits).1 (inr bad)
  where
    drop_here : (ps : List (List ℕ)) (k : ℕ) → k < length ps → drop k ps ≡ get_or ps k [] ∷ drop (k + 1) ps
    drop_here [] k less = absurd (omega arith)
    drop_here (q ∷ ps) zero less = refl
    drop_here (q ∷ ps) (suc k) less = let e : suc (k + 1) ≡ suc k + 1 = omega arith in drop_here ps k (omega arith) ∙ ap (λ n. get_or ps k [] ∷ drop n (q ∷ ps)) e

    fits_behind : (qs ps : List (List ℕ)) → AllByRecursion IsPayload (qs ++ ps) → AllByRecursion IsPayload ps
    fits_behind [] ps all = all
    fits_behind (q ∷ qs) ps all = fits_behind qs ps all.1

-- an empty text holds no records
pub read_none : (text ends : List ℕ) (b : Bool) → b ≡ (length text == 0) → b ≡ true → ends ≡ [] → (rs : List Record) × (records text ≡ Ok rs) × Logs text ends rs
unfolding entries
read_none text ends b is set none =
    let t : (length text == 0) ≡ true = sym is ∙ set in
    let zero : length text ≡ 0 = grind (arith, nat_tests) in
    let e : text ≡ [] = nil_from_length text zero in
    ([], ap records e, record { places = none; fits = tt; text_is = inl (e, refl) })

-- the payload that was looked at, and whether it is a record's
pub some_parts : (p : List ℕ) (o : Option Parts) (b : Bool) → option_map (record_by p) o ≡ record_of p → is_some o ≡ not b → b ≡ false → (r : Record) × (record_of p ≡ Some r)
some_parts p None b is none clear = let e : false ≡ true = none ∙ ap not clear in absurd (cc)
some_parts p (Some parts) b is none clear = (record_by p parts, sym is)

pub no_parts : (p : List ℕ) (o : Option Parts) (b : Bool) → option_map (record_by p) o ≡ record_of p → is_some o ≡ not b → b ≡ true → record_of p ≡ None
no_parts p None b is none set = sym is
no_parts p (Some parts) b is none set = let e : true ≡ false = none ∙ ap not set in absurd (cc)

pub payload_here : (text ends other : List ℕ) (payloads : List (List ℕ)) (i : ℕ) (p : List ℕ) → Holds (Some text) ends payloads → other ≡ ends
    → ((ps : List (List ℕ)) → Holds (Some text) other ps → p ≡ get_or ps i []) → p ≡ get_or payloads i []
payload_here text ends other payloads i p h same is = is payloads (subst (λ (l : List ℕ). Holds (Some text) l payloads) (sym same) h)

pub read_next : (text ends : List ℕ) (payloads : List (List ℕ)) (i : ℕ) (p : List ℕ) → IsBytes text → Holds (Some text) ends payloads → i < length ends → ReadTo i payloads → p ≡ get_or payloads i []
    → (r : Record) × (record_of p ≡ Some r) → ReadTo (i + 1) payloads
read_next text ends payloads i p fits h less t is found =
    let long : length ends ≡ length payloads = ap length h.places ∙ length-ends 8 payloads in
    let bytes : IsBytes p = payload_bytes text (place_of ends i + 4) (place_of ends (i + 1) - (place_of ends i + 4)) p fits (is ∙ sym (payload_is text ends payloads i h less)) in
    read_more payloads i p found.0 (omega arith) t is bytes found.1
