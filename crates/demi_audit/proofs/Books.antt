-- The records of a log, one by one.
use Rattle.std.proofs.Common.{◌≡◌, ℕ, zero, suc, ◌+◌, ◌-◌, ◌<◌, List, [], ◌∷◌, length, take, drop, get_or, map, Option, None, Some, refl, ap, sym, ◌∙◌, arith, inl, inr}
use Rattle.std.specs.Prelude.{IsSome, option_map, slice_get}
use Rattle.std.specs.List.{AllByRecursion}
use Rattle.std.proofs.lemmas.List.{take_all, drop-drop}
use Rattle.demi_spec.specs.LogText.{log_text}
use Rattle.demi_spec.specs.Record.{Record, IsRecord, IsRecordLog, payload, record_of}
use Rattle.demi_spec.proofs.Payloads.{all_fit, record_again}
use Rattle.demi_logq.specs.Logged.{Holds, end_of}
use Rattle.demi_audit.specs.declared.entries.Parts.{Parts}
use Rattle.demi_audit.specs.Entries.{Logs, record_by}
use Rattle.demi_audit.specs.Past.{no_record}
use Rattle.demi_audit.proofs.Logged.{counted}
use Rattle.demi_audit.proofs.Pasts.{value_of}

pub holds_of : (text ends : List ℕ) (rs : List Record) → Logs text ends rs → 0 < length rs → Holds (Some text) ends (map payload rs)
holds_of text ends rs l some = record { fits = all_fit rs l.fits; places = l.places; text = go l.text_is }
  where
    go : IsRecordLog text rs → take (end_of (map payload rs)) text ≡ log_text (map payload rs)
    go (inl none) = absurd (let e : length rs ≡ 0 = ap length none.1 in omega arith)
    go (inr is) = ap (take (end_of (map payload rs))) is.0 ∙ take_all (end_of (map payload rs)) (log_text (map payload rs)) (omega arith)

payload_at : (rs : List Record) (i : ℕ) → i < length rs → get_or (map payload rs) i [] ≡ payload (get_or rs i no_record)
payload_at [] i less = absurd (omega arith)
payload_at (r ∷ rs) zero less = refl
payload_at (r ∷ rs) (suc i) less = payload_at rs i (omega arith)

record_fits : (rs : List Record) (i : ℕ) → AllByRecursion IsRecord rs → i < length rs → IsRecord (get_or rs i no_record)
record_fits [] i all less = absurd (omega arith)
record_fits (r ∷ rs) zero all less = all.0
record_fits (r ∷ rs) (suc i) all less = record_fits rs i all.1 (omega arith)

-- the payload of an entry is its record's
pub record_there : (text ends : List ℕ) (rs : List Record) (i : ℕ) (p : List ℕ) → Logs text ends rs → i < length rs → ((payloads : List (List ℕ)) → Holds (Some text) ends payloads → p ≡ get_or payloads i [])
    → record_of p ≡ Some (get_or rs i no_record)
record_there text ends rs i p l less is =
    ap record_of (is (map payload rs) (holds_of text ends rs l (omega arith)) ∙ payload_at rs i less) ∙ record_again (get_or rs i no_record) (record_fits rs i l.fits less)

pub is_some : (p : List ℕ) (o : Option Parts) (r : Record) → option_map (record_by p) o ≡ record_of p → record_of p ≡ Some r → IsSome o
is_some p None r is there = let e : None ≡ Some r = is ∙ there in absurd (cc)
is_some p (Some x) r is there = refl

pub parts_are : (p : List ℕ) (o : Option Parts) (x : Parts) (r : Record) → o ≡ Some x → option_map (record_by p) o ≡ record_of p → record_of p ≡ Some r → record_by p x ≡ r
parts_are p o x r found is there =
    let e : Some (record_by p x) ≡ Some r = ap (option_map (record_by p)) (sym found) ∙ is ∙ there in cc

-- the record by two cuts of its payload
pub record_cut : (p content key value : List ℕ) (x : Parts) (r : Record) → content ≡ drop 7 p → key ≡ take x.key content → value ≡ drop x.key content → record_by p x ≡ r
    → record { link = x.link; index = x.index; key = key; value = value } ≡ r
record_cut p content key value x r c k v is =
    let a : key ≡ take x.key (drop 7 p) = k ∙ ap (take x.key) c in
    let b : value ≡ drop (7 + x.key) p = v ∙ ap (drop x.key) c ∙ drop-drop x.key 7 p in
    (λ i. record { link = x.link; index = x.index; key = a i; value = b i }) ∙ is

pub slice_get_at : {X : Type 0} (xs : List X) (i : ℕ) (d : X) → i < length xs → slice_get xs i ≡ Some (get_or xs i d)
slice_get_at [] i d less = absurd (omega arith)
slice_get_at (x ∷ xs) zero d less = refl
slice_get_at (x ∷ xs) (suc i) d less = slice_get_at xs i d (omega arith)

-- all lists of records of a log have one length
pub one_length : (text ends : List ℕ) (rs qs : List Record) → Logs text ends rs → Logs text ends qs → length rs ≡ length qs
one_length text ends rs qs l k = sym (counted text ends rs l) ∙ counted text ends qs k

pub value_at : (rs : List Record) (n : ℕ) → 0 < n → value_of rs n ≡ Some (get_or rs (n - 1) no_record).value
value_at rs zero some = absurd (omega arith)
value_at rs (suc n) some = let e : suc n - 1 ≡ n = omega arith in ap (λ (k : ℕ). Some (get_or rs k no_record).value) (sym e)
