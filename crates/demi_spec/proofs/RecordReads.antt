-- What is read of a log of records is what it spells, and an offset that is answered is that of its first bad byte.
use Rattle.std.proofs.Common.{◌≡◌, ℕ, zero, suc, ◌+◌, ◌≤◌, ◌<◌, Bool, false, true, ◌||◌, List, [], ◌∷◌, ◌++◌, length, take, drop, get_or, map, Option, None, Some, refl, arith, ◌∙◌, ap, sym, subst, cond, nat_lt, inl, inr, length-append, length-drop, flat_map}
use Rattle.std.specs.Prelude.{Result, Ok, Err, ◌==◌, ◌↔◌}
use Rattle.std.specs.List.{AllByRecursion}
use Rattle.std.specs.Int.{w16, w32, to_be_bytes, from_be_bytes}
use Rattle.std.proofs.Math.Seq.{take-append_seam}
use Rattle.std.proofs.lemmas.Bool.Decides.{nat_tests}
use Rattle.std.proofs.lemmas.List.{take-append-drop, drop-drop, length-take-le}
use Rattle.std.proofs.lemmas.Nat.{be_bytes_2, be_bytes_4}
use Rattle.demi_spec.specs.Request.{IsBytes}
use Rattle.demi_spec.specs.LogText.{header, entry, log_text, IsPayload, entries, put_first}
use Rattle.demi_spec.specs.Record.{Record, IsRecord, payload, record_of, records_from, records_in, records, after_record, IsRecordLog, NoRecord, BadRecord, IsBadRecordAt}
use Rattle.demi_spec.proofs.LogTexts.{entries_text}
use Rattle.demi_spec.proofs.LogReads.{ReadAll, read_all, bad_log, behind, take_bytes}
use Rattle.demi_spec.proofs.Payloads.{record_again, records_again, all_fit}

few_none : (p : List ℕ) → length p < 8 → record_of p ≡ None
unfolding record_of
few_none p less = grind (arith, nat_tests)

-- a record is in range, and this is its payload
abbrev pub Spells : List ℕ → Record → Type 0
Spells p r = (p ≡ payload r) × IsRecord r

-- the record of at least eight bytes
of_cells : (a b c d e f k x : ℕ) (rest : List ℕ) (r : Record) → IsBytes (a ∷ b ∷ c ∷ d ∷ e ∷ f ∷ k ∷ x ∷ rest) → record_of (a ∷ b ∷ c ∷ d ∷ e ∷ f ∷ k ∷ x ∷ rest) ≡ Some r
    → Spells (a ∷ b ∷ c ∷ d ∷ e ∷ f ∷ k ∷ x ∷ rest) r
unfolding record_of
of_cells a b c d e f k x rest r fits h = go (nat_lt (length p) 8) (k == 0) (nat_lt (length p) (7 + k)) (nat_lt (65536 + (7 + k)) (length p)) refl refl refl refl h
  where
    p : List ℕ
    p = a ∷ b ∷ c ∷ d ∷ e ∷ f ∷ k ∷ x ∷ rest

    go : (t1 t2 t3 t4 : Bool) → t1 ≡ nat_lt (length (a ∷ b ∷ c ∷ d ∷ e ∷ f ∷ k ∷ x ∷ rest)) 8 → t2 ≡ (k == 0) → t3 ≡ nat_lt (length (a ∷ b ∷ c ∷ d ∷ e ∷ f ∷ k ∷ x ∷ rest)) (7 + k)
        → t4 ≡ nat_lt (65536 + (7 + k)) (length (a ∷ b ∷ c ∷ d ∷ e ∷ f ∷ k ∷ x ∷ rest))
        → cond (t1 || t2 || t3 || t4) None (Some (record { link = from_be_bytes w16 (a ∷ b ∷ []); index = from_be_bytes w32 (c ∷ d ∷ e ∷ f ∷ []); key = take k (x ∷ rest); value = drop (7 + k) (a ∷ b ∷ c ∷ d ∷ e ∷ f ∷ k ∷ x ∷ rest) })) ≡ Some r
        → Spells (a ∷ b ∷ c ∷ d ∷ e ∷ f ∷ k ∷ x ∷ rest) r
    go true t2 t3 t4 p1 p2 p3 p4 h = absurd (cc)
    go false true t3 t4 p1 p2 p3 p4 h = absurd (cc)
    go false false true t4 p1 p2 p3 p4 h = absurd (cc)
    go false false false true p1 p2 p3 p4 h = absurd (cc)
    go false false false false p1 p2 p3 p4 h =
        let all : List ℕ = a ∷ b ∷ c ∷ d ∷ e ∷ f ∷ k ∷ x ∷ rest in
        let some : 0 < k = grind (arith, nat_tests) in
        let long : 7 + k ≤ length all = grind (arith, nat_tests) in
        let most : length all ≤ 65536 + (7 + k) = grind (arith, nat_tests) in
        let v : List ℕ = drop (7 + k) all in
        let r0 : Record = record { link = from_be_bytes w16 (a ∷ b ∷ []); index = from_be_bytes w32 (c ∷ d ∷ e ∷ f ∷ []); key = take k (x ∷ rest); value = v } in
        let same : r0 ≡ r = cc in
        let key_long : length (take k (x ∷ rest)) ≡ k = length-take-le k (x ∷ rest) (omega arith) in
        let e1 : to_be_bytes w16 r0.link ≡ a ∷ b ∷ [] = be_bytes_2 (a ∷ b ∷ []) r0.link refl (two (fits 0) (fits 1)) refl in
        let e2 : to_be_bytes w32 r0.index ≡ c ∷ d ∷ e ∷ f ∷ [] = be_bytes_4 (c ∷ d ∷ e ∷ f ∷ []) r0.index refl (four (fits 2) (fits 3) (fits 4) (fits 5)) refl in
        let behind_key : drop k (x ∷ rest) ≡ v = drop-drop k 7 all in
        let text : all ≡ payload r0 =
        ap (λ (l : List ℕ). a ∷ b ∷ c ∷ d ∷ e ∷ f ∷ k ∷ l) (sym (take-append-drop k (x ∷ rest)) ∙ ap (λ (l : List ℕ). take k (x ∷ rest) ++ l) behind_key)
        ∙ ap (λ n. a ∷ b ∷ c ∷ d ∷ e ∷ f ∷ n ∷ (take k (x ∷ rest) ++ v)) (sym key_long)
        ∙ ap (λ (l : List ℕ). l ++ (c ∷ d ∷ e ∷ f ∷ []) ++ length (take k (x ∷ rest)) ∷ take k (x ∷ rest) ++ v) (sym e1)
        ∙ ap (λ (l : List ℕ). to_be_bytes w16 r0.link ++ l ++ length (take k (x ∷ rest)) ∷ take k (x ∷ rest) ++ v) (sym e2) in
        let value_long : length v ≤ 65536 = omega (arith, length-drop (7 + k) all) in
        let low : k < 256 = fits 6 in
        let ok : IsRecord r0 = record { link = omega (arith, fits 0, fits 1); index = omega (arith, fits 2, fits 3, fits 4, fits 5); key = (omega arith, omega arith); value = value_long } in
        subst (Spells all) same (text, ok)
      where
        two : {m n : ℕ} → m < 256 → n < 256 → (i : ℕ) → get_or (m ∷ n ∷ []) i 0 < 256
        two p q zero = p
        two p q (suc zero) = q
        two p q (suc (suc i)) = omega arith

        four : {m n u w : ℕ} → m < 256 → n < 256 → u < 256 → w < 256 → (i : ℕ) → get_or (m ∷ n ∷ u ∷ w ∷ []) i 0 < 256
        four p q r s zero = p
        four p q r s (suc zero) = q
        four p q r s (suc (suc zero)) = r
        four p q r s (suc (suc (suc zero))) = s
        four p q r s (suc (suc (suc (suc i)))) = omega arith

pub record_here : (p : List ℕ) (r : Record) → IsBytes p → record_of p ≡ Some r → Spells p r
record_here (a ∷ b ∷ c ∷ d ∷ e ∷ f ∷ k ∷ x ∷ rest) r fits h = of_cells a b c d e f k x rest r fits h
record_here [] r fits h = let n = few_none [] (omega arith) in absurd (cc)
record_here (a ∷ []) r fits h = let n = few_none (a ∷ []) (omega arith) in absurd (cc)
record_here (a ∷ b ∷ []) r fits h = let n = few_none (a ∷ b ∷ []) (omega arith) in absurd (cc)
record_here (a ∷ b ∷ c ∷ []) r fits h = let n = few_none (a ∷ b ∷ c ∷ []) (omega arith) in absurd (cc)
record_here (a ∷ b ∷ c ∷ d ∷ []) r fits h = let n = few_none (a ∷ b ∷ c ∷ d ∷ []) (omega arith) in absurd (cc)
record_here (a ∷ b ∷ c ∷ d ∷ e ∷ []) r fits h = let n = few_none (a ∷ b ∷ c ∷ d ∷ e ∷ []) (omega arith) in absurd (cc)
record_here (a ∷ b ∷ c ∷ d ∷ e ∷ f ∷ []) r fits h = let n = few_none (a ∷ b ∷ c ∷ d ∷ e ∷ f ∷ []) (omega arith) in absurd (cc)
record_here (a ∷ b ∷ c ∷ d ∷ e ∷ f ∷ k ∷ []) r fits h = let n = few_none (a ∷ b ∷ c ∷ d ∷ e ∷ f ∷ k ∷ []) (omega arith) in absurd (cc)

-- where no record was found there is none, and the other way round
pub none_is : (p : List ℕ) → record_of p ≡ None → NoRecord p
none_is p h r fits e = let f = sym h ∙ ap record_of e ∙ record_again r fits in cc

pub is_none : (p : List ℕ) → IsBytes p → NoRecord p → record_of p ≡ None
is_none p fits none = go (record_of p) refl
  where
    go : (o : Option Record) → record_of p ≡ o → record_of p ≡ None
    go None e = e
    go (Some r) e = let s = record_here p r fits e in absurd (none r s.1 s.0)

-- what was read of payloads
pub record ReadBad (at : ℕ) (ps : List (List ℕ)) (bad : ℕ) : Type 0 where
  pub before : List Record
  pub one : List ℕ
  pub more : List (List ℕ)
  pub fits : AllByRecursion IsRecord before
  pub split : ps ≡ map payload before ++ one ∷ more
  pub place : bad ≡ at + length (flat_map entry (map payload before))
  pub none : record_of one ≡ None

abbrev pub ReadOff : ℕ → List (List ℕ) → Result (List Record) ℕ → Type 0
ReadOff at ps (Ok rs) = (ps ≡ map payload rs) × AllByRecursion IsRecord rs
ReadOff at ps (Err bad) = ReadBad at ps bad

one_more : (at : ℕ) (p : List ℕ) (ps : List (List ℕ)) (r : Record) (out : Result (List Record) ℕ) → Spells p r → ReadOff (at + (4 + length p)) ps out → ReadOff at (p ∷ ps) (put_first r out)
one_more at p ps r (Ok rs) s o = (ap (λ (q : List ℕ). q ∷ ps) s.0 ∙ ap (λ (l : List (List ℕ)). payload r ∷ l) o.0, (s.1, o.1))
one_more at p ps r (Err bad) s o = record {
  before = r ∷ o.before;
  one = o.one;
  more = o.more;
  fits = (s.1, o.fits);
  split = ap (λ (q : List ℕ). q ∷ ps) s.0 ∙ ap (λ (l : List (List ℕ)). payload r ∷ l) o.split;
  place = (let l = ap length s.0 in let k = o.place in omega (arith, length-append (entry (payload r)) (flat_map entry (map payload o.before))));
  none = o.none;
}

from_off : (at : ℕ) (ps : List (List ℕ)) → AllByRecursion IsBytes ps → ReadOff at ps (records_from at ps)
from_off at [] fits = (refl, tt)
from_off at (p ∷ ps) fits = go (from_off (at + (4 + length p)) ps fits.1) (record_of p) refl
  where
    go : ReadOff (at + (4 + length p)) ps (records_from (at + (4 + length p)) ps) → (o : Option Record) → record_of p ≡ o → ReadOff at (p ∷ ps) (after_record at o (records_from (at + (4 + length p)) ps))
    go on None e = record { before = []; one = p; more = ps; fits = tt; split = refl; place = omega arith; none = e }
    go on (Some r) e = one_more at p ps r (records_from (at + (4 + length p)) ps) (record_here p r fits.0 e) on

-- the payloads of bytes are bytes
in_front : (p rest : List ℕ) → IsBytes (p ++ rest) → IsBytes p
in_front p rest fits = subst IsBytes (take-append_seam p rest) (take_bytes (length p) (p ++ rest) fits)

each_bytes : (ps : List (List ℕ)) → IsBytes (flat_map entry ps) → AllByRecursion IsBytes ps
each_bytes [] fits = tt
each_bytes (p ∷ ps) fits =
    (behind (to_be_bytes w32 (length p)) p (in_front (entry p) (flat_map entry ps) fits), each_bytes ps (behind (entry p) (flat_map entry ps) fits))

of_log : (bytes : List ℕ) (ps : List (List ℕ)) → IsBytes bytes → bytes ≡ log_text ps → AllByRecursion IsBytes ps
of_log bytes ps fits e = each_bytes ps (behind header (flat_map entry ps) (subst IsBytes e fits))

-- of payloads of which the first ones are some records'
fits_behind : (rs : List Record) (ps : List (List ℕ)) → AllByRecursion IsPayload (map payload rs ++ ps) → AllByRecursion IsPayload ps
fits_behind [] ps all = all
fits_behind (r ∷ rs) ps all = fits_behind rs ps all.1

fits_all : (rs : List Record) (ps : List (List ℕ)) → AllByRecursion IsPayload (map payload rs) → AllByRecursion IsPayload ps → AllByRecursion IsPayload (map payload rs ++ ps)
fits_all [] ps a b = b
fits_all (r ∷ rs) ps a b = (a.0, fits_all rs ps a.1 b)

last_bytes : (rs : List Record) (p : List ℕ) (ps : List (List ℕ)) → AllByRecursion IsBytes (map payload rs ++ p ∷ ps) → IsBytes p
last_bytes [] p ps all = all.0
last_bytes (r ∷ rs) p ps all = last_bytes rs p ps all.1

abbrev ReadRecords : List ℕ → Result (List Record) ℕ → Type 0
ReadRecords bytes (Ok rs) = IsRecordLog bytes rs
ReadRecords bytes (Err at) = IsBadRecordAt bytes at

of_text : (bytes : List ℕ) (ps : List (List ℕ)) (out : Result (List Record) ℕ) → bytes ≡ log_text ps → AllByRecursion IsPayload ps → ReadOff 8 ps out → ReadRecords bytes out
of_text bytes ps (Ok rs) e fits o = inr (e ∙ ap log_text o.0, o.1)
of_text bytes ps (Err at) e fits o = inr (record {
  before = o.before;
  bad = o.one;
  more = o.more;
  fits = o.fits;
  whole = fits_behind o.before (o.one ∷ o.more) (subst (AllByRecursion IsPayload) o.split fits);
  text = e ∙ ap log_text o.split;
  place = o.place ∙ sym (length-append header (flat_map entry (map payload o.before)));
  none = none_is o.one o.none;
})

of_entries : (bytes : List ℕ) (out : Result (List (List ℕ)) ℕ) → IsBytes bytes → ReadAll bytes out → ReadRecords bytes (records_in out)
of_entries bytes (Err at) fits is = inl is
of_entries bytes (Ok ps) fits (inl (e, none)) = subst (λ l. ReadRecords bytes (records_from 8 l)) (sym none) (inl (e, refl))
of_entries bytes (Ok ps) fits (inr (e, all)) = of_text bytes ps (records_from 8 ps) e all (from_off 8 ps (of_log bytes ps fits e))

read_records : (bytes : List ℕ) → IsBytes bytes → ReadRecords bytes (records bytes)
read_records bytes fits = of_entries bytes (entries bytes) fits (read_all bytes fits)

-- the other way round
none_recorded : records [] ≡ Ok []
unfolding entries
none_recorded = refl

from_bad : (at : ℕ) (rs : List Record) (p : List ℕ) (ps : List (List ℕ)) → AllByRecursion IsRecord rs → record_of p ≡ None
    → records_from at (map payload rs ++ p ∷ ps) ≡ Err (at + length (flat_map entry (map payload rs)))
from_bad at [] p ps all none = ap (λ o. after_record at o (records_from (at + (4 + length p)) ps)) none ∙ ap Err (omega arith)
from_bad at (r ∷ rs) p ps all none =
    let next : ℕ = at + (4 + length (payload r)) in
    let place : next + length (flat_map entry (map payload rs)) ≡ at + length (flat_map entry (map payload (r ∷ rs))) = omega (arith, length-append (entry (payload r)) (flat_map entry (map payload rs))) in
    ap (λ o. after_record at o (records_from next (map payload rs ++ p ∷ ps))) (record_again r all.0) ∙ ap (put_first r) (from_bad next rs p ps all.1 none) ∙ ap Err place

bad_record : (bytes : List ℕ) (at : ℕ) → IsBytes bytes → BadRecord bytes at → records bytes ≡ Err at
bad_record bytes at fits b =
    let ps : List (List ℕ) = map payload b.before ++ b.bad ∷ b.more in
    let all : AllByRecursion IsPayload ps = fits_all b.before (b.bad ∷ b.more) (all_fit b.before b.fits) b.whole in
    let none : record_of b.bad ≡ None = is_none b.bad (last_bytes b.before b.bad b.more (of_log bytes ps fits b.text)) b.none in
    ap records_in (ap entries b.text ∙ entries_text ps all) ∙ from_bad 8 b.before b.bad b.more b.fits none
    ∙ ap Err (sym (length-append header (flat_map entry (map payload b.before))) ∙ sym b.place)

spelled : (bytes : List ℕ) (rs : List Record) → IsRecordLog bytes rs → records bytes ≡ Ok rs
spelled bytes rs (inl (e, none)) = ap records e ∙ none_recorded ∙ ap Ok (sym none)
spelled bytes rs (inr (e, fits)) = ap records e ∙ records_again rs fits

refused : (bytes : List ℕ) (at : ℕ) → IsBytes bytes → IsBadRecordAt bytes at → records bytes ≡ Err at
refused bytes at fits (inl bad) = ap records_in (bad_log bytes at fits bad)
refused bytes at fits (inr bad) = bad_record bytes at fits bad

-- both ways
pub records_are : (bytes : List ℕ) (rs : List Record) → IsBytes bytes → (records bytes ≡ Ok rs) ↔ IsRecordLog bytes rs
records_are bytes rs fits = (λ e. subst (ReadRecords bytes) e (read_records bytes fits), spelled bytes rs)

pub records_refuse : (bytes : List ℕ) (at : ℕ) → IsBytes bytes → (records bytes ≡ Err at) ↔ IsBadRecordAt bytes at
records_refuse bytes at fits = (λ e. subst (ReadRecords bytes) e (read_records bytes fits), refused bytes at fits)
