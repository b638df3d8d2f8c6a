-- What the calls of a log leave of its records.
use Rattle.std.proofs.Common.{◌≡◌, ℕ, zero, suc, ◌+◌, ◌-◌, ◌<◌, ◌≤◌, min, List, [], ◌∷◌, ◌++◌, length, map, take, drop, get_or, Option, None, Some, Bool, true, false, refl, ap, sym, ◌∙◌, arith, cond, subst, length-append, length-take, inl, inr}
use Rattle.std.specs.Prelude.{bytes_eq, IfSome, slice_index, replicate, Err}
use Rattle.std.specs.List.{AllByRecursion}
use Rattle.std.specs.Cmp.Lexicographic.{bytes_decides}
use Rattle.std.specs.Io.KnownBytes.{append_known}
use Rattle.std.proofs.Math.Seq.{take-append_seam, drop-append_seam}
use Rattle.std.proofs.lemmas.List.{drop-drop, length-replicate, take_all}
use Rattle.demi_core.specs.Outside.{GrowsByFront}
use Rattle.demi_spec.specs.LogText.{entry}
use Rattle.demi_spec.specs.Record.{Record, IsRecord, payload}
use Rattle.demi_spec.specs.Store as store
use Rattle.demi_logq.specs.Logged.{Logged, Holds}
use Rattle.demi_logq.specs.Calls.{Appended, Torn, Committed}
use Rattle.demi_logq.specs.declared.refusal.LogRefusal.{LogRefusal}
use Rattle.demi_logq.specs.declared.refusal.LogRefusal.TheVariants as refusal
use Rattle.demi_logq.proofs.Entry.{length-ends}
use Rattle.demi_logq.proofs.Holding.{length-entry}
use Rattle.demi_port_core.specs.declared.place.Place.{Place}
use Rattle.demi_store.specs.Finding.{entry_of, last_with}
use Rattle.demi_store.specs.Shelves.{Keeps, Grows, Fails}
use Rattle.demi_store.specs.declared.index.Index.{Index}
use Rattle.demi_store.proofs.Lasts.{no_record, IsLast, last_is, last_more}

lengths : (records : List Record) → length (map payload records) ≡ length records
lengths [] = refl
lengths (r ∷ records) = ap suc (lengths records)

pub counted : (told : Option (List ℕ)) (ends : List ℕ) (records : List Record) → Holds told ends (map payload records) → length ends ≡ length records
counted told ends records h = ap length h.places ∙ length-ends 8 (map payload records) ∙ lengths records

-- the record of a number, and its payload
payload_at : (records : List Record) (j : ℕ) → j < length records → get_or (map payload records) j [] ≡ payload (get_or records j no_record)
payload_at [] j less = absurd (omega arith)
payload_at (r ∷ records) zero less = refl
payload_at (r ∷ records) (suc j) less = payload_at records j (omega arith)

fits_at : (records : List Record) (j : ℕ) → AllByRecursion IsRecord records → j < length records → IsRecord (get_or records j no_record)
fits_at [] j all less = absurd (omega arith)
fits_at (r ∷ records) zero all less = all.0
fits_at (r ∷ records) (suc j) all less = fits_at records j all.1 (omega arith)

pub fits_more : (records : List Record) (r : Record) → AllByRecursion IsRecord records → IsRecord r → AllByRecursion IsRecord (records ++ r ∷ [])
fits_more [] r all one = (one, tt)
fits_more (x ∷ records) r all one = (all.0, fits_more records r all.1 one)

map_more : (records : List Record) (r : Record) → map payload records ++ payload r ∷ [] ≡ map payload (records ++ r ∷ [])
map_more [] r = refl
map_more (x ∷ records) r = ap (λ (l : List (List ℕ)). payload x ∷ l) (map_more records r)

-- the value at the end of a payload
value_of : (r : Record) → drop (7 + length r.key) (payload r) ≡ r.value
value_of r = sym (drop-drop (length r.key) 7 (payload r)) ∙ drop-append_seam r.key r.value

pub length_of : (r : Record) → length (payload r) ≡ 7 + (length r.key + length r.value)
length_of r = omega (arith, length-append r.key r.value)

last_has : (records : List Record) (key : List ℕ) (o : Option ℕ) → last_with records key ≡ o → IsLast 0 records key o
last_has records key o is = subst (λ (x : Option ℕ). IsLast 0 records key x) is (last_is records key)

pub none_has : (records : List Record) (key : List ℕ) → last_with records key ≡ None → store.map records key ≡ None
none_has records key is = last_has records key None is

pub entry_within : (records : List Record) (key : List ℕ) (j : ℕ) → last_with records key ≡ Some j → j < length records
entry_within records key j is = let h = last_has records key (Some j) is in omega (arith, h.within)

-- a value that was read
pub value_got : (told : Option (List ℕ)) (records : List Record) (key room : List ℕ) (j n size from : ℕ) → AllByRecursion IsRecord records → last_with records key ≡ Some j → size ≡ 65536 → from ≡ 7 + length key
    → n ≡ min size (length (get_or (map payload records) j []) - from) → IfSome told (λ b. take n room ≡ take n (drop from (get_or (map payload records) j [])))
    → (value : List ℕ) × (store.map records key ≡ Some value) × (n ≡ length value) × IfSome told (λ _. take n room ≡ value)
value_got told records key room j n size from all is large behind count read =
    let h = last_has records key (Some j) is in
    let same : j - 0 ≡ j = omega arith in
    let less : j < length records = omega (arith, h.within) in
    let r : Record = get_or records j no_record in
    let at : get_or (map payload records) j [] ≡ payload r = payload_at records j less in
    let keys : r.key ≡ key = (bytes_decides r.key key).0 (ap (λ i. bytes_eq (get_or records i no_record).key key) (sym same) ∙ h.same) in
    let fits = fits_at records j all less in
    let most = fits.value in
    let here : from ≡ 7 + length r.key = behind ∙ ap (λ (l : List ℕ). 7 + length l) (sym keys) in
    let long : n ≡ length r.value = omega (arith, ap length at, length_of r) in
    (r.value, h.value ∙ ap (λ i. Some (get_or records i no_record).value) same, long, told_of told r at here long read)
  where
    told_of : (o : Option (List ℕ)) (r : Record) → get_or (map payload records) j [] ≡ payload r → from ≡ 7 + length r.key → n ≡ length r.value
        → IfSome o (λ b. take n room ≡ take n (drop from (get_or (map payload records) j []))) → IfSome o (λ _. take n room ≡ r.value)
    told_of None r at here long read = tt
    told_of (Some b) r at here long read =
        read ∙ ap (λ (l : List ℕ). take n (drop from l)) at ∙ ap (λ k. take n (drop k (payload r))) here ∙ ap (take n) (value_of r) ∙ take_all n r.value (omega arith)

-- a room that was given a length has it
pub sized_length : (n : ℕ) (a : List ℕ) → length (take n a ++ replicate (n - length a) 0) ≡ n
sized_length n a = omega (arith, length-append (take n a) (replicate (n - length a) 0), length-take n a, length-replicate {A = ℕ} (n - length a) 0)

-- the record that a key's entry has
pub value_at : (told : Option (List ℕ)) (records : List Record) (key : List ℕ) (j from : ℕ) → AllByRecursion IsRecord records → last_with records key ≡ Some j → from ≡ 7 + length key
    → (r : Record) × (store.map records key ≡ Some r.value) × (drop from (get_or (map payload records) j []) ≡ r.value) × (length (get_or (map payload records) j []) ≡ from + length r.value) × (length r.value ≤ 65536)
value_at told records key j from all is behind =
    let h = last_has records key (Some j) is in
    let same : j - 0 ≡ j = omega arith in
    let less : j < length records = omega (arith, h.within) in
    let r : Record = get_or records j no_record in
    let at : get_or (map payload records) j [] ≡ payload r = payload_at records j less in
    let keys : r.key ≡ key = (bytes_decides r.key key).0 (ap (λ i. bytes_eq (get_or records i no_record).key key) (sym same) ∙ h.same) in
    let here : from ≡ 7 + length r.key = behind ∙ ap (λ (l : List ℕ). 7 + length l) (sym keys) in (
      r,
      h.value ∙ ap (λ i. Some (get_or records i no_record).value) same,
      ap (λ (l : List ℕ). drop from l) at ∙ ap (λ k. drop k (payload r)) here ∙ value_of r,
      omega (arith, ap length at, length_of r),
      (fits_at records j all less).value,
    )

-- a value that was read whole
pub value_read : (told : Option (List ℕ)) (records : List Record) (key room : List ℕ) (j from : ℕ) → AllByRecursion IsRecord records → last_with records key ≡ Some j → from ≡ 7 + length key
    → length room ≡ length (get_or (map payload records) j []) - from → IfSome told (λ _. room ≡ drop from (get_or (map payload records) j []))
    → (value : List ℕ) × (store.map records key ≡ Some value) × (length room ≡ length value) × IfSome told (λ _. take (length room) room ≡ value)
value_read told records key room j from all is behind count read =
    let v = value_at told records key j from all is behind in
    let long = v.3 in (v.0.value, v.1, omega arith, told_of told v.0 v.2 read)
  where
    told_of : (o : Option (List ℕ)) (r : Record) → drop from (get_or (map payload records) j []) ≡ r.value → IfSome o (λ _. room ≡ drop from (get_or (map payload records) j [])) → IfSome o (λ _. take (length room) room ≡ r.value)
    told_of None r e read = tt
    told_of (Some b) r e read = take_all (length room) room (omega arith) ∙ read ∙ e

module _ {D : Type 0} (bytes : D → Option (List ℕ)) where
  -- nothing changed but what is staged and how the index lies
  pub kept_on : (log log' : Logged D) (staged : List ℕ) (index index' : Index) (limit : ℕ) (fault fault' : Option Place) (records : List Record) → Keeps bytes log index limit fault records
      → log' ≡ record log { staged = staged } → ((key : List ℕ) → entry_of index' key ≡ entry_of index key) → fault' ≡ fault → Keeps bytes log' index' limit fault' records
  kept_on log log' staged index index' limit fault fault' records k same entries faults = record {
    holds = subst (λ (l : Logged D). Holds (bytes l.disk) l.ends (map payload records)) (sym same) k.holds;
    fits = k.fits;
    entries = λ key. entries key ∙ k.entries key;
    kept = ap (λ (l : Logged D). l.lost) same ∙ k.kept;
    whole = λ none. ap (λ (l : Logged D). l.torn) same ∙ k.whole (sym faults ∙ none);
    limit_fits = omega (arith, k.limit_fits, ap (λ (l : Logged D). l.limit) same);
  }

  key_is : (draft key : List ℕ) (r : Record) → draft ≡ payload r → key ≡ take (slice_index draft 6) (drop 7 draft) → key ≡ r.key
  key_is draft key r text is = is ∙ ap (λ (d : List ℕ). take (slice_index d 6) (drop 7 d)) text ∙ take-append_seam r.key r.value

  module _ (held faults : D → ℕ) (appends : D → List ℕ → Bool → D → Type 0) where
    pub stored : (log log' : Logged D) (index index1 index2 : Index) (limit : ℕ) (fault fault' : Option Place) (records : List Record) (r : Record) (key : List ℕ) (number : ℕ)
        → Keeps bytes log index limit fault records → IsRecord r → log.staged ≡ payload r → fault ≡ None → ((k : List ℕ) → entry_of index1 k ≡ entry_of index k)
        → key ≡ take (slice_index log.staged 6) (drop 7 log.staged) → ((k : List ℕ) → entry_of index2 k ≡ cond (bytes_eq key k) (Some number) (entry_of index1 k)) → Appended bytes held appends log log' number
        → Keeps bytes log' index2 limit fault' (records ++ r ∷ []) × Grows bytes held appends log.disk log'.disk r
    stored log log' index index1 index2 limit fault fault' records r key number k fits text none entries1 key_of entries2 a =
        let keys : key ≡ r.key = key_is log.staged key r text key_of in
        let count : number ≡ length records = a.index_is ∙ counted (bytes log.disk) log.ends records k.holds in (
          record {
            holds = subst (λ (l : List (List ℕ)). Holds (bytes log'.disk) log'.ends l) (map_more records r)
                (subst (λ (p : List ℕ). Holds (bytes log'.disk) log'.ends (map payload records ++ p ∷ [])) text (a.holds (map payload records) k.holds));
            fits = fits_more records r k.fits fits;
            entries = λ other.
                entries2 other
                ∙ ap (λ (l : List ℕ). cond (bytes_eq l other) (Some number) (entry_of index1 other)) keys
                ∙ ap (λ n. cond (bytes_eq r.key other) (Some n) (entry_of index1 other)) count
                ∙ ap (λ o. cond (bytes_eq r.key other) (Some (length records)) o) (entries1 other ∙ k.entries other)
                ∙ sym (last_more records r other);
            kept = ap (λ (l : Logged D). l.lost) a.now ∙ k.kept;
            whole = λ _. ap (λ (l : Logged D). l.torn) a.now ∙ k.whole none;
            limit_fits = omega (arith, k.limit_fits, ap (λ (l : Logged D). l.limit) a.now);
          },
          record {
            bytes_are = a.bytes_are ∙ ap (λ (l : List ℕ). append_known (bytes log.disk) (entry l)) text;
            held_is = omega (arith, a.held_is, ap length text, length-entry (payload r));
            call = subst (λ (l : List ℕ). appends log.disk (entry l) true log'.disk) text a.call;
          },
        )

    pub torn_commit : (log log' : Logged D) (e : LogRefusal) → Committed bytes held faults appends log log' (Err e) → log.torn ≡ false → log.lost ≡ false → length log.ends < log.limit → Torn bytes held faults appends log log'
    torn_commit log log' refusal.Failed d sound kept less = d
    torn_commit log log' refusal.Full d sound kept less = absurd (let l = d.1 in omega arith)
    torn_commit log log' refusal.Broken d sound kept less = elim d.0 [ inl t ↦ absurd (cc) | inr t ↦ absurd (cc) ]
    torn_commit log log' refusal.NoMemory d sound kept less = absurd d
    torn_commit log log' (refusal.BadLog at) d sound kept less = absurd d

    pub failed : (log log' : Logged D) (index index1 : Index) (limit : ℕ) (fault fault' : Option Place) (place : Place) (records : List Record) (r : Record)
        → Keeps bytes log index limit fault records → log.staged ≡ payload r → fault' ≡ Some place → ((k : List ℕ) → entry_of index1 k ≡ entry_of index k)
        → Torn bytes held faults appends log log' → Keeps bytes log' index1 limit fault' records × Fails bytes held faults appends log.disk log'.disk r
    failed log log' index index1 limit fault fault' place records r k text broken entries1 t = (
      record {
        holds = t.holds (map payload records) k.holds;
        fits = k.fits;
        entries = λ other. entries1 other ∙ k.entries other;
        kept = ap (λ (l : Logged D). l.lost) t.now ∙ k.kept;
        whole = λ none. absurd (let e : Some place ≡ None = sym broken ∙ none in cc);
        limit_fits = omega (arith, k.limit_fits, ap (λ (l : Logged D). l.limit) t.now);
      },
      record {
        grown = subst (λ (l : List ℕ). GrowsByFront (bytes log.disk) (bytes log'.disk) (held log.disk) (held log'.disk) (entry l)) text t.grown;
        call = subst (λ (l : List ℕ). appends log.disk (entry l) false log'.disk) text t.call;
        cause = t.cause;
      },
    )
