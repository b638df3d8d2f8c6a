-- An index of the values that stand in a text.
use Rattle.std.proofs.Common.{◌≡◌, ℕ, ◌+◌, ◌≤◌, List, [], ◌∷◌, ◌++◌, length, take, drop, Bool, true, false, Option, Some, None, refl, ap, sym, ◌∙◌, subst, arith, cond, length-append, length-drop, IfSome}
use Rattle.std.specs.Prelude.{bytes_eq, option_map}
use Rattle.std.proofs.lemmas.List.{drop-append-le, take-append-le, drop_at, take_all}
use Rattle.std.specs.List.{AllByRecursion}
use Rattle.demi_spec.specs.Record.{Record, IsRecord}
use Rattle.demi_spec.specs.Store as store
use Rattle.demi_audit.specs.declared.values.Span.{Span}
use Rattle.demi_audit.specs.declared.values.Values.{Values}
use Rattle.demi_audit.specs.TextStores.{Indexes, IsWithin, bytes_at, span_of}

-- the map with one record more
pub map-push : (rs : List Record) (r : Record) (key : List ℕ) → store.map (rs ++ r ∷ []) key ≡ cond (bytes_eq r.key key) (Some r.value) (store.map rs key)
map-push [] r key = refl
map-push (x ∷ rs) r key = ap (store.unless_later x key) (map-push rs r key) ∙ push (bytes_eq r.key key)
  where
    push : (b : Bool) → store.unless_later x key (cond b (Some r.value) (store.map rs key)) ≡ cond b (Some r.value) (store.unless_later x key (store.map rs key))
    push true = refl
    push false = refl

-- a value that is found is one of a record
pub map_small : (rs : List Record) (key value : List ℕ) → AllByRecursion IsRecord rs → store.map rs key ≡ Some value → length value ≤ 65536
map_small [] key value all is = absurd (cc)
map_small (r ∷ rs) key value all is = step (λ v e. map_small rs key v all.1 e) (store.map rs key) refl is
  where
    here : (b : Bool) → cond b (Some r.value) None ≡ Some value → length value ≤ 65536
    here true e = let same : r.value ≡ value = cc in subst (λ (l : List ℕ). length l ≤ 65536) same all.0.value
    here false e = absurd (cc)

    step : ((v : List ℕ) → store.map rs key ≡ Some v → length v ≤ 65536) → (o : Option (List ℕ)) → store.map rs key ≡ o → store.unless_later r key o ≡ Some value → length value ≤ 65536
    step later (Some v) e is = let same : v ≡ value = cc in later value (e ∙ ap Some same)
    step later None e is = here (bytes_eq r.key key) is

-- bytes that stand in a text stand in a longer one
bytes_more : (text more : List ℕ) (s : Span) → IsWithin text s → bytes_at (text ++ more) s ≡ bytes_at text s
bytes_more text more s within =
    ap (take s.size) (drop-append-le s.from text more (omega arith))
    ∙ take-append-le s.size (drop s.from text) more (omega (arith, length-drop s.from text))

finds_more : (text more : List ℕ) (o : Option Span) (v : Option (List ℕ)) → option_map (bytes_at text) o ≡ v → IfSome o (IsWithin text) → option_map (bytes_at (text ++ more)) o ≡ v
finds_more text more None v is within = is
finds_more text more (Some s) v is within = ap Some (bytes_more text more s within) ∙ is

within_more : (text more : List ℕ) (o : Option Span) → IfSome o (IsWithin text) → IfSome o (IsWithin (text ++ more))
within_more text more None within = tt
within_more text more (Some s) within = omega (arith, length-append text more)

-- what an index finds in a text it finds in a longer one
pub indexes_more : (text more : List ℕ) (values : Values) (rs : List Record) → Indexes text values rs → Indexes (text ++ more) values rs
indexes_more text more values rs i = record {
  finds = λ key. finds_more text more (span_of values key) (store.map rs key) (i.finds key) (i.within key);
  within = λ key. within_more text more (span_of values key) (i.within key);
}

-- one key has another value
pub indexes_push : (text : List ℕ) (values new : Values) (rs : List Record) (r : Record) (s : Span) → Indexes text values rs → IsWithin text s → bytes_at text s ≡ r.value
    → ((other : List ℕ) → span_of new other ≡ cond (bytes_eq r.key other) (Some s) (span_of values other)) → Indexes text new (rs ++ r ∷ [])
indexes_push text values new rs r s i within is set = record {
  finds = λ key.
      ap (option_map (bytes_at text)) (set key)
      ∙ finds_by (bytes_eq r.key key) (span_of values key) (store.map rs key) (i.finds key)
      ∙ sym (map-push rs r key);
  within = λ key. subst (λ (o : Option Span). IfSome o (IsWithin text)) (sym (set key)) (within_by (bytes_eq r.key key) (span_of values key) (i.within key));
}
  where
    finds_by : (b : Bool) (o : Option Span) (v : Option (List ℕ)) → option_map (bytes_at text) o ≡ v → option_map (bytes_at text) (cond b (Some s) o) ≡ cond b (Some r.value) v
    finds_by true o v e = ap Some is
    finds_by false o v e = e

    within_by : (b : Bool) (o : Option Span) → IfSome o (IsWithin text) → IfSome (cond b (Some s) o) (IsWithin text)
    within_by true o w = within
    within_by false o w = w

-- what stands at the end of a text
pub tail_at : (front value : List ℕ) (n : ℕ) → n + length value ≡ length (front ++ value) → take (length value) (drop n (front ++ value)) ≡ value
tail_at front value n is =
    let here : length front ≡ n = omega (arith, length-append front value) in
    ap (take (length value)) (drop_at front value n here) ∙ take_all (length value) value (omega arith)

-- a place whose bytes are a value that was found
pub found_small : (text : List ℕ) (values : Values) (rs : List Record) (key : List ℕ) (s : Span) → Indexes text values rs → AllByRecursion IsRecord rs → Some s ≡ span_of values key → length (bytes_at text s) ≤ 65536
found_small text values rs key s i all is = map_small rs key (bytes_at text s) all (sym (i.finds key) ∙ ap (option_map (bytes_at text)) (sym is))
