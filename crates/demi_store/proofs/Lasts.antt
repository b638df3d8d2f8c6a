-- The last record with a key.
use Rattle.std.proofs.Common.{◌≡◌, ℕ, suc, ◌+◌, ◌-◌, ◌<◌, ◌≤◌, List, [], ◌∷◌, ◌++◌, length, get_or, Option, None, Some, Bool, true, false, refl, ap, sym, ◌∙◌, arith, cond}
use Rattle.std.specs.Prelude.{bytes_eq}
use Rattle.demi_spec.specs.Record.{Record}
use Rattle.demi_spec.specs.Store as store
use Rattle.demi_store.specs.Finding.{or_here, last_from, last_with}

-- one record more
last_from_more : (i : ℕ) (records : List Record) (r : Record) (key : List ℕ) → last_from i (records ++ r ∷ []) key ≡ cond (bytes_eq r.key key) (Some (i + length records)) (last_from i records key)
last_from_more i [] r key = ap (λ n. cond (bytes_eq r.key key) (Some n) None) (omega arith)
last_from_more i (x ∷ records) r key = ap (or_here (bytes_eq x.key key) i) (last_from_more (i + 1) records r key) ∙ push (bytes_eq r.key key)
  where
    push : (b : Bool) → or_here (bytes_eq x.key key) i (cond b (Some (i + 1 + length records)) (last_from (i + 1) records key)) ≡ cond b (Some (i + length (x ∷ records))) (or_here (bytes_eq x.key key) i (last_from (i + 1) records key))
    push true = ap Some (omega arith)
    push false = refl

pub last_more : (records : List Record) (r : Record) (key : List ℕ) → last_with (records ++ r ∷ []) key ≡ cond (bytes_eq r.key key) (Some (length records)) (last_with records key)
last_more records r key = last_from_more 0 records r key ∙ ap (λ n. cond (bytes_eq r.key key) (Some n) (last_with records key)) (omega arith)

abbrev pub no_record : Record
no_record = record { link = 0; index = 0; key = []; value = [] }

-- the record with the number j, where the first has the number i, is the last that has the key
pub record Has (i : ℕ) (records : List Record) (key : List ℕ) (j : ℕ) : Type 0 where
  pub from : i ≤ j
  pub within : j < i + length records
  pub same : bytes_eq (get_or records (j - i) no_record).key key ≡ true
  pub value : store.map records key ≡ Some (get_or records (j - i) no_record).value

abbrev pub IsLast : ℕ → List Record → List ℕ → Option ℕ → Type 0
IsLast i records key None = store.map records key ≡ None
IsLast i records key (Some j) = Has i records key j

is_last : (i : ℕ) (records : List Record) (key : List ℕ) → IsLast i records key (last_from i records key)
is_last i [] key = refl
is_last i (x ∷ records) key = step (last_from (i + 1) records key) (is_last (i + 1) records key) (bytes_eq x.key key) refl
  where
    next : (j : ℕ) → i + 1 ≤ j → get_or (x ∷ records) (j - i) no_record ≡ get_or records (j - (i + 1)) no_record
    next j from = let e : j - i ≡ suc (j - (i + 1)) = omega arith in ap (λ n. get_or (x ∷ records) n no_record) e

    here : get_or (x ∷ records) (i - i) no_record ≡ x
    here = let e : i - i ≡ 0 = omega arith in ap (λ n. get_or (x ∷ records) n no_record) e

    step : (o : Option ℕ) → IsLast (i + 1) records key o → (b : Bool) → bytes_eq x.key key ≡ b → IsLast i (x ∷ records) key (or_here b i o)
    step (Some j) h b is = record {
      from = omega (arith, h.from);
      within = omega (arith, h.within);
      same = ap (λ (r : Record). bytes_eq r.key key) (next j h.from) ∙ h.same;
      value = ap (store.unless_later x key) h.value ∙ ap (λ (r : Record). Some r.value) (sym (next j h.from));
    }
    step None h true is = record {
      from = omega arith;
      within = omega arith;
      same = ap (λ (r : Record). bytes_eq r.key key) here ∙ is;
      value = ap (store.unless_later x key) h ∙ ap (λ b. cond b (Some x.value) None) is ∙ ap (λ (r : Record). Some r.value) (sym here);
    }
    step None h false is = ap (store.unless_later x key) h ∙ ap (λ b. cond b (Some x.value) None) is

pub last_is : (records : List Record) (key : List ℕ) → IsLast 0 records key (last_with records key)
last_is records key = is_last 0 records key
