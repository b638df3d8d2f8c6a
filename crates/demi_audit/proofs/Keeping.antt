-- A store over a text, one record more.
use Rattle.std.proofs.Common.{◌≡◌, ℕ, ◌+◌, ◌-◌, ◌≤◌, List, [], ◌∷◌, ◌++◌, length, Some, ap, sym, ◌∙◌, subst, arith, append_assoc, cond, length-append, take, drop}
use Rattle.std.specs.Prelude.{Result, Ok, Err, OnOk, bytes_eq, slice_index}
use Rattle.std.specs.Int.{w16, w32, to_be_bytes}
use Rattle.demi_spec.specs.LogText.{entry}
use Rattle.demi_spec.specs.Record.{Record, IsRecord, payload, records}
use Rattle.demi_spec.specs.Request.{IsBytes}
use Rattle.demi_audit.specs.Client.{headed}
use Rattle.demi_audit.specs.Entries.{Logs}
use Rattle.demi_audit.proofs.Logged.{counted}
use Rattle.std.proofs.lemmas.List.{take_all}
use Rattle.demi_audit.specs.declared.text_store.TextStore.{TextStore}
use Rattle.demi_audit.specs.declared.values.Span.{Span}
use Rattle.demi_audit.specs.declared.values.Values.{Values}
use Rattle.demi_audit.specs.TextStores.{Indexes, IsWithin, Keeps, bytes_at, span_of}
use Rattle.demi_audit.proofs.Indexing.{indexes_more, indexes_push, tail_at}
use Rattle.demi_audit.proofs.Entering.{Stands, fits-push, headed_text, records_headed, key_is, log-push, value_there}

-- what follows from the clause of a call, where it answered Ok
pub on_ok : {T E P Q : Type 0} (r : Result T E) → (P → Q) → OnOk r P → OnOk r Q
on_ok (Ok v) f p = f p
on_ok (Err e) f p = tt

-- an entry ends with the value
abbrev front_of : Record → List ℕ
front_of r = to_be_bytes w32 (length (payload r)) ++ (to_be_bytes w16 r.link ++ to_be_bytes w32 r.index ++ length r.key ∷ r.key)

value_last : (text : List ℕ) (r : Record) → text ++ entry (payload r) ≡ (text ++ front_of r) ++ r.value
value_last text r = sym (append_assoc text (front_of r) r.value)

-- the place of the value of a record that was appended
value_at : (text text' : List ℕ) (r : Record) (s : Span) → text' ≡ text ++ entry (payload r) → s.from ≡ length text' - length r.value → s.size ≡ length r.value → IsWithin text' s × (bytes_at text' s ≡ r.value)
value_at text text' r s grown from size =
    let is : text' ≡ (text ++ front_of r) ++ r.value = grown ∙ value_last text r in
    let long : length text' ≡ length (text ++ front_of r) + length r.value = ap length is ∙ length-append (text ++ front_of r) r.value in
    let end : s.from + length r.value ≡ length ((text ++ front_of r) ++ r.value) = omega (arith, length-append (text ++ front_of r) r.value) in (
      omega arith,
      ap (λ n. take n (drop s.from text')) size ∙ ap (λ (l : List ℕ). take (length r.value) (drop s.from l)) is ∙ tail_at (text ++ front_of r) r.value s.from end,
    )

pub kept_put : (s s' : TextStore) (r : Record) (at : Span) (rs : List Record) → Keeps s rs → IsRecord r → s'.text.items ≡ s.text.items ++ entry (payload r)
    → ((other : List ℕ) → span_of s'.values other ≡ cond (bytes_eq r.key other) (Some at) (span_of s.values other)) → at.from ≡ length s'.text.items - length r.value → at.size ≡ length r.value → s'.count ≡ s.count + 1
    → Keeps s' (rs ++ r ∷ [])
kept_put s s' r at rs keeps fits grown set from size count =
    let there = value_at s.text.items s'.text.items r at grown from size in
    let before : Indexes s'.text.items s.values rs = subst (λ (l : List ℕ). Indexes l s.values rs) (sym grown) (indexes_more s.text.items (entry (payload r)) s.values rs keeps.index) in
    record {
      text = grown ∙ ap (λ (l : List ℕ). l ++ entry (payload r)) keeps.text ∙ log-push rs r;
      fits = fits-push rs r keeps.fits fits;
      index = indexes_push s'.text.items s.values s'.values rs r at before there.0 there.1 set;
      count = omega (arith, keeps.count, length-append rs (r ∷ []));
    }

-- an entry of the text was read
pub entry_indexed : (text : List ℕ) (values new : Values) (rs : List Record) (i : ℕ) (p key : List ℕ) (at : ℕ) (r : Record) (s : Span) → Stands text rs i p at r → key ≡ take (slice_index p 6) (drop 7 p)
    → s.from ≡ at + (7 + length key) → s.size ≡ length p - (7 + length key) → ((other : List ℕ) → span_of new other ≡ cond (bytes_eq key other) (Some s) (span_of values other))
    → Indexes text values (take i rs) → Indexes text new (take (i + 1) rs)
entry_indexed text values new rs i p key at r s stands is from size set before =
    let key_here : key ≡ r.key = key_is text rs i p at r key stands is in
    let there = value_there text rs i p at r s stands (from ∙ ap (λ (l : List ℕ). at + (7 + length l)) key_here) (size ∙ ap (λ (l : List ℕ). length p - (7 + length l)) key_here) in
    let set_here : (other : List ℕ) → span_of new other ≡ cond (bytes_eq r.key other) (Some s) (span_of values other) = λ other. set other ∙ ap (λ (l : List ℕ). cond (bytes_eq l other) (Some s) (span_of values other)) key_here in
    subst (Indexes text new) (sym stands.more) (indexes_push text values new (take i rs) r s before there.0 there.1 set_here)

-- all entries of a text were read
pub opened : (s : TextStore) (log ends : List ℕ) (old : List Record) (i : ℕ) → IsBytes log → records log ≡ Ok old → s.text.items ≡ headed log → Logs s.text.items ends old → length ends ≤ i → Indexes s.text.items s.values (take i old)
    → s.count ≡ length ends → Keeps s old
opened s log ends old i bytes is text logs all index count =
    let whole = headed_text log old bytes is in
    let long : length ends ≡ length old = counted s.text.items ends old logs in
    record {
      text = text ∙ whole.0;
      fits = whole.1;
      index = subst (Indexes s.text.items s.values) (take_all i old (omega arith)) index;
      count = count ∙ long;
    }

-- the entries of a text that was read, by the names that it had
pub logs_by : (log text read here ends there : List ℕ) (old : List Record) → records log ≡ Ok old → text ≡ headed log → read ≡ text → ((rs : List Record) → records read ≡ Ok rs → Logs read ends rs) → here ≡ text → there ≡ ends → Logs here there old
logs_by log text read here ends there old is headed_is read_is logs here_is there_is =
    let found : Logs read ends old = logs old (ap records (read_is ∙ headed_is) ∙ records_headed log old is) in
    subst (λ (l : List ℕ). Logs l there old) (read_is ∙ sym here_is) (subst (λ (l : List ℕ). Logs read l old) (sym there_is) found)
