use Rattle.std.proofs.Common.{◌≡◌, ◌≤◌, ℕ, List, Option, None, Some, length, take, arith, ap, sym, ◌∙◌, subst}
use Rattle.std.specs.Option.{option_copied}
use Rattle.demi_spec.specs.Record.{Record}
use Rattle.demi_spec.specs.Store.{map}
use Rattle.demi_audit.specs.Entries.{Logs}
use Rattle.demi_audit.specs.Verdict.{is_value}
use Rattle.demi_audit.proofs.Books.{one_length, value_at}
use Rattle.demi_audit.proofs.Pasts.{latest_is, value_of}
use Rattle.demi_audit.proofs.book.Book.has_value.Goals as goal

pub returns-then-latest-eq0 : goal.returns-then-latest-eq0
returns-then-latest-eq0 c = λ run b.
    let s = c.args.self.now in
    let q = c.requires in
    let within : c.args.version ≤ length run.records = omega (arith, one_length s.text.now s.ends.items run.records q.0.records b.log q.1.log, q.2) in
    let is = latest_is run.records c.args.key.now c.args.version c.latest-latest.result within (c.latest-latest.ensures run.records b.past within) in
    let none : map (take c.args.version run.records) c.args.key.now ≡ None = is ∙ ap (value_of run.records) c.if-latest-eq0.true in
    c.is_value.ensures ∙ ap (λ (o : Option (List ℕ)). is_value o (option_copied c.args.value)) (sym none)

pub returns : goal.returns
returns c = λ run b.
    let s = c.args.self.now in
    let q = c.requires in
    let n = c.latest-latest.result in
    let within : c.args.version ≤ length run.records = omega (arith, one_length s.text.now s.ends.items run.records q.0.records b.log q.1.log, q.2) in
    let is = latest_is run.records c.args.key.now c.args.version n within (c.latest-latest.ensures run.records b.past within) in
    let entry = c.entry_at.ensures run.records (subst (λ (l : List ℕ). Logs s.text.now l run.records) (sym c.deref.ensures.value) b.log) in
    let some : map (take c.args.version run.records) c.args.key.now ≡ Some c.entry_at.result.value.now = is ∙ value_at run.records n (omega (arith, c.if-latest-eq0.false)) ∙ ap (λ (r : Record). Some r.value) (sym entry) in
    c.is_value-2.ensures ∙ ap (λ (o : Option (List ℕ)). is_value o (option_copied c.args.value)) (sym some)
