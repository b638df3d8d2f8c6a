use Rattle.std.proofs.Common.{◌≡◌, ℕ, List, Some, bytes_eq, cond, ap, ◌∙◌, rules}
use Rattle.demi_store.proofs.Keys.{updated}
use Rattle.demi_audit.specs.TextStores.{span_of}
use Rattle.demi_audit.proofs.values.Values.set.Goals as goal

pub returns : goal.returns
returns c = λ other.
    let key = c.in_ok-to_vec.field-0 in
    let same : key.items ≡ c.args.key.now = search rules in
    updated key.items c.args.self.now.spans c.insert.new.self (Some c.args.span) c.in_ok-insert.ensures.updates other
    ∙ ap (λ (l : List ℕ). cond (bytes_eq l other) (Some c.args.span) (span_of c.args.self.now other)) same
