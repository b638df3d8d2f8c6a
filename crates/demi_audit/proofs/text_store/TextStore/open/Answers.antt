use Rattle.std.proofs.Common.{◌∙◌, ◌+◌, ℕ, List, ap, sym, subst, arith, take, refl}
use Rattle.demi_spec.specs.Record.{records}
use Rattle.demi_audit.specs.TextStores.{Indexes}
use Rattle.demi_audit.proofs.Entering.{records_headed}
use Rattle.demi_audit.proofs.Keeping.{logs_by, opened}
use Rattle.demi_audit.proofs.text_store.TextStore.open.Goals as goal

pub ends_of-requires : goal.ends_of-requires
ends_of-requires c = (c.requires.0, ap records (c.deref.ensures.value ∙ c.in_ok-text.ensures) ∙ records_headed c.args.log.now c.requires.0 c.requires.1)

pub index_entry-requires-clause-logs : goal.index_entry-requires-clause-logs
index_entry-requires-clause-logs c = (
  c.requires.0,
  logs_by c.args.log.now c.in_ok-text.text.items c.deref.result.now c.deref-in-indexing.result.now c.in_ok-ends.ends.items c.deref-in-indexing-2.result.now c.requires.0 c.requires.1 c.in_ok-text.ensures c.deref.ensures.value
      c.in_ok-ends.ensures c.deref-in-indexing.ensures.value c.deref-in-indexing-2.ensures.value,
)

pub indexing-preserved : goal.indexing-preserved
indexing-preserved c = λ old is.
    let text = c.in_ok-text.text.items in
    let logs = logs_by c.args.log.now text c.deref.result.now c.deref-in-indexing.result.now c.in_ok-ends.ends.items c.deref-in-indexing-2.result.now old is c.in_ok-text.ensures c.deref.ensures.value
    c.in_ok-ends.ensures c.deref-in-indexing.ensures.value c.deref-in-indexing-2.ensures.value in
    subst (λ (l : List ℕ). Indexes l c.index_entry.new.values (take (c.indexing.i + 1) old)) c.deref-in-indexing.ensures.value
    (c.in_ok-index_entry.ensures old logs (subst (λ (l : List ℕ). Indexes l c.indexing.values (take c.indexing.i old)) (sym c.deref-in-indexing.ensures.value) (c.indexing.invariant old is)))

pub returns : goal.returns
returns c = λ old is.
    let text = c.in_ok-text.text.items in
    let ends = c.in_ok-ends.ends.items in
    let logs = logs_by c.args.log.now text c.deref.result.now text ends ends old is c.in_ok-text.ensures c.deref.ensures.value c.in_ok-ends.ensures refl refl in
    opened _ c.args.log.now ends old c.indexing.i (λ k. omega (arith, c.type_inv.log k)) is c.in_ok-text.ensures logs (omega (arith, c.indexing-test.false, c.len-i-end.ensures, c.in_ok-ends.ends.ok.0)) (c.indexing.invariant old is)
    (omega (arith, c.len.ensures, c.in_ok-ends.ends.ok.0))
