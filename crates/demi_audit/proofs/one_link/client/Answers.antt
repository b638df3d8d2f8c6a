use Rattle.std.proofs.Common.{◌∙◌, ap, arith}
use Rattle.demi_spec.specs.Record.{records}
use Rattle.demi_spec.proofs.Payloads.{records_again}
use Rattle.demi_audit.specs.Client.{added_on}
use Rattle.demi_audit.proofs.Entering.{text_after}
use Rattle.demi_audit.proofs.one_link.client.Goals as goal

pub returns-clause-text : goal.returns-clause-text
returns-clause-text c = λ old is.
    let all = c.in_ok-output.ensures old (c.in_ok-store.ensures old is) in
    text_after c.args.log.now c.serve.new.store.text.items old (added_on old c.args.limit c.args.input.now) (λ k. omega (arith, c.type_inv.log k)) is all.keeps.text

pub returns-clause-again : goal.returns-clause-again
returns-clause-again c = λ old is.
    let all = c.in_ok-output.ensures old (c.in_ok-store.ensures old is) in
    ap records all.keeps.text ∙ records_again _ all.keeps.fits
