use Rattle.std.proofs.Common.{◌≡◌, ℕ, suc, sym}
use Rattle.std.specs.Prelude.{Err}
use Rattle.demi_audit.specs.Transcript.{links_from}
use Rattle.demi_audit.proofs.Links.{handed_on, input_bad, link_is, output_bad}
use Rattle.demi_audit.proofs.transcript.read_link.Goals as goal

pub returns-in_err-input_size-clause-bad : goal.returns-in_err-input_size-clause-bad
returns-in_err-input_size-clause-bad c =
    handed_on c.from_residual.result c.in_err-input_size.field-0.0 (λ e. (n : ℕ) → links_from (suc n) c.args.bytes.now c.args.at ≡ Err e) c.from_residual.ensures.1
    (λ n. input_bad c.args.bytes.now c.args.at c.in_err-input_size.field-0.0 n (sym c.in_err-input_size.ensures.part))

pub returns-in_err-output_size-clause-bad : goal.returns-in_err-output_size-clause-bad
returns-in_err-output_size-clause-bad c =
    handed_on c.from_residual-in_err-output_size.result c.in_err-output_size.field-0.0 (λ e. (n : ℕ) → links_from (suc n) c.args.bytes.now c.args.at ≡ Err e) c.from_residual-in_err-output_size.ensures.1
    (λ n. output_bad c.args.bytes.now c.args.at c.in_ok-input_size.input_size c.in_err-output_size.field-0.0 n (sym c.in_ok-input_size.ensures.part) (sym c.in_err-output_size.ensures.part))

pub returns-clause-link : goal.returns-clause-link
returns-clause-link c = λ n. link_is c.args.bytes.now c.args.at c.in_ok-input_size.input_size c.in_ok-output_size.output_size n (sym c.in_ok-input_size.ensures.part) (sym c.in_ok-output_size.ensures.part)
