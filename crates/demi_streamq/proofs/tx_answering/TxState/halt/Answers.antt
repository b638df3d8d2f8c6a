use Rattle.std.proofs.Common.{ap}
use Rattle.demi_streamq.specs.declared.tx_op.TxOp.TheVariants.{Stop}
use Rattle.demi_streamq.proofs.TxSteps.{tx_stopped, tx_halted}
use Rattle.demi_streamq.proofs.tx_answering.TxState.halt.Goals as goal

pub returns-in-Some-clause-kept : goal.returns-in-Some-clause-kept
returns-in-Some-clause-kept c = (tx_stopped c.args.history.now.value c.args.outcomes.now.value c.args.self.now.closed _ _ c.requires.kept Stop c.in-Some.at.0 (ap (Rattle.std.specs.Option.option_map (λ p. p.0)) c.in-Some.is)).0

pub returns-in-Some-clause-admitted : goal.returns-in-Some-clause-admitted
returns-in-Some-clause-admitted c = (tx_stopped c.args.history.now.value c.args.outcomes.now.value c.args.self.now.closed _ _ c.requires.kept Stop c.in-Some.at.0 (ap (Rattle.std.specs.Option.option_map (λ p. p.0)) c.in-Some.is)).1

pub returns-clause-kept : goal.returns-clause-kept
returns-clause-kept c = (tx_halted c.args.history.now.value c.args.outcomes.now.value c.args.self.now.closed _ _ c.requires.kept c.args.place.0 c.requires.next (ap (Rattle.std.specs.Option.option_map (λ p. p.0)) c.in_default.is)).0

pub returns-clause-admitted : goal.returns-clause-admitted
returns-clause-admitted c = (tx_halted c.args.history.now.value c.args.outcomes.now.value c.args.self.now.closed _ _ c.requires.kept c.args.place.0 c.requires.next (ap (Rattle.std.specs.Option.option_map (λ p. p.0)) c.in_default.is)).1
