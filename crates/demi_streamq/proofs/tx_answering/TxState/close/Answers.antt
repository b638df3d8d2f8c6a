use Rattle.std.proofs.Common.{ap, refl}
use Rattle.demi_streamq.specs.declared.tx_op.TxOp.TheVariants.{Close}
use Rattle.demi_streamq.proofs.TxSteps.{tx_stopped, tx_broken, tx_closed, tx_shut}
use Rattle.demi_streamq.proofs.tx_answering.TxState.close.Goals as goal

pub returns-in-Some-clause-kept : goal.returns-in-Some-clause-kept
returns-in-Some-clause-kept c = (tx_stopped c.args.history.now.value c.args.outcomes.now.value c.args.self.now.closed _ _ c.requires.kept Close c.in-Some.at.0 (ap (Rattle.std.specs.Option.option_map (λ p. p.0)) c.in-Some.is)).0

pub returns-in-Some-clause-admitted : goal.returns-in-Some-clause-admitted
returns-in-Some-clause-admitted c = (tx_stopped c.args.history.now.value c.args.outcomes.now.value c.args.self.now.closed _ _ c.requires.kept Close c.in-Some.at.0 (ap (Rattle.std.specs.Option.option_map (λ p. p.0)) c.in-Some.is)).1

pub returns-in-Some-broken-clause-kept : goal.returns-in-Some-broken-clause-kept
returns-in-Some-broken-clause-kept c = (tx_broken c.args.history.now.value c.args.outcomes.now.value c.args.self.now.closed _ _ c.requires.kept Close c.in-Some-broken.at.0 refl (ap (Rattle.std.specs.Option.option_map (λ p. p.0)) c.in_default.is) (ap (Rattle.std.specs.Option.option_map (λ p. p.0)) c.in-Some-broken.is)).0

pub returns-in-Some-broken-clause-admitted : goal.returns-in-Some-broken-clause-admitted
returns-in-Some-broken-clause-admitted c = (tx_broken c.args.history.now.value c.args.outcomes.now.value c.args.self.now.closed _ _ c.requires.kept Close c.in-Some-broken.at.0 refl (ap (Rattle.std.specs.Option.option_map (λ p. p.0)) c.in_default.is) (ap (Rattle.std.specs.Option.option_map (λ p. p.0)) c.in-Some-broken.is)).1

pub returns-then-self-clause-kept : goal.returns-then-self-clause-kept
returns-then-self-clause-kept c = (tx_closed c.args.history.now.value c.args.outcomes.now.value c.args.self.now.closed _ _ c.requires.kept Close refl (ap (Rattle.std.specs.Option.option_map (λ p. p.0)) c.in_default.is) (ap (Rattle.std.specs.Option.option_map (λ p. p.0)) c.in_default-broken.is) c.if-self.true).0

pub returns-then-self-clause-admitted : goal.returns-then-self-clause-admitted
returns-then-self-clause-admitted c = (tx_closed c.args.history.now.value c.args.outcomes.now.value c.args.self.now.closed _ _ c.requires.kept Close refl (ap (Rattle.std.specs.Option.option_map (λ p. p.0)) c.in_default.is) (ap (Rattle.std.specs.Option.option_map (λ p. p.0)) c.in_default-broken.is) c.if-self.true).1

pub returns-clause-kept : goal.returns-clause-kept
returns-clause-kept c = (tx_shut c.args.history.now.value c.args.outcomes.now.value c.args.self.now.closed _ _ c.requires.kept (ap (Rattle.std.specs.Option.option_map (λ p. p.0)) c.in_default.is) (ap (Rattle.std.specs.Option.option_map (λ p. p.0)) c.in_default-broken.is) c.if-self.false).0

pub returns-clause-admitted : goal.returns-clause-admitted
returns-clause-admitted c = (tx_shut c.args.history.now.value c.args.outcomes.now.value c.args.self.now.closed _ _ c.requires.kept (ap (Rattle.std.specs.Option.option_map (λ p. p.0)) c.in_default.is) (ap (Rattle.std.specs.Option.option_map (λ p. p.0)) c.in_default-broken.is) c.if-self.false).1
