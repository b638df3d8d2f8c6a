use Rattle.std.proofs.Common.{ap, refl}
use Rattle.demi_streamq.specs.declared.tx_op.TxOp.TheVariants.{Push}
use Rattle.demi_streamq.proofs.TxSteps.{tx_stopped, tx_broken, tx_closed, tx_pushed, tx_fault}
use Rattle.demi_streamq.proofs.tx_answering.TxState.push.Goals as goal

pub returns-in-Some-clause-kept : goal.returns-in-Some-clause-kept
returns-in-Some-clause-kept g c = (tx_stopped c.args.history.now.value c.args.outcomes.now.value c.args.self.now.closed _ _ c.requires.kept (Push c.args.sga.now) c.in-Some.at.0 (ap (Rattle.std.specs.Option.option_map (λ p. p.0)) c.in-Some.is)).0

pub returns-in-Some-clause-admitted : goal.returns-in-Some-clause-admitted
returns-in-Some-clause-admitted g c = (tx_stopped c.args.history.now.value c.args.outcomes.now.value c.args.self.now.closed _ _ c.requires.kept (Push c.args.sga.now) c.in-Some.at.0 (ap (Rattle.std.specs.Option.option_map (λ p. p.0)) c.in-Some.is)).1

pub returns-in-Some-broken-clause-kept : goal.returns-in-Some-broken-clause-kept
returns-in-Some-broken-clause-kept g c = (tx_broken c.args.history.now.value c.args.outcomes.now.value c.args.self.now.closed _ _ c.requires.kept (Push c.args.sga.now) c.in-Some-broken.at.0 refl (ap (Rattle.std.specs.Option.option_map (λ p. p.0)) c.in_default.is) (ap (Rattle.std.specs.Option.option_map (λ p. p.0)) c.in-Some-broken.is)).0

pub returns-in-Some-broken-clause-admitted : goal.returns-in-Some-broken-clause-admitted
returns-in-Some-broken-clause-admitted g c = (tx_broken c.args.history.now.value c.args.outcomes.now.value c.args.self.now.closed _ _ c.requires.kept (Push c.args.sga.now) c.in-Some-broken.at.0 refl (ap (Rattle.std.specs.Option.option_map (λ p. p.0)) c.in_default.is) (ap (Rattle.std.specs.Option.option_map (λ p. p.0)) c.in-Some-broken.is)).1

pub returns-then-self-clause-kept : goal.returns-then-self-clause-kept
returns-then-self-clause-kept g c = (tx_closed c.args.history.now.value c.args.outcomes.now.value c.args.self.now.closed _ _ c.requires.kept (Push c.args.sga.now) refl (ap (Rattle.std.specs.Option.option_map (λ p. p.0)) c.in_default.is) (ap (Rattle.std.specs.Option.option_map (λ p. p.0)) c.in_default-broken.is) c.if-self.true).0

pub returns-then-self-clause-admitted : goal.returns-then-self-clause-admitted
returns-then-self-clause-admitted g c = (tx_closed c.args.history.now.value c.args.outcomes.now.value c.args.self.now.closed _ _ c.requires.kept (Push c.args.sga.now) refl (ap (Rattle.std.specs.Option.option_map (λ p. p.0)) c.in_default.is) (ap (Rattle.std.specs.Option.option_map (λ p. p.0)) c.in_default-broken.is) c.if-self.true).1

pub returns-in-Ok-clause-kept : goal.returns-in-Ok-clause-kept
returns-in-Ok-clause-kept g c = (tx_pushed c.args.history.now.value c.args.outcomes.now.value c.args.self.now.closed _ _ c.requires.kept c.args.sga.now (ap (Rattle.std.specs.Option.option_map (λ p. p.0)) c.in_default.is) (ap (Rattle.std.specs.Option.option_map (λ p. p.0)) c.in_default-broken.is) c.if-self.false).0

pub returns-in-Ok-clause-admitted : goal.returns-in-Ok-clause-admitted
returns-in-Ok-clause-admitted g c = (tx_pushed c.args.history.now.value c.args.outcomes.now.value c.args.self.now.closed _ _ c.requires.kept c.args.sga.now (ap (Rattle.std.specs.Option.option_map (λ p. p.0)) c.in_default.is) (ap (Rattle.std.specs.Option.option_map (λ p. p.0)) c.in_default-broken.is) c.if-self.false).1

pub returns-in-Err-clause-kept : goal.returns-in-Err-clause-kept
returns-in-Err-clause-kept g c = (tx_fault c.args.history.now.value c.args.outcomes.now.value c.args.self.now.closed _ _ c.requires.kept c.args.sga.now c.in-Err.count c.args.place.0 (ap (Rattle.std.specs.Option.option_map (λ p. p.0)) c.in_default.is) (ap (Rattle.std.specs.Option.option_map (λ p. p.0)) c.in_default-broken.is) c.if-self.false c.in-Err.ensures.some c.requires.next).0

pub returns-in-Err-clause-admitted : goal.returns-in-Err-clause-admitted
returns-in-Err-clause-admitted g c = (tx_fault c.args.history.now.value c.args.outcomes.now.value c.args.self.now.closed _ _ c.requires.kept c.args.sga.now c.in-Err.count c.args.place.0 (ap (Rattle.std.specs.Option.option_map (λ p. p.0)) c.in_default.is) (ap (Rattle.std.specs.Option.option_map (λ p. p.0)) c.in_default-broken.is) c.if-self.false c.in-Err.ensures.some c.requires.next).1
