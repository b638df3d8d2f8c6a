use Rattle.std.proofs.Common.{◌+◌, ap, refl, arith}
use Rattle.demi_streamq.proofs.RxSteps.{rx_stopped, rx_halted, rx_end_again, rx_broken, rx_end, rx_fault, rx_piece, rx_refused}
use Rattle.demi_streamq.proofs.rx_answering.RxState.answer.Goals as goal

pub returns-in-Some-clause-kept : goal.returns-in-Some-clause-kept
returns-in-Some-clause-kept g c = (rx_stopped c.args.history.now.value c.args.outcomes.now.value c.args.self.now.at_end c.args.self.now.broken _ c.args.self.now.taken c.requires.kept c.args.place.0 c.requires.next c.args.op c.in-Some.at.0 (ap (Rattle.std.specs.Option.option_map (λ p. p.0)) c.in-Some.is)).0

pub returns-in-Some-clause-admitted : goal.returns-in-Some-clause-admitted
returns-in-Some-clause-admitted g c = (rx_stopped c.args.history.now.value c.args.outcomes.now.value c.args.self.now.at_end c.args.self.now.broken _ c.args.self.now.taken c.requires.kept c.args.place.0 c.requires.next c.args.op c.in-Some.at.0 (ap (Rattle.std.specs.Option.option_map (λ p. p.0)) c.in-Some.is)).1

pub returns-then-self-clause-kept : goal.returns-then-self-clause-kept
returns-then-self-clause-kept g c = (rx_end_again c.args.history.now.value c.args.outcomes.now.value c.args.self.now.at_end c.args.self.now.broken _ c.args.self.now.taken c.requires.kept c.args.place.0 c.requires.next c.args.op c.in-Pop.max (ap (Rattle.std.specs.Option.option_map (λ p. p.0)) c.in_default.is) c.in-Pop.is c.if-self.true).0

pub returns-then-self-clause-admitted : goal.returns-then-self-clause-admitted
returns-then-self-clause-admitted g c = (rx_end_again c.args.history.now.value c.args.outcomes.now.value c.args.self.now.at_end c.args.self.now.broken _ c.args.self.now.taken c.requires.kept c.args.place.0 c.requires.next c.args.op c.in-Pop.max (ap (Rattle.std.specs.Option.option_map (λ p. p.0)) c.in_default.is) c.in-Pop.is c.if-self.true).1

pub returns-in-Some-broken-clause-kept : goal.returns-in-Some-broken-clause-kept
returns-in-Some-broken-clause-kept g c = (rx_broken c.args.history.now.value c.args.outcomes.now.value c.args.self.now.at_end c.args.self.now.broken _ c.args.self.now.taken c.requires.kept c.args.place.0 c.requires.next c.args.op c.in-Pop.max c.in-Some-broken.at (ap (Rattle.std.specs.Option.option_map (λ p. p.0)) c.in_default.is) c.in-Pop.is c.if-self.false c.in-Some-broken.is).0

pub returns-in-Some-broken-clause-admitted : goal.returns-in-Some-broken-clause-admitted
returns-in-Some-broken-clause-admitted g c = (rx_broken c.args.history.now.value c.args.outcomes.now.value c.args.self.now.at_end c.args.self.now.broken _ c.args.self.now.taken c.requires.kept c.args.place.0 c.requires.next c.args.op c.in-Pop.max c.in-Some-broken.at (ap (Rattle.std.specs.Option.option_map (λ p. p.0)) c.in_default.is) c.in-Pop.is c.if-self.false c.in-Some-broken.is).1

pub returns-in-Stop-clause-kept : goal.returns-in-Stop-clause-kept
returns-in-Stop-clause-kept g c = (rx_halted c.args.history.now.value c.args.outcomes.now.value c.args.self.now.at_end c.args.self.now.broken _ c.args.self.now.taken c.requires.kept c.args.place.0 c.requires.next c.args.op (ap (Rattle.std.specs.Option.option_map (λ p. p.0)) c.in_default.is) c.in-Stop.is).0

pub returns-in-Stop-clause-admitted : goal.returns-in-Stop-clause-admitted
returns-in-Stop-clause-admitted g c = (rx_halted c.args.history.now.value c.args.outcomes.now.value c.args.self.now.at_end c.args.self.now.broken _ c.args.self.now.taken c.requires.kept c.args.place.0 c.requires.next c.args.op (ap (Rattle.std.specs.Option.option_map (λ p. p.0)) c.in_default.is) c.in-Stop.is).1

pub returns-in-End-clause-kept : goal.returns-in-End-clause-kept
returns-in-End-clause-kept g c = (rx_end c.args.history.now.value c.args.outcomes.now.value c.args.self.now.at_end c.args.self.now.broken _ c.args.self.now.taken c.requires.kept c.args.place.0 c.requires.next c.args.op c.in-Pop.max (ap (Rattle.std.specs.Option.option_map (λ p. p.0)) c.in_default.is) c.in-Pop.is c.if-self.false c.in_default-broken.is).0

pub returns-in-End-clause-admitted : goal.returns-in-End-clause-admitted
returns-in-End-clause-admitted g c = (rx_end c.args.history.now.value c.args.outcomes.now.value c.args.self.now.at_end c.args.self.now.broken _ c.args.self.now.taken c.requires.kept c.args.place.0 c.requires.next c.args.op c.in-Pop.max (ap (Rattle.std.specs.Option.option_map (λ p. p.0)) c.in_default.is) c.in-Pop.is c.if-self.false c.in_default-broken.is).1

pub returns-in-Fault-clause-kept : goal.returns-in-Fault-clause-kept
returns-in-Fault-clause-kept g c = (rx_fault c.args.history.now.value c.args.outcomes.now.value c.args.self.now.at_end c.args.self.now.broken _ c.args.self.now.taken c.requires.kept c.args.place.0 c.requires.next c.args.op c.in-Pop.max c.in-Fault.k c.args.place (ap (Rattle.std.specs.Option.option_map (λ p. p.0)) c.in_default.is) c.in-Pop.is c.if-self.false c.in_default-broken.is c.in-Fault.ensures.read refl).0

pub returns-in-Fault-clause-admitted : goal.returns-in-Fault-clause-admitted
returns-in-Fault-clause-admitted g c = (rx_fault c.args.history.now.value c.args.outcomes.now.value c.args.self.now.at_end c.args.self.now.broken _ c.args.self.now.taken c.requires.kept c.args.place.0 c.requires.next c.args.op c.in-Pop.max c.in-Fault.k c.args.place (ap (Rattle.std.specs.Option.option_map (λ p. p.0)) c.in_default.is) c.in-Pop.is c.if-self.false c.in_default-broken.is c.in-Fault.ensures.read refl).1

pub returns-in-Piece-clause-kept : goal.returns-in-Piece-clause-kept
returns-in-Piece-clause-kept g c = (rx_piece c.args.history.now.value c.args.outcomes.now.value c.args.self.now.at_end c.args.self.now.broken _ c.args.self.now.taken c.requires.kept c.args.place.0 c.requires.next c.args.op c.in-Pop.max c.in-Piece.piece.bytes _ (c.args.self.now.taken + c.len.result) (ap (Rattle.std.specs.Option.option_map (λ p. p.0)) c.in_default.is) c.in-Pop.is c.if-self.false c.in_default-broken.is refl c.in-Piece.ensures.read (let a = c.len.ensures.bytes in omega arith)).0

pub returns-in-Piece-clause-admitted : goal.returns-in-Piece-clause-admitted
returns-in-Piece-clause-admitted g c = (rx_piece c.args.history.now.value c.args.outcomes.now.value c.args.self.now.at_end c.args.self.now.broken _ c.args.self.now.taken c.requires.kept c.args.place.0 c.requires.next c.args.op c.in-Pop.max c.in-Piece.piece.bytes _ (c.args.self.now.taken + c.len.result) (ap (Rattle.std.specs.Option.option_map (λ p. p.0)) c.in_default.is) c.in-Pop.is c.if-self.false c.in_default-broken.is refl c.in-Piece.ensures.read (let a = c.len.ensures.bytes in omega arith)).1

pub returns-in-NoSlot-clause-kept : goal.returns-in-NoSlot-clause-kept
returns-in-NoSlot-clause-kept g c = (rx_refused c.args.history.now.value c.args.outcomes.now.value c.args.self.now.at_end c.args.self.now.broken _ c.args.self.now.taken c.requires.kept c.args.place.0 c.requires.next c.args.op c.in-Pop.max (ap (Rattle.std.specs.Option.option_map (λ p. p.0)) c.in_default.is) c.in-Pop.is c.if-self.false c.in_default-broken.is).0

pub returns-in-NoSlot-clause-admitted : goal.returns-in-NoSlot-clause-admitted
returns-in-NoSlot-clause-admitted g c = (rx_refused c.args.history.now.value c.args.outcomes.now.value c.args.self.now.at_end c.args.self.now.broken _ c.args.self.now.taken c.requires.kept c.args.place.0 c.requires.next c.args.op c.in-Pop.max (ap (Rattle.std.specs.Option.option_map (λ p. p.0)) c.in_default.is) c.in-Pop.is c.if-self.false c.in_default-broken.is).1
