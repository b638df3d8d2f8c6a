use Rattle.demi_streamq.specs.TxGoing.{tx_goes_self}
use Rattle.demi_streamq.proofs.tx_engine.TxEngineEngine.tend.Goals as goal

pub returns-clause-goes : goal.returns-clause-goes
returns-clause-goes g c = tx_goes_self g.S.Sink.written g.S.Sink.faults c.args.self.now
