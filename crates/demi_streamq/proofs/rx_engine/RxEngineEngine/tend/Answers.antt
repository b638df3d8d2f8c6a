use Rattle.demi_streamq.specs.RxGoing.{rx_goes_self}
use Rattle.demi_streamq.proofs.rx_engine.RxEngineEngine.tend.Goals as goal

pub returns-clause-goes : goal.returns-clause-goes
returns-clause-goes g c = rx_goes_self g.S.Source.taken g.S.Source.left g.S.Source.faults g.S.Source.reads c.args.self.now
