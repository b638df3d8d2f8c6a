use Rattle.demi_frame.proofs.ReadOn.{read_next}
use Rattle.demi_frame.proofs.decoder.Decoder.next.Goals as goal

pub returns-clause-read : goal.returns-clause-read
returns-clause-read c = λ fed handed h. read_next c.args.self.now c.take_front.new.self c.take_front.result fed handed c.take_front.ensures.next c.take_front.ensures.consumed h
