use Rattle.demi_frame.proofs.ReadOn.{read_end}
use Rattle.demi_frame.proofs.decoder.Decoder.finish.Goals as goal

pub returns-clause-read : goal.returns-clause-read
returns-clause-read c = λ fed handed h. read_end c.args.self.now fed handed c.code_at_end.result c.code_at_end.ensures.more c.code_at_end.ensures.code h
