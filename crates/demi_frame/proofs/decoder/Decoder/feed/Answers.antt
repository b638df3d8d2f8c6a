use Rattle.std.proofs.Common.{take}
use Rattle.demi_frame.proofs.ReadOn.{read_feed}
use Rattle.demi_frame.proofs.decoder.Decoder.feed.Goals as goal

pub returns-clause-read : goal.returns-clause-read
returns-clause-read c = λ fed handed h. read_feed c.args.self.now c.add.new.self (take c.add.result c.args.piece.now) fed handed c.add.ensures.fed h
