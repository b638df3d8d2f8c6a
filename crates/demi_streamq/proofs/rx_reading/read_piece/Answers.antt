use Rattle.std.proofs.Common.{rules, ◌≡◌, ◌∙◌, sym, subst, ap, Some, take, length}
use Rattle.demi_streamq.proofs.Pages.{front_written}
use Rattle.demi_streamq.proofs.rx_reading.read_piece.Goals as goal

pub returns-in-Ok-read-clause-did : goal.returns-in-Ok-read-clause-did
returns-in-Ok-read-clause-did g c =
    let same : length c.read.new.room ≡ length c.set_len.new.self.bytes = search rules in
    let asked = length c.bytes_mut.result.now in
    let written = front_written c.in-Ok-read.count c.set_len.new.self.bytes c.read.new.room c.in-Ok-read.ensures.within same in
    let e : take c.in-Ok-read.count c.read.new.room ≡ c.set_len-in-Ok-read.new.self.bytes = sym (ap (λ h. h.bytes) c.set_len-in-Ok-read.ensures ∙ written) in
    ((asked, subst (λ l. g.S.Source.reads c.args.source.now asked (Some l) c.read.new.self) e c.in-Ok-read.ensures.call), c.in-Ok.ensures.pass)
