use Rattle.std.proofs.Common.{◌≡◌, List, ℕ, length, take, drop, subst}
use Rattle.std.specs.Prelude.{IfSome}
use Rattle.demi_cli.proofs.Pieces.{piece_read}
use Rattle.demi_cli.proofs.checking.read_more.Goals as goal

pub returns-in-Ok-extend_from_slice-clause-read : goal.returns-in-Ok-extend_from_slice-clause-read
returns-in-Ok-extend_from_slice-clause-read g c =
    let long : c.len-at.result ≡ length c.args.text.now.items = search in
    piece_read (g.D.Disk.bytes c.args.disk.now) c.args.text.now.items c.read_at.new.room c.extend_from_slice.new.self.items c.in-Ok.count c.requires.read
    (subst (λ (n : ℕ). IfSome (g.D.Disk.bytes c.args.disk.now) (λ b. take c.in-Ok.count c.read_at.new.room ≡ take c.in-Ok.count (drop n b))) long c.in-Ok.ensures.bytes)
    c.in-Ok.ensures.within c.in-Ok-extend_from_slice.ensures.items
