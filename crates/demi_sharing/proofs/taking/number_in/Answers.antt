use Rattle.std.proofs.Common.{◌∙◌, ap, length, sym}
use Rattle.std.specs.Int.{w16, from_be_bytes}
use Rattle.demi_sharing.proofs.Numbers.{two_bytes}
use Rattle.demi_sharing.proofs.taking.number_in.Goals as goal

pub link_of-requires : goal.link_of-requires
link_of-requires c =
    let b = two_bytes c.args.sga.now (sym c.segments.ensures.count ∙ c.if-segments-ne1.false) (sym c.len.ensures.bytes ∙ c.if-len-ne2.false) in
    ap length c.part.ensures ∙ ap length b.0 ∙ b.1

pub returns : goal.returns
returns c =
    let b = two_bytes c.args.sga.now (sym c.segments.ensures.count ∙ c.if-segments-ne1.false) (sym c.len.ensures.bytes ∙ c.if-len-ne2.false) in
    ap (from_be_bytes w16) (sym b.0 ∙ sym c.part.ensures) ∙ sym c.link_of.ensures
