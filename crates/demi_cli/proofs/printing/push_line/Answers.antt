use Rattle.std.proofs.Common.{append_assoc}
use Rattle.demi_cli.proofs.printing.push_line.Goals as goal

pub returns : goal.returns
returns c =
    rw (c.push_str-2.ensures.bytes, c.push_number-4.ensures.text, c.push_key.ensures.text, c.push_str.ensures.bytes, c.push_number-3.ensures.text, c.push_number-2.ensures.text, c.push_number.ensures.text)
    (simp append_assoc)
