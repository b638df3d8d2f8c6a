-- Where a superblock lies.
use Rattle.std.specs.Prelude.{ℕ}
use denote.RawPtr.{block_of}
use Rattle.demi_buf.specs.declared.buf.Place.{Place}

-- the number of the memory block
abbrev pub place_block : Place → ℕ
place_block p = block_of p.base.ptr
