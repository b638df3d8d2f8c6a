use Rattle.std.proofs.Common.{refl}
use Rattle.demi_heap.specs.Laid.{counts_shape}
use Rattle.demi_heap.proofs.Laying.{along}
use Rattle.demi_heap.proofs.carve.carve_one.Goals as goal

pub returns-in_default-clause-laid : goal.returns-in_default-clause-laid
returns-in_default-clause-laid c = along (counts_shape c.args.counts.now) _ _ _ _ c.reserve.ensures.items refl c.requires.laid

pub returns-in_default-reserve-clause-laid : goal.returns-in_default-reserve-clause-laid
returns-in_default-reserve-clause-laid c = along (counts_shape c.args.counts.now) _ _ _ _ c.reserve.ensures.items c.reserve-2.ensures.items c.requires.laid

pub lay_down-requires-clause-laid : goal.lay_down-requires-clause-laid
lay_down-requires-clause-laid c = along (counts_shape c.args.counts.now) _ _ _ _ c.reserve.ensures.items c.reserve-2.ensures.items c.requires.laid

pub returns-in-Err-clause-laid : goal.returns-in-Err-clause-laid
returns-in-Err-clause-laid c = along (counts_shape c.args.counts.now) _ _ _ _ c.reserve.ensures.items c.reserve-2.ensures.items c.requires.laid
