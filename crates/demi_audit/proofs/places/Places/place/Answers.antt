use Rattle.std.proofs.Common.{◌≤◌, ◌<◌, arith, get_or}
use Rattle.std.proofs.lemmas.List.{get_or_read}
use Rattle.demi_audit.proofs.Placing.{place_within}
use Rattle.demi_audit.proofs.places.Places.place.Goals as goal

pub overflow_add-result : goal.overflow_add-result
overflow_add-result c =
    let p = c.args.self.now in
    let w = c.args.worker in
    let h = c.requires.1 in
    let small : w < 256 = omega arith in
    let count = get_or_read p.counts.items w c.index-count.result.now (omega (arith, h.workers)) c.index-count.ensures 0 in
    let start = get_or_read p.starts.items w c.index.result.now (omega (arith, h.starts_count)) c.index.ensures 0 in
    let most : c.args.sequence ≤ get_or p.counts.items w 0 = omega (arith, count, c.if-count-sequence.false) in
    let k = place_within p c.requires.0 h w c.args.sequence (small, most) in
    omega (arith, k, h.fits, start)
