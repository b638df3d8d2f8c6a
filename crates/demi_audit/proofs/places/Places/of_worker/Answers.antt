use Rattle.std.proofs.Common.{arith}
use Rattle.std.proofs.lemmas.List.{get_or_read}
use Rattle.demi_audit.proofs.Placing.{places_end}
use Rattle.demi_audit.proofs.places.Places.of_worker.Goals as goal

pub overflow_add-result : goal.overflow_add-result
overflow_add-result c =
    let p = c.args.self.now in
    let h = c.requires.placing.1 in
    let count = get_or_read p.counts.items c.args.worker c.index-2.result.now (omega (arith, h.workers, c.requires.worker)) c.index-2.ensures 0 in
    let k = places_end p c.requires.placing.0 h c.args.worker c.requires.worker in
    omega (arith, k, h.fits, count)
