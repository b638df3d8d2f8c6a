use Rattle.std.proofs.Common.{◌<◌, arith, get_or}
use Rattle.std.proofs.lemmas.List.{get_or_read}
use Rattle.demi_audit.specs.Hearing.{no_reply}
use Rattle.demi_audit.proofs.Placing.{counted_more}
use Rattle.demi_audit.proofs.places.count_workers.Goals as goal

pub counting-preserved : goal.counting-preserved
counting-preserved c =
    let i = c.counting.invariant in
    let n = c.counting.reply-index in
    let heard = c.args.heard.now in
    let small : (get_or heard n no_reply).worker < 256 = omega arith in
    let k = counted_more c.counting.counts.items heard n c.index_mut.result.now no_reply c.counting-test.true (record { workers = i.workers; each = i.each; total = i.total })
    small (get_or_read c.counting.counts.items (get_or heard n no_reply).worker c.index_mut.result.now (omega (arith, i.workers, small)) c.index_mut.ensures.value 0) in
    record { workers = k.workers; each = k.each; total = k.total }
