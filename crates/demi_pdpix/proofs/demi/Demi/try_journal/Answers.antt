use Rattle.std.proofs.Common.{◌<◌, length, map, ap, ◌∙◌, arith}
use Rattle.demi_pdpix.specs.Lanes.{port_of}
use Rattle.demi_pdpix.specs.Seen.{CallerValue, DemiId}
use Rattle.demi_pdpix.proofs.Returned.{map_length}
use Rattle.demi_pdpix.proofs.Tried.{at_inside, on_log_base, tried_journal}
use Rattle.demi_pdpix.proofs.demi.Demi.try_journal.Goals as goal

pub returns-clause-tried : goal.returns-clause-tried
returns-clause-tried g c =
    let ls = c.self.inside.ports.journal.items in let ps = c.caller.inside.journal.items in
    let low : 0 < length ls = let n = ap (λ (z : DemiId _). length z.journal) c.self.view_is in let m = map_length port_of ls in let small = c.requires.there in omega (arith, n, m, small) in
    let are = at_inside ps c.args.caller.now.journal (map port_of ls) c.args.self.now.journal (ap (λ (z : CallerValue _ _ _). z.journal) c.caller.view_is) (ap (λ (z : DemiId _). z.journal) c.self.view_is) c.requires.of.journal in
    tried_journal g.X.Law.admits c.args.self.now.heap c.args.token.0 _ c.args.caller.now c.of_journal.result c.caller.view_is c.try_at.new.passes.items c.try_at.result c.of_journal.ensures
    (on_log_base c.args.self.now.heap ps ls 0 are low (λ j d small. c.self.invariant.0.journal_base j d small ∙ ap (λ (z : DemiId _). z.heap) c.self.view_is))
    c.try_at.ensures.tried
