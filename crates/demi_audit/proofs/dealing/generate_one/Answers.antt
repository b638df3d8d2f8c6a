use Rattle.std.proofs.Common.{refl}
use Rattle.demi_audit.specs.Generator.{request_by}
use Rattle.demi_audit.proofs.Deals.{all_dealt, bytes_of, one_here, one_there, request_is, state_is}
use Rattle.demi_audit.proofs.dealing.generate_one.Goals as goal
use Rattle.demi_audit.proofs.dealing.generate_one.Goals.{then-i-links+in_ok-write_drawn, else-i-links}

pub loop-i-preserved : goal.loop-i-preserved
loop-i-preserved c =
    let a = c.below_64-number in
    let b = c.below_4-kind in
    let d = c.below_64-length in
    let state = c.loop-i.draws.state in
    let after = state_is state a.new.self.state b.new.self.state d.new.self.state a.ensures.state b.ensures.state d.ensures.state in
    let is = request_is state a.new.self.state b.new.self.state a.result b.result d.result a.ensures.state b.ensures.state a.ensures.drawn b.ensures.drawn d.ensures.drawn in
    elim c.if-i-links.branch [
      | then-i-links+in_ok-write_drawn w ↦ one_here c.args.links c.args.link c.loop-i.i c.args.count state d.new.self.state (request_by a.result b.result d.result) c.loop-i.input.items c.if-i-links.input.items _
          c.loop-i-test.true w.if-i-links.true after is (bytes_of c.if-i-links.input w.write_drawn.new.out _ w.input-is w.in_ok-write_drawn.ensures) c.loop-i.invariant
      | else-i-links w ↦ one_there c.args.links c.args.link c.loop-i.i c.args.count state d.new.self.state c.loop-i.input.items c.if-i-links.input.items _
          c.loop-i-test.true w.if-i-links.false after (bytes_of c.if-i-links.input c.loop-i.input _ w.input-is refl) c.loop-i.invariant
    ]

pub returns : goal.returns
returns c = all_dealt c.args.seed c.args.links c.args.count c.args.link c.loop-i.i c.loop-i.draws.state c.loop-i.input.items c.write_request.new.out.items
    c.loop-i-test.false c.loop-i.invariant c.in_ok-write_request.ensures.written
