use Rattle.demi_sharing.proofs.Acts.{sides_on}
use Rattle.demi_sharing.proofs.Dealt.{deals}
use Rattle.demi_sharing.proofs.dealing.deal_out.Goals as goal

pub returns : goal.returns
returns g c =
    let b = c.args.caller.now in
    let m = c.await_queue.new.caller in
    let n = c.push_all.new.caller in
    let e = c.shut.new.caller in
    let opened = c.await_queue.ensures.opened in
    let pushed = c.push_all.ensures.pushed in
    let shut = c.shut.ensures.shut in
    record {
      of = c.shut.ensures.of;
      dealt = deals c.args.links c.args.token.token.0 c.requires.asked.0 b m n e c.requires.asked.1 opened pushed shut;
      sides = sides_on b m e opened.sides (sides_on m n e pushed.acts.sides shut.sides);
      owes = λ k f due. shut.owes k f (pushed.acts.owes k f (opened.owes k f due));
    }
