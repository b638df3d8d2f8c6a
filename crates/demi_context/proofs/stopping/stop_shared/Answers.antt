use Rattle.std.proofs.Common.{[], ◌∙◌}
use Rattle.demi_pdpix.specs.Owing.{due_at}
use Rattle.demi_context.proofs.Halts.{memory_added, store_added}
use Rattle.demi_context.proofs.stopping.stop_shared.Goals as goal

pub returns : goal.returns
returns g c =
    let d = c.args.demi.now in
    let b = c.args.caller.now in
    let m = c.halt.new.caller in
    let e = c.halt_store.new.caller in
    let first = c.halt.ensures.halts in
    let second = c.halt_store.ensures.halts in
    record {
      of = c.halt_store.ensures.of;
      memory = memory_added d b m e first second;
      service = store_added d b m e first second;
      rx = λ k. second.2 k ∙ first.1.1 k;
      tx = λ k. second.3 k ∙ first.1.2 k;
      owes = λ n owes. (c.halt_store.ensures.of, c.halt_store.ensures.owes n (due_at d []) (c.halt.ensures.owes n (due_at d []) owes.1));
    }
