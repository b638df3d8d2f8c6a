use Rattle.std.proofs.Common.{◌≢◌, subst, sym}
use Rattle.demi_port_core.specs.History.{Each}
use Rattle.demi_sched.specs.Going.{names_of}
use Rattle.demi_bench.proofs.Added.{counted, other}
use Rattle.demi_bench.proofs.round_loop.add_one.Goals as goal

pub add-number-requires-clause-name : goal.add-number-requires-clause-name
add-number-requires-clause-name c = let ns = names_of (λ k. k.name) c.args.scheduler.now.held in
    subst (λ m. Each (λ n. n ≢ m) ns) (sym c.new.ensures) (other c.args.name ns c.requires.names)

pub returns-clause-names : goal.returns-clause-names
returns-clause-names c = counted (λ k. k.name) c.add-number.result c.add-number.new.self c.args.scheduler.now
    c.new.result c.args.name c.new.ensures c.add-number.ensures.added c.add-number.ensures.back c.requires.names
