use Rattle.std.proofs.Common.{◌≡◌, ℕ, ◌<◌, ap, subst}
use Rattle.demi_heap.specs.Seen.{HeapId}
use Rattle.demi_memq.specs.declared.op.MemOp.{MemOp}
use Rattle.demi_port.specs.Seen.{PassValue}
use Rattle.demi_port.proofs.Makes.{all_numbers}
use Rattle.demi_port_core.proofs.Lists.{each_more}
use Rattle.demi_bench.specs.Asking.{IsEven}
use Rattle.demi_bench.proofs.Numbers.{even_total, new_even}
use Rattle.demi_bench.proofs.memq_loop.close_unused.Goals as goal

pub close-requires-clause-port : goal.close-requires-clause-port
close-requires-clause-port c κs = (ap (λ s. s.port) c.requires.seat, each_more (IsEven c.args.port) (λ (p : PassValue MemOp (Unit {0}) HeapId). p.port ≡ c.args.port) c.args.passes.items (λ p h. h.0) (new_even c.args.port 0 c.args.passes.items c.requires.passes))

pub close-requires-clause-all : goal.close-requires-clause-all
close-requires-clause-all c κs n small = all_numbers c.args.port c.args.passes.items c.requires.passes n (subst (λ (z : ℕ). n < z) (ap (λ s. s.passes) c.requires.seat) small)

pub close-requires-clause-even : goal.close-requires-clause-even
close-requires-clause-even c κs = even_total c.args.port c.args.passes.items (new_even c.args.port 0 c.args.passes.items c.requires.passes)
