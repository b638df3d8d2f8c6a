use Rattle.std.proofs.Common.{◌≡◌, ◌++◌, [], ap, sym, subst, length, Some}
use Rattle.demi_device.specs.Serving.{places}
use Rattle.demi_memq.specs.Counting.{result_at}
use Rattle.demi_memq.specs.Engine.{GoesTo, MemValue}
use Rattle.demi_memq.specs.Rooms.{Came}
use Rattle.demi_memq.specs.Said.{IsFrom, out_said}
use Rattle.demi_memq.specs.Serving.{IsKept, items_said}
use Rattle.demi_memq.proofs.Going.{serve_goes, waits_rightly}
use Rattle.demi_memq.proofs.Keeping.{each_pends, none_pends}
use Rattle.demi_memq.proofs.Moves.{come_with}
use Rattle.demi_memq.proofs.engine.MemEngineEngine.serve.Goals as goal

kept : (c : goal.After-drop-self-inside-2) → IsKept c.heard-history.result.value c.finished.result.value c.serve.new.self
kept c = subst (λ l. IsKept c.heard-history.result.value l c.serve.new.self) (sym c.finished.ensures) (subst (λ l. IsKept l (c.self.inside.outcomes.value ++ c.serve.new.done.added) c.serve.new.self) (sym c.heard-history.ensures) c.serve.ensures.served.0)

pub returns-clause-comes : goal.returns-clause-comes
returns-clause-comes c =
    let h = c.heard-history.result.value in let added = c.serve.new.done.added in
    let came : Came 1024 h c.args.self.now.finished added = subst (λ f. Came 1024 h f added) (ap (λ v. v.finished) c.self.view_is) (subst (λ l. Came 1024 l c.self.inside.outcomes.value added) (sym c.heard-history.ensures) c.serve.ensures.served.1) in
    come_with (length h) (λ p o. result_at 1024 h p ≡ Some (out_said o)) (IsFrom c.serve.new.self.pass.heap) [] _ (places c.args.self.now.finished) added came c.serve.ensures.given

pub returns-clause-pends : goal.returns-clause-pends
returns-clause-pends c = let s = c.serve.new.self in each_pends 1024 c.heard-history.result.value c.finished.result.value s.made s.shut.items _ (items_said s.waiting.items) s.pending.items (kept c)

pub returns-clause-ends : goal.returns-clause-ends
returns-clause-ends c = let s = c.serve.new.self in none_pends 1024 c.heard-history.result.value c.finished.result.value s.made s.shut.items _ (items_said s.waiting.items) s.pending.items (kept c)

pub returns-clause-goes : goal.returns-clause-goes
returns-clause-goes c =
    let q = c.self.inside.queues in let s = c.serve.new.self in
    let b : MemValue = record { pass = s.pass; room = s.room; served = c.heard-history.result.value; finished = c.finished.result.value; waits = s.waiting.items } in
    subst (λ a. GoesTo a b) c.self.view_is (serve_goes q.pass s.pass q.room s.room q.waiting.items s.waiting.items c.self.inside.history.value c.heard-history.result.value c.self.inside.outcomes.value c.finished.result.value c.serve.new.done.added c.args.op c.serve.ensures.room c.heard-history.ensures c.finished.ensures (waits_rightly 1024 c.heard-history.result.value c.finished.result.value s.made s.shut.items _ (items_said s.waiting.items) s.pending.items (kept c)) c.serve.ensures.numbers)
