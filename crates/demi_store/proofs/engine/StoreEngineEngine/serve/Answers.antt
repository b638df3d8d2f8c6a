use Rattle.std.proofs.Common.{◌≡◌, [], ◌∷◌, length, ap, sym, ◌∙◌, subst, refl}
use Rattle.demi_store.specs.Laws.{StoreBasis}
use Rattle.demi_store.specs.History.{Standing}
use Rattle.demi_store.specs.Engine.{EngineValue, GoesTo, IsServed, PastValue}
use Rattle.demi_store.specs.Serving.{Shows}
use Rattle.demi_store.proofs.Pasts.{after, comes_on, one_added, past_on, served_on, shows_on}
use Rattle.demi_store.proofs.Steps.{none_pends}
use Rattle.demi_store.proofs.engine.StoreEngineEngine.serve.Given as given
use Rattle.demi_store.proofs.engine.StoreEngineEngine.serve.Goals as goal

place : (g : given.Over) (c : goal.After-drop-base g) → c.args.place.0 ≡ length c.self.inside.past.value.served
place g c = c.requires.next ∙ ap (λ (e : EngineValue g.row.D.Denot). length e.served) (sym c.self.view_is)

one : (g : given.Over) (c : goal.After-drop-base g) → c.add.new.self.added ≡ (length c.self.inside.past.value.served, c.answer-out.result) ∷ []
one g c = one_added c.self.inside.past.value c.answer-out.result c.args.place.0 c.args.done.now.added c.add.new.self.added c.add.ensures.added c.requires.empty (place g c)

now : (g : given.Over) (c : goal.After-drop-base g) → c.finished.result.value ≡ after c.self.inside.past.value c.args.op c.answer-out.result
now g c = past_on c.self.inside.past.value c.heard-past.result.value c.finished.result.value c.args.op c.answer-out.result c.add.new.self.added c.heard-past.ensures c.finished.ensures (one g c)

served : (g : given.Over) (c : goal.After-drop-base g) → IsServed c.finished.result.value.served c.finished.result.value.finished
served g c = served_on c.self.inside.past.value c.finished.result.value c.args.op c.answer-out.result c.self.invariant.0 (now g c)

pub invariant_of-self : goal.invariant_of-self
invariant_of-self g c =
    let q = c.answer-out.new.self in (
      served g c,
      shows_on c.self.inside.past.value c.finished.result.value c.args.op c.answer-out.result c.self.invariant.0 (now g c) c.base_of-base.result.value c.stands_of-stands.result.value c.args.place.0 c.base_of-base.ensures c.stands_of-stands.ensures (place g c)
          (λ (b : StoreBasis) (s : Standing). Shows {D = g.row.D.Denot} (g.D.Disk.bytes q.core.log.disk) q.core b s q.stop) c.answer-out.ensures.answered.shows,
    )

pub returns-clause-comes : goal.returns-clause-comes
returns-clause-comes g c =
    comes_on c.self.inside.past.value c.finished.result.value c.args.op c.answer-out.result c.self.invariant.0 (now g c) c.base_of-base.result.value c.stands_of-stands.result.value c.args.place.0 c.base_of-base.ensures c.stands_of-stands.ensures (place g c)
    c.args.self.now.finished c.add.new.self.added (ap (λ (e : EngineValue g.row.D.Denot). e.finished) (sym c.self.view_is)) (one g c) c.answer-out.ensures.answered.said

pub returns-clause-pends : goal.returns-clause-pends
returns-clause-pends g c = none_pends c.finished.result.value.served c.finished.result.value.finished (served g c).order (served g c).count

pub returns-clause-ends : goal.returns-clause-ends
returns-clause-ends g c some = none_pends c.finished.result.value.served c.finished.result.value.finished (served g c).order (served g c).count

pub returns-clause-goes : goal.returns-clause-goes
returns-clause-goes g c =
    let q = c.answer-out.new.self in let w = c.finished.result.value in let e = now g c in
    let b : EngineValue g.row.D.Denot = record { core = q.core; base = w.base; served = w.served; finished = w.finished } in
    subst (λ (a : EngineValue g.row.D.Denot). GoesTo g.D.Disk.bytes g.D.Disk.held g.D.Disk.faults g.D.Disk.appends g.D.Disk.looks a b) c.self.view_is (
      (c.args.op, c.answer-out.result) ∷ [],
      (
        b,
        record {
          base = ap (λ (z : PastValue). z.base) e;
          served = ap (λ (z : PastValue). z.served) e;
          finished = ap (λ (z : PastValue). z.finished) e;
          moves = c.answer-out.ensures.moves;
        },
        refl,
      ),
    )
