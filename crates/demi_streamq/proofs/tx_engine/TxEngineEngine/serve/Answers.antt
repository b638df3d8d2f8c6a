use Rattle.std.proofs.Common.{◌≡◌, ◌++◌, ◌∷◌, [], ap, sym, ◌∙◌, subst, length}
use Rattle.demi_device.specs.Serving.{AllCome, places, trail}
use Rattle.demi_streamq.specs.Sending.{told, TxAdmits}
use Rattle.demi_streamq.proofs.TxSteps.{tx_comes, tx_none}
use Rattle.demi_streamq.proofs.tx_engine.TxEngineEngine.serve.Goals as goal

added : (g : Rattle.demi_streamq.proofs.tx_engine.TxEngineEngine.serve.Given.Over) (c : goal.After-drop-self-inside-2 g) → c.add.new.self.added ≡ (c.args.place.0, c.answer-out.result) ∷ []
added g c = c.add.ensures.added ∙ ap (λ l. l ++ (c.args.place.0, c.answer-out.result) ∷ []) c.requires.empty

fin : (g : Rattle.demi_streamq.proofs.tx_engine.TxEngineEngine.serve.Given.Over) (c : goal.After-drop-self-inside-2 g) → c.finished.result.value ≡ c.self.inside.outcomes.value ++ (c.args.place.0, c.answer-out.result) ∷ []
fin g c = c.finished.ensures ∙ ap (λ l. c.self.inside.outcomes.value ++ l) (added g c)

pub returns-clause-comes : goal.returns-clause-comes
returns-clause-comes g c =
    subst (λ l. AllCome (length c.heard-history.result.value) told (λ t p o. TxAdmits c.heard-history.result.value t p o) (trail told l) (places l) c.add.new.self.added) (ap (λ v. v.finished) c.self.view_is)
    (tx_comes c.self.inside.history.value c.self.inside.outcomes.value c.self.inside.state.closed _ _ c.self.invariant.0 c.args.place.0 (c.requires.next ∙ ap (λ v. length v.served) (sym c.self.view_is)) c.args.op c.answer-out.result c.answer-out.ensures.admitted
    c.heard-history.result.value c.heard-history.ensures c.add.new.self.added (added g c))

pub returns-clause-pends : goal.returns-clause-pends
returns-clause-pends g c = tx_none _ c.heard-history.result.value _ c.finished.result.value c.answer-out.new.self.closed _ _ c.answer-out.ensures.kept c.heard-history.ensures (fin g c)

pub returns-clause-ends : goal.returns-clause-ends
returns-clause-ends g c = λ some. tx_none _ c.heard-history.result.value _ c.finished.result.value c.answer-out.new.self.closed _ _ c.answer-out.ensures.kept c.heard-history.ensures (fin g c)
