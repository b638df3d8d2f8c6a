use Rattle.std.proofs.Common.{◌≡◌, ◌++◌, ◌∷◌, [], false, ap, sym, ◌∙◌, subst, length}
use Rattle.demi_device.specs.Serving.{AllCome, places, trail}
use Rattle.demi_streamq.specs.Receiving.{IsFrom, told, RxAdmits}
use Rattle.demi_streamq.specs.RxGoing.{ended_append}
use Rattle.demi_streamq.specs.RxKept.{ended_after, ended_in}
use Rattle.demi_streamq.specs.RxState.{IsKept}
use Rattle.demi_streamq.proofs.RxSteps.{rx_comes, rx_none}
use Rattle.demi_streamq.proofs.rx_engine.RxEngineEngine.serve.Goals as goal

added : (g : Rattle.demi_streamq.proofs.rx_engine.RxEngineEngine.serve.Given.Over) (c : goal.After-drop-self-inside-2 g) → c.add.new.self.added ≡ (c.args.place.0, c.answer-out.result) ∷ []
added g c = c.add.ensures.added ∙ ap (λ l. l ++ (c.args.place.0, c.answer-out.result) ∷ []) c.requires.empty

fin : (g : Rattle.demi_streamq.proofs.rx_engine.RxEngineEngine.serve.Given.Over) (c : goal.After-drop-self-inside-2 g) → c.finished.result.value ≡ c.self.inside.outcomes.value ++ (c.args.place.0, c.answer-out.result) ∷ []
fin g c = c.finished.ensures ∙ ap (λ l. c.self.inside.outcomes.value ++ l) (added g c)

pub invariant_of-self : goal.invariant_of-self
invariant_of-self g c = (
  subst (λ h. IsKept h c.finished.result.value c.answer-out.new.self) (sym c.heard-history.ensures) (subst (λ f. IsKept (c.self.inside.history.value ++ c.args.op ∷ []) f c.answer-out.new.self) (sym (fin g c)) c.answer-out.ensures.kept),
  ap (λ v. v.heap) c.answer-out.ensures.pass ∙ c.self.invariant.1,
  c.answer-out.ensures.within,
  c.answer-out.ensures.none_left,
  c.answer-out.ensures.ended ∙ ap (λ b. ended_after b c.answer-out.result) c.self.invariant.4 ∙ sym (ap (ended_in false) (fin g c) ∙ ended_append false c.self.inside.outcomes.value ((c.args.place.0, c.answer-out.result) ∷ [])),
)

pub returns-clause-comes : goal.returns-clause-comes
returns-clause-comes g c =
    subst (λ l. AllCome (length c.heard-history.result.value) told (λ t p o. RxAdmits c.heard-history.result.value t p o × IsFrom c.answer-out.new.pass.heap o) (trail told l) (places l) c.add.new.self.added) (ap (λ v. v.finished) c.self.view_is)
    (rx_comes c.answer-out.new.pass.heap c.self.inside.history.value c.self.inside.outcomes.value c.self.inside.state.at_end c.self.inside.state.broken _ c.self.inside.state.taken c.self.invariant.0 c.args.place.0 (c.requires.next ∙ ap (λ v. length v.served) (sym c.self.view_is)) c.args.op c.answer-out.result c.answer-out.ensures.admitted
    (subst (λ h. IsFrom h c.answer-out.result) (sym (ap (λ v. v.heap) c.answer-out.ensures.pass ∙ c.self.invariant.1)) c.answer-out.ensures.from) c.heard-history.result.value c.heard-history.ensures c.add.new.self.added (added g c))

pub returns-clause-pends : goal.returns-clause-pends
returns-clause-pends g c = rx_none _ c.heard-history.result.value _ c.finished.result.value c.answer-out.new.self.at_end c.answer-out.new.self.broken _ c.answer-out.new.self.taken c.answer-out.ensures.kept c.heard-history.ensures (fin g c)

pub returns-clause-ends : goal.returns-clause-ends
returns-clause-ends g c = λ some. rx_none _ c.heard-history.result.value _ c.finished.result.value c.answer-out.new.self.at_end c.answer-out.new.self.broken _ c.answer-out.new.self.taken c.answer-out.ensures.kept c.heard-history.ensures (fin g c)
