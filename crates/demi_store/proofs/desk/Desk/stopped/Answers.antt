use Rattle.std.proofs.Common.{ap, sym, ◌∙◌, refl}
use Rattle.std.specs.Prelude.{option_map}
use Rattle.demi_port_core.specs.declared.place.Place.{Place}
use Rattle.demi_store.proofs.Saying.{stopped_answered}
use Rattle.demi_store.proofs.desk.Desk.stopped.Goals as goal

pub returns-clause-answered : goal.returns-clause-answered
returns-clause-answered g c =
    let r = c.requires.shows in let b = c.args.base.now.value in let s = c.args.stands.now.value in
    stopped_answered b.told b.limit c.args.place.0 s _ c.args.at.0 (sym r.stop_is ∙ ap (option_map (λ (p : Place). p.0)) c.requires.at) c.args.op _ (refl, c.back_of.ensures b.told c.args.at.0) r
