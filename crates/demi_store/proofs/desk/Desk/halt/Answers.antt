use Rattle.std.proofs.Common.{ap, sym, ◌∙◌, refl, Some}
use Rattle.std.specs.Prelude.{option_map}
use Rattle.demi_port_core.specs.declared.place.Place.{Place}
use Rattle.demi_store.specs.declared.op.StoreOp.TheVariants.{Stop}
use Rattle.demi_store.specs.History.{Halted}
use Rattle.demi_store.proofs.Saying.{by_case}
use Rattle.demi_store.proofs.desk.Desk.halt.Goals as goal

pub returns-clause-answered : goal.returns-clause-answered
returns-clause-answered g c =
    let r = c.requires.shows in let b = c.args.base.now.value in let s = c.args.stands.now.value in
    by_case b.told b.limit c.args.place.0 s _ (sym r.stop_is ∙ ap (option_map (λ (p : Place). p.0)) c.requires.calm) Stop _ Halted (record s { stop = Some c.args.place.0 }) refl (refl, tt)
    (record { limit = r.limit; begun = r.begun; records = r.records; fault_is = r.fault_is; stop_is = refl; told_is = r.told_is })
