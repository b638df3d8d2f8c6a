use Rattle.std.proofs.Common.{ap, sym, subst, refl}
use Rattle.std.specs.Prelude.{None, option_map}
use Rattle.demi_port_core.specs.declared.place.Place.{Place}
use Rattle.demi_store.specs.Engine.{IsServed, PastValue, stands_now}
use Rattle.demi_store.specs.Serving.{Shows}
use Rattle.demi_store.proofs.engine.StoreEngine.make.Goals as goal

pub invariant_of-result : goal.invariant_of-result
invariant_of-result g c =
    let core = c.in-Ok.core in let fresh = c.in-Ok.ensures.fresh in
    subst (λ (v : PastValue). IsServed v.served v.finished × Shows {D = g.row.D.Denot} (g.D.Disk.bytes core.log.disk) core v.base (stands_now v) None) (sym c.no_past-past.ensures) (
      record { order = tt; count = refl },
      record { limit = refl; begun = fresh.0; records = refl; fault_is = ap (option_map (λ (p : Place). p.0)) fresh.1; stop_is = refl; told_is = refl },
    )
