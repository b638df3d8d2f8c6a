use Rattle.std.proofs.Common.{◌≡◌, length, sym, subst}
use Rattle.demi_server.proofs.station.Station.parts.Goals as goal

pub parts-requires-after_bounds : goal.parts-requires-after_bounds
parts-requires-after_bounds g c κs within = subst (λ z. length z.seat.fetched ≡ length (g.E.Engine.served z.engine)) (sym c.self.view_is) c.requires
