use Rattle.std.proofs.Common.{◌∙◌}
use Rattle.demi_server.specs.Building.{IsEven}
use Rattle.demi_server.specs.declared.home.Home.{Home}
use Rattle.demi_server.proofs.Gathered.{all_seated, as_many}
use Rattle.demi_server.proofs.Homes.{room_here}
use Rattle.demi_server.proofs.devices.Devices.make.Goals as goal

pub with_links-requires-clause-even : goal.with_links-requires-clause-even
with_links-requires-clause-even g c =
    let d = c.args.demi.now in let p = c.args.parts in let r = c.requires in
    let h : Home g.row.I.Denot g.row.O.Denot = record { links = p.links; rx = p.seats.rx; tx = p.seats.tx } in
    let even : IsEven h = record { rx = as_many d.heap d.callers d.rx p.seats.rx.items r.rx ∙ r.links.0; tx = as_many d.heap d.callers d.tx p.seats.tx.items r.tx ∙ r.links.1 } in
    (even, room_here h even)

pub with_links-requires-clause-seated : goal.with_links-requires-clause-seated
with_links-requires-clause-seated g c =
    let d = c.args.demi.now in let p = c.args.parts in let r = c.requires in
    (all_seated d.heap d.callers d.rx p.seats.rx.items r.bases.2 r.tokens.2 r.rx, all_seated d.heap d.callers d.tx p.seats.tx.items r.bases.3 r.tokens.3 r.tx)
