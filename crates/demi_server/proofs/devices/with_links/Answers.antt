use Rattle.std.proofs.Common.{◌∙◌, ◌≤◌, length, ap, sym, arith}
use Rattle.std.proofs.lemmas.List.{length-map}
use Rattle.demi_server.specs.Building.{ends_of}
use Rattle.demi_server.proofs.Homes.{room_on}
use Rattle.demi_server.proofs.devices.with_links.Goals as goal

pub invariant_of-result : goal.invariant_of-result
invariant_of-result g c =
    let e = c.in-Ok.ensures in let home = c.args.waiting.home in let made = c.in-Ok.links.items in
    let n = sym (length-map made ends_of) ∙ ap length e.made.0 in
    let low : length made ≤ length home.links.items = omega (arith, n) in
    (e.new.1, room_on (length home.links.items) (length made) home c.stations.new.self low e.room c.requires.even.1)
