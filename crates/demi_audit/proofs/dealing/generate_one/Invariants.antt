use Rattle.std.proofs.Common.{◌≡◌, ◌-◌, ◌++◌, flat_map}
use Rattle.demi_spec.specs.Request.{spelling}
use Rattle.demi_audit.specs.Generator.{dealt, requests_from}
use Rattle.demi_audit.proofs.dealing.generate_one.Given as goal

abbrev pub invariant-loop-i : goal.invariant-loop-i
invariant-loop-i l =
    l.input.items ++ flat_map spelling (dealt l.links l.link l.i (requests_from (l.count - l.i) l.draws.state))
    ≡ flat_map spelling (dealt l.links l.link 0 (requests_from l.count l.seed))
