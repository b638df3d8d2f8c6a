use Rattle.std.proofs.Common.{◌≡◌, map}
use Rattle.std.specs.List.{range_with_len}
use Rattle.demi_audit.specs.Generator.{input_of}
use Rattle.demi_audit.proofs.dealing.generate.Given as goal

abbrev pub invariant-loop-link : goal.invariant-loop-link
invariant-loop-link l = map (λ v. v.items) l.all.items ≡ map (input_of l.seed l.links l.count) (range_with_len 0 l.link)
