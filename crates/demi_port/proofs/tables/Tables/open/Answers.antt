use Rattle.std.proofs.Common.{rules, ◌≡◌, ℕ, ◌+◌, ◌≤◌, replicate, refl}
use Rattle.demi_port_core.proofs.Trails.{begins}
use Rattle.demi_port_core.proofs.Starts.{starts}
use Rattle.demi_port.proofs.tables.Tables.open.Goals as goal
use Rattle.demi_port_core.specs.Words.{token_word}

pub of_words-requires : goal.of_words-requires
of_words-requires g c = begins _

pub vacant-requires : goal.vacant-requires
vacant-requires g c = let n : ℕ = c.args.count in let few : n ≤ 64 = search rules in let same : c.as_slice.result.now ≡ replicate (token_word n) 0 = search rules in
    rw same (starts c.key_beside-key.result g.L.Law.said _ _ n (token_word n) few refl)
