use Rattle.std.proofs.Common.{◌≡◌, ◌∙◌, ℕ, List, [], length, Option, Some, None, refl, inl}
use Rattle.std.specs.Prelude.{IfSome}
use Rattle.demi_server.proofs.Opens.{read_none}
use Rattle.demi_cli.proofs.tool.read_log.Goals as goal

none_told : (told : Option (List ℕ)) (held : ℕ) → IfSome told (λ b. length b ≡ held) → held ≡ 0 → IfSome told (λ b. length b ≡ 0)
none_told None held long none = tt
none_told (Some b) held long none = long ∙ none

pub returns-in-Ok-eq0-clause-read : goal.returns-in-Ok-eq0-clause-read
returns-in-Ok-eq0-clause-read g c =
    let none : g.D.Disk.held c.args.disk ≡ 0 = cc c.in-Ok-eq0.ensures.held.0 in (
      [],
      record { read = read_none (g.D.Disk.bytes c.args.disk) [] (none_told _ _ (g.met.D.Disk.told_held c.args.disk) none) refl; size = inl (none, refl) },
      c.new.ensures,
    )
