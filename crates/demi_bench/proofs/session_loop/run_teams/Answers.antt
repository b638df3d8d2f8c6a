use Rattle.std.proofs.Common.{◌≡◌, ℕ, ◌++◌, length, reverse, ap, subst, sym, ◌∙◌}
use Rattle.demi_port.specs.Seen.{PassValue}
use Rattle.demi_port_core.specs.History.{AnyOf, Each}
use Rattle.demi_bench.specs.Asking.{IsEven}
use Rattle.demi_bench.specs.Linking.{StayEven}
use Rattle.demi_bench.proofs.Numbers.{whole_back}
use Rattle.demi_bench.proofs.Teams.{dealt_even, still_even, still_there}
use Rattle.demi_bench.proofs.session_loop.run_teams.Goals as goal

pub serve_all-requires-clause-teams : goal.serve_all-requires-clause-teams
serve_all-requires-clause-teams g c κs within = let o = c.open_teams.new in
    subst (Each (IsEven c.args.store.now)) (sym c.deref_mut.ensures.value) (dealt_even c.args.store.now c.args.passes.now.items o.passes.items o.teams.items c.open_teams.ensures.all c.requires.passes.0)

pub returns-clause-even : goal.returns-clause-even
returns-clause-even g c = let o = c.open_teams.new in let us = c.serve_all.new.teams in let stay = c.serve_all.ensures.teams in
    let back = whole_back o.teams.len us o.teams.items (sym (stay.0 ∙ c.deref_mut.ensures.len)) in
    subst (Each (IsEven c.args.store.now)) (sym (c.close_teams-2.ensures ∙ ap (λ l. o.passes.items ++ reverse l) back))
    (still_even c.args.store.now c.args.passes.now.items o.passes.items o.teams.items us c.open_teams.ensures.all
    (subst (λ ts. StayEven c.args.store.now ts us) c.deref_mut.ensures.value stay) c.requires.passes.0)

pub returns-clause-all : goal.returns-clause-all
returns-clause-all g c n any = let o = c.open_teams.new in let us = c.serve_all.new.teams in let stay = c.serve_all.ensures.teams in
    let back = whole_back o.teams.len us o.teams.items (sym (stay.0 ∙ c.deref_mut.ensures.len)) in
    subst (AnyOf (λ (p : PassValue ℕ (Unit {0}) (Unit {0})). p.number ≡ n)) (sym (c.close_teams-2.ensures ∙ ap (λ l. o.passes.items ++ reverse l) back))
    (still_there c.args.store.now n c.args.passes.now.items o.passes.items o.teams.items us c.open_teams.ensures.all
    (subst (λ ts. StayEven c.args.store.now ts us) c.deref_mut.ensures.value stay) any)
