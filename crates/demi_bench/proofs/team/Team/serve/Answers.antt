use Rattle.std.proofs.Common.{◌≡◌, ℕ, ◌+◌, ◌++◌, drop, take, length, subst, sym, ap, ◌∙◌, arith}
use Rattle.demi_port_core.specs.History.{total}
use Rattle.demi_bench.specs.Asking.{IsEven}
use Rattle.demi_bench.specs.Linking.{ArePaired, AreIdle, IsLineOf, IsPairOf, at_store}
use Rattle.demi_bench.proofs.Links.{idle_total, over_idle}
use Rattle.demi_bench.proofs.Numbers.{whole_back}
use Rattle.demi_bench.proofs.team.Team.serve.Goals as goal

pub serve-requires-clause-lines : goal.serve-requires-clause-lines
serve-requires-clause-lines g c κs within = let R = IsLineOf c.self.inside.duty.requests in
    subst (λ ws. ArePaired R ws c.deref_mut.result.now) (sym c.deref.ensures.value) (subst (ArePaired R c.self.inside.wires.items) (sym c.deref_mut.ensures.value) c.self.invariant.1)

pub serve-requires-clause-pairs : goal.serve-requires-clause-pairs
serve-requires-clause-pairs g c κs within =
    subst (λ ws. ArePaired IsPairOf ws c.deref_mut-2.result.now) (sym c.deref.ensures.value) (subst (ArePaired IsPairOf c.self.inside.wires.items) (sym c.deref_mut-2.ensures.value) c.self.invariant.3)

pub serve-requires-clause-store : goal.serve-requires-clause-store
serve-requires-clause-store g c κs within = let t = idle_total c.self.inside.lines.items c.self.invariant.2 in
    let is : IsEven c.args.store.now c.self.inside.store = subst (IsEven c.args.store.now) (sym c.self.view_is) c.requires in let even = is.1 in
    (is.0, subst (λ ls. length c.self.inside.store.submitted ≡ length c.self.inside.store.redeemed + total (λ l. at_store l.waits) ls) (sym c.deref_mut.ensures.value) (omega (arith, t, even)))

pub invariant_of-self : goal.invariant_of-self
invariant_of-self g c = let s = c.serve.ensures in let is = c.self.invariant in let R = IsLineOf c.self.inside.duty.requests in
    let wires = ap length c.deref.ensures.value in
    let lines : c.self.inside.lines.len ≡ length c.serve.new.lines =
    let a = s.lines.0 in let b = is.1.0 in let d = ap length c.deref_mut.ensures.value in let e = c.deref_mut.ensures.len in omega (arith, a, b, d, e, wires) in
    let pairs : c.self.inside.pairs.len ≡ length c.serve.new.pairs =
    let a = s.pairs.0 in let b = is.3.0 in let d = ap length c.deref_mut-2.ensures.value in let e = c.deref_mut-2.ensures.len in omega (arith, a, b, d, e, wires) in
    let same = whole_back c.self.inside.lines.len c.serve.new.lines c.self.inside.lines.items lines in (
      is.0,
      subst (ArePaired R c.self.inside.wires.items) (sym same) (subst (λ ws. ArePaired R ws c.serve.new.lines) c.deref.ensures.value s.lines),
      subst AreIdle (sym same) (over_idle c.self.inside.duty.requests c.serve.new.lines s.over),
      subst (ArePaired IsPairOf c.self.inside.wires.items) (sym (whole_back c.self.inside.pairs.len c.serve.new.pairs c.self.inside.pairs.items pairs))
          (subst (λ ws. ArePaired IsPairOf ws c.serve.new.pairs) c.deref.ensures.value s.pairs),
    )
