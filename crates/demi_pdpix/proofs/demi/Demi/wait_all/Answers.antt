use Rattle.std.proofs.Common.{◌≤◌, [], ◌∷◌, length, length-append, refl, ap, sym, subst, arith}
use Rattle.demi_pdpix.specs.Together.{AllCame}
use Rattle.demi_pdpix.proofs.AllCame.{one_came, one_halt}
use Rattle.demi_pdpix.proofs.demi.Demi.wait_all.Goals as goal

pub loop-i-init : goal.loop-i-init
loop-i-init g c = (
  [],
  c.args.tokens.now,
  record {
    of = c.requires;
    all = refl;
    many = refl;
    filled = ap length c.in_ok-results.ensures.items;
    room = omega (arith, c.in_ok-results.ensures.capacity);
    came = subst (λ rs. AllCame g.X.Law.admits c.args.self.now [] rs c.args.caller.now c.args.caller.now) (sym c.in_ok-results.ensures.items) refl;
  },
)

pub returns-in-Spent-clause-waited : goal.returns-in-Spent-clause-waited
returns-in-Spent-clause-waited g c = let v = c.loop-i.invariant in let r = v.2 in
    one_halt g.X.Law.admits c.args.self.now c.args.tokens.now v.0 v.1 c.loop-i.i _ c.loop-i.results.items c.args.caller.now c.loop-i.caller c.wait.new.caller _
    r.all r.many c.loop-i-test.true r.came c.in-Spent.ensures.waited

pub returns-in-Unknown-clause-waited : goal.returns-in-Unknown-clause-waited
returns-in-Unknown-clause-waited g c = let v = c.loop-i.invariant in let r = v.2 in
    one_halt g.X.Law.admits c.args.self.now c.args.tokens.now v.0 v.1 c.loop-i.i _ c.loop-i.results.items c.args.caller.now c.loop-i.caller c.wait.new.caller _
    r.all r.many c.loop-i-test.true r.came c.in-Unknown.ensures.waited

pub loop-i-preserved : goal.loop-i-preserved
loop-i-preserved g c = let v = c.loop-i.invariant in let r = v.2 in let was = c.loop-i.results.items in
    let s = one_came g.X.Law.admits c.args.self.now c.args.tokens.now v.0 v.1 c.loop-i.i _ was (c.in-Ready.place, c.in-Ready.came) c.args.caller.now c.loop-i.caller c.wait.new.caller
    r.all r.many c.loop-i-test.true r.came c.in-Ready.ensures.waited in (
      s.0,
      s.1,
      record {
        of = c.in-Ready.ensures.of;
        all = s.2;
        many = s.3;
        filled = let e = ap length c.push_reserved.ensures.items in let f = length-append was ((c.in-Ready.place, c.in-Ready.came) ∷ []) in let n = r.filled in omega (arith, e, f, n);
        room = subst (λ n. length c.args.tokens.now ≤ n) (sym c.push_reserved.ensures.capacity) r.room;
        came = subst (λ rs. AllCame g.X.Law.admits c.args.self.now s.0 rs c.args.caller.now c.wait.new.caller) (sym c.push_reserved.ensures.items) s.4;
      },
    )
