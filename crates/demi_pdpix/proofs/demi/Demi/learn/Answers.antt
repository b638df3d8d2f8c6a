use Rattle.std.proofs.Common.{sym, subst}
use Rattle.demi_pdpix.specs.Seen.{IsOf}
use Rattle.demi_pdpix.proofs.Learning.{learnt_of, noted_of, whole_learnt, whole_noted}
use Rattle.demi_pdpix.proofs.demi.Demi.learn.Goals as goal

pub returns-clause-of : goal.returns-clause-of
returns-clause-of g c = let d = c.args.self.now in let caller = c.args.caller.now in let from = c.args.from.now in
    let m = c.learn_port in let s = c.learn_port-2 in let j = c.learn_each in let r = c.learn_each-2 in let t = c.learn_each-3 in (
      subst (IsOf d) (sym (whole_learnt _ caller _ from m.new.pass s.new.pass j.new.passes.items r.new.passes.items t.new.passes.items c.caller.view_is c.from.view_is
          m.ensures.pass s.ensures.pass j.ensures.passes r.ensures.passes t.ensures.passes)) (learnt_of d caller from c.requires.caller),
      subst (IsOf d) (sym (whole_noted _ from m.new.from s.new.from j.new.from.items r.new.from.items t.new.from.items c.from.view_is
          m.ensures.from s.ensures.from j.ensures.from r.ensures.from t.ensures.from)) (noted_of d from c.requires.from),
    )
