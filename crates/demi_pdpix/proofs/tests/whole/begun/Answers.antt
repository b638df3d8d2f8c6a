use Rattle.std.proofs.Common.{[], ◌∷◌, refl, sym, subst}
use Rattle.demi_pdpix.specs.Owing.{Owes}
use Rattle.demi_pdpix.proofs.TwoCallers.{learnt_owes, noted_owes}
use Rattle.demi_pdpix.proofs.tests.whole.begun.Goals as goal

pub returns-clause-first : goal.returns-clause-first
returns-clause-first g c = let d = c.args.demi.now in let opened = c.opened-opened in let asked = c.asked-asked in
    let owes = asked.ensures.owes 0 (opened.result ∷ []) (opened.ensures.owes 0 [] c.requires.0) in
    (refl, subst (Owes d 0 (asked.result ∷ opened.result ∷ [])) (sym c.learn.ensures.from) (noted_owes d 0 (asked.result ∷ opened.result ∷ []) asked.new.caller owes))

pub returns-clause-second : goal.returns-clause-second
returns-clause-second g c = let d = c.args.demi.now in
    (refl, subst (Owes d 1 []) (sym c.learn.ensures.caller) (learnt_owes d 1 [] c.args.second c.asked-asked.new.caller c.requires.1))
