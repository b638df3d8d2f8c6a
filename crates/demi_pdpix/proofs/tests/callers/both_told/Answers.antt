use Rattle.std.proofs.Common.{◌≡◌, ℕ, [], ◌∷◌, subst}
use Rattle.demi_pdpix.specs.Owing.{Owes, without_at}
use Rattle.demi_pdpix.proofs.tests.callers.both_told.Goals as goal

pub returns-in-0 : goal.returns-in-0
returns-in-0 g c = let is : c.one_came-i.result.0 ≡ 0 = cc in let rest = λ (i : ℕ). without_at i (c.args.one ∷ c.args.other ∷ []) in
    c.came-last.ensures.owes 0 [] (subst (λ (i : ℕ). Owes c.args.demi.now 0 (rest i) c.one_came-i.new.caller) is (c.one_came-i.ensures.owes 0 c.requires))

pub returns-in-1 : goal.returns-in-1
returns-in-1 g c = let is : c.one_came-i.result.0 ≡ 1 = cc in let rest = λ (i : ℕ). without_at i (c.args.one ∷ c.args.other ∷ []) in
    c.came-last-in-1.ensures.owes 0 [] (subst (λ (i : ℕ). Owes c.args.demi.now 0 (rest i) c.one_came-i.new.caller) is (c.one_came-i.ensures.owes 0 c.requires))
