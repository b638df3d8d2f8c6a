use Rattle.demi_sga.proofs.row.Row.+split.Given as goal

abbrev pub decreases-split : goal.decreases-split
decreases-split g a = a.k
