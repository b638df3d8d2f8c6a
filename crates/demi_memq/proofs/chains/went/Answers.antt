-- Each lifetime is within that of the items.
use contract.BorrowLft.{⊑_meet, ⊑_static}
use Rattle.demi_memq.proofs.chains.went.Goals as goal

pub from-requires : goal.from-requires
from-requires g c κs = λ o.
    let a = κs.1.1.0 in let n = ⊑_static a in let l = ⊑_meet a _ _ o.0 n in let d = ⊑_meet a _ _ (⊑_meet a _ _ l l) n in
    let b = κs.1.1.1.0 in let n' = ⊑_static b in let l' = ⊑_meet b _ _ o.1 n' in let d' = ⊑_meet b _ _ (⊑_meet b _ _ l' l') n' in
    let e' = ⊑_meet b _ _ d' (⊑_meet b _ _ (⊑_meet b _ _ d' n') n') in
    (⊑_meet a _ _ d (⊑_meet a _ _ (⊑_meet a _ _ d n) n), (⊑_meet b _ _ (⊑_meet b _ _ e' n') (⊑_meet b _ _ (⊑_meet b _ _ (⊑_meet b _ _ e' n') n') n'), ⊑_static κs.1.1.1.1.0))
