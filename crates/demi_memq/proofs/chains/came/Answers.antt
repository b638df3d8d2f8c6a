-- Each lifetime is within that of the items.
use contract.BorrowLft.{⊑_meet, ⊑_static}
use Rattle.demi_memq.proofs.chains.came.Goals as goal

pub from-requires : goal.from-requires
from-requires g c κs = λ o.
    let a = κs.1.1.0 in let n = ⊑_static a in let l = ⊑_meet a _ _ o.1.0 n in let d = ⊑_meet a _ _ (⊑_meet a _ _ l l) n in
    let b = κs.1.1.1.0 in let n' = ⊑_static b in let l' = ⊑_meet b _ _ o.1.1.0 n' in let d' = ⊑_meet b _ _ (⊑_meet b _ _ l' l') n' in
    let e' = ⊑_meet b _ _ d' (⊑_meet b _ _ (⊑_meet b _ _ d' n') n') in
    let k = κs.1.1.1.1.0 in let n'' = ⊑_static k in let half = ⊑_meet k _ _ (⊑_meet k _ _ o.0.0 n'') (⊑_meet k _ _ (⊑_meet k _ _ o.0.1.0 o.1.1.1.0) n'') in
    (⊑_meet a _ _ d (⊑_meet a _ _ (⊑_meet a _ _ d n) n), (⊑_meet b _ _ (⊑_meet b _ _ e' n') (⊑_meet b _ _ (⊑_meet b _ _ (⊑_meet b _ _ e' n') n') n'), ⊑_meet k _ _ half half))
