-- A list that was written anew in its place.
use Rattle.std.proofs.Common.{◌≡◌, ◌∙◌, ℕ, List, ◌++◌, drop, length, take, ap, sym}
use Rattle.std.proofs.Math.Seq.{take-append_seam}

pub rewritten : {A : Type 0} (n : ℕ) (new old : List A) → length new ≡ n → take n (new ++ drop (length new) old) ≡ new
rewritten n new old many = ap (λ m. take m (new ++ drop (length new) old)) (sym many) ∙ take-append_seam new (drop (length new) old)
