-- The one pass of a port that the tests have.
use Rattle.std.proofs.Common.{◌≡◌, List, [], ◌∷◌, length, ap, ◌∙◌, arith}
use Rattle.std.specs.Prelude.{slice_set, slice_index_or}
use Rattle.demi_port_core.specs.History.{total}
use Rattle.demi_port.specs.Seen.{NewFrom, PassValue, PortId}

-- it redeemed as many operations as it submitted
pub one_even : {D T B : Type 0} (ps : List (PassValue D T B)) (q : PassValue D T B) → length ps ≡ 1 → length q.submitted ≡ length q.redeemed → total (λ (p : PassValue D T B). length p.submitted) (slice_set ps 0 q) ≡ total (λ (p : PassValue D T B). length p.redeemed) (slice_set ps 0 q)
one_even [] q one even = absurd (omega arith)
one_even (p ∷ []) q one even = omega arith
one_even (p ∷ p' ∷ ps) q one even = absurd (omega arith)

-- a new one submitted and redeemed nothing
pub first_new : {D T B : Type 0} (port : PortId B) (ps : List (PassValue D T B)) (p : PassValue D T B) → length ps ≡ 1 → NewFrom port 0 ps → p ≡ slice_index_or ps 0 p → (length p.submitted ≡ 0) × (length p.redeemed ≡ 0)
first_new port [] p one new e = absurd (omega arith)
first_new port (x ∷ xs) p one new e = (ap (λ z. length z.submitted) (e ∙ new.0), ap (λ z. length z.redeemed) (e ∙ new.0))
