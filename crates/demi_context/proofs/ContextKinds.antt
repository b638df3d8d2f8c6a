-- The ports of a link are its two sides.
use Rattle.std.proofs.Common.{◌≡◌, ℕ, ◌<◌, Bool, false, cond, length, ap, ◌∙◌, arith}
use Rattle.std.specs.Prelude.{◌≤◌, ◌-◌, ◌%◌, ◌/◌, ◌==◌}
use Rattle.std.proofs.lemmas.Bool.{lt-ltb, ne_eqb}
use Rattle.demi_pdpix.specs.Kinds.{kind_of, side_of}
use Rattle.demi_pdpix.specs.declared.kind.PortKind.{PortKind}
use Rattle.demi_pdpix.specs.declared.kind.PortKind.TheVariants.{Nowhere, Receiving, Sending}
use Rattle.demi_context.specs.ContextPorts.{Whole, rx_port, tx_port}

past : (a b c : Bool) (x y z w : PortKind) → a ≡ false → b ≡ false → c ≡ false → cond a x (cond b y (cond c z w)) ≡ w
past a b c x y z w ea eb ec = ap (λ (t : Bool). cond t x (cond b y (cond c z w))) ea ∙ ap (λ (t : Bool). cond t y (cond c z w)) eb ∙ ap (λ (t : Bool). cond t z w) ec

-- a port from 3 on is a side of a link
from_third : (d : Whole) (port : ℕ) → 3 ≤ port → kind_of d port ≡ side_of d ((port - 3) % 2) ((port - 3) / 2)
from_third d port low = past (port == 0) (port == 1) (port == 2) _ _ _ _ (ne_eqb port 0 (λ e. omega (arith, e, low))) (ne_eqb port 1 (λ e. omega (arith, e, low))) (ne_eqb port 2 (λ e. omega (arith, e, low)))

pub kind_rx : (d : Whole) (port k : ℕ) → port ≡ rx_port k → k < length d.rx → kind_of d port ≡ Receiving k
kind_rx d port k is low =
    let even : (port - 3) % 2 ≡ 0 = omega (arith, is) in
    let half : (port - 3) / 2 ≡ k = omega (arith, is) in
    from_third d port (omega (arith, is)) ∙ ap (λ (n : ℕ). side_of d n ((port - 3) / 2)) even ∙ ap (λ (n : ℕ). side_of d 0 n) half ∙ ap (λ (b : Bool). cond b (Receiving k) Nowhere) (lt-ltb k (length d.rx) low)

pub kind_tx : (d : Whole) (port k : ℕ) → port ≡ tx_port k → k < length d.tx → kind_of d port ≡ Sending k
kind_tx d port k is low =
    let odd : (port - 3) % 2 ≡ 1 = omega (arith, is) in
    let half : (port - 3) / 2 ≡ k = omega (arith, is) in
    from_third d port (omega (arith, is)) ∙ ap (λ (n : ℕ). side_of d n ((port - 3) / 2)) odd ∙ ap (λ (n : ℕ). side_of d 1 n) half ∙ ap (λ (b : Bool). cond b (Sending k) Nowhere) (lt-ltb k (length d.tx) low)
