-- The parts of all devices.
use Rattle.std.proofs.Common.{◌≡◌, ◌∙◌, ℕ, zero, suc, List, [], ◌∷◌, ◌++◌, All, length, map, reverse, refl, ap, arith}
use Rattle.std.proofs.lemmas.List.{reverse-reverse}
use Rattle.demi_heap.specs.Seen.{HeapId}
use Rattle.demi_port.specs.Seen.{DeviceValue, IsNewSeat, PortId}
use Rattle.demi_device.specs.Turning.{IsFresh}
use Rattle.demi_pdpix.specs.Seen.{AreNewPairs, IsNewPair, Pair}
use Rattle.demi_server.specs.Building.{AreSeated, IsSeated}

-- a new seat has done nothing
new_fresh : {D T B : Type 0} (port : PortId B) (n : ℕ) (s : DeviceValue D T B) → IsNewSeat port n s → IsFresh s
new_fresh port n s is = (ap (λ (z : DeviceValue _ _ _). z.rang) is, ap (λ (z : DeviceValue _ _ _). z.fetched) is, ap (λ (z : DeviceValue _ _ _). z.finished) is, ap (λ (z : DeviceValue _ _ _). z.trail) is)

-- a new pair is a seat of its port
pub new_seated : {D T : Type 0} (heap : HeapId) (n : ℕ) (port : PortId HeapId) (s : Pair D T HeapId) → port.key.base ≡ heap → port.tokens.slots ≡ 64 → IsNewPair heap n port s → IsSeated heap port 64 s
new_seated heap n port s base slots new = record {
  base = base;
  slots = slots;
  at = ap (λ (z : DeviceValue _ _ _). z.port) new.0;
  fresh = new_fresh port n s.0 new.0;
  pass = ap (λ p. p.heap) new.1;
}

-- so is each of several
pub all_seated : {D T : Type 0} (heap : HeapId) (n : ℕ) (ports : List (PortId HeapId)) (seats : List (Pair D T HeapId))
    → All (λ x. x.key.base ≡ heap) ports → All (λ x. x.tokens.slots ≡ 64) ports → AreNewPairs heap n ports seats → AreSeated heap ports 64 seats
all_seated heap n [] [] bases slots new k x s low = absurd (omega (arith, low))
all_seated heap n [] (y ∷ ys) bases slots new k x s low = absurd new
all_seated heap n (p ∷ ps) [] bases slots new k x s low = absurd new
all_seated heap n (p ∷ ps) (y ∷ ys) bases slots new zero x s low = new_seated heap n p y (bases 0 p (omega arith)) (slots 0 p (omega arith)) new.0
all_seated heap n (p ∷ ps) (y ∷ ys) bases slots new (suc k) x s low = all_seated heap n ps ys (λ j d less. bases (suc j) d (omega (arith, less))) (λ j d less. slots (suc j) d (omega (arith, less))) new.1 k x s (omega (arith, low))

-- there are as many seats as ports
pub as_many : {D T B : Type 0} (heap : HeapId) (n : ℕ) (ports : List (PortId B)) (seats : List (Pair D T B)) → AreNewPairs heap n ports seats → length seats ≡ length ports
as_many heap n [] [] new = refl
as_many heap n [] (y ∷ ys) new = absurd new
as_many heap n (p ∷ ps) [] new = absurd new
as_many heap n (p ∷ ps) (y ∷ ys) new = ap suc (as_many heap n ps ys new.1)

-- from nothing, and turned round twice
pub all_came : {A X : Type 0} (f : A → X) (home home' : List X) (devices turned : List A) → home ≡ [] → turned ≡ reverse devices → home' ≡ home ++ map f (reverse turned) → home' ≡ map f devices
all_came f home home' devices turned none turns came = came ∙ ap (λ l. l ++ map f (reverse turned)) none ∙ ap (map f) (ap reverse turns ∙ reverse-reverse devices)
