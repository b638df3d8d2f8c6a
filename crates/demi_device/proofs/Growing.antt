-- Nothing is taken back over a take, a serve, or several of them.
use Rattle.std.proofs.Common.{◌≡◌, ℕ, ◌≤◌, List, [], ◌∷◌, sym, ap, ◌∙◌, refl, arith, append-nil}
use Rattle.demi_port.specs.Seen.{DeviceValue}
use Rattle.demi_port_core.specs.Trails.{StartsWith}
use Rattle.demi_port.proofs.Devices.{starts_more}
use Rattle.demi_device.specs.Holding.{TookIn}
use Rattle.demi_device.specs.Turning.{Grows, LastFound, LookedLast}
use Rattle.demi_port_core.specs.Words.{bells_word}

pub starts_same : {A : Type 0} (xs ys : List A) → xs ≡ ys → StartsWith xs ys
starts_same xs ys e = ([], e ∙ sym (append-nil ys))

module _ {D T U B : Type 0} where
  -- nothing but what was finished and told has changed
  pub grows_served : (f f' : List (ℕ × U)) (v w : DeviceValue D T B) → w ≡ record v { finished = w.finished; trail = w.trail; owes = w.owes } → StartsWith f' f → StartsWith w.finished v.finished → StartsWith w.trail v.trail → Grows f f' v w
  grows_served f f' v w e outcomes finished trail = record {
    clock = let k = ap (λ z. z.clock) e in omega arith;
    looks = starts_same w.looks v.looks (ap (λ z. z.looks) e);
    fetched = starts_same w.fetched v.fetched (ap (λ z. z.fetched) e);
    outcomes = outcomes;
    finished = finished;
    trail = trail;
  }

  pub grows_self : (f : List (ℕ × U)) (v : DeviceValue D T B) → Grows f f v v
  grows_self f v = grows_served f f v v refl (starts_same f f refl) (starts_same v.finished v.finished refl) (starts_same v.trail v.trail refl)

  pub grows_took : (f : List (ℕ × U)) (v w : DeviceValue D T B) → TookIn v w → Grows f f v w
  grows_took f v w took = let e = took.4 in record {
    clock = let k = ap (λ z. z.clock) e in let le = took.3 in omega arith;
    looks = (((took.0, (bells_word, took.1)) ∷ []), ap (λ z. z.looks) e);
    fetched = (took.2, ap (λ z. z.fetched) e);
    outcomes = starts_same f f refl;
    finished = starts_same w.finished v.finished (ap (λ z. z.finished) e);
    trail = starts_same w.trail v.trail (ap (λ z. z.trail) e);
  }

  pub grows_on : (f f' f'' : List (ℕ × U)) (u v w : DeviceValue D T B) → Grows f f' u v → Grows f' f'' v w → Grows f f'' u w
  grows_on f f' f'' u v w a b = record {
    clock = let x = a.clock in let y = b.clock in omega arith;
    looks = starts_more _ _ _ b.looks a.looks;
    fetched = starts_more _ _ _ b.fetched a.fetched;
    outcomes = starts_more _ _ _ b.outcomes a.outcomes;
    finished = starts_more _ _ _ b.finished a.finished;
    trail = starts_more _ _ _ b.trail a.trail;
  }

module _ {D T B : Type 0} where
  -- a look that came after a later start came after an earlier one
  pub found_since : (u v w : DeviceValue D T B) (F : ℕ → Type 0) → u.clock ≤ v.clock → LastFound v w F → LastFound u w F
  found_since u v w F le l = let k = l.3 in (l.0, l.1, l.2, omega arith, l.4, l.5)

  pub took_looked : (v w : DeviceValue D T B) → TookIn v w → LookedLast v w
  took_looked v w took = (v.looks, took.0, took.1, took.3, ap (λ z. z.looks) took.4, tt)

  -- it stays the last look where no other came
  pub looked_still : (u v w : DeviceValue D T B) (F : ℕ → Type 0) → w.looks ≡ v.looks → LastFound u v F → LastFound u w F
  looked_still u v w F e l = (l.0, l.1, l.2, l.3, e ∙ l.4, l.5)
