-- Outcomes with their places.
use Rattle.std.proofs.Common.{◌≡◌, ◌≢◌, ℕ, ◌+◌, max, List, [], ◌∷◌, ◌++◌, sym, ap, ◌∙◌, refl, append_assoc}
use Rattle.std.specs.Prelude.{Option}
use Rattle.demi_port.specs.Seen.{DeviceValue, above_all}
use Rattle.demi_port_core.specs.History.{Each}
use Rattle.demi_port_core.specs.Trails.{told_at}
use Rattle.demi_device.specs.Serving.{above, places, trail}

pub above_places : (l : List (ℕ × ℕ)) → above (places l) ≡ above_all l
above_places [] = refl
above_places (x ∷ xs) = λ i. max (x.0 + 1) (above_places xs i)

module _ {A : Type 0} where
  pub each_place : (p : ℕ) (l : List (ℕ × A)) → Each (λ (q : ℕ). q ≢ p) (places l) → Each (λ (x : ℕ × A). x.0 ≢ p) l
  each_place p [] h = tt
  each_place p (x ∷ xs) h = (h.0, each_place p xs h.1)

  pub places_append : (a b : List (ℕ × A)) → places (a ++ b) ≡ places a ++ places b
  places_append [] b = refl
  places_append (x ∷ a) b = λ i. x.0 ∷ places_append a b i

module _ {T U : Type 0} (told : U → Option T) where
  pub trail_append : (a b : List (ℕ × U)) → trail told (a ++ b) ≡ trail told a ++ trail told b
  trail_append [] b = refl
  trail_append (o ∷ a) b = ap (λ l. told_at o.0 (told o.1) ++ l) (trail_append a b) ∙ sym (append_assoc (told_at o.0 (told o.1)) (trail told a) (trail told b))

-- one more operation was finished
pub finished_more : {D T B : Type 0} (s l new : DeviceValue D T B) (x : ℕ × ℕ) (before more : List (ℕ × T)) → l ≡ record s { finished = l.finished; trail = s.trail ++ before; owes = l.owes } → new ≡ record l { finished = l.finished ++ x ∷ []; trail = l.trail ++ more; owes = new.owes }
    → new ≡ record s { finished = new.finished; trail = s.trail ++ (before ++ more); owes = new.owes }
finished_more s l new x before more v e = λ q. record {
  port = (ap (λ z. z.port) e ∙ ap (λ z. z.port) v) q;
  passes = (ap (λ z. z.passes) e ∙ ap (λ z. z.passes) v) q;
  clock = (ap (λ z. z.clock) e ∙ ap (λ z. z.clock) v) q;
  looks = (ap (λ z. z.looks) e ∙ ap (λ z. z.looks) v) q;
  rang = (ap (λ z. z.rang) e ∙ ap (λ z. z.rang) v) q;
  fetched = (ap (λ z. z.fetched) e ∙ ap (λ z. z.fetched) v) q;
  finished = new.finished;
  trail = (ap (λ z. z.trail) e ∙ ap (λ z. z.trail ++ more) v ∙ append_assoc s.trail before more) q;
  owes = new.owes;
}
