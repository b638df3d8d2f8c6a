-- What is so of a port with one pass, and of lists of one.
use Rattle.std.proofs.Common.{◌≡◌, ℕ, ◌<◌, List, [], ◌∷◌, length, map, get_or, refl, arith, ◌∙◌, ap, sym, subst, inl}
use Rattle.demi_heap.specs.Seen.{HeapId}
use Rattle.demi_link.specs.Sights.{Side, side_of}
use Rattle.demi_pdpix.specs.Closing.{AreEndsOf}
use Rattle.demi_pdpix.specs.Lanes.{IsEndOf}
use Rattle.demi_pdpix.specs.Seen.{AreNewPairs, IsNewPair, Pair}
use Rattle.demi_port.specs.Seen.{DeviceValue, EndValue, PassValue, PortId}
use Rattle.demi_port_core.specs.Trails.{Behind}
use Rattle.demi_worker.specs.Stopping.{Stops}
use Rattle.demi_closed.specs.Closed.{Added, OnlyBy}

-- the one of a list of one
pub only : {A : Type 0} (xs : List A) → length xs ≡ 1 → (x : A) × (xs ≡ x ∷ [])
only [] e = absurd (omega (arith, e))
only (x ∷ []) e = (x, refl)
only (x ∷ y ∷ xs) e = absurd (omega (arith, e))

-- it stands at the place 0
pub at_first : {A : Type 0} (xs : List A) (x d : A) → xs ≡ x ∷ [] → get_or xs 0 d ≡ x
at_first xs x d e = ap (λ l. get_or l 0 d) e

pub first_of : {A : Type 0} (xs : List A) → length xs ≡ 1 → 0 < length xs
first_of xs e = omega (arith, e)

pub mapped : {A B : Type 0} (f : A → B) (xs : List A) → length (map f xs) ≡ length xs
mapped f [] = refl
mapped f (x ∷ xs) = let e = mapped f xs in omega (arith, e)

-- a pass that stopped its port, seen once it had
pub added_by : {D T O B : Type 0} (admits : O → List D → List (ℕ × T) → ℕ → Type 0) (stop : D) (a b : Side D T) (p : PassValue D T B) → Stops admits stop a b → side_of p ≡ b → Added stop a p
added_by {D} {T} admits stop a b p s is = record {
  place = s.place;
  token = s.token;
  submitted = ap (λ (z : Side D T). z.submitted) (is ∙ s.redeems.side) ∙ ap (λ (z : Side D T). z.submitted) s.submits.side;
  grows =
      let had : Behind b.known a.known = subst (λ (z : Side D T). Behind b.known z.known) s.submits.side s.redeems.grows in
      subst (λ (z : Side D T). Behind z.known a.known) (sym is) had;
}

-- the only pass of a port
pub only_pass : {D T B : Type 0} (seat : DeviceValue D T B) (p : PassValue D T B) (n : ℕ) → seat.passes ≡ 1 → p.number ≡ 0 → n ≡ 0 → OnlyBy n seat (p ∷ [])
only_pass seat p n one number zero = record {
  all = λ m low. inl (omega (arith, low, one, number));
  others = ((λ differs. absurd (differs (number ∙ sym zero))), tt);
}

-- the end of the only port
pub only_end : {A D T B : Type 0} (f : ℕ → PassValue D T B → A → PassValue D T B) (c : A) (ports : List (PortId B)) (seats : List (Pair D T B)) (ends : List (EndValue D T B))
    (x : PortId B) (s : Pair D T B) (e : EndValue D T B) (p : PassValue D T B) → AreEndsOf f (c ∷ []) ports seats ends → length ports ≡ 1 → ports ≡ x ∷ [] → seats ≡ s ∷ [] → ends ≡ e ∷ [] → f 0 p c ≡ p → IsEndOf x s.0 (p ∷ []) e
only_end {A} {D} {T} {B} f c ports seats ends x s e p are one x_is s_is e_is p_is =
    let all : IsEndOf (get_or ports 0 x) (get_or seats 0 s).0 (f 0 p c ∷ []) (get_or ends 0 e) = are.each 0 p x s e (first_of ports one) in
    let by_port : IsEndOf x (get_or seats 0 s).0 (f 0 p c ∷ []) (get_or ends 0 e) = subst (λ (y : PortId B). IsEndOf y (get_or seats 0 s).0 (f 0 p c ∷ []) (get_or ends 0 e)) (at_first ports x x x_is) all in
    let by_seat : IsEndOf x s.0 (f 0 p c ∷ []) (get_or ends 0 e) = subst (λ (y : Pair D T B). IsEndOf x y.0 (f 0 p c ∷ []) (get_or ends 0 e)) (at_first seats s s s_is) by_port in
    let by_pass : IsEndOf x s.0 (p ∷ []) (get_or ends 0 e) = subst (λ (y : PassValue D T B). IsEndOf x s.0 (y ∷ []) (get_or ends 0 e)) p_is by_seat in
    subst (λ (y : EndValue D T B). IsEndOf x s.0 (p ∷ []) y) (at_first ends e e e_is) by_pass

-- the only seat, as it was made
pub only_new : {D T B : Type 0} (heap : HeapId) (n : ℕ) (ports : List (PortId B)) (seats : List (Pair D T B)) (x : PortId B) (s : Pair D T B) → AreNewPairs heap n ports seats → ports ≡ x ∷ [] → seats ≡ s ∷ [] → IsNewPair heap n x s
only_new {D} {T} {B} heap n ports seats x s are x_is s_is =
    let both : AreNewPairs heap n (x ∷ []) (s ∷ []) = subst (λ (ss : List (Pair D T B)). AreNewPairs heap n (x ∷ []) ss) s_is (subst (λ (xs : List (PortId B)). AreNewPairs heap n xs seats) x_is are) in
    both.0
