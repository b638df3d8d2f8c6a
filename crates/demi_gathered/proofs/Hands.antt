-- What each worker of a session had at its end, from what it was at last.
use Rattle.std.proofs.Common.{◌≡◌, ◌∙◌, ◌⊎◌, ℕ, zero, suc, ◌+◌, ◌<◌, List, [], ◌∷◌, Some, length, map, refl, arith, ap, sym, subst, inl, inr}
use Rattle.std.specs.Prelude.{slice_get}
use Rattle.std.specs.List.{AllByRecursion}
use Rattle.demi_port_core.specs.History.{Among}
use Rattle.demi_served.specs.Ends.{StorePass}
use Rattle.demi_served.specs.Keeps.{Draw}
use Rattle.demi_served.specs.Served.{Placed}
use Rattle.demi_link.specs.Sights.{side_of}
use Rattle.demi_closed.specs.Closed.{Added}
use Rattle.demi_closed.specs.ManyLinks.{IsForLinkOf, IsWorkerOf, LinkEnd, WorkerEnd}
use Rattle.demi_closed.specs.OnlyLink.{store_stop}
use Rattle.demi_context.specs.ContextPorts.{Caller, Whole}
use Rattle.demi_crew.specs.Serving.{ServedLinks}
use Rattle.demi_gathered.specs.Gathered.{IsMember, IsShared, Member}
use Rattle.demi_gathered.proofs.Places.{all_among, among_all, among_or_not, placed_at, zero_more}

-- the worker's end, where it served its links
abbrev pub end_of : (demi : Whole) (n : ℕ) (m : Member) → ServedLinks demi n m.numbers m.before m.ended → WorkerEnd
end_of demi n m s = record { base = demi.service.key.base; store = side_of s.context.caller.service; draws = s.context.ledger.draws; pass = m.after.service }

-- it is this worker's end
pub record IsHand (demi : Whole) (n : ℕ) (m : Member) (w : WorkerEnd) : Type 0 where
  pub member : IsMember demi n m
  pub is : w ≡ end_of demi n m member.served

abbrev pub AreHands : Whole → ℕ → List Member → List WorkerEnd → Type 0
AreHands demi i [] [] = Unit {0}
AreHands demi i [] (w ∷ ws) = ⊥
AreHands demi i (m ∷ ms) [] = ⊥
AreHands demi i (m ∷ ms) (w ∷ ws) = IsHand demi i m w × AreHands demi (i + 1) ms ws

pub muster : (demi : Whole) (i : ℕ) (crew : List Member) → Placed (IsMember demi) i crew → (ws : List WorkerEnd) × AreHands demi i crew ws
muster demi i [] h = ([], tt)
muster demi i (m ∷ crew) h = let r = muster demi (i + 1) crew h.1 in (end_of demi i m h.0.served ∷ r.0, (record { member = h.0; is = refl }, r.1))

-- the worker of a number, by its place
pub member_at : (demi : Whole) (crew : List Member) → Placed (IsMember demi) 0 crew → (j : ℕ) (m : Member) → slice_get crew j ≡ Some m → IsMember demi j m
member_at demi crew h j m at = subst (λ (k : ℕ). IsMember demi k m) (zero_more j) (placed_at (IsMember demi) 0 crew j m h at)

some_is : {A : Type 0} {a b : A} → Some a ≡ Some b → a ≡ b
some_is e = cc

pub hand_at : (demi : Whole) (i : ℕ) (crew : List Member) (ws : List WorkerEnd) → AreHands demi i crew ws → (j : ℕ) (m : Member) → slice_get crew j ≡ Some m
    → (w : WorkerEnd) × (slice_get ws j ≡ Some w) × IsHand demi (i + j) m w
hand_at demi i [] ws h j m at = absurd (cc)
hand_at demi i (o ∷ crew) [] h j m at = absurd h
hand_at demi i (o ∷ crew) (w ∷ ws) h zero m at = let n : i ≡ i + 0 = omega arith in (w, refl, subst (λ (k : ℕ). IsHand demi k m w) n (subst (λ (z : Member). IsHand demi i z w) (some_is at) h.0))
hand_at demi i (o ∷ crew) (w ∷ ws) h (suc j) m at =
    let r = hand_at demi (i + 1) crew ws h.1 j m at in
    let n : i + 1 + j ≡ i + suc j = omega arith in
    (r.0, r.1, subst (λ (k : ℕ). IsHand demi k m r.0) n r.2)

pub hands_many : (demi : Whole) (i : ℕ) (crew : List Member) (ws : List WorkerEnd) → AreHands demi i crew ws → length ws ≡ length crew
hands_many demi i [] [] h = refl
hands_many demi i [] (w ∷ ws) h = absurd h
hands_many demi i (m ∷ ms) [] h = absurd h
hands_many demi i (m ∷ ms) (w ∷ ws) h = ap suc (hands_many demi (i + 1) ms ws h.1)

pub same_passes : (demi : Whole) (i : ℕ) (crew : List Member) (ws : List WorkerEnd) → AreHands demi i crew ws → map (λ (m : Member). m.after.service) crew ≡ map (λ (w : WorkerEnd). w.pass) ws
same_passes demi i [] [] h = refl
same_passes demi i [] (w ∷ ws) h = absurd h
same_passes demi i (m ∷ ms) [] h = absurd h
same_passes demi i (m ∷ ms) (w ∷ ws) h =
    ap (λ (p : StorePass). p ∷ map (λ (o : Member). o.after.service) ms) (sym (ap (λ (z : WorkerEnd). z.pass) h.0.is))
    ∙ ap (λ (l : List StorePass). w.pass ∷ l) (same_passes demi (i + 1) ms ws h.1)

-- The links' ends: that of each link, and its worker, who took it up.
abbrev pub AreWhose : ℕ → List Member → ℕ → List LinkEnd → Type 0
AreWhose many crew i ends = (j : ℕ) → j < many → (e : LinkEnd) × (slice_get ends j ≡ Some e) × ((o : Member) × (slice_get crew e.worker ≡ Some o) × Among (i + j) o.numbers)

module _ (demi : Whole) (many : ℕ) (crew : List Member) (shared : IsShared many crew) (ends : List LinkEnd) (whose : AreWhose many crew 0 ends) where
  module _ (n : ℕ) (m : Member) (there : slice_get crew n ≡ Some m) (member : IsMember demi n m) where
    -- each number was drawn for a link that it took up
    took : (x : Draw) → Among x member.served.context.ledger.draws → Among x.link m.numbers
    took x here = go (among_or_not x.link m.numbers)
      where
        go : Among x.link m.numbers ⊎ (Among x.link m.numbers → ⊥) → Among x.link m.numbers
        go (inl a) = a
        go (inr none) = absurd (among_all (λ (d : Draw). d.link ≡ x.link → ⊥) member.served.context.ledger.draws x (member.served.others x.link none).fresh.draws here refl)

    for_own : (x : Draw) → Among x.link m.numbers → IsForLinkOf ends n x
    for_own x a =
        let k = whose x.link (shared.below x.link n m there a) in
        (k.0, k.1, shared.one x.link k.0.worker n k.2.0 m k.2.1 there (subst (λ (l : ℕ). Among l k.2.0.numbers) (zero_more x.link) k.2.2) a)

    own : AllByRecursion (IsForLinkOf ends n) member.served.context.ledger.draws
    own = all_among (IsForLinkOf ends n) member.served.context.ledger.draws (λ x here. for_own x (took x here))

    left : (side_of m.after.service ≡ side_of member.served.context.caller.service) ⊎ Added store_stop (side_of member.served.context.caller.service) m.after.service
    left = subst (λ (c : Caller). (side_of m.after.service ≡ side_of c.service) ⊎ Added store_stop (side_of c.service) m.after.service) (sym member.served.caller_is) member.no_more.store

    is_worker : IsWorkerOf demi.service.key.base ends n (end_of demi n m member.served)
    is_worker = record { base = refl; number = member.owes.1.1.0; keeps = member.served.keeps; own = own; left = left }

  pub are_workers : (i : ℕ) (ms : List Member) (ws : List WorkerEnd) → AreHands demi i ms ws → ((j : ℕ) (m : Member) → slice_get ms j ≡ Some m → slice_get crew (i + j) ≡ Some m)
      → Placed (IsWorkerOf demi.service.key.base ends) i ws
  are_workers i [] [] h f = tt
  are_workers i [] (w ∷ ws) h f = absurd h
  are_workers i (m ∷ ms) [] h f = absurd h
  are_workers i (m ∷ ms) (w ∷ ws) h f =
      let z : i + 0 ≡ i = omega arith in
      let there : slice_get crew i ≡ Some m = subst (λ (k : ℕ). slice_get crew k ≡ Some m) z (f 0 m refl) in (
        subst (IsWorkerOf demi.service.key.base ends i) (sym h.0.is) (is_worker i m there h.0.member),
        are_workers (i + 1) ms ws h.1 (λ j o at. let n : i + suc j ≡ i + 1 + j = omega arith in subst (λ (k : ℕ). slice_get crew k ≡ Some o) n (f (suc j) o at)),
      )
