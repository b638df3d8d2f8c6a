-- What all the links of a session came to.
use Rattle.std.proofs.Common.{◌≡◌, ℕ, zero, suc, ◌+◌, ◌*◌, ◌<◌, List, [], ◌∷◌, Option, Some, length, map, refl, arith, subst}
use Rattle.std.specs.Prelude.{slice_get}
use Rattle.demi_port_core.specs.History.{Among}
use Rattle.demi_link.specs.Sights.{Sight}
use Rattle.demi_link.specs.Talks.{DeskValue}
use Rattle.demi_link.specs.declared.phase.Cause.{Cause}
use Rattle.demi_served.specs.Served.{Placed}
use Rattle.demi_served.specs.Talks.{LinkRun, Talk}
use Rattle.demi_streamq.specs.RxGoing.{RxValue}
use Rattle.demi_streamq.specs.TxGoing.{TxValue}
use Rattle.demi_closed.specs.LinkClosed.{LinkMoved, LinkResult, PortsClosed, WasServed, ports_of}
use Rattle.demi_closed.specs.ManyLinks.{AllResults, IsServedBy, LinkEnd, WorkerEnd}
use Rattle.demi_context.specs.ContextPorts.{Whole}
use Rattle.demi_crew.specs.Serving.{HasLinks}
use Rattle.demi_gathered.specs.Gathered.{AreGathered, IsMember, IsShared, IsShut, LinkShut, Member, ports_then}
use Rattle.demi_gathered.proofs.Hands.{AreHands, AreWhose, IsHand, hand_at}
use Rattle.demi_gathered.proofs.LinkComes.{LinkCame, comes}
use Rattle.demi_gathered.proofs.Places.{zero_more}

-- What links came to, with the numbers from this one on: their ends, what was read and written, and their talks.
pub record AllCame {I O : Type 0} (taken : I → ℕ) (left : I → Option (List ℕ)) (read_faults : I → ℕ) (reads : I → ℕ → Option (List ℕ) → I → Type 0) (written : O → Option (List ℕ)) (write_faults : O → ℕ)
    (there : ℕ) (crew : List Member) (workers : List WorkerEnd) (i : ℕ) (xs : List (LinkShut I O)) : Type 0 where
  pub ends : List LinkEnd
  pub runs : List LinkRun
  pub talks : List Talk
  pub gathered : AreGathered taken left read_faults reads written write_faults there crew i xs ends runs
  pub results : AllResults ends runs (map ports_then xs) talks
  pub by : Placed (IsServedBy there workers) i ends
  pub whose : AreWhose (length xs) crew i ends

module _ {I O : Type 0} (taken : I → ℕ) (left : I → Option (List ℕ)) (read_faults : I → ℕ) (reads : I → ℕ → Option (List ℕ) → I → Type 0) (written : O → Option (List ℕ)) (write_faults : O → ℕ)
    (demi : Whole) (crew : List Member) (many : ℕ) (has : HasLinks many demi) (shared : IsShared many crew) (members : (j : ℕ) (o : Member) → slice_get crew j ≡ Some o → IsMember demi j o)
    (workers : List WorkerEnd) (hands : AreHands demi 0 crew workers)
    (closes : (rx_old rx_new : RxValue I) (tx_old tx_new : TxValue O) (ports : ℕ) (s : Sight) (d : DeskValue) (c : Cause) → WasServed ports s d c → PortsClosed {I = I} {O = O} taken left read_faults reads written write_faults s rx_old rx_new tx_old tx_new
    → (l : LinkRun) × (t : Talk) × LinkMoved taken left read_faults written write_faults (rx_old.source, tx_old.sink) (rx_new.source, tx_new.sink) l × LinkResult c d l (ports_of rx_new tx_new) t) where
  abbrev Came : ℕ → LinkShut I O → Type 0
  Came k x = LinkCame taken left read_faults reads written write_faults (3 + 2 * many) crew workers k x

  abbrev AllHaveCome : ℕ → List (LinkShut I O) → Type 0
  AllHaveCome i xs = AllCame taken left read_faults reads written write_faults (3 + 2 * many) crew workers i xs

  one_comes : (k : ℕ) (x : LinkShut I O) → k < many → IsShut taken left read_faults reads written write_faults demi crew k x → Came k x
  one_comes k x low shut =
      let s = shared.some k low in
      let h = hand_at demi 0 crew workers hands s.0 s.1 s.2 in
      comes taken left read_faults reads written write_faults demi crew many has shared members workers k low x shut s.0 s.1 s.2 s.3 h.0 h.1 (subst (λ (j : ℕ). IsHand demi j s.1 h.0) (zero_more s.0) h.2)
      (closes x.rx_old x.rx_new x.tx_old x.tx_new)

  -- one more in front
  more : (i : ℕ) (x : LinkShut I O) (xs : List (LinkShut I O)) → Came i x → AllHaveCome (i + 1) xs → AllHaveCome i (x ∷ xs)
  more i x xs c r = record {
    ends = c.end ∷ r.ends;
    runs = c.run ∷ r.runs;
    talks = c.talk ∷ r.talks;
    gathered = (c.gathered, r.gathered);
    results = (c.result, r.results);
    by = (c.by, r.by);
    whose = whose;
  }
    where
      whose : AreWhose (suc (length xs)) crew i (c.end ∷ r.ends)
      whose zero low = let z : i ≡ i + 0 = omega arith in (c.end, refl, (c.whose.0, c.whose.1, subst (λ (n : ℕ). Among n c.whose.0.numbers) z c.whose.2))
      whose (suc j) low =
          let k = r.whose j (omega (arith, low)) in
          let z : i + 1 + j ≡ i + suc j = omega arith in
          (k.0, k.1, (k.2.0, k.2.1, subst (λ (n : ℕ). Among n k.2.0.numbers) z k.2.2))

  pub all_come : (i : ℕ) (xs : List (LinkShut I O)) → i + length xs ≡ many → Placed (IsShut taken left read_faults reads written write_faults demi crew) i xs → AllHaveCome i xs
  all_come i [] as_many h = record { ends = []; runs = []; talks = []; gathered = tt; results = tt; by = tt; whose = λ j low. absurd (omega (arith, low)) }
  all_come i (x ∷ xs) as_many h = more i x xs (one_comes i x (omega (arith, as_many)) h.0) (all_come (i + 1) xs (omega (arith, as_many)) h.1)
