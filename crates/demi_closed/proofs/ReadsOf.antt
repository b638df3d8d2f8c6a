-- The reads that the outcomes of a receiving port say.
use Rattle.std.proofs.Common.{◌≡◌, ℕ, ◌≤◌, Bool, true, false, List, [], ◌∷◌, ◌++◌, Some, None, Option, length, refl, arith, ◌∙◌, ap, subst, append-nil}
use Rattle.std.specs.Prelude.{unwrap_or}
use Rattle.std.proofs.lemmas.Grind.{flat_map-append}
use Rattle.demi_core.specs.Outside.{bytes_given}
use Rattle.demi_heap.specs.Seen.{PassValue}
use Rattle.demi_streamq.specs.RxGoing.{EndDid, RxDid, RxRun}
use Rattle.demi_streamq.specs.RxKept.{all_bytes, bytes_of, ended_after}
use Rattle.demi_streamq.specs.declared.rx_out.RxOut.{RxOut}
use Rattle.demi_streamq.specs.declared.rx_out.RxOut.TheVariants.{Piece, End, Fault, Broken, NoSlot, Stopped, Halted}
use Rattle.demi_closed.specs.Reading.{EachRead}

-- the read of an end, where one was told before or not
abbrev pub end_read : Bool → List (Option (List ℕ))
end_read true = []
end_read false = Some [] ∷ []

-- the read of an outcome, if any
abbrev pub read_of : Bool → RxOut → List (Option (List ℕ))
read_of ended (Piece v) = Some v.bytes ∷ []
read_of ended End = end_read ended
read_of ended (Fault k) = None ∷ []
read_of ended (Broken q) = []
read_of ended NoSlot = []
read_of ended (Stopped s) = []
read_of ended Halted = []

-- the reads of outcomes, in order
abbrev pub reads_of : Bool → List (ℕ × RxOut) → List (Option (List ℕ))
reads_of ended [] = []
reads_of ended (o ∷ os) = read_of ended o.1 ++ reads_of (ended_after ended o.1) os

-- they were made
module _ {S : Type 0} (faults : S → ℕ) (reads : S → ℕ → Option (List ℕ) → S → Type 0) where
  pub were_made : (ended : Bool) (s : S) (p : PassValue) (os : List (ℕ × RxOut)) (z : S) (q : PassValue) → RxRun faults reads ended s p os z q → EachRead reads s (reads_of ended os) z
  were_made ended s p [] z q r = r.0
  were_made ended s p (o ∷ os) z q r = go o.1 r.2 (were_made (ended_after ended o.1) r.0 r.1 os z q r.3)
    where
      still : (later : List (Option (List ℕ))) → r.0 ≡ s → EachRead reads r.0 later z → EachRead reads s later z
      still later same rest = subst (λ (m : S). EachRead reads m later z) same rest

      by_end : (e : Bool) → EndDid reads e s p r.0 r.1 → (later : List (Option (List ℕ))) → EachRead reads r.0 later z → EachRead reads s (end_read e ++ later) z
      by_end true did later rest = still later did.0 rest
      by_end false did later rest = (r.0, did.0.0, did.0.1, rest)

      go : (x : RxOut) → RxDid faults reads ended s p x r.0 r.1 → EachRead reads r.0 (reads_of (ended_after ended x) os) z → EachRead reads s (read_of ended x ++ reads_of (ended_after ended x) os) z
      go (Piece v) did rest = (r.0, did.0.0, did.0.1, rest)
      go End did rest = by_end ended did (reads_of true os) rest
      go (Fault k) did rest = (r.0, did.0.0, did.0.1, rest)
      go (Broken q) did rest = still (reads_of ended os) did.0 rest
      go NoSlot did rest = still (reads_of ended os) did.0 rest
      go (Stopped q) did rest = still (reads_of ended os) did.0 rest
      go Halted did rest = still (reads_of ended os) did.0 rest

one_gave : (ended : Bool) (o : RxOut) → bytes_given (read_of ended o) ≡ bytes_of o
one_gave ended (Piece v) = append-nil v.bytes
one_gave true End = refl
one_gave false End = refl
one_gave ended (Fault k) = refl
one_gave ended (Broken q) = refl
one_gave ended NoSlot = refl
one_gave ended (Stopped s) = refl
one_gave ended Halted = refl

-- they gave the bytes of the outcomes
pub all_gave : (ended : Bool) (os : List (ℕ × RxOut)) → bytes_given (reads_of ended os) ≡ all_bytes os
all_gave ended [] = refl
all_gave ended (o ∷ os) =
    flat_map-append (λ (g : Option (List ℕ)). unwrap_or g []) (read_of ended o.1) (reads_of (ended_after ended o.1) os)
    ∙ ap (λ (l : List ℕ). bytes_given (read_of ended o.1) ++ l) (all_gave (ended_after ended o.1) os)
    ∙ ap (λ (l : List ℕ). l ++ all_bytes os) (one_gave ended o.1)

-- an outcome is of one read at most
pub few : (ended : Bool) (o : RxOut) → length (read_of ended o) ≤ 1
few ended (Piece v) = omega arith
few true End = omega arith
few false End = omega arith
few ended (Fault k) = omega arith
few ended (Broken q) = omega arith
few ended NoSlot = omega arith
few ended (Stopped s) = omega arith
few ended Halted = omega arith
