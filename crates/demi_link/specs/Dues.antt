-- When a link pops.
use Rattle.std.specs.Prelude.{◌≡◌, ℕ, ◌≤◌, false, List, ◌∷◌, ◌++◌, length, take}
use Rattle.std.specs.List.{AllByRecursion}
use Rattle.demi_spec.specs.Request.{Request}
use Rattle.demi_spec.specs.Input.{Open, Parses}
use Rattle.demi_streamq.specs.RxKept.{all_bytes}
use Rattle.demi_streamq.specs.declared.rx_out.RxOut.{RxOut}
use Rattle.demi_streamq.specs.declared.rx_out.RxOut.TheVariants.{Piece, NoSlot}
use Rattle.demi_link.specs.Talks.{TalkValue}

-- the input goes on behind this outcome: it is a piece, or no page was free for one
abbrev pub IsMore : RxOut → Type 0
IsMore (Piece v) = Unit {0}
IsMore NoSlot = Unit {0}
IsMore other = ⊥

-- the input goes on behind each of these
abbrev pub AllMore : List (ℕ × RxOut) → Type 0
AllMore outs = AllByRecursion (λ x. IsMore x.1) outs

-- A pop is due behind these outcomes: the input goes on behind each, and their bytes are some of the first requests that were
-- handed out and no whole one more; and at least as many pushes of replies are known written.
pub record IsDue (handed : List Request) (written : List ℕ) (outs : List (ℕ × RxOut)) : Type 0 where
  pub more : AllMore outs
  pub count : ℕ
  pub within : count ≤ length handed
  pub answered : count ≤ length written
  pub asks : Parses (take count handed) Open false (all_bytes outs)

-- each pop was due behind the outcomes of those before it
abbrev pub AllDue : TalkValue → Type 0
AllDue k = (before after : List (ℕ × RxOut)) (x : ℕ × RxOut) → k.outs ≡ before ++ x ∷ after → IsDue k.handed k.written before
