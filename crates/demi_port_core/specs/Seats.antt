-- The rule of the seats: what each knows of the history and the tokens, and what it owes.
use Rattle.std.specs.Prelude.{◌≡◌, ◌≢◌, ℕ, suc, ◌+◌, ◌<◌, ◌≤◌, ◌⊎◌, List, [], length, Option, Some, None, slice_index_or}
use Rattle.std.specs.Int.{bit_at}
use mathlib.Core.Option.{some}
use lib.ListN.{get_elem?}
use Rattle.demi_port_core.specs.declared.view.Role.{Role}
use Rattle.demi_port_core.specs.declared.view.Role.TheVariants.{Pass, Device, Note, Spent}
use Rattle.demi_port_core.specs.declared.view.Stage.{Stage}
use Rattle.demi_port_core.specs.declared.view.Stage.TheVariants.{Idle, Held, Drawn, Opened, Redeeming}
use Rattle.demi_port_core.specs.declared.view.View.{View}
use Rattle.demi_port_core.specs.History.{of_pass, total, times, Each, Apart}
use Rattle.demi_port_core.specs.Phases.{held, drawn, opened, answering, done, redeeming, Cell, redeem_count, fetch_count, finish_count, got, keeper, token_of}
use Rattle.demi_port_core.specs.Entries.{IsFetched, Before, IsReaped, IsFinished}
use Rattle.demi_port_core.specs.Words.{wakers_word}

-- at the time the word had the value
abbrev pub IsTrueLook : List (List ℕ) → ℕ × (ℕ × ℕ) → Type 0
IsTrueLook past x = (words : List ℕ) × (get_elem? past x.0 ≡ some words) × (slice_index_or words x.1.0 0 ≡ x.1.1)

-- the token's operation was fetched, and its outcome is to come
abbrev pub IsPending : List Cell → ℕ × (ℕ × ℕ) → Type 0
IsPending cells x = get_elem? cells x.0 ≡ some (x.1.0, answering x.1.1)

-- all that the pass submitted
abbrev pub IsWhole : {D : Type 0} → (ℕ → ℕ) → ℕ → List (ℕ × (ℕ × D)) → ℕ × List (ℕ × (ℕ × D)) → Type 0
IsWhole owner made log g = (owner g.0 ≡ 0) × (g.0 < made) × (g.1 ≡ of_pass g.0 0 log)

-- the device's part: the first seat has taken exactly the bits of the tokens that are taken, and has fetched and finished what their cells count, no place twice
pub record DeviceOk {D : Type 0} (owner : ℕ → ℕ) (made : ℕ) (log : List (ℕ × (ℕ × D))) (cells : List Cell) (j number rang : ℕ) (fetched : List (ℕ × (ℕ × D))) (finished : List (ℕ × ℕ)) (pending : List (ℕ × (ℕ × ℕ))) (gathered : List (ℕ × List (ℕ × (ℕ × D)))) : Type 0 where
  pub first : j ≡ 0
  pub next : number ≡ made
  pub bits : (i : ℕ) (c : Cell) → get_elem? cells i ≡ some c → bit_at rang i ≡ got c.1
  pub pends : Each (IsPending cells) pending
  pub lifted : Each (λ (x : ℕ × (ℕ × D)). Before fetch_count cells x.1.0) fetched
  pub all_fetched : total fetch_count cells ≡ length fetched
  pub ended : Each (IsFinished log cells) finished
  pub all_finished : total finish_count cells ≡ length finished
  pub once : Apart finished
  pub apart : Apart pending
  pub whole : Each (IsWhole owner made log) gathered

-- how many operations the seat and the passes that it took in submitted
abbrev pub submitted : {D K : Type 0} → View D K → ℕ
submitted v = length v.mine + total (λ g. length g.1) v.gathered

module _ {D K : Type 0} (owner : ℕ → ℕ) (made : ℕ) (log : List (ℕ × (ℕ × D))) (cells : List Cell) (j : ℕ) (v : View D K) where
  -- it holds nothing and has counted nothing
  abbrev pub IsBare : Type 0
  IsBare = (v.stage ≡ Idle) × (submitted v ≡ 0) × (length v.redeemed ≡ 0)

  -- what the history and the tokens have of the seat in its role
  abbrev pub IsIn : Role → Type 0
  IsIn Pass = (owner v.number ≡ j) × (v.number < made) × (v.mine ≡ of_pass v.number 0 log) × (v.gathered ≡ [])
  IsIn Device = DeviceOk owner made log cells j v.number v.rang v.fetched v.finished v.pending v.gathered
  IsIn Note = IsBare
  IsIn Spent = IsBare

  -- what the seat knows of the token that it is at
  abbrev pub Knows : Stage → Type 0
  Knows Idle = Unit {0}
  Knows Held = (v.role ≡ Pass) × (get_elem? cells v.index ≡ some (v.round, held j))
  Knows Drawn = (v.role ≡ Pass) × (get_elem? cells v.index ≡ some (v.round, drawn j v.place)) × ((d : D) × (v.said ≡ Some d) × (get_elem? log v.place ≡ some (v.number, (token_of v.round v.index, d))))
  Knows Opened = (j ≡ 0) × (get_elem? cells v.index ≡ some (v.round, opened v.place))
  Knows Redeeming = (v.role ≡ Pass) × (get_elem? cells v.index ≡ some (v.round, redeeming j v.place))

-- what a seat knows is so
pub record SeatOk {D K : Type 0} (key : K) (past : List (List ℕ)) (owner : ℕ → ℕ) (made : ℕ) (log : List (ℕ × (ℕ × D))) (cells : List Cell) (j : ℕ) (v : View D K) : Type 0 where
  pub keyed : v.role ≢ Spent → v.key ≡ Some key
  pub sees : v.seen ≤ length log
  pub timed : v.clock ≤ length past
  pub looked : (q : ℕ) (x : ℕ × (ℕ × ℕ)) → get_elem? v.looks q ≡ some x → IsTrueLook past x
  pub fetched : Each (IsFetched log) v.fetched
  pub redeemed : Each (IsReaped log cells) v.redeemed
  pub is_in : IsIn owner made log cells j v v.role
  pub knows : Knows owner made log cells j v v.stage

-- the seat j is in a call that has the token i
abbrev pub IsBusy : {D K : Type 0} → List (View D K) → ℕ → ℕ → Type 0
IsBusy {D} {K} views i j = (v : View D K) × (get_elem? views j ≡ some v) × (v.index ≡ i) × (v.stage ≢ Idle)

-- the token's waker bit is set, or a seat owes it a wake or a look
abbrev pub Woken : {D K : Type 0} → List ℕ → List (View D K) → ℕ → Type 0
Woken {D} {K} words views i = (bit_at (slice_index_or words wakers_word 0) i ≡ 1) ⊎ ((j : ℕ) × (v : View D K) × (get_elem? views j ≡ some v) × (bit_at v.owes i ≡ 1))

-- each seat knows what is so, a token that a pass holds is at that pass's call, each token that is done is woken, the sums are those of the history and the tokens, and no token was redeemed twice
pub record SeatsOk {D K : Type 0} (key : K) (past : List (List ℕ)) (owner : ℕ → ℕ) (made : ℕ) (log : List (ℕ × (ℕ × D))) (words : List ℕ) (cells : List Cell) (views : List (View D K)) : Type 0 where
  pub each_seat : (j : ℕ) (v : View D K) → get_elem? views j ≡ some v → SeatOk key past owner made log cells j v
  pub busy : (i : ℕ) (c : Cell) (j : ℕ) → get_elem? cells i ≡ some c → keeper c.1 ≡ suc j → IsBusy views i j
  pub woken : (i r p : ℕ) → get_elem? cells i ≡ some (r, done p) → Woken words views i
  pub all_submitted : total submitted views ≡ length log
  pub all_redeemed : total (λ v. length v.redeemed) views ≡ total redeem_count cells
  pub once : (t : ℕ) → total (λ v. times t v.redeemed) views ≤ 1

-- a seat that has done nothing
abbrev pub bare_view : {D K : Type 0} → Role → Option K → View D K
bare_view ro k = record { role = ro; stage = Idle; number = 0; index = 0; round = 0; place = 0; said = None; seen = 0; mine = []; redeemed = []; clock = 0; looks = []; notes = 0; learnt = 0; owes = 0; rang = 0; fetched = []; finished = []; pending = []; gathered = []; history = []; key = k }

-- the first seat, which makes the passes and is the device's
abbrev pub first_view : {D K : Type 0} → K → View D K
first_view k = bare_view Device (Some k)
