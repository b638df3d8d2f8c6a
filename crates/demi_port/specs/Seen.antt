-- What contracts see of a port, a pass, the device's seat, a note and a port's end.
use Rattle.std.specs.Prelude.{◌≡◌, ◌≢◌, ℕ, ◌+◌, ◌%◌, ◌/◌, ◌<◌, ◌≤◌, ◌⊎◌, List, [], ◌∷◌, ◌++◌, Some, map, max, cond, ◌==◌, true, false}
use Rattle.std.specs.Int.{bit_at}
use Rattle.atomic_table.specs.Seated.{TableId}
use Rattle.atomic_table.specs.Table.{Me}
use Rattle.demi_port_core.specs.declared.view.Role.TheVariants.{Pass, Device}
use Rattle.demi_port_core.specs.declared.view.Stage.TheVariants.{Idle}
use Rattle.demi_port_core.specs.declared.view.View.{View}
use Rattle.demi_port_core.specs.declared.trail.Trail.{Trail}
use Rattle.demi_port_core.specs.History.{Apart, Each, Among, ground_of}
use Rattle.demi_port_core.specs.Phases.{token_of, last_round}
use Rattle.demi_port_core.specs.Seats.{submitted, bare_view}
use Rattle.demi_port_core.specs.Told.{OwesNothing, clear}
use mathlib.Core.Option.{some}
use lib.ListN.{get_elem?}
use Rattle.demi_port_core.specs.Trails.{Behind, StartsWith}
use Rattle.demi_port.specs.declared.key.Key.{Key}
use Rattle.demi_port_core.specs.Words.{token_word}

-- which port: its token table, and its base with its record table
pub record PortId (B : Type 0) : Type 0 where
  pub tokens : TableId
  pub key : Key B

-- A pass: which port's, its number, the least place that it has not seen, each operation that it submitted with its place and token, each that it redeemed with its place and token,
-- the notes that it made and learnt, its looks, each a time, a word and what was found there, with a time after all of them, the tokens of which it owes a look, and the longest ground and trail that it was handed, with its floor
pub record PassValue (D T B : Type 0) : Type 0 where
  pub port : PortId B
  pub number : ℕ
  pub seen : ℕ
  pub submitted : List (ℕ × (ℕ × D))
  pub redeemed : List (ℕ × ℕ)
  pub notes : ℕ
  pub learnt : ℕ
  pub clock : ℕ
  pub looks : List (ℕ × (ℕ × ℕ))
  pub owes : ℕ
  pub heard : List D
  pub trail : List (ℕ × T)
  pub floor : ℕ

-- The device's seat: which port's, how many passes the port has, its looks with a time after all of them, the doorbell bits that it took and did not fetch,
-- each operation that it fetched with its place and token, each that it finished with its place and token, what the outcomes told, and the tokens of which it owes a wake
pub record DeviceValue (D T B : Type 0) : Type 0 where
  pub port : PortId B
  pub passes : ℕ
  pub clock : ℕ
  pub looks : List (ℕ × (ℕ × ℕ))
  pub rang : ℕ
  pub fetched : List (ℕ × (ℕ × D))
  pub finished : List (ℕ × ℕ)
  pub trail : List (ℕ × T)
  pub owes : ℕ

-- A note: which port's, and the least place that its maker had not seen
pub record NoteValue (B : Type 0) : Type 0 where
  pub port : PortId B
  pub seen : ℕ

-- A port's end: the base, each entry's pass, token and operation by place, and the device's ground and trail
pub record EndValue (D T B : Type 0) : Type 0 where
  pub base : B
  pub history : List (ℕ × (ℕ × D))
  pub heard : List D
  pub trail : List (ℕ × T)
  pub floor : ℕ

abbrev pub pass_value : {D T B : Type 0} → TableId → Key B → View D (Key B) → Trail D T → PassValue D T B
pass_value z k v t = record { port = record { tokens = z; key = k }; number = v.number; seen = v.seen; submitted = v.mine; redeemed = v.redeemed; notes = v.notes; learnt = v.learnt; clock = v.clock; looks = v.looks; owes = v.owes; heard = t.heard; trail = t.told; floor = t.floor }

abbrev pub device_value : {D T B : Type 0} → TableId → Key B → View D (Key B) → Trail D T → DeviceValue D T B
device_value z k v t = record { port = record { tokens = z; key = k }; passes = v.number; clock = v.clock; looks = v.looks; rang = v.rang; fetched = v.fetched; finished = v.finished; trail = t.told; owes = v.owes }

-- a token of a port with so many, of a round in which it can be had
abbrev pub InRange : ℕ → ℕ → Type 0
InRange count token = (token % 1024 < count) × (token / 1024 < last_round)

-- the seats of a pass between two calls
pub record FitsPass {S R D T B : Type 0} (key : Key B) (records : TableId) (count : ℕ) (me : Me S (View D (Key B))) (knows : Me R (Trail D T)) : Type 0 where
  pub keyed : me.0.key ≡ Some key
  pub tied : records ≡ key.records
  pub role : me.0.role ≡ Pass
  pub stage : me.0.stage ≡ Idle
  pub slots : me.1 ≡ []
  pub alone : me.0.gathered ≡ []
  pub tokens : Each (λ (x : ℕ × (ℕ × D)). InRange count x.1.0) me.0.mine
  pub plain : knows.0.device ≡ false
  pub handed : knows.0.handed ≡ []
  pub bare : knows.1 ≡ []

-- an operation that was fetched is finished, or its outcome is still to come
abbrev pub IsLeft : {D : Type 0} → ℕ → List (ℕ × ℕ) → List (ℕ × (ℕ × ℕ)) → ℕ × (ℕ × D) → Type 0
IsLeft count finished pending x = Among (x.0, x.1.0) finished ⊎ ((i : ℕ) × (r : ℕ) × (i < count) × (r < last_round) × (x.1.0 ≡ token_of r i) × Among (i, (r, x.0)) pending)

-- one more than the greatest place of the list
abbrev pub above_all : List (ℕ × ℕ) → ℕ
above_all [] = 0
above_all (x ∷ xs) = max (x.0 + 1) (above_all xs)

-- the device's seats between two calls: what it knows of the history begins the operations that it fetched, and is all of them where no outcome is to come. It owes no wake
pub record FitsDevice {S R D T B : Type 0} (key : Key B) (records : TableId) (count : ℕ) (me : Me S (View D (Key B))) (knows : Me R (Trail D T)) : Type 0 where
  pub keyed : me.0.key ≡ Some key
  pub tied : records ≡ key.records
  pub role : me.0.role ≡ Device
  pub stage : me.0.stage ≡ Idle
  pub slots : me.1 ≡ []
  pub alone : (submitted me.0 ≡ 0) × (me.0.redeemed ≡ [])
  pub device : knows.0.device ≡ true
  pub handed : knows.0.handed ≡ []
  pub bare : knows.1 ≡ []
  pub begins : StartsWith (ground_of me.0.fetched) knows.0.heard
  pub ready : me.0.pending ≡ [] → knows.0.heard ≡ ground_of me.0.fetched
  pub apart : Apart me.0.fetched
  pub floor : knows.0.floor ≡ above_all me.0.finished
  pub left : Each (IsLeft count me.0.finished me.0.pending) me.0.fetched
  pub paid : OwesNothing me.0

-- nothing of a pass has changed but what it has looked at
abbrev pub OnlyLooked : {D T B : Type 0} → PassValue D T B → PassValue D T B → Type 0
OnlyLooked v w = w ≡ record v { clock = w.clock; looks = w.looks }

-- the pass has looked more, and later
abbrev pub Later : {D T B : Type 0} → PassValue D T B → PassValue D T B → Type 0
Later v w = (v.clock ≤ w.clock) × StartsWith w.looks v.looks

-- at a step of a call that brought the pass from v to w, it found n in the word k
abbrev pub Saw : {D T B : Type 0} → PassValue D T B → PassValue D T B → ℕ → ℕ → Type 0
Saw v w k n = (t : ℕ) × (q : ℕ) × (v.clock ≤ t) × (get_elem? w.looks q ≡ some (t, (k, n)))

-- why the pass did not get the token i: it was not free, was worn, or had another word than the pass had just found
abbrev pub Missed : {D T B : Type 0} → PassValue D T B → PassValue D T B → ℕ → Type 0
Missed v w i = (n : ℕ) × Saw v w (token_word i) n × (((n % 8 ≢ 0) ⊎ (last_round ≤ n / 8)) ⊎ ((m : ℕ) × Saw v w (token_word i) m × (m ≢ n)))

-- a pass that has done nothing
abbrev pub IsNewPass : {D T B : Type 0} → PortId B → ℕ → PassValue D T B → Type 0
IsNewPass port n p = p ≡ record { port = port; number = n; seen = 0; submitted = []; redeemed = []; notes = 0; learnt = 0; clock = 0; looks = []; owes = 0; heard = []; trail = []; floor = 0 }

-- of what a pass knows of the outside
abbrev pub known_by : {D T B : Type 0} → PassValue D T B → Trail D T
known_by p = record { device = false; heard = p.heard; told = p.trail; floor = p.floor; handed = [] }

-- What an outcome at the place stands on by itself: a ground and a trail that the pass had been handed when it was q, by which the outcome is admitted.
-- What that ground says at the place is what the pass submitted there with the token, when it was p
pub record StandsOn {D T B : Type 0} (admits : List D → List (ℕ × T) → ℕ → Type 0) (token place : ℕ) (p q : PassValue D T B) : Type 0 where
  pub known : Trail D T
  pub handed : Behind (known_by q) known
  pub admitted : admits known.heard known.told place
  pub below : place < known.floor
  pub said : (d x : D) → Among (place, (token, d)) p.submitted → get_elem? known.heard place ≡ some x → x ≡ d

-- at a step of a call that brought the pass from v to w, it found a word of the token's index, of which F holds. Nothing else changed, but that a look at a token that is not done pays what the pass owed of it
abbrev pub Found : {D T B : Type 0} → PassValue D T B → PassValue D T B → ℕ → (ℕ → Type 0) → Type 0
Found v w token F = (t : ℕ) × (n : ℕ) × (v.clock ≤ t) × F n
    × (w ≡ record v { clock = t + 1; looks = v.looks ++ (t, (token_word (token % 1024), n)) ∷ []; owes = cond (n % 8 == 2) v.owes (clear (token % 1024) v.owes) })

-- no wake is owed
abbrev pub NoneOwed : ℕ → Type 0
NoneOwed owes = (q : ℕ) → q < 64 → bit_at owes q ≡ 0

-- the passes of a new port, from the number n on
abbrev pub NewFrom : {D T B : Type 0} → PortId B → ℕ → List (PassValue D T B) → Type 0
NewFrom port n [] = Unit {0}
NewFrom port n (p ∷ ps) = IsNewPass port n p × NewFrom port (n + 1) ps

-- the seat of a new port's device
abbrev pub IsNewSeat : {D T B : Type 0} → PortId B → ℕ → DeviceValue D T B → Type 0
IsNewSeat port n s = s ≡ record { port = port; passes = n; clock = 0; looks = []; rang = 0; fetched = []; finished = []; trail = []; owes = 0 }

-- what the device knew of the outside at the end
abbrev pub known_at : {D T B : Type 0} → EndValue D T B → Trail D T
known_at e = record { device = false; heard = e.heard; told = e.trail; floor = e.floor; handed = [] }

-- what each place says
abbrev pub says : {D : Type 0} → List (ℕ × (ℕ × D)) → List D
says h = map (λ e. e.1.1) h

-- what the token table knew of a pass
abbrev pub shown : {D T B : Type 0} → PassValue D T B → View D (Key B)
shown p = record (bare_view Pass (Some p.port.key)) { number = p.number; mine = p.submitted; redeemed = p.redeemed; notes = p.notes; learnt = p.learnt; owes = p.owes }
