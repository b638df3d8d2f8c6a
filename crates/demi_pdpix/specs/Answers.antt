-- What holds of what a try gave, by cases and by the kind of its port.
use Rattle.std.specs.Prelude.{◌≡◌, ◌≢◌, ℕ, ◌+◌, ◌*◌, ◌%◌, ◌/◌, ◌<◌, ◌≤◌, ◌⊎◌, List, [], ◌∷◌, ◌++◌}
use Rattle.demi_port_core.specs.History.{Among, Each, times}
use Rattle.demi_port_core.specs.Phases.{last_round}
use Rattle.demi_port_core.specs.Told.{clear}
use Rattle.demi_port_core.specs.Trails.{Behind}
use Rattle.demi_port_core.specs.Words.{token_word}
use Rattle.demi_port.specs.Seen.{Found, Later, PassValue, Saw, StandsOn, known_by}
use Rattle.demi_port.specs.declared.redeem.Redeem.{Redeem}
use Rattle.demi_port.specs.declared.redeem.Redeem.TheVariants.{Ready as Come, NotYet as Busy, Spent as Over, Unknown as NoSuch}
use Rattle.demi_memq.specs.declared.out.MemOut.{MemOut}
use Rattle.demi_logq.specs.declared.out.LogOut.{LogOut}
use Rattle.demi_streamq.specs.declared.rx_out.RxOut.{RxOut}
use Rattle.demi_streamq.specs.declared.tx_out.TxOut.{TxOut}
use Rattle.demi_pdpix.specs.declared.outcomes.QResult.{QResult}
use Rattle.demi_pdpix.specs.declared.outcomes.QResult.TheVariants.{Mem, Service, Log, Rx, Tx}
use Rattle.demi_pdpix.specs.declared.outcomes.Answer.{Answer}
use Rattle.demi_pdpix.specs.declared.outcomes.Answer.TheVariants.{Ready, NotYet, Spent, Unknown}

-- it is the outcome of the memory queues, and F holds of it
abbrev pub IsMem : {L P O S T B : Type 0} → QResult L P O S T B → (MemOut → Type 0) → Type 0
IsMem (Mem o) F = F o
IsMem (Service o) F = ⊥
IsMem (Log o) F = ⊥
IsMem (Rx o) F = ⊥
IsMem (Tx o) F = ⊥

-- of the service
abbrev pub IsService : {L P O S T B : Type 0} → QResult L P O S T B → (O → Type 0) → Type 0
IsService (Mem o) F = ⊥
IsService (Service o) F = F o
IsService (Log o) F = ⊥
IsService (Rx o) F = ⊥
IsService (Tx o) F = ⊥

-- of a log's queue
abbrev pub IsLog : {L P O S T B : Type 0} → QResult L P O S T B → (LogOut → Type 0) → Type 0
IsLog (Mem o) F = ⊥
IsLog (Service o) F = ⊥
IsLog (Log o) F = F o
IsLog (Rx o) F = ⊥
IsLog (Tx o) F = ⊥

-- of a port that receives
abbrev pub IsRx : {L P O S T B : Type 0} → QResult L P O S T B → (RxOut → Type 0) → Type 0
IsRx (Mem o) F = ⊥
IsRx (Service o) F = ⊥
IsRx (Log o) F = ⊥
IsRx (Rx o) F = F o
IsRx (Tx o) F = ⊥

-- of a port that sends
abbrev pub IsTx : {L P O S T B : Type 0} → QResult L P O S T B → (TxOut → Type 0) → Type 0
IsTx (Mem o) F = ⊥
IsTx (Service o) F = ⊥
IsTx (Log o) F = ⊥
IsTx (Rx o) F = ⊥
IsTx (Tx o) F = F o

-- R holds of the place and outcome where it is ready, and else the fact of its case
abbrev pub Cases : {L P O S T B : Type 0} → Answer L P O S T B → (ℕ → QResult L P O S T B → Type 0) → Type 0 → Type 0 → Type 0 → Type 0
Cases (Ready p o) R N S U = R p.0 o
Cases NotYet R N S U = N
Cases Spent R N S U = S
Cases Unknown R N S U = U

-- The pass p found the token done, redeemed it, and became q: an outcome of this place is admitted by what q was handed, the place is that of the token's operation
-- where p submitted it, and p had not redeemed the token. By itself the outcome stands on what q was handed with it, which says at the place what p submitted there.
-- What p knew is never taken back.
pub record Redeemed {D T B : Type 0} (admits : List D → List (ℕ × T) → ℕ → Type 0) (token place : ℕ) (p q : PassValue D T B) : Type 0 where
  pub admitted : admits q.heard q.trail place
  pub below : place < q.floor
  pub pass : q ≡ record p { clock = q.clock; looks = q.looks; redeemed = p.redeemed ++ (place, token) ∷ []; owes = clear (token % 1024) p.owes; heard = q.heard; trail = q.trail; floor = q.floor }
  pub done : Saw p q (token_word (token % 1024)) (token / 1024 * 8 + 2)
  pub own : (k : ℕ) (d : D) → Among (k, (token, d)) p.submitted → k ≡ place
  pub stands : StandsOn admits token place p q
  pub once : times token p.redeemed ≡ 0
  pub later : Later p q
  pub grows : Behind (known_by q) (known_by p)

-- the pass found the token busy in its round
abbrev pub SawBusy : {D T B : Type 0} → ℕ → PassValue D T B → PassValue D T B → Type 0
SawBusy token p q = Found p q token (λ n. n ≡ token / 1024 * 8 + 1)

-- the pass found the token's round past, or the token taken in it
abbrev pub SawSpent : {D T B : Type 0} → ℕ → PassValue D T B → PassValue D T B → Type 0
SawSpent token p q = Found p q token (λ n. (token / 1024 < n / 8) ⊎ (n ≡ token / 1024 * 8 + 3))

-- The port has given no such token: its index or round is out of range, or the pass found its round ahead, or it free in its round. The pass has not submitted with it.
pub record SawUnknown {D T B : Type 0} (token : ℕ) (p q : PassValue D T B) : Type 0 where
  pub known : Each (λ (x : ℕ × (ℕ × D)). x.1.0 ≢ token) p.submitted
  pub found : (((p.port.tokens.slots ≤ token % 1024) ⊎ (last_round ≤ token / 1024)) × (q ≡ p)) ⊎ Found p q token (λ n. (n / 8 < token / 1024) ⊎ (n ≡ token / 1024 * 8))

-- What a try of a token of its port tells of the pass p, which became q.
abbrev pub TriedBy : {L P O S T B : Type 0} → (B → List S → List (ℕ × T) → ℕ → O → Type 0) → ℕ → PassValue S T B → PassValue S T B → Redeem L P O S T B → Type 0
TriedBy admits token p q (Come place o) = Redeemed (λ h t n. admits p.port.key.base h t n o) token place.0 p q
TriedBy admits token p q Busy = SawBusy token p q
TriedBy admits token p q Over = SawSpent token p q
TriedBy admits token p q NoSuch = SawUnknown token p q

-- what a try of a token of the memory queues comes to
abbrev pub mem_answer : {K Q U V W L P O S T B : Type 0} → Redeem K Q MemOut U V W → Answer L P O S T B
mem_answer (Come place o) = Ready place (Mem o)
mem_answer Busy = NotYet
mem_answer Over = Spent
mem_answer NoSuch = Unknown

-- of the service
abbrev pub service_answer : {L P O S T B : Type 0} → Redeem L P O S T B → Answer L P O S T B
service_answer (Come place o) = Ready place (Service o)
service_answer Busy = NotYet
service_answer Over = Spent
service_answer NoSuch = Unknown

-- of a log's queue
abbrev pub log_answer : {K Q U V W L P O S T B : Type 0} → Redeem K Q LogOut U V W → Answer L P O S T B
log_answer (Come place o) = Ready place (Log o)
log_answer Busy = NotYet
log_answer Over = Spent
log_answer NoSuch = Unknown

-- of a port that receives
abbrev pub rx_answer : {K Q U V W L P O S T B : Type 0} → Redeem K Q RxOut U V W → Answer L P O S T B
rx_answer (Come place o) = Ready place (Rx o)
rx_answer Busy = NotYet
rx_answer Over = Spent
rx_answer NoSuch = Unknown

-- of a port that sends
abbrev pub tx_answer : {K Q U V W L P O S T B : Type 0} → Redeem K Q TxOut U V W → Answer L P O S T B
tx_answer (Come place o) = Ready place (Tx o)
tx_answer Busy = NotYet
tx_answer Over = Spent
tx_answer NoSuch = Unknown
