-- What the calls of a worker came to, one after the other.
use Rattle.std.specs.Prelude.{◌≡◌, ℕ, ◌++◌, List, [], ◌∷◌}
use Rattle.demi_port.specs.declared.redeem.Redeem.{Redeem}
use Rattle.demi_port.specs.declared.redeem.Redeem.TheVariants.{Ready, NotYet, Spent, Unknown}
use Rattle.demi_port_core.specs.declared.place.QToken.{QToken}
use Rattle.demi_store.specs.declared.answer.StoreAnswer.{StoreAnswer}
use Rattle.demi_store.specs.declared.out.StoreOut.{StoreOut}
use Rattle.demi_streamq.specs.declared.rx_out.RxOut.{RxOut}
use Rattle.demi_streamq.specs.declared.tx_out.TxOut.{TxOut}
use Rattle.demi_link.specs.Sights.{Side, Redeems}

-- A claim was refused, or a submission; a submission was taken with this token; a token's operation was found still to
-- come, or its token spent or unknown; or it came to this. Or all sequence numbers were used up.
pub data Event : Type 0 where
  NoSlotFound : Event
  NoTokenFound : Event
  Gave : (token : QToken) → Event
  Busy : (token : QToken) → Event
  Gone : (token : QToken) → Event
  RxCame : (outcome : RxOut) → Event
  TxCame : (outcome : TxOut) → Event
  StoreCame : (answer : StoreAnswer) → Event
  NumbersUsedUp : Event

-- just this was added
abbrev pub Adds : List Event → List Event → Event → Type 0
Adds before after e = after ≡ before ++ e ∷ []

-- what a try of a token comes to, by what its outcome is
abbrev pub tried : {L P O S T B : Type 0} → (O → Event) → QToken → Redeem L P O S T B → Event
tried came token (Ready place outcome) = came outcome
tried came token NotYet = Busy token
tried came token Spent = Gone token
tried came token Unknown = Gone token

abbrev pub store_came : StoreOut → Event
store_came o = StoreCame o.answer

-- What a try of a token tells of the pass p, which became q: of an outcome that it redeemed it; else that nothing of it has
-- changed but its looks.
abbrev pub TriedBy : {L P O S T B D U : Type 0} → (O → List D → List (ℕ × U) → ℕ → Type 0) → ℕ → Side D U → Side D U → Redeem L P O S T B → Type 0
TriedBy admits token p q (Ready place outcome) = Redeems (admits outcome) token place.0 p q
TriedBy admits token p q NotYet = q ≡ p
TriedBy admits token p q Spent = q ≡ p
TriedBy admits token p q Unknown = q ≡ p

-- the application halves that an outcome brings
abbrev pub brought : {L P O S T B : Type 0} → (O → ℕ) → Redeem L P O S T B → ℕ
brought halves (Ready place outcome) = halves outcome
brought halves NotYet = 0
brought halves Spent = 0
brought halves Unknown = 0

-- the tokens that a try redeems
abbrev pub settled : {L P O S T B : Type 0} → Redeem L P O S T B → ℕ
settled (Ready place outcome) = 1
settled NotYet = 0
settled Spent = 0
settled Unknown = 0
