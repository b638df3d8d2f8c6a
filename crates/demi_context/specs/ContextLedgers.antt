-- What a worker's calls came to, as contracts see it.
use Rattle.std.specs.Prelude.{ℕ, ◌+◌, ◌-◌, ◌==◌, cond, List, [], ◌∷◌, ◌++◌, length}
use Rattle.demi_heap.specs.Seen.{HalfValue}
use Rattle.demi_port.specs.declared.redeem.Redeem.{Redeem}
use Rattle.demi_port_core.specs.declared.place.QToken.{QToken}
use Rattle.demi_store.specs.declared.op.StoreOp.{StoreOp}
use Rattle.demi_store.specs.declared.out.StoreOut.{StoreOut}
use Rattle.demi_streamq.specs.RxKept.{pieces_of}
use Rattle.demi_streamq.specs.declared.rx_out.RxOut.{RxOut}
use Rattle.demi_streamq.specs.declared.tx_out.TxOut.{TxOut}
use Rattle.demi_served.specs.Keeps.{Draw}
use Rattle.demi_link.specs.Events.{Event, Gave, RxCame, TxCame, brought, settled, store_came, tried}
use Rattle.demi_link.specs.Sights.{Due, nothing_due}
use Rattle.demi_link.specs.Stores.{halves_back, halves_in}
use Rattle.demi_link.specs.Talks.{TalkValue}

-- For what the worker drew its numbers; how many application halves are out for a link, and which of its tokens are due,
-- each noted in front whenever it changed; and what the calls came to.
pub record LedgerValue : Type 0 where
  pub draws : List Draw
  pub outs : List (ℕ × ℕ)
  pub dues : List (ℕ × Due)
  pub events : List Event

-- what is noted first for a link, or this where nothing is
abbrev pub noted_for : {A : Type 0} → A → List (ℕ × A) → ℕ → A
noted_for none [] link = none
noted_for none (x ∷ xs) link = cond (x.0 == link) x.1 (noted_for none xs link)

abbrev pub out_of : LedgerValue → ℕ → ℕ
out_of l link = noted_for 0 l.outs link

abbrev pub due_of : LedgerValue → ℕ → Due
due_of l link = noted_for nothing_due l.dues link

-- of calls that were not made
abbrev pub no_ledger : LedgerValue
no_ledger = record { draws = []; outs = []; dues = []; events = [] }

-- a ledger with the link of the call at hand
pub record Entry : Type 0 where
  pub ledger : LedgerValue
  pub link : ℕ

-- and with the token that is tried
pub record Trying : Type 0 where
  pub entry : Entry
  pub token : QToken

abbrev pub with_out : Entry → ℕ → LedgerValue
with_out e n = record e.ledger { outs = (e.link, n) ∷ e.ledger.outs }

abbrev pub with_due : Entry → Due → LedgerValue
with_due e due = record e.ledger { dues = (e.link, due) ∷ e.ledger.dues }

abbrev pub with_event : LedgerValue → Event → LedgerValue
with_event l event = record l { events = l.events ++ event ∷ [] }

-- a half was taken, or so many were given back
abbrev pub after_claim : Entry → LedgerValue
after_claim e = with_out e (out_of e.ledger e.link + 1)

abbrev pub after_free : Entry → List HalfValue → LedgerValue
after_free e sga = with_out e (out_of e.ledger e.link - length sga)

-- a number was drawn for the request at hand of a link
abbrev pub after_draw_of : Entry → TalkValue → LedgerValue
after_draw_of e talk = record e.ledger { draws = e.ledger.draws ++ record { link = e.link; index = length talk.kept.drawn; request = talk.request } ∷ [] }

-- the halves of an operation went along with it
abbrev pub after_giving : Entry → StoreOp → LedgerValue
after_giving e op = with_out e (out_of e.ledger e.link - halves_in op)

-- an operation was submitted, to the store, to a receiving or to a sending port
abbrev pub after_ask_of : Entry → QToken → LedgerValue
after_ask_of e token = with_event (with_due e (record (due_of e.ledger e.link) { store = (due_of e.ledger e.link).store + 1 })) (Gave token)

abbrev pub after_pop : Entry → QToken → LedgerValue
after_pop e token = with_event (with_due e (record (due_of e.ledger e.link) { rx = (due_of e.ledger e.link).rx + 1 })) (Gave token)

abbrev pub after_push : Entry → QToken → LedgerValue
after_push e token = with_event (with_due e (record (due_of e.ledger e.link) { tx = (due_of e.ledger e.link).tx + 1 })) (Gave token)

-- a try of a token of the store, of a receiving or of a sending port came to this: an outcome brings its halves
abbrev pub after_store_try : {L P S T B : Type 0} → Entry → QToken → Redeem L P StoreOut S T B → LedgerValue
after_store_try e token came = record e.ledger {
  outs = (e.link, out_of e.ledger e.link + brought halves_back came) ∷ e.ledger.outs;
  dues = (e.link, record (due_of e.ledger e.link) { store = (due_of e.ledger e.link).store - settled came }) ∷ e.ledger.dues;
  events = e.ledger.events ++ tried store_came token came ∷ [];
}

abbrev pub after_rx_try : {L P S T B : Type 0} → Entry → QToken → Redeem L P RxOut S T B → LedgerValue
after_rx_try e token came = record e.ledger {
  outs = (e.link, out_of e.ledger e.link + brought pieces_of came) ∷ e.ledger.outs;
  dues = (e.link, record (due_of e.ledger e.link) { rx = (due_of e.ledger e.link).rx - settled came }) ∷ e.ledger.dues;
  events = e.ledger.events ++ tried RxCame token came ∷ [];
}

abbrev pub after_tx_try : {L P S T B : Type 0} → Entry → QToken → Redeem L P TxOut S T B → LedgerValue
after_tx_try e token came = record e.ledger {
  dues = (e.link, record (due_of e.ledger e.link) { tx = (due_of e.ledger e.link).tx - settled came }) ∷ e.ledger.dues;
  events = e.ledger.events ++ tried TxCame token came ∷ [];
}
