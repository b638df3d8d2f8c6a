-- What a link did and heard, and what a contract sees of a link.
use Rattle.std.specs.Prelude.{ℕ, ◌++◌, List, [], ◌∷◌, map, Option, Some, None}
use Rattle.demi_frame.specs.Decoding.{Decoding}
use Rattle.demi_spec.specs.Request.{Request, End}
use Rattle.demi_spec.specs.Input.{Asked, Request_of, Refused_end}
use Rattle.demi_spec.specs.Reply.{Reply, Bye}
use Rattle.demi_streamq.specs.declared.rx_out.RxOut.{RxOut}
use Rattle.demi_served.specs.Keeps.{Link}
use Rattle.demi_served.specs.Steps.{new_link}

-- What a link did: the requests that it drew numbers for and the replies that it pushed; the outcomes of its pops, with
-- their places; the requests that its decoder handed out; the code of a refused end; the places of the pushes that were
-- written; and the place of an outcome, the request and the reply at hand.
pub record TalkValue : Type 0 where
  pub kept : Link
  pub outs : List (ℕ × RxOut)
  pub handed : List Request
  pub refused : Option ℕ
  pub written : List ℕ
  pub place : ℕ
  pub request : Asked
  pub reply : Reply

-- a link of this worker that did nothing
abbrev pub new_talk : ℕ → TalkValue
new_talk number = record { kept = new_link number; outs = []; handed = []; refused = None; written = []; place = 0; request = Request_of End; reply = record { worker = 0; sequence = 0; answer = Bye } }

-- a refused end counts as one more request
abbrev pub refusal : Option ℕ → List Asked
refusal None = []
refusal (Some code) = Refused_end code ∷ []

-- the requests that a link read
abbrev pub read_by : TalkValue → List Asked
read_by k = map Request_of k.handed ++ refusal k.refused

-- A link between polls, but for where it stands: its number, its worker's, how many requests it drew numbers for, its
-- decoder, and what it did.
pub record DeskValue : Type 0 where
  pub link : ℕ
  pub worker : ℕ
  pub index : ℕ
  pub decoder : Decoding
  pub talk : TalkValue
