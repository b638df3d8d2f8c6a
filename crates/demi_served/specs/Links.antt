-- What the two ports of a link account for: the bytes that were read, and the replies that were written.
use Rattle.std.specs.Prelude.{◌≡◌, ℕ, List, [], ◌∷◌}
use Rattle.std.specs.List.{AllByRecursion}
use Rattle.demi_device.specs.Serving.{trail}
use Rattle.demi_spec.specs.Input.{asked}
use Rattle.demi_spec.specs.Reply.{IsReply}
use Rattle.demi_streamq.specs.Receiving as rx
use Rattle.demi_streamq.specs.Sending as tx
use Rattle.demi_streamq.specs.TxKept.{all_written}
use Rattle.demi_streamq.specs.declared.rx_op.RxOp.{RxOp}
use Rattle.demi_streamq.specs.declared.rx_out.RxOut.{RxOut}
use Rattle.demi_streamq.specs.declared.tx_op.TxOp.{TxOp}
use Rattle.demi_streamq.specs.declared.tx_out.TxOut.{TxOut}
use Rattle.demi_served.specs.Talks.{LinkRun, Talk}
use Rattle.demi_served.specs.Reading.{pieces_in, RxEnd}
use Rattle.demi_served.specs.Writing.{TxEnd, PushesEach, WroteBefore}

-- the ends of a link's two ports: what each was asked, and its outcomes
pub record LinkPorts : Type 0 where
  pub pops : List RxOp
  pub took : List (ℕ × RxOut)
  pub pushes : List TxOp
  pub wrote : List (ℕ × TxOut)

-- What was read is the pieces that were taken, the pushes are the spellings of the replies, one push a reply, and what was
-- written is so of them.
pub record LinkAccounted (l : LinkRun) (e : LinkPorts) (t : Talk) : Type 0 where
  pub read : l.read ≡ pieces_in (trail rx.told e.took)
  pub pushed : PushesEach e.pushes t.replies
  pub written : l.written ≡ all_written e.pushes e.wrote

-- What is known of a link at its end: its ports account for it, it asked what was read, its replies are in range, and
-- each but the last was told to be written.
pub record LinkEnded (l : LinkRun) (e : LinkPorts) (t : Talk) : Type 0 where
  pub accounted : LinkAccounted l e t
  pub receives : RxEnd e.pops e.took
  pub sends : TxEnd e.pushes e.wrote
  pub asks : t.asks ≡ asked l.read l.ended
  pub fits : AllByRecursion IsReply t.replies
  pub before : WroteBefore e.pushes (trail tx.told e.wrote)

-- each link with its ports and its talk
abbrev pub AllEnded : List LinkRun → List LinkPorts → List Talk → Type 0
AllEnded [] [] [] = Unit {0}
AllEnded (l ∷ links) (e ∷ ports) (t ∷ talks) = LinkEnded l e t × AllEnded links ports talks
AllEnded links ports talks = ⊥
