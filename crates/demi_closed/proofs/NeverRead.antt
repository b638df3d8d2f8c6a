-- No read was made of the source of a link that never began.
use Rattle.std.proofs.Common.{◌≡◌, ℕ, ◌<◌, Bool, false, List, [], ◌∷◌, ◌++◌, Option, length, ◌∙◌, ap, sym, subst}
use Rattle.demi_device.specs.Serving.{trail}
use Rattle.demi_link.specs.Sights.{Sight}
use Rattle.demi_link.specs.Talks.{DeskValue}
use Rattle.demi_link.specs.declared.phase.Cause.{Cause}
use Rattle.demi_port.specs.Seen.{known_at}
use Rattle.demi_served.specs.Reading.{Popped}
use Rattle.demi_served.specs.Talks.{LinkRun, Talk}
use Rattle.demi_spec.specs.Record.{Record}
use Rattle.demi_streamq.specs.Receiving as rx
use Rattle.demi_streamq.specs.RxGoing.{RxRun, RxValue}
use Rattle.demi_streamq.specs.RxKept.{ended_in}
use Rattle.demi_streamq.specs.TxGoing.{TxValue}
use Rattle.demi_streamq.specs.declared.rx_op.RxOp.{RxOp}
use Rattle.demi_streamq.specs.declared.rx_out.RxOut.{RxOut}
use Rattle.demi_streamq.specs.declared.rx_told.RxTold.{RxTold}
use Rattle.demi_worker.specs.Ending.{NeverBegan}
use Rattle.demi_closed.specs.LinkClosed.{LinkResult, PortsClosed, WasServed, ports_of}
use Rattle.demi_closed.specs.Reading.{OnlyDueReads}
use Rattle.demi_closed.proofs.LinkCloses.{own_pop, pieces_are}
use Rattle.demi_closed.proofs.NeverBegan.{popped_none}
use Rattle.demi_closed.proofs.PopsRead.{ReadAt, read_at}
use Rattle.demi_closed.proofs.ReadsOf.{all_gave, reads_of, were_made}

no_middle : {A : Type 0} (xs before after : List A) (x : A) → xs ≡ [] → xs ≡ before ++ x ∷ after → ⊥
no_middle xs [] after x none is = absurd (let e : x ∷ after ≡ [] = sym is ∙ none in cc)
no_middle xs (y ∷ before) after x none is = absurd (let e : y ∷ (before ++ x ∷ after) ≡ [] = sym is ∙ none in cc)

begun : {U : Type 0} (first all more : List U) → first ≡ [] → all ≡ first ++ more → more ≡ all
begun first all more none e = sym (e ∙ ap (λ k. k ++ more) none)

module _ {I O : Type 0} (taken : I → ℕ) (left : I → Option (List ℕ)) (read_faults : I → ℕ) (reads : I → ℕ → Option (List ℕ) → I → Type 0) (written : O → Option (List ℕ)) (write_faults : O → ℕ)
    (ports : ℕ) (s : Sight) (d : DeskValue) (c : Cause) (never : NeverBegan ports s d c) (served : WasServed ports s d c)
    (rx_old rx_new : RxValue I) (tx_old tx_new : TxValue O) (p : PortsClosed taken left read_faults reads written write_faults s rx_old rx_new tx_old tx_new)
    (l : LinkRun) (t : Talk) (r : LinkResult c d l (ports_of rx_new tx_new) t) (told : Bool) (limit : ℕ) (old : List Record) where
  popped : Popped rx_new.served (trail rx.told rx_new.finished) d.talk.outs
  popped =
      subst (λ (h : List RxOp). Popped h (trail rx.told rx_new.finished) d.talk.outs) (p.rx_closed.ends.heard ∙ sym p.rx_closed.ends.grounded ∙ p.rx_closed.all)
      (subst (λ (x : List (ℕ × RxTold)). Popped p.rx_end.heard x d.talk.outs) (p.rx_closed.ends.trail ∙ p.rx_closed.agrees.tells)
      (popped_none ports s d c never (known_at p.rx_end) (own_pop taken left read_faults reads written write_faults ports s d c served rx_old rx_new tx_old tx_new p)))

  ran : RxRun read_faults reads false rx_old.source rx_old.pass rx_new.finished rx_new.source rx_new.pass
  ran = let g = p.rx_closed.goes in
      subst (λ (f : List (ℕ × RxOut)). RxRun read_faults reads false rx_old.source rx_old.pass f rx_new.source rx_new.pass) (begun rx_old.finished rx_new.finished g.added p.rx_closed.unfinished g.finished)
      (subst (λ (f : List (ℕ × RxOut)). RxRun read_faults reads (ended_in false f) rx_old.source rx_old.pass g.added rx_new.source rx_new.pass) p.rx_closed.unfinished g.run)

  none_read : (n : ℕ) → n < length (reads_of false rx_new.finished) → ⊥
  none_read n less =
      let e = r.ended.receives in
      let at : ReadAt (reads_of false rx_new.finished) d.talk.outs n = read_at rx_new.served (trail rx.told rx_new.finished) 0 false rx_new.finished d.talk.outs e.order e.admitted popped.rise popped.admitted (λ q max le at. popped.each q max at) n less in
      no_middle d.talk.outs at.before at.after at.here (ap (λ (k : DeskValue). k.talk.outs) never.desk) at.is

  pub never_read : OnlyDueReads reads told limit old rx_old.source rx_new.source l
  never_read = record {
    made = reads_of false rx_new.finished;
    reads_are = were_made read_faults reads false rx_old.source rx_old.pass rx_new.finished rx_new.source rx_new.pass ran;
    gave = all_gave false rx_new.finished ∙ sym (pieces_are rx_new.finished) ∙ sym r.ended.accounted.read;
    due = λ n less. absurd (none_read n less);
  }
