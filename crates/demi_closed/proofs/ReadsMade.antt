-- Only due reads were made of the source of a link that was served, once its ports are closed.
use Rattle.std.proofs.Common.{◌≡◌, ℕ, ◌<◌, ◌≤◌, Bool, true, false, List, [], ◌∷◌, ◌++◌, Some, Option, length, map, refl, arith, ◌∙◌, ap, sym, subst, append-nil, length-append}
use Rattle.std.specs.Prelude.{flat_map, slice_get, take}
use Rattle.std.proofs.lemmas.List.{length-map, length-take-le, take_all}
use Rattle.demi_device.specs.Serving.{trail}
use Rattle.demi_frame.specs.Decoding.{Decoding}
use Rattle.demi_frame.specs.Reading.{HasRead}
use Rattle.demi_heap.specs.Seen.{HalfValue}
use Rattle.demi_link.specs.Dues.{IsDue}
use Rattle.demi_link.specs.Ends.{IsKnown}
use Rattle.demi_link.specs.Fitting.{AllWritten, Fits, places}
use Rattle.demi_link.specs.Heard.{IsReadFault, LastCame}
use Rattle.demi_link.specs.Sights.{Sight}
use Rattle.demi_link.specs.Talks.{DeskValue, refusal}
use Rattle.demi_link.specs.declared.phase.Cause.{Cause}
use Rattle.demi_link.specs.declared.phase.Cause.TheVariants as cause
use Rattle.demi_link.specs.declared.phase.Phase.TheVariants.{Over}
use Rattle.demi_port.specs.Seen.{known_at}
use Rattle.demi_port_core.specs.History.{Among}
use Rattle.demi_port_core.specs.Trails.{Behind, StartsWith}
use Rattle.demi_port_core.specs.declared.trail.Trail.{Trail}
use Rattle.demi_served.specs.Reading.{Popped, RxEnd, pieces_in}
use Rattle.demi_served.specs.Served.{Torn}
use Rattle.demi_served.specs.Talks.{LinkRun, Talk}
use Rattle.demi_served.specs.Writing.{PushesEach, TxEnd, WroteAll, WroteBefore}
use Rattle.demi_spec.specs.Input.{Ending, Open, Parsed, Parses, Request_of, asked, asked_of, parse}
use Rattle.demi_spec.specs.Record.{Record}
use Rattle.demi_spec.specs.Reply.{Reply, spelling}
use Rattle.demi_spec.specs.Request.{Request}
use Rattle.demi_spec.specs.Store.{serial}
use Rattle.demi_streamq.specs.Receiving as rx
use Rattle.demi_streamq.specs.RxGoing.{RxRun, RxValue}
use Rattle.demi_streamq.specs.RxKept.{all_bytes, bytes_of, ended_in}
use Rattle.demi_streamq.specs.Sending as tx
use Rattle.demi_streamq.specs.TxGoing.{TxValue}
use Rattle.demi_streamq.specs.TxKept.{all_written}
use Rattle.demi_streamq.specs.declared.rx_op.RxOp.{RxOp}
use Rattle.demi_streamq.specs.declared.rx_op.RxOp.TheVariants as rx_op
use Rattle.demi_streamq.specs.declared.rx_out.RxOut.{RxOut}
use Rattle.demi_streamq.specs.declared.rx_out.RxOut.TheVariants as rx_out
use Rattle.demi_streamq.specs.declared.rx_told.RxTold.{RxTold}
use Rattle.demi_streamq.specs.declared.tx_op.TxOp.{TxOp}
use Rattle.demi_streamq.specs.declared.tx_op.TxOp.TheVariants as tx_op
use Rattle.demi_streamq.specs.declared.tx_out.TxOut.{TxOut}
use Rattle.demi_closed.specs.LinkClosed.{LinkResult, PortsClosed, ports_of}
use Rattle.demi_closed.specs.Reading.{AnsweredInFull, OnlyDueReads}
use Rattle.demi_closed.proofs.Entries.{knew_before, submitted_before}
use Rattle.demi_closed.proofs.LinkCloses.{pieces_are}
use Rattle.demi_closed.proofs.PopsRead.{ReadAt, read_at}
use Rattle.demi_closed.proofs.ReadsDue.{due_read, first_replies, were_written}
use Rattle.demi_closed.proofs.ReadsOf.{all_gave, reads_of, were_made}

-- a read that failed gave no bytes
none_by_fault : (o : RxOut) → IsReadFault o → bytes_of o ≡ []
none_by_fault (rx_out.Piece v) is = absurd is
none_by_fault rx_out.End is = absurd is
none_by_fault (rx_out.Fault count) is = refl
none_by_fault (rx_out.Broken place) is = refl
none_by_fault rx_out.NoSlot is = absurd is
none_by_fault (rx_out.Stopped place) is = absurd is
none_by_fault rx_out.Halted is = absurd is

bytes_before : (before : List (ℕ × RxOut)) (last : ℕ × RxOut) → bytes_of last.1 ≡ [] → all_bytes (before ++ last ∷ []) ≡ all_bytes before
bytes_before [] last none = ap (λ (l : List ℕ). l ++ []) none
bytes_before (o ∷ before) last none = ap (λ (l : List ℕ). bytes_of o.1 ++ l) (bytes_before before last none)

module _ {I O : Type 0} (taken : I → ℕ) (left : I → Option (List ℕ)) (read_faults : I → ℕ) (reads : I → ℕ → Option (List ℕ) → I → Type 0) (written : O → Option (List ℕ)) (write_faults : O → ℕ)
    (ports : ℕ) (s : Sight) (d : DeskValue) (c : Cause) (fits : Fits ports s d (Over c)) (known : IsKnown c)
    (rx_old rx_new : RxValue I) (tx_old tx_new : TxValue O) (p : PortsClosed taken left read_faults reads written write_faults s rx_old rx_new tx_old tx_new)
    (l : LinkRun) (t : Talk) (r : LinkResult c d l (ports_of rx_new tx_new) t) (told : Bool) (limit : ℕ) (old : List Record) (as_store : told ≡ true → t.replies ≡ take (length t.replies) (serial old limit t.asks).replies)
    (popped : (end : Trail RxOp RxTold) → Behind end s.rx.known → ((i max : ℕ) → slice_get end.heard i ≡ Some (rx_op.Pop max) → Among i (places s.rx.submitted)) → Popped end.heard end.told d.talk.outs)
    (due : (before after : List (ℕ × RxOut)) (x : ℕ × RxOut) → d.talk.outs ≡ before ++ x ∷ after → IsDue d.talk.handed d.talk.written before)
    (torn : (h : List TxOp) (f : List (ℕ × TxOut)) (replies : List Reply) → TxEnd h f → PushesEach h replies → WroteBefore h (trail tx.told f) → Torn (all_written h f) replies)
    (whole : (h : List TxOp) (f : List (ℕ × TxOut)) (replies : List Reply) → TxEnd h f → PushesEach h replies → WroteAll h (trail tx.told f) → all_written h f ≡ flat_map spelling replies) where
  own_pop : (i max : ℕ) → slice_get p.rx_end.heard i ≡ Some (rx_op.Pop max) → Among i (places s.rx.submitted)
  own_pop i max at = submitted_before p.rx_id p.rx_seat p.rx_passes p.rx_end p.rx_closed.ends s.number p.rx_only p.rx_pass p.rx_mine.1 p.rx_mine.0 rx_op.Stop s.rx p.rx_added i (rx_op.Pop max) at (λ e. absurd (cc))

  rx_knew : Behind (known_at p.rx_end) s.rx.known
  rx_knew = knew_before p.rx_id p.rx_seat p.rx_passes p.rx_end p.rx_closed.ends s.number p.rx_only p.rx_pass p.rx_mine.1 p.rx_mine.0 rx_op.Stop s.rx p.rx_added

  own_push : (i : ℕ) (sga : List HalfValue) → slice_get p.tx_end.heard i ≡ Some (tx_op.Push sga) → Among i (places s.tx.submitted)
  own_push i sga at = submitted_before p.tx_id p.tx_seat p.tx_passes p.tx_end p.tx_closed.ends s.number p.tx_only p.tx_pass p.tx_mine.1 p.tx_mine.0 tx_op.Stop s.tx p.tx_added i (tx_op.Push sga) at (λ e. absurd (cc))

  tx_knew : Behind (known_at p.tx_end) s.tx.known
  tx_knew = knew_before p.tx_id p.tx_seat p.tx_passes p.tx_end p.tx_closed.ends s.number p.tx_only p.tx_pass p.tx_mine.1 p.tx_mine.0 tx_op.Stop s.tx p.tx_added

  -- its pops are those of the engine
  popped_there : Popped rx_new.served (trail rx.told rx_new.finished) d.talk.outs
  popped_there =
      subst (λ (h : List RxOp). Popped h (trail rx.told rx_new.finished) d.talk.outs) (p.rx_closed.ends.heard ∙ sym p.rx_closed.ends.grounded ∙ p.rx_closed.all)
      (subst (λ (x : List (ℕ × RxTold)). Popped p.rx_end.heard x d.talk.outs) (p.rx_closed.ends.trail ∙ p.rx_closed.agrees.tells) (popped (known_at p.rx_end) rx_knew own_pop))

  -- where each of its pushes is known written, each of the engine's was
  all_pushed : AllWritten s d → WroteAll tx_new.served (trail tx.told tx_new.finished)
  all_pushed all =
      subst (λ (h : List TxOp). WroteAll h (trail tx.told tx_new.finished)) (p.tx_closed.ends.heard ∙ sym p.tx_closed.ends.grounded ∙ p.tx_closed.all)
      (subst (λ (x : List (ℕ × ℕ)). WroteAll p.tx_end.heard x) (p.tx_closed.ends.trail ∙ p.tx_closed.agrees.tells) (were_written s d (known_at p.tx_end) tx_knew own_push fits.keeps.writes all))

  begun : {U : Type 0} (first all more : List U) → first ≡ [] → all ≡ first ++ more → more ≡ all
  begun first all more none e = sym (e ∙ ap (λ k. k ++ more) none)

  ran : RxRun read_faults reads false rx_old.source rx_old.pass rx_new.finished rx_new.source rx_new.pass
  ran = let g = p.rx_closed.goes in
      subst (λ (f : List (ℕ × RxOut)). RxRun read_faults reads false rx_old.source rx_old.pass f rx_new.source rx_new.pass) (begun rx_old.finished rx_new.finished g.added p.rx_closed.unfinished g.finished)
      (subst (λ (f : List (ℕ × RxOut)). RxRun read_faults reads (ended_in false f) rx_old.source rx_old.pass g.added rx_new.source rx_new.pass) p.rx_closed.unfinished g.run)

  a_read : (n : ℕ) → n < length (reads_of false rx_new.finished) → ReadAt (reads_of false rx_new.finished) d.talk.outs n
  a_read n less =
      let e = r.ended.receives in
      read_at rx_new.served (trail rx.told rx_new.finished) 0 false rx_new.finished d.talk.outs e.order e.admitted popped_there.rise popped_there.admitted (λ q max le at. popped_there.each q max at) n less

  torn_there : Torn l.written t.replies
  torn_there = let e = r.ended in subst (λ (w : List ℕ). Torn w t.replies) (sym e.accounted.written) (torn tx_new.served tx_new.finished t.replies e.sends e.accounted.pushed e.before)

  whole_there : AllWritten s d → l.written ≡ flat_map spelling t.replies
  whole_there all = let e = r.ended in e.accounted.written ∙ whole tx_new.served tx_new.finished t.replies e.sends e.accounted.pushed (all_pushed all)

  pub only_due : OnlyDueReads reads told limit old rx_old.source rx_new.source l
  only_due = record {
    made = reads_of false rx_new.finished;
    reads_are = were_made read_faults reads false rx_old.source rx_old.pass rx_new.finished rx_new.source rx_new.pass ran;
    gave = all_gave false rx_new.finished ∙ sym (pieces_are rx_new.finished) ∙ sym r.ended.accounted.read;
    due = λ n less. (
        let at = a_read n less in
        due_read ports s d c fits known told limit old l.written t.asks t.replies r.replies r.asks as_store torn_there whole_there (take n (reads_of false rx_new.finished)) at.before (due at.before at.after at.here at.is) at.gave);
  }

  -- where the last read failed, all that was read whole was answered
  module _ (failed : c ≡ cause.ReadFault)
      (begins : (fed : List ℕ) (handed : List Request) (x : Decoding) (ended : Bool) → HasRead fed handed x → StartsWith (asked fed ended) (map Request_of handed))
      (only : (requests : List Request) (how : Ending) (ended : Bool) (bytes : List ℕ) → Parses requests how ended bytes → parse bytes ended ≡ record { requests = requests; how = how })
      (read_is : (h : List RxOp) (f pops : List (ℕ × RxOut)) → RxEnd h f → Popped h (trail rx.told f) pops → all_bytes pops ≡ pieces_in (trail rx.told f)) where
    over : Fits ports s d (Over cause.ReadFault)
    over = subst (λ (x : Cause). Fits ports s d (Over x)) failed fits

    last : LastCame IsReadFault d.talk.outs
    last = over.agrees.6

    behind : IsDue d.talk.handed d.talk.written last.before
    behind = due last.before [] last.last last.all

    same_bytes : all_bytes last.before ≡ all_bytes d.talk.outs
    same_bytes = sym (ap all_bytes last.all ∙ bytes_before last.before last.last (none_by_fault last.last.1 last.is))

    read_all : all_bytes d.talk.outs ≡ l.read
    read_all = read_is rx_new.served rx_new.finished d.talk.outs r.ended.receives popped_there ∙ sym r.ended.accounted.read

    -- each request that was handed out stands whole in what was read
    asks : asked (all_bytes d.talk.outs) false ≡ map Request_of (take behind.count d.talk.handed)
    asks =
        let parsed = subst (Parses (take behind.count d.talk.handed) Open false) same_bytes behind.asks in
        ap (λ (p : Parsed). asked_of p.requests p.how) (only (take behind.count d.talk.handed) Open false (all_bytes d.talk.outs) parsed) ∙ append-nil (map Request_of (take behind.count d.talk.handed))

    no_more : length d.talk.handed ≤ behind.count
    no_more =
        let all = begins (all_bytes d.talk.outs) d.talk.handed d.decoder false fits.keeps.read in
        let a = ap length (sym asks ∙ all.1) ∙ length-append (map Request_of d.talk.handed) all.0 in
        let b = length-map (take behind.count d.talk.handed) Request_of in
        let e = length-map d.talk.handed Request_of in
        let f = length-take-le behind.count d.talk.handed behind.within in
        omega (arith, a, b, e, f)

    parses_all : Parses d.talk.handed Open false l.read
    parses_all =
        subst (λ (q : List Request). Parses q Open false l.read) (take_all behind.count d.talk.handed no_more)
        (subst (Parses (take behind.count d.talk.handed) Open false) (same_bytes ∙ read_all) behind.asks)

    as_many : length t.replies ≡ length d.talk.handed
    as_many =
        let even = over.agrees.3 in
        let a = ap length r.replies in
        let b = ap length even.0 in
        let e = ap (λ (o : Option ℕ). length (map Request_of d.talk.handed ++ refusal o)) over.agrees.4 in
        let f = length-append (map Request_of d.talk.handed) [] in
        let g = length-map d.talk.handed Request_of in
        let h = even.1 in
        omega (arith, a, b, e, f, g, h)

    stored : told ≡ true → t.replies ≡ (serial old limit (map Request_of d.talk.handed)).replies
    stored is =
        let n = length d.talk.handed in
        let m = as_many in
        let within : n ≤ n = omega arith in
        let long : n ≤ length t.replies = omega (arith, m) in
        let short : length t.replies ≤ n = omega (arith, m) in
        sym (take_all n t.replies short)
        ∙ first_replies ports s d c fits known told limit old l.written t.asks t.replies r.replies r.asks as_store torn_there whole_there n within long is
        ∙ ap (λ (q : List Request). (serial old limit (map Request_of q)).replies) (take_all n d.talk.handed within)

    pub all_answered : AnsweredInFull told limit old l
    all_answered = record {
      requests = d.talk.handed;
      parses = parses_all;
      replies = t.replies;
      each = as_many;
      written = whole_there over.agrees.1;
      as_store = stored;
    }
