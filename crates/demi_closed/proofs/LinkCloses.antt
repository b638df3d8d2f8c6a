-- What a link that was served comes to where its ports are closed.
use Rattle.std.proofs.Common.{◌≡◌, ℕ, Bool, true, false, List, [], ◌∷◌, ◌++◌, Some, None, Option, length, map, refl, arith, ◌∙◌, ap, sym, subst, append-nil, length-append}
use Rattle.std.specs.Prelude.{slice_get}
use Rattle.std.specs.Io.KnownBytes.{append_known, prepend_known}
use Rattle.demi_device.specs.Serving.{trail}
use Rattle.demi_heap.specs.Seen.{HalfValue}
use Rattle.demi_port.specs.Seen.{known_at}
use Rattle.demi_port_core.specs.History.{Among, Each}
use Rattle.demi_port_core.specs.Trails.{Behind, StartsWith, told_at as told_there}
use Rattle.demi_spec.specs.Input.{Asked, Parses, asked}
use Rattle.demi_spec.specs.Reply.{spelling}
use Rattle.demi_streamq.specs.Receiving as rx
use Rattle.demi_streamq.specs.Receiving.{RxAdmits}
use Rattle.demi_streamq.specs.RxGoing.{RxValue}
use Rattle.demi_streamq.specs.RxKept.{HasEnd, IsEnd, NoneLeft, all_bytes, bytes_of}
use Rattle.demi_streamq.specs.Sending as tx
use Rattle.demi_streamq.specs.Sending.{array_bytes}
use Rattle.demi_streamq.specs.TxGoing.{TxValue}
use Rattle.demi_streamq.specs.TxKept.{all_written}
use Rattle.demi_streamq.specs.declared.rx_op.RxOp.{RxOp}
use Rattle.demi_streamq.specs.declared.rx_op.RxOp.TheVariants as rx_op
use Rattle.demi_streamq.specs.declared.rx_out.RxOut.{RxOut}
use Rattle.demi_streamq.specs.declared.rx_out.RxOut.TheVariants as out
use Rattle.demi_streamq.specs.declared.rx_told.RxTold.{RxTold}
use Rattle.demi_streamq.specs.declared.tx_op.TxOp.{TxOp}
use Rattle.demi_streamq.specs.declared.tx_op.TxOp.TheVariants as tx_op
use Rattle.demi_served.specs.Reading.{Popped, RxEnd, pieces_in}
use Rattle.demi_served.specs.Talks.{LinkRun, Talk}
use Rattle.demi_served.specs.Writing.{TxEnd, WroteAll, WroteBefore, texts_of}
use Rattle.demi_link.specs.Ends.{IsDone}
use Rattle.demi_link.specs.Fitting.{Keeps, ops_of, places}
use Rattle.demi_link.specs.Heard.{LastCame}
use Rattle.demi_link.specs.Sights.{Sight}
use Rattle.demi_link.specs.Talks.{DeskValue}
use Rattle.demi_link.specs.declared.phase.Cause.{Cause}
use Rattle.demi_closed.specs.LinkClosed.{LinkMoved, LinkResult, PortsClosed, WasServed, is_read_out, ports_of}
use Rattle.demi_closed.specs.TextEnds.{ending_of}
use Rattle.demi_closed.proofs.EndsTold.{end_told}
use Rattle.demi_closed.proofs.Entries.{heard_is, knew_before, submitted_before}
use Rattle.demi_closed.proofs.NeverBegan.{keeps_of, over_of}
use Rattle.demi_closed.proofs.TextEnds.{ends_at}

read_out_left : (left : Option (List ℕ)) → is_read_out left ≡ true → NoneLeft left
read_out_left None e = tt
read_out_left (Some []) e = refl
read_out_left (Some (b ∷ bytes)) e = absurd (cc)

left_read_out : (left : Option (List ℕ)) → NoneLeft left → is_read_out left ≡ true
left_read_out None n = refl
left_read_out (Some []) n = refl
left_read_out (Some (b ∷ bytes)) n = absurd (cc)

no_texts : (xs : List TxOp) → texts_of (xs ++ tx_op.Stop ∷ []) ≡ texts_of xs
no_texts [] = refl
no_texts (tx_op.Push sga ∷ xs) = ap (λ (l : List (List ℕ)). array_bytes sga ∷ l) (no_texts xs)
no_texts (tx_op.Close ∷ xs) = no_texts xs
no_texts (tx_op.Stop ∷ xs) = no_texts xs

same_length : {A : Type 0} (all first : List A) → StartsWith all first → StartsWith first all → first ≡ all
same_length all first a b =
    let k = ap length a.1 in
    let m = length-append first a.0 in
    let n = ap length b.1 in
    let o = length-append all b.0 in
    sym (a.1 ∙ ap (λ l. first ++ l) (empty a.0 (omega arith)) ∙ append-nil first)
  where
    empty : {B : Type 0} (xs : List B) → length xs ≡ 0 → xs ≡ []
    empty [] e = refl
    empty (x ∷ xs) e = absurd (omega (arith, e))

-- the bytes of outcomes are the pieces that they told
pub pieces_are : (f : List (ℕ × RxOut)) → pieces_in (trail rx.told f) ≡ all_bytes f
pieces_are [] = refl
pieces_are (o ∷ os) = go (pieces_are os) o.1
  where
    go : pieces_in (trail rx.told os) ≡ all_bytes os → (x : RxOut) → pieces_in (told_there o.0 (rx.told x) ++ trail rx.told os) ≡ bytes_of x ++ all_bytes os
    go rest (out.Piece v) = ap (λ (l : List ℕ). v.bytes ++ l) rest
    go rest out.End = rest
    go rest (out.Fault k) = rest
    go rest (out.Broken q) = rest
    go rest out.NoSlot = rest
    go rest (out.Stopped s) = rest
    go rest out.Halted = rest

module _ {I O : Type 0} (taken : I → ℕ) (left : I → Option (List ℕ)) (read_faults : I → ℕ) (reads : I → ℕ → Option (List ℕ) → I → Type 0) (written : O → Option (List ℕ)) (write_faults : O → ℕ)
    (ports : ℕ) (s : Sight) (d : DeskValue) (c : Cause) (served : WasServed ports s d c)
    (rx_old rx_new : RxValue I) (tx_old tx_new : TxValue O) (p : PortsClosed taken left read_faults reads written write_faults s rx_old rx_new tx_old tx_new) where
  pub own_pop : (i max : ℕ) → slice_get p.rx_end.heard i ≡ Some (rx_op.Pop max) → Among i (places s.rx.submitted)
  own_pop i max at = submitted_before p.rx_id p.rx_seat p.rx_passes p.rx_end p.rx_closed.ends s.number p.rx_only p.rx_pass p.rx_mine.1 p.rx_mine.0 rx_op.Stop s.rx p.rx_added i (rx_op.Pop max) at (λ e. absurd (cc))

  pub rx_knew : Behind (known_at p.rx_end) s.rx.known
  rx_knew = knew_before p.rx_id p.rx_seat p.rx_passes p.rx_end p.rx_closed.ends s.number p.rx_only p.rx_pass p.rx_mine.1 p.rx_mine.0 rx_op.Stop s.rx p.rx_added

  pub own_push : (i : ℕ) (sga : List HalfValue) → slice_get p.tx_end.heard i ≡ Some (tx_op.Push sga) → Among i (places s.tx.submitted)
  own_push i sga at = submitted_before p.tx_id p.tx_seat p.tx_passes p.tx_end p.tx_closed.ends s.number p.tx_only p.tx_pass p.tx_mine.1 p.tx_mine.0 tx_op.Stop s.tx p.tx_added i (tx_op.Push sga) at (λ e. absurd (cc))

  pub tx_knew : Behind (known_at p.tx_end) s.tx.known
  tx_knew = knew_before p.tx_id p.tx_seat p.tx_passes p.tx_end p.tx_closed.ends s.number p.tx_only p.tx_pass p.tx_mine.1 p.tx_mine.0 tx_op.Stop s.tx p.tx_added

  -- the engine was served what the history says, and told what the end has
  rx_heard : p.rx_end.heard ≡ rx_new.served
  rx_heard = p.rx_closed.ends.heard ∙ sym p.rx_closed.ends.grounded ∙ p.rx_closed.all

  rx_trail : p.rx_end.trail ≡ trail rx.told rx_new.finished
  rx_trail = p.rx_closed.ends.trail ∙ p.rx_closed.agrees.tells

  tx_heard : p.tx_end.heard ≡ tx_new.served
  tx_heard = p.tx_closed.ends.heard ∙ sym p.tx_closed.ends.grounded ∙ p.tx_closed.all

  tx_trail : p.tx_end.trail ≡ trail tx.told tx_new.finished
  tx_trail = p.tx_closed.ends.trail ∙ p.tx_closed.agrees.tells

  kept : Keeps s d
  kept = keeps_of ports s d c served

  texts : texts_of tx_new.served ≡ map spelling d.talk.kept.replies
  texts =
      ap texts_of (sym tx_heard ∙ heard_is p.tx_id p.tx_seat p.tx_passes p.tx_end p.tx_closed.ends s.number p.tx_only p.tx_pass p.tx_mine.1 p.tx_mine.0 tx_op.Stop s.tx p.tx_added)
      ∙ no_texts (ops_of s.tx.submitted) ∙ kept.writes.texts

  module _ (popped : Popped p.rx_end.heard p.rx_end.trail d.talk.outs) (before : WroteBefore p.tx_end.heard p.tx_end.trail) (all : IsDone c → WroteAll p.tx_end.heard p.tx_end.trail)
      (receives : RxEnd rx_new.served rx_new.finished) (sends : TxEnd tx_new.served tx_new.finished)
      (read_is : Popped rx_new.served (trail rx.told rx_new.finished) d.talk.outs → all_bytes d.talk.outs ≡ pieces_in (trail rx.told rx_new.finished))
      (took : left rx_old.source ≡ prepend_known (pieces_in (trail rx.told rx_new.finished)) (left rx_new.source))
      (wrote : written tx_new.sink ≡ append_known (written tx_old.sink) (all_written tx_new.served tx_new.finished))
      (pieces : pieces_in (trail rx.told rx_new.finished) ≡ all_bytes rx_new.finished)
      (asks : StartsWith (asked (all_bytes d.talk.outs) true) d.talk.kept.drawn)
      (so_far : (LastCame IsEnd d.talk.outs → ⊥) → StartsWith (asked (all_bytes d.talk.outs) false) d.talk.kept.drawn)
      (whole : IsDone c → (asked (all_bytes d.talk.outs) true ≡ d.talk.kept.drawn) × (length d.talk.kept.replies ≡ length d.talk.kept.drawn))
      (on : StartsWith (asked (all_bytes d.talk.outs) true) (asked (all_bytes d.talk.outs) false)) where
    popped_there : Popped rx_new.served (trail rx.told rx_new.finished) d.talk.outs
    popped_there = subst (λ (h : List RxOp). Popped h (trail rx.told rx_new.finished) d.talk.outs) rx_heard (subst (λ (t : List (ℕ × RxTold)). Popped p.rx_end.heard t d.talk.outs) rx_trail popped)

    abbrev pub read : List ℕ
    read = pieces_in (trail rx.told rx_new.finished)

    same_read : all_bytes d.talk.outs ≡ read
    same_read = read_is popped_there

    abbrev pub ended : Bool
    ended = is_read_out (left rx_new.source)

    no_more : {X : Type 0} (old new added : List X) → old ≡ [] → new ≡ old ++ added → new ≡ added
    no_more old new added none e = e ∙ ap (λ l. l ++ added) none

    -- an end that the link heard was one of the source's
    none_left : LastCame IsEnd d.talk.outs → NoneLeft (left rx_new.source)
    none_left came =
        let admitted = last_of d.talk.outs came.before came.last came.all popped_there.admitted in
        let has = end_told rx_new.served rx_new.finished came.last.0 came.last.1 came.is admitted in
        p.rx_closed.goes.ended (subst HasEnd (no_more rx_old.finished rx_new.finished p.rx_closed.goes.added p.rx_closed.unfinished p.rx_closed.goes.finished) has)
      where
        last_in : {X : Type 0} (P : X → Type 0) (xs : List X) (x : X) → Each P (xs ++ x ∷ []) → P x
        last_in P [] x h = h.0
        last_in P (y ∷ xs) x h = last_in P xs x h.1

        last_of : (outs before : List (ℕ × RxOut)) (last : ℕ × RxOut) → outs ≡ before ++ last ∷ [] → Each (λ (o : ℕ × RxOut). RxAdmits rx_new.served (trail rx.told rx_new.finished) o.0 o.1) outs
            → RxAdmits rx_new.served (trail rx.told rx_new.finished) last.0 last.1
        last_of outs before last e h = last_in (λ (o : ℕ × RxOut). RxAdmits rx_new.served (trail rx.told rx_new.finished) o.0 o.1) before last (subst (Each (λ (o : ℕ × RxOut). RxAdmits rx_new.served (trail rx.told rx_new.finished) o.0 o.1)) e h)

    asks_at : (b : Bool) → is_read_out (left rx_new.source) ≡ b → StartsWith (asked (all_bytes d.talk.outs) b) d.talk.kept.drawn
    asks_at true e = asks
    asks_at false e = so_far (λ came. absurd (let n : is_read_out (left rx_new.source) ≡ true = left_read_out (left rx_new.source) (none_left came) in let both : true ≡ false = sym n ∙ e in cc))

    same_at : (b : Bool) → is_read_out (left rx_new.source) ≡ b → IsDone c → asked (all_bytes d.talk.outs) b ≡ d.talk.kept.drawn
    same_at true e done = (whole done).0
    same_at false e done =
        let front = asks_at false e in
        let back : StartsWith d.talk.kept.drawn (asked (all_bytes d.talk.outs) false) = subst (λ (l : List Asked). StartsWith l (asked (all_bytes d.talk.outs) false)) (whole done).0 on in
        sym (same_length (asked (all_bytes d.talk.outs) false) d.talk.kept.drawn front back)

    abbrev pub run : LinkRun
    run = record { read = read; written = all_written tx_new.served tx_new.finished; ended = ended }

    abbrev pub talk : Talk
    talk = record { asks = asked read ended; replies = d.talk.kept.replies }

    asked_same : asked read ended ≡ asked (all_bytes d.talk.outs) ended
    asked_same = ap (λ (l : List ℕ). asked l ended) (sym same_read)

    pub moved : LinkMoved taken left read_faults written write_faults (rx_old.source, tx_old.sink) (rx_new.source, tx_new.sink) run
    moved = record {
      taken_is =
          let n = p.rx_closed.goes.taken_is in
          let f = ap (λ (l : List (ℕ × RxOut)). length (all_bytes l)) (no_more rx_old.finished rx_new.finished p.rx_closed.goes.added p.rx_closed.unfinished p.rx_closed.goes.finished) in
          let g = ap length pieces in
          omega (arith, n, f, g);
      left_is = took;
      written_is = wrote;
      ended_is = record { none = read_out_left (left rx_new.source); all = λ n le. left_read_out (left rx_new.source) n };
      read_faults_on = p.rx_closed.goes.later;
      write_faults_on = p.tx_closed.goes.later;
    }

    pub result : LinkResult c d run (ports_of rx_new tx_new) talk
    result = record {
      ended = record {
        accounted = record { read = refl; pushed = texts; written = refl };
        receives = receives;
        sends = sends;
        asks = refl;
        fits = kept.fits;
        before = subst (λ (h : List TxOp). WroteBefore h (trail tx.told tx_new.finished)) tx_heard (subst (λ (t : List (ℕ × ℕ)). WroteBefore p.tx_end.heard t) tx_trail before);
      };
      replies = refl;
      asks = subst (λ (l : List Asked). StartsWith l d.talk.kept.drawn) (sym asked_same) (asks_at ended refl);
      all = λ done. (
        asked_same ∙ same_at ended refl done,
        (whole done).1 ∙ ap length (sym (same_at ended refl done)) ∙ ap length (sym asked_same),
        subst (λ (h : List TxOp). WroteAll h (trail tx.told tx_new.finished)) tx_heard (subst (λ (t : List (ℕ × ℕ)). WroteAll p.tx_end.heard t) tx_trail (all done)),
      );
      to_end = λ done. record {
        requests = d.talk.handed;
        parses = subst (λ (l : List ℕ). Parses d.talk.handed (ending_of c) ended l) same_read
            (ends_at ports s d ended (λ came. left_read_out (left rx_new.source) (none_left came)) c (over_of ports s d c served done) done);
      };
    }

    pub closed_link : (l : LinkRun) × (t : Talk) × LinkMoved taken left read_faults written write_faults (rx_old.source, tx_old.sink) (rx_new.source, tx_new.sink) l × LinkResult c d l (ports_of rx_new tx_new) t
    closed_link = (run, talk, moved, result)
