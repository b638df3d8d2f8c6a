use Rattle.std.proofs.Common.{◌≡◌, ◌+◌, ◌≤◌, List, [], ◌∷◌, length, arith, ◌∙◌, ap, true, inl, inr, refl}
use Rattle.std.specs.Prelude.{flat_map}
use Rattle.demi_port.specs.Seen.{known_at}
use Rattle.demi_spec.specs.Reply.{Reply, spelling}
use Rattle.demi_spec.specs.Store.{serial}
use Rattle.demi_served.specs.Served.{WholeTalk}
use Rattle.demi_link.specs.Ends.{IsDone}
use Rattle.demi_closed.specs.OnlyLink.{run_of}
use Rattle.demi_closed.proofs.OnlyCloses.{all_taken, asked_all, ends_all, last, one_more}
use Rattle.demi_closed.proofs.closing.a_session_of_one_link_closes.Goals as goal

pub returns : goal.returns
returns f = λ ports s now d c pass id seat end l e t records w went one number added ends alone r left.
    let k = d.talk.kept in
    let me = last now d one pass added in
    let all = ends_all ports s now d c w went one pass number added id seat end ends alone l e t r records left f.a_worker_keeps.ensures.handed f.a_worker_keeps.ensures.stopped f.a_link_keeps.ensures.beside f.a_closed_port_has_its_workers.ensures.closed in
    let run = run_of now.base l records in
    let asked = asked_all ports s now d c w went one pass number added id seat end ends alone l e t r records left f.a_worker_keeps.ensures.handed f.a_worker_keeps.ensures.stopped f.a_link_keeps.ensures.beside f.a_closed_port_has_its_workers.ensures.closed
    f.an_only_link_is_served_in_order.ensures.stopped f.an_only_link_is_served_in_order.ensures.handed_again in
    let torn = f.a_link_reads_and_writes.ensures.talk l e t r.ended in
    let replies : now.base.told ≡ true → _ = λ told. f.an_only_link_is_served_in_order.ensures.replies now.base (known_at end) end.history me k run t all told asked in
    let few : length k.drawn ≤ length t.replies + 1 = (let m = one_more ports s d c w in let n = ap length r.replies in omega arith) in
    let more : now.base.told ≡ true → _ = λ told. f.an_only_link_is_served_in_order.ensures.more now.base (known_at end) end.history me k run t all told asked few in
    let whole_talk : IsDone c → WholeTalk l t = λ done. f.a_link_reads_and_writes.ensures.whole_talk l e t r.ended (r.all done).2 (r.all done).1 in (
      record {
        talk = t;
        accounted = f.a_closed_session_is_accounted.ensures.accounted now.base (known_at end) end.history (me ∷ []) (k ∷ []) run (t ∷ []) all;
        link = r.ended;
        served = λ told. f.a_closed_session_is_served.ensures.served now.base (known_at end) end.history (me ∷ []) (k ∷ []) run (t ∷ []) told all (torn, tt);
        whole = λ told done. f.a_session_without_fault_is_whole.ensures.whole now.base (known_at end) end.history (me ∷ []) (k ∷ []) run (t ∷ []) all told
            ((let x = ap length (r.all done).0 in let y = (r.all done).1 in let z = ap length r.replies in omega arith), tt) (whole_talk done, tt);
        replies = replies;
        output = λ told. f.an_only_link_is_served_in_order.ensures.output l.written t.replies (serial now.base.records now.base.limit t.asks).replies torn.written (replies told);
        all = λ done. (r.all done).1;
        all_output = λ told done. (whole_talk done).written ∙ ap (λ (x : List Reply). flat_map spelling x) (f.an_only_link_is_served_in_order.ensures.all now.base (known_at end) end.history me k run t all told asked (r.all done).1);
        records_are = more;
        all_records = λ told done. (let n = (r.all done).1 in elim (more told) [
          | inl x ↦ all_taken (length t.replies) now.base.records _ now.base.limit t.asks (omega arith) x
          | inr x ↦ all_taken (length t.replies + 1) now.base.records _ now.base.limit t.asks (omega arith) x
        ]);
      },
      refl,
    )
