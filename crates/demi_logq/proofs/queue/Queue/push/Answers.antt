use Rattle.std.proofs.Common.{◌≡◌, ℕ, List, [], ◌∷◌, ap, sym, ◌∙◌, subst, arith, refl, length-append}
use Rattle.std.proofs.Common.{inl, inr}
use Rattle.std.specs.Prelude.{Result, Err, option_map}
use Rattle.demi_heap.specs.Seen.{PassValue}
use Rattle.demi_port_core.specs.declared.place.Place.{Place}
use Rattle.demi_spec.specs.LogText.{entry}
use Rattle.demi_logq.specs.Logged.{Logged}
use Rattle.demi_logq.specs.Folding.{bytes_of}
use Rattle.demi_logq.specs.Calls.{Committed}
use Rattle.demi_logq.specs.Queues.{Shows}
use Rattle.demi_logq.specs.declared.refusal.LogRefusal.{LogRefusal}
use Rattle.demi_logq.proofs.Pieces.{count_is}
use Rattle.demi_logq.proofs.Saying.{payloads_count, is_full, push_failed, pushed_many, pushed_none, tells_append, was_appended}
use Rattle.demi_logq.proofs.queue.Queue.push.Goals as goal

pub returns-then-size-eq0-clause-answered : goal.returns-then-size-eq0-clause-answered
returns-then-size-eq0-clause-answered g c =
    let r = c.requires.shows in let b = c.args.base.now.value in let s = c.args.stands.now.value in
    let k = count_is c.args.sga in let len = c.len-size.ensures.bytes in
    let calm = sym r.stop_is ∙ ap (option_map (λ (p : Place). p.0)) c.requires.calm.0 in let whole = sym r.fault_is ∙ ap (option_map (λ (p : Place). p.0)) c.requires.calm.1 in
    let show : Shows (g.D.Disk.bytes c.args.self.now.log.disk) c.args.self.now.log c.args.self.now.heap.now c.release.new.pass b s c.args.self.now.cursor c.args.self.now.fault c.args.self.now.stop = record {
      limit = r.limit;
      staged = r.staged;
      pass_is = ap (λ (p : PassValue). p.heap) c.release.ensures ∙ r.pass_is;
      heap_is = r.heap_is;
      cursor_is = r.cursor_is;
      fault_is = r.fault_is;
      stop_is = r.stop_is;
      within = r.within;
      whole = r.whole;
    } in
    elim c.then-size-eq0.either [
      | inl none ↦ pushed_none b.told b.heap b.limit c.args.place.0 s _ calm whole c.args.sga (omega arith) show
      | inr many ↦ let over = many.1 in pushed_many b.told b.heap b.limit c.args.place.0 s _ calm whole c.args.sga (omega arith) show
    ]

pub returns-in-Ok-clause-answered : goal.returns-in-Ok-clause-answered
returns-in-Ok-clause-answered g c =
    let r = c.requires.shows in let b = c.args.base.now.value in let s = c.args.stands.now.value in
    let w = r.whole c.requires.calm.1 in let d = c.in-Ok.ensures.done in
    let n = payloads_count _ _ s.payloads w.holds in let k = count_is c.args.sga in let len = c.len-size.ensures.bytes in let limit = r.limit in let room = d.room in let at = d.index_is in let within = r.within in
    let freed = ap (λ (p : PassValue). p.heap) c.release-2.ensures in let long = length-append s.payloads (bytes_of c.args.sga ∷ []) in
    let h = d.holds s.payloads w.holds in
    was_appended b.told b.heap b.limit c.args.place.0 s _ (sym r.stop_is ∙ ap (option_map (λ (p : Place). p.0)) c.requires.calm.0) (sym r.fault_is ∙ ap (option_map (λ (p : Place). p.0)) c.requires.calm.1)
    c.args.sga (omega arith) (omega arith) c.in-Ok.index (omega arith) (omega arith)
    (record {
      limit = ap (λ (l : Logged g.row.D.Denot). l.limit) d.now ∙ r.limit;
      staged = ap (λ (l : Logged g.row.D.Denot). l.staged) d.now;
      pass_is = freed ∙ r.pass_is;
      heap_is = r.heap_is;
      cursor_is = r.cursor_is;
      fault_is = r.fault_is;
      stop_is = r.stop_is;
      within = omega arith;
      whole = λ e. record {
        torn = ap (λ (l : Logged g.row.D.Denot). l.torn) d.now ∙ w.torn;
        lost = ap (λ (l : Logged g.row.D.Denot). l.lost) d.now ∙ w.lost;
        told_is = w.told_is ∙ sym (tells_append (entry (bytes_of c.args.sga)) _ _ d.bytes_are);
        holds = h;
      };
    })

pub returns-in-Err-Full-clause-answered : goal.returns-in-Err-Full-clause-answered
returns-in-Err-Full-clause-answered g c =
    let r = c.requires.shows in let b = c.args.base.now.value in let s = c.args.stands.now.value in
    let w = r.whole c.requires.calm.1 in
    let n = payloads_count _ _ s.payloads w.holds in let k = count_is c.args.sga in let len = c.len-size.ensures.bytes in let limit = r.limit in
    let d = subst (λ (o : Result ℕ LogRefusal). Committed g.D.Disk.bytes g.D.Disk.held g.D.Disk.faults g.D.Disk.appends (record (c.args.self.now.log) { staged = bytes_of c.args.sga }) c.append_array-appended.new.log o) (c.in-Err-Full.is ∙ ap Err (rw c.in-Err-Full.is at c.in-Err-Full.field-0-is)) c.append_array-appended.ensures.done in
    let most = d.1 in
    let same : c.append_array-appended.new.log ≡ c.args.self.now.log = d.2 ∙ ap (λ (l : List ℕ). record (c.args.self.now.log) { staged = l }) (sym r.staged) in
    is_full b.told b.heap b.limit c.args.place.0 s _ (sym r.stop_is ∙ ap (option_map (λ (p : Place). p.0)) c.requires.calm.0) (sym r.fault_is ∙ ap (option_map (λ (p : Place). p.0)) c.requires.calm.1)
    c.args.sga (omega arith) (omega arith) (omega arith)
    (subst (λ (l : Logged g.row.D.Denot). Shows (g.D.Disk.bytes l.disk) l c.args.self.now.heap.now c.release-2.new.pass b s c.args.self.now.cursor c.args.self.now.fault c.args.self.now.stop) (sym same) (record {
      limit = r.limit;
      staged = r.staged;
      pass_is = ap (λ (p : PassValue). p.heap) c.release-2.ensures ∙ r.pass_is;
      heap_is = r.heap_is;
      cursor_is = r.cursor_is;
      fault_is = r.fault_is;
      stop_is = r.stop_is;
      within = r.within;
      whole = r.whole;
    }))

pub returns-in-Err-Failed-clause-answered : goal.returns-in-Err-Failed-clause-answered
returns-in-Err-Failed-clause-answered g c =
    let r = c.requires.shows in let b = c.args.base.now.value in let s = c.args.stands.now.value in
    let w = r.whole c.requires.calm.1 in
    let n = payloads_count _ _ s.payloads w.holds in let k = count_is c.args.sga in let len = c.len-size.ensures.bytes in let limit = r.limit in
    let d = subst (λ (o : Result ℕ LogRefusal). Committed g.D.Disk.bytes g.D.Disk.held g.D.Disk.faults g.D.Disk.appends (record (c.args.self.now.log) { staged = bytes_of c.args.sga }) c.append_array-appended.new.log o) (c.in-Err-Failed.is ∙ ap Err (rw c.in-Err-Failed.is at c.in-Err-Failed.field-0-is)) c.append_array-appended.ensures.done in
    let room = d.room in
    push_failed b.told b.heap b.limit c.args.place.0 s _ (sym r.stop_is ∙ ap (option_map (λ (p : Place). p.0)) c.requires.calm.0) (sym r.fault_is ∙ ap (option_map (λ (p : Place). p.0)) c.requires.calm.1)
    c.args.sga (omega arith) (omega arith) (omega arith)
    (record {
      limit = ap (λ (l : Logged g.row.D.Denot). l.limit) d.now ∙ r.limit;
      staged = ap (λ (l : Logged g.row.D.Denot). l.staged) d.now;
      pass_is = ap (λ (p : PassValue). p.heap) c.release-2.ensures ∙ r.pass_is;
      heap_is = r.heap_is;
      cursor_is = r.cursor_is;
      fault_is = refl;
      stop_is = r.stop_is;
      within = r.within;
      whole = λ e. absurd (cc);
    })
