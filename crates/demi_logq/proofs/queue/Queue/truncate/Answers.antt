use Rattle.std.proofs.Common.{◌≡◌, ℕ, ◌≤◌, length, take, min, ap, sym, ◌∙◌, subst, arith, refl}
use Rattle.std.specs.Prelude.{Result, Err, option_map}
use Rattle.demi_port_core.specs.declared.place.Place.{Place}
use Rattle.demi_logq.specs.Logged.{Logged, place_of}
use Rattle.std.proofs.lemmas.List.{length-take-le}
use Rattle.demi_logq.specs.Calls.{Shortened}
use Rattle.demi_logq.specs.declared.refusal.LogRefusal.{LogRefusal}
use Rattle.demi_logq.proofs.Saying.{payloads_count, bad_cut, cut_failed, was_cut, tells_map}
use Rattle.demi_logq.proofs.queue.Queue.truncate.Goals as goal

pub returns-then-keep-count-clause-answered : goal.returns-then-keep-count-clause-answered
returns-then-keep-count-clause-answered g c =
    let r = c.requires.shows in let b = c.args.base.now.value in let s = c.args.stands.now.value in
    let n = payloads_count _ _ s.payloads (r.whole c.requires.calm.1).holds in let count = c.count.ensures.count in let over = c.if-keep-count.true in
    bad_cut b.told b.heap b.limit c.args.place.0 s _ (sym r.stop_is ∙ ap (option_map (λ (p : Place). p.0)) c.requires.calm.0) (sym r.fault_is ∙ ap (option_map (λ (p : Place). p.0)) c.requires.calm.1)
    c.args.keep (omega arith) r

pub returns-in-Ok-clause-answered : goal.returns-in-Ok-clause-answered
returns-in-Ok-clause-answered g c =
    let r = c.requires.shows in let b = c.args.base.now.value in let s = c.args.stands.now.value in
    let w = r.whole c.requires.calm.1 in let d = c.in-Ok.ensures.done in
    let n = payloads_count _ _ s.payloads w.holds in let count = c.count.ensures.count in let within = c.if-keep-count.false in
    let few : c.args.keep ≤ length s.payloads = omega arith in
    let cursor : c.min-self.result ≡ min s.cursor c.args.keep = c.min-self.ensures ∙ ap (λ (k : ℕ). min k c.args.keep) r.cursor_is in
    was_cut b.told b.heap b.limit c.args.place.0 s _ (sym r.stop_is ∙ ap (option_map (λ (p : Place). p.0)) c.requires.calm.0) (sym r.fault_is ∙ ap (option_map (λ (p : Place). p.0)) c.requires.calm.1)
    c.args.keep few
    (record {
      limit = ap (λ (l : Logged g.row.D.Denot). l.limit) d.now ∙ r.limit;
      staged = ap (λ (l : Logged g.row.D.Denot). l.staged) d.now ∙ r.staged;
      pass_is = r.pass_is;
      heap_is = r.heap_is;
      cursor_is = cursor;
      fault_is = r.fault_is;
      stop_is = r.stop_is;
      within = (let k = length-take-le c.args.keep s.payloads few in omega arith);
      whole = λ e. record {
        torn = ap (λ (l : Logged g.row.D.Denot). l.torn) d.now ∙ w.torn;
        lost = ap (λ (l : Logged g.row.D.Denot). l.lost) d.now ∙ w.lost;
        told_is = w.told_is ∙ sym (tells_map (take (place_of c.args.self.now.log.ends c.args.keep)) _ _ d.disk.bytes);
        holds = d.holds s.payloads w.holds;
      };
    })

pub returns-in-Err-Failed-clause-answered : goal.returns-in-Err-Failed-clause-answered
returns-in-Err-Failed-clause-answered g c =
    let r = c.requires.shows in let b = c.args.base.now.value in let s = c.args.stands.now.value in
    let w = r.whole c.requires.calm.1 in let d = subst (λ (o : Result (Unit {0}) LogRefusal). Shortened g.D.Disk.bytes g.D.Disk.held g.D.Disk.faults g.D.Disk.cuts c.args.self.now.log c.keep.new.self c.args.keep o) (c.in-Err-Failed.is ∙ ap Err c.in-Err-Failed.field-0-is) c.keep.ensures.done in
    let n = payloads_count _ _ s.payloads w.holds in let count = c.count.ensures.count in let within = c.if-keep-count.false in
    cut_failed b.told b.heap b.limit c.args.place.0 s _ (sym r.stop_is ∙ ap (option_map (λ (p : Place). p.0)) c.requires.calm.0) (sym r.fault_is ∙ ap (option_map (λ (p : Place). p.0)) c.requires.calm.1)
    c.args.keep (omega arith)
    (record {
      limit = ap (λ (l : Logged g.row.D.Denot). l.limit) d.now ∙ r.limit;
      staged = ap (λ (l : Logged g.row.D.Denot). l.staged) d.now ∙ r.staged;
      pass_is = r.pass_is;
      heap_is = r.heap_is;
      cursor_is = r.cursor_is;
      fault_is = refl;
      stop_is = r.stop_is;
      within = r.within;
      whole = λ e. absurd (cc);
    })
