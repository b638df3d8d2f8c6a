use Rattle.std.proofs.Common.{◌≤◌, length, ap, sym, ◌∙◌, arith, refl}
use Rattle.std.specs.Prelude.{option_map}
use Rattle.demi_port_core.specs.declared.place.Place.{Place}
use Rattle.demi_logq.proofs.Saying.{payloads_count, bad_seek, sought}
use Rattle.demi_logq.proofs.queue.Queue.seek.Goals as goal

pub returns-then-index-count-clause-answered : goal.returns-then-index-count-clause-answered
returns-then-index-count-clause-answered g c =
    let r = c.requires.shows in let b = c.args.base.now.value in let s = c.args.stands.now.value in
    let n = payloads_count _ _ s.payloads (r.whole c.requires.calm.1).holds in let count = c.count.ensures.count in let over = c.if-index-count.true in
    bad_seek b.told b.heap b.limit c.args.place.0 s _ (sym r.stop_is ∙ ap (option_map (λ (p : Place). p.0)) c.requires.calm.0) (sym r.fault_is ∙ ap (option_map (λ (p : Place). p.0)) c.requires.calm.1)
    c.args.index (omega arith) r

pub returns-clause-answered : goal.returns-clause-answered
returns-clause-answered g c =
    let r = c.requires.shows in let b = c.args.base.now.value in let s = c.args.stands.now.value in
    let n = payloads_count _ _ s.payloads (r.whole c.requires.calm.1).holds in let count = c.count.ensures.count in let within = c.if-index-count.false in
    let few : c.args.index ≤ length s.payloads = omega arith in
    sought b.told b.heap b.limit c.args.place.0 s _ (sym r.stop_is ∙ ap (option_map (λ (p : Place). p.0)) c.requires.calm.0) (sym r.fault_is ∙ ap (option_map (λ (p : Place). p.0)) c.requires.calm.1)
    c.args.index few
    (record {
      limit = r.limit;
      staged = r.staged;
      pass_is = r.pass_is;
      heap_is = r.heap_is;
      cursor_is = refl;
      fault_is = r.fault_is;
      stop_is = r.stop_is;
      within = few;
      whole = λ e. let w = r.whole e in record { torn = w.torn; lost = w.lost; told_is = w.told_is; holds = w.holds };
    })
