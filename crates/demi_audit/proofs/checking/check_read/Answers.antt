use Rattle.std.proofs.Common.{None, length, arith, ap, sym, ◌∙◌}
use Rattle.std.proofs.lemmas.List.{length-map}
use Rattle.demi_audit.specs.Reading.{link_by}
use Rattle.demi_audit.proofs.Checks.{has_fault, links_are, log_cut, said_count, same_follows, same_heard, says_refuses}
use Rattle.demi_audit.proofs.checking.check_read.Goals as goal

pub judge-requires-clause-case : goal.judge-requires-clause-case
judge-requires-clause-case c =
    let r = c.requires in
    let t = c.args.read in
    (r.0, c.in_ok-case.ensures.case r.0 (log_cut c.args.text.now t.ends.items r.0.records t.log_size r.2.log) r.2.old r.2.limit, r.2.old_fits)

pub returns-in-Ok-clause-consistent : goal.returns-in-Ok-clause-consistent
returns-in-Ok-clause-consistent c =
    let r = c.requires in
    let t = c.args.read in
    let text = c.args.text.now in
    let h = c.in_ok-heard.ensures.heard in
    let e = c.in_ok-case.ensures in
    let of = links_are text r.0 t.links.items c.deref.result.now h.0 r.2.links c.deref.ensures.value h.1 in
    let judged = same_heard text c.in_ok-case.case.text.now c.deref.result.now c.deref-2.result.now h.0 e.text (c.deref-2.ensures.value ∙ e.links ∙ sym c.deref.ensures.value) h.1 in
    let follows = same_follows text c.in_ok-case.case.text.now _ c.in_ok-case.case.heard.items _ c.deref-3.result.now h.0 e.text e.heard c.deref-3.ensures.value h.2 in
    let case = e.case r.0 (log_cut text t.ends.items r.0.records t.log_size r.2.log) r.2.old r.2.limit in
    has_fault text r.0 h.0 None r.1 of (c.in-Ok.ensures r.0 h.0 case judged follows)

pub returns-clause-refused : goal.returns-clause-refused
returns-clause-refused c =
    let r = c.requires in
    let t = c.args.read in
    let text = c.args.text.now in
    let h = c.in_ok-heard.ensures.heard in
    let e = c.in_ok-case.ensures in
    let of = links_are text r.0 t.links.items c.deref.result.now h.0 r.2.links c.deref.ensures.value h.1 in
    let judged = same_heard text c.in_ok-case.case.text.now c.deref.result.now c.deref-2.result.now h.0 e.text (c.deref-2.ensures.value ∙ e.links ∙ sym c.deref.ensures.value) h.1 in
    let follows = same_follows text c.in_ok-case.case.text.now _ c.in_ok-case.case.heard.items _ c.deref-3.result.now h.0 e.text e.heard c.deref-3.ensures.value h.2 in
    let case = e.case r.0 (log_cut text t.ends.items r.0.records t.log_size r.2.log) r.2.old r.2.limit in
    says_refuses text r.0 h.0 c.in-Err.refusal r.1 of (c.in-Err.ensures r.0 h.0 case judged follows)

pub returns-in-Ok-clause-counts : goal.returns-in-Ok-clause-counts
returns-in-Ok-clause-counts c =
    let r = c.requires in
    let t = c.args.read in
    let text = c.args.text.now in
    let h = c.in_ok-heard.ensures.heard in
    let e = c.in_ok-case.ensures in
    let of = links_are text r.0 t.links.items c.deref.result.now h.0 r.2.links c.deref.ensures.value h.1 in
    let case = e.case r.0 (log_cut text t.ends.items r.0.records t.log_size r.2.log) r.2.old r.2.limit in
    record {
      run = r.0;
      read = r.1;
      heard = h.0;
      of = of;
      links_are = omega (arith, c.len.ensures, c.in_ok-case.places.ok, ap length e.links, ap length r.2.links, length-map t.links.items (link_by text));
      replies_are = omega (arith, c.len-in-Ok.ensures, c.in_ok-case.case.heard.ok, ap length e.heard, said_count text _ _ h.0 h.2);
      records_are = c.count.ensures r.0 case.book;
    }
