use Rattle.std.proofs.Common.{◌∙◌, ap}
use Rattle.demi_server.proofs.Sessions.{log_unmade, none_as, session_ran, session_read, some_as}
use Rattle.demi_server.proofs.whole.session.Goals as goal

pub returns-in-Ok-open-clause-unmade : goal.returns-in-Ok-open-clause-unmade
returns-in-Ok-open-clause-unmade g c =
    let d = g.D.Disk in
    let e = c.serve_opened.result in
    let parts = c.in-Ok-open.ensures.parts in
    none_as e.ends (λ u. (
      u.0 ∙ ap (λ l. l.items) parts.0,
      log_unmade d.bytes d.held d.faults c.args.log c.in-Ok.store.core.log.disk e.log e.outcome c.in-Ok.ensures.stands (u.2 ∙ ap (λ s. s.core.log.disk) parts.1) u.1,
    )) c.serve_opened.ensures.unmade

pub returns-in-Ok-open-clause-made : goal.returns-in-Ok-open-clause-made
returns-in-Ok-open-clause-made g c =
    let d = g.D.Disk in
    let e = c.serve_opened.result in
    let parts = c.in-Ok-open.ensures.parts in
    some_as e.ends (λ x came. session_ran g.I.Source.taken g.I.Source.left g.I.Source.faults g.I.Source.reads g.O.Sink.written g.O.Sink.faults d.bytes d.held d.faults
    c.args.plan.limit c.args.links.items c.in-Ok-open.opened.parts.links.items e.links.items c.args.log e.log e.outcome x.service x.rx.items x.tx.items c.in-Ok.store c.in-Ok-open.opened.parts.store
    parts.1 (ap (λ l. l.items) parts.0) c.in-Ok.ensures.base c.in-Ok.ensures.had came c.in-Ok.ensures.stands c.in-Ok.ensures.later) c.serve_opened.ensures.made

pub returns-in-Ok-open-clause-reads : goal.returns-in-Ok-open-clause-reads
returns-in-Ok-open-clause-reads g c =
    let d = g.D.Disk in
    let e = c.serve_opened.result in
    let parts = c.in-Ok-open.ensures.parts in
    some_as e.ends (λ x came. session_read g.I.Source.taken g.I.Source.left g.I.Source.faults g.I.Source.reads g.O.Sink.written g.O.Sink.faults d.bytes d.held d.faults
    c.args.plan.limit c.args.links.items c.in-Ok-open.opened.parts.links.items e.links.items c.args.log e.log e.outcome x.service x.rx.items x.tx.items c.in-Ok.store c.in-Ok-open.opened.parts.store
    parts.1 (ap (λ l. l.items) parts.0) c.in-Ok.ensures.base c.in-Ok.ensures.had came) c.serve_opened.ensures.made

pub returns-in-Err-open-clause-unmade : goal.returns-in-Err-open-clause-unmade
returns-in-Err-open-clause-unmade g c =
    let d = g.D.Disk in
    let e = c.not_made.result in
    let n = c.not_made.ensures in
    let back = c.in-Err-open.ensures.back in
    none_as e.ends (λ u. (
      ap (λ l. l.items) n.links ∙ ap (λ l. l.items) back.0,
      log_unmade d.bytes d.held d.faults c.args.log c.in-Ok.store.core.log.disk e.log e.outcome c.in-Ok.ensures.stands (n.log ∙ ap (λ s. s.core.log.disk) back.1) n.outcome,
    )) n.none.0
