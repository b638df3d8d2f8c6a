use Rattle.std.proofs.Common.{◌∙◌, ap, arith, map, subst}
use Rattle.demi_pdpix.specs.Closing.{AreEndsOf}
use Rattle.demi_pdpix.specs.Lanes.{IsEndOf}
use Rattle.demi_pdpix.specs.Returning.{rx_at, tx_at}
use Rattle.demi_pdpix.specs.Seen.{service_of}
use Rattle.demi_server.proofs.Sessions.{goes_later, one_came}
use Rattle.demi_server.proofs.whole.serve_opened.Goals as goal

pub returns-in-Ok-clause-later : goal.returns-in-Ok-clause-later
returns-in-Ok-clause-later g c =
    let faults = g.D.Disk.faults in
    let r = c.in-Ok.ensures.ran.2 in
    let first = ap (λ a. faults a.core.log.disk) r.made.store in
    let last = ap faults (c.disk.ensures ∙ ap (λ l. l.disk) c.parts.ensures) ∙ ap (λ a. faults a.core.log.disk) r.had.store in
    let on = goes_later g.D.Disk.bytes g.D.Disk.held faults g.D.Disk.appends g.D.Disk.looks r.v.store.engine r.w.store.engine r.store.went in
    omega (arith, first, last, on)

pub returns-in-Ok-clause-made : goal.returns-in-Ok-clause-made
returns-in-Ok-clause-made g c =
    let d = c.args.opened.demi in
    let p = c.args.opened.parts in
    let q = c.in-Ok.field-0.parts in
    let ran = c.in-Ok.ensures.ran in
    let r = ran.2 in
    let ends = c.shut-ends-in-Ok.result in
    let e = c.shut-ends-in-Ok.ensures in
    let ended = c.in-Ok.field-0.ended.items in
    one_came g.I.Source.taken g.I.Source.left g.I.Source.faults g.I.Source.reads g.O.Sink.written g.O.Sink.faults g.D.Disk.bytes g.D.Disk.held g.D.Disk.faults
    p q r.v r.w ended ends.service ends.rx.items ends.tx.items c.disk.result c.only_outcome.result r.made r.had (c.disk.ensures ∙ ap (λ l. l.disk) c.parts.ensures) c.only_outcome.ensures
    (c.a_session_of_one_link_ends.ensures d p q r.v r.w r.first r.last ran.0 ended ends.service ends.rx.items ends.tx.items (record {
      one = (c.requires.callers.0, c.requires.parts.links.0 ∙ c.requires.one, c.requires.parts.links.1 ∙ c.requires.one);
      for = r.for;
      made = r.made;
      unused = r.unused;
      memory = r.memory;
      store = r.store;
      links = r.links;
      demi_is = r.demi_is;
      number_is = r.number_is;
      did = r.did;
      done = r.done;
      had = r.had;
      service_end = subst (λ cs. IsEndOf d.service q.seats.service.0 (map service_of cs) ends.service) ran.1 e.service;
      rx_are = subst (λ cs. AreEndsOf rx_at cs d.rx q.seats.rx.items ends.rx.items) ran.1 e.rx;
      tx_are = subst (λ cs. AreEndsOf tx_at cs d.tx q.seats.tx.items ends.tx.items) ran.1 e.tx;
    }))
