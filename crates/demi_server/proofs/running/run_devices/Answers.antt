use Rattle.std.proofs.Common.{◌∙◌, All, length, ap, sym, subst, arith, inl}
use Rattle.demi_server.specs.Building.{HasRoom, IsLinkSpent}
use Rattle.demi_server.specs.Runs.{RxRan, TxRan}
use Rattle.demi_work.specs.Working.{BothDone, EachBecame}
use Rattle.demi_server.proofs.Rewriting.{rewritten}
use Rattle.demi_server.proofs.running.run_devices.Goals as goal

pub work_all-requires-clause-ready : goal.work_all-requires-clause-ready
work_all-requires-clause-ready g c κs within = (tt, tt, λ k d low. (tt, tt), c.requires.ready)

pub invariant_of-result : goal.invariant_of-result
invariant_of-result g c =
    let old = c.devices.inside.links in let new = c.work_all.new.links in let many = c.work_all.ensures.links.as_many ∙ ap length c.deref_mut.ensures.value in
    let same = rewritten old.len new old.items (many ∙ sym old.ok.0) in
    (c.devices.invariant.0, subst (λ n. HasRoom n c.devices.inside.waiting.home) (sym (ap length same ∙ many)) c.devices.invariant.1)

pub returns-clause-links : goal.returns-clause-links
returns-clause-links g c =
    let old = c.devices.inside.links in let new = c.work_all.new.links in let many = c.work_all.ensures.links.as_many ∙ ap length c.deref_mut.ensures.value in
    let same = rewritten old.len new old.items (many ∙ sym old.ok.0) in
    let I = g.I.Source in let O = g.O.Sink in
    subst (λ l. EachBecame (BothDone (RxRan I.taken I.left I.faults I.reads) (TxRan O.written O.faults)) c.args.devices.links l) (sym same)
    (subst (λ z. EachBecame (BothDone (RxRan I.taken I.left I.faults I.reads) (TxRan O.written O.faults)) z.links new) c.devices.view_is
    (subst (λ l. EachBecame (BothDone (RxRan I.taken I.left I.faults I.reads) (TxRan O.written O.faults)) l new) c.deref_mut.ensures.value c.work_all.ensures.links))

pub returns-clause-spent : goal.returns-clause-spent
returns-clause-spent g c =
    let old = c.devices.inside.links in let new = c.work_all.new.links in let ran = c.work_all.ensures in let many = ran.links.as_many in
    let same = rewritten old.len new old.items (many ∙ ap length c.deref_mut.ensures.value ∙ sym old.ok.0) in
    record {
      memory = record { all = ran.memory.over.1; over = inl ran.memory.over.0 };
      store = record { all = ran.store.over.1; over = inl ran.store.over.0 };
      links = subst (All IsLinkSpent) (sym same) (λ k d low. let e = ran.links.each k d (omega (arith, low, many)) in
          (record { all = e.0.over.1; over = inl e.0.over.0 }, record { all = e.1.over.1; over = inl e.1.over.0 }));
    }
