use Rattle.std.proofs.Common.{ℕ, ◌+◌, List, [], length, get_or, ap, sym, ◌∙◌, subst, arith, refl}
use Rattle.std.specs.Prelude.{Bool, Option, option_map}
use Rattle.demi_heap.specs.Seen.{HeapId}
use Rattle.demi_port_core.specs.declared.place.Place.{Place}
use Rattle.demi_logq.specs.Logged.{Logged, Holds}
use Rattle.demi_logq.specs.Answers.{IsItem}
use Rattle.demi_logq.specs.Items.{FoundNone, tells}
use Rattle.demi_logq.proofs.Saying.{payloads_count, at_end, no_slot, pop_failed, popped}
use Rattle.demi_logq.proofs.queue.Queue.pop.Goals as goal

pub returns-then-self-count-clause-answered : goal.returns-then-self-count-clause-answered
returns-then-self-count-clause-answered g c =
    let r = c.requires.shows in let b = c.args.base.now.value in let s = c.args.stands.now.value in
    let n = payloads_count _ _ s.payloads (r.whole c.requires.calm.1).holds in let count = c.count.ensures.count in let last = c.if-self-count.true in let at = r.cursor_is in
    at_end b.told b.heap b.limit c.args.place.0 s _ (sym r.stop_is ∙ ap (option_map (λ (p : Place). p.0)) c.requires.calm.0) (sym r.fault_is ∙ ap (option_map (λ (p : Place). p.0)) c.requires.calm.1)
    (omega arith) r

pub take_item-taken-requires-clause-there : goal.take_item-taken-requires-clause-there
take_item-taken-requires-clause-there g c =
    let r = c.requires.shows in let s = c.args.stands.now.value in
    let n = payloads_count _ _ s.payloads (r.whole c.requires.calm.1).holds in let count = c.count.ensures.count in let more = c.if-self-count.false in let at = r.cursor_is in let within = r.within in omega arith

pub overflow_add-self : goal.overflow_add-self
overflow_add-self g c =
    let r = c.requires.shows in let s = c.args.stands.now.value in
    let n = payloads_count _ _ s.payloads (r.whole c.requires.calm.1).holds in let count = c.count.ensures.count in let more = c.if-self-count.false in let at = r.cursor_is in let within = r.within in omega arith

pub returns-in-Item-clause-answered : goal.returns-in-Item-clause-answered
returns-in-Item-clause-answered g c =
    let r = c.requires.shows in let b = c.args.base.now.value in let s = c.args.stands.now.value in
    let w = r.whole c.requires.calm.1 in
    let n = payloads_count _ _ s.payloads w.holds in let count = c.count.ensures.count in let more = c.if-self-count.false in let at = r.cursor_is in let within = r.within in
    let item : IsItem b.told b.heap (get_or s.payloads s.cursor []) c.in-Item.sga =
    subst (λ (k : ℕ). IsItem b.told b.heap (get_or s.payloads k []) c.in-Item.sga) at
    (subst (λ (t : Bool). IsItem t b.heap (get_or s.payloads c.args.self.now.cursor []) c.in-Item.sga) (sym w.told_is)
    (subst (λ (h : HeapId). IsItem (tells (g.D.Disk.bytes c.args.self.now.log.disk)) h (get_or s.payloads c.args.self.now.cursor []) c.in-Item.sga) (sym r.heap_is) (c.in-Item.ensures.took.1 s.payloads w.holds))) in
    popped b.told b.heap b.limit c.args.place.0 s _ (sym r.stop_is ∙ ap (option_map (λ (p : Place). p.0)) c.requires.calm.0) (sym r.fault_is ∙ ap (option_map (λ (p : Place). p.0)) c.requires.calm.1)
    c.in-Item.sga (λ e. omega arith) item
    (record {
      limit = ap (λ (l : Logged g.row.D.Denot). l.limit) c.in-Item.ensures.same ∙ r.limit;
      staged = ap (λ (l : Logged g.row.D.Denot). l.staged) c.in-Item.ensures.same ∙ r.staged;
      pass_is = c.in-Item.ensures.took.0.heap ∙ r.pass_is;
      heap_is = r.heap_is;
      cursor_is = ap (λ (k : ℕ). k + 1) at;
      fault_is = r.fault_is;
      stop_is = r.stop_is;
      within = omega arith;
      whole = λ e. record {
        torn = ap (λ (l : Logged g.row.D.Denot). l.torn) c.in-Item.ensures.same ∙ w.torn;
        lost = ap (λ (l : Logged g.row.D.Denot). l.lost) c.in-Item.ensures.same ∙ w.lost;
        told_is = w.told_is ∙ ap tells (sym c.in-Item.ensures.same_bytes);
        holds = subst (λ (o : Option (List ℕ)). Holds o c.take_item-taken.new.log.ends s.payloads) (sym c.in-Item.ensures.same_bytes)
            (subst (λ (l : List ℕ). Holds (g.D.Disk.bytes c.args.self.now.log.disk) l s.payloads) (ap (λ (l : Logged g.row.D.Denot). l.ends) (sym c.in-Item.ensures.same)) w.holds);
      };
    })

pub returns-in-NoSlot-clause-answered : goal.returns-in-NoSlot-clause-answered
returns-in-NoSlot-clause-answered g c =
    let r = c.requires.shows in let b = c.args.base.now.value in let s = c.args.stands.now.value in
    let w = r.whole c.requires.calm.1 in
    let n = payloads_count _ _ s.payloads w.holds in let count = c.count.ensures.count in let more = c.if-self-count.false in let at = r.cursor_is in let within = r.within in
    no_slot b.told b.heap b.limit c.args.place.0 s _ (sym r.stop_is ∙ ap (option_map (λ (p : Place). p.0)) c.requires.calm.0) (sym r.fault_is ∙ ap (option_map (λ (p : Place). p.0)) c.requires.calm.1)
    (λ e. omega arith)
    (record {
      limit = ap (λ (l : Logged g.row.D.Denot). l.limit) c.in-NoSlot.ensures.same ∙ r.limit;
      staged = ap (λ (l : Logged g.row.D.Denot). l.staged) c.in-NoSlot.ensures.same ∙ r.staged;
      pass_is = c.in-NoSlot.ensures.took.0.heap ∙ r.pass_is;
      heap_is = r.heap_is;
      cursor_is = at;
      fault_is = r.fault_is;
      stop_is = r.stop_is;
      within = within;
      whole = λ e. record {
        torn = ap (λ (l : Logged g.row.D.Denot). l.torn) c.in-NoSlot.ensures.same ∙ w.torn;
        lost = ap (λ (l : Logged g.row.D.Denot). l.lost) c.in-NoSlot.ensures.same ∙ w.lost;
        told_is = w.told_is ∙ ap tells (sym c.in-NoSlot.ensures.same_bytes);
        holds = subst (λ (o : Option (List ℕ)). Holds o c.take_item-taken.new.log.ends s.payloads) (sym c.in-NoSlot.ensures.same_bytes)
            (subst (λ (l : List ℕ). Holds (g.D.Disk.bytes c.args.self.now.log.disk) l s.payloads) (ap (λ (l : Logged g.row.D.Denot). l.ends) (sym c.in-NoSlot.ensures.same)) w.holds);
      };
    })

pub returns-in-NoSlot-clause-moves : goal.returns-in-NoSlot-clause-moves
returns-in-NoSlot-clause-moves g c =
    let r = c.requires.shows in let s = c.args.stands.now.value in let took = c.in-NoSlot.ensures.took in
    let log = c.args.self.now.log in record {
      pass = took.0;
      later = c.take_item-taken.ensures.later;
      fault = λ e. absurd (cc);
      none = λ e. subst (λ (k : ℕ). FoundNone c.args.self.now.pass c.take_item-taken.new.pass (length (get_or s.payloads k []))) r.cursor_is (took.1 s.payloads (r.whole c.requires.calm.1).holds);
      log = took.2;
    }

pub returns-in-Fault-clause-answered : goal.returns-in-Fault-clause-answered
returns-in-Fault-clause-answered g c =
    let r = c.requires.shows in let b = c.args.base.now.value in let s = c.args.stands.now.value in
    let w = r.whole c.requires.calm.1 in
    let n = payloads_count _ _ s.payloads w.holds in let count = c.count.ensures.count in let more = c.if-self-count.false in let at = r.cursor_is in let within = r.within in
    pop_failed b.told b.heap b.limit c.args.place.0 s _ (sym r.stop_is ∙ ap (option_map (λ (p : Place). p.0)) c.requires.calm.0) (sym r.fault_is ∙ ap (option_map (λ (p : Place). p.0)) c.requires.calm.1)
    (λ e. omega arith)
    (record {
      limit = ap (λ (l : Logged g.row.D.Denot). l.limit) c.in-Fault.ensures.same ∙ r.limit;
      staged = ap (λ (l : Logged g.row.D.Denot). l.staged) c.in-Fault.ensures.same ∙ r.staged;
      pass_is = c.in-Fault.ensures.took.0.heap ∙ r.pass_is;
      heap_is = r.heap_is;
      cursor_is = at;
      fault_is = refl;
      stop_is = r.stop_is;
      within = within;
      whole = λ e. absurd (cc);
    })
