use Rattle.std.proofs.Common.{[], ◌∷◌, ◌++◌, length, map, refl, ap, sym, ◌∙◌, get_or, reverse}
use Rattle.std.proofs.lemmas.List.{reverse-reverse}
use Rattle.demi_pdpix.specs.Lanes.{with_home}
use Rattle.demi_pdpix.specs.Returning.{IsAsWide, journal_at, rx_at, tx_at}
use Rattle.demi_pdpix.specs.Seen.{CallerValue, heap_of, memory_of, service_of}
use Rattle.demi_pdpix.proofs.Returned.{fewer, home_none, lane_back, map_snoc, next_gone, none_back, of_next, one_back, room_left}
use Rattle.demi_pdpix.proofs.returning.return_all.Goals as goal

pub loop-caller-init : goal.loop-caller-init
loop-caller-init g c = (
  [],
  record {
    all = sym (ap reverse c.reverse.ensures.items ∙ reverse-reverse c.args.callers.items);
    memory = home_none c.args.ports.now.memory;
    service = home_none c.args.ports.now.service;
    heap = c.requires.heap.0;
    room = refl;
    journals = refl;
    journal = none_back (journal_at {D = g.row.X-Said.Denot} {T = g.row.X-Told.Denot} {B = g.row.X-Base.Denot}) c.args.ports.now.journal.items;
    receiving = refl;
    rx = none_back (rx_at {D = g.row.X-Said.Denot} {T = g.row.X-Told.Denot} {B = g.row.X-Base.Denot}) c.args.ports.now.rx.items;
    sending = refl;
    tx = none_back (tx_at {D = g.row.X-Said.Denot} {T = g.row.X-Told.Denot} {B = g.row.X-Base.Denot}) c.args.ports.now.tx.items;
  },
)

-- what is known of the caller that comes next
pub return_each-requires-clause-as_many : goal.return_each-requires-clause-as_many
return_each-requires-clause-as_many g c κs = let v = c.loop-caller.invariant.1 in
    ap (λ (z : CallerValue _ _ _). length z.journal) c.caller.view_is
    ∙ (of_next (IsAsWide _ _ _) c.args.callers.items c.loop-caller.invariant.0 c.loop-caller.callers.items c.pop.new.self.items c.in-Some.caller c.requires.as_many v.all c.in-Some.ensures.items).journal
    ∙ sym v.journals

pub return_each-requires-clause-room : goal.return_each-requires-clause-room
return_each-requires-clause-room g c κs = let v = c.loop-caller.invariant.1 in let gone = c.loop-caller.invariant.0 in
    room_left journal_at c.args.ports.now.journal.items c.loop-caller.ports.journal.items gone (length c.args.callers.items) v.journal v.journals
    (fewer c.args.callers.items gone c.loop-caller.callers.items c.pop.new.self.items c.in-Some.caller v.all c.in-Some.ensures.items)
    c.requires.journal

pub return_each-requires-in-Some-clause-as_many : goal.return_each-requires-in-Some-clause-as_many
return_each-requires-in-Some-clause-as_many g c κs = let v = c.loop-caller.invariant.1 in
    ap (λ (z : CallerValue _ _ _). length z.rx) c.caller.view_is
    ∙ (of_next (IsAsWide _ _ _) c.args.callers.items c.loop-caller.invariant.0 c.loop-caller.callers.items c.pop.new.self.items c.in-Some.caller c.requires.as_many v.all c.in-Some.ensures.items).rx
    ∙ sym v.receiving

pub return_each-requires-in-Some-clause-room : goal.return_each-requires-in-Some-clause-room
return_each-requires-in-Some-clause-room g c κs = let v = c.loop-caller.invariant.1 in let gone = c.loop-caller.invariant.0 in
    room_left rx_at c.args.ports.now.rx.items c.loop-caller.ports.rx.items gone (length c.args.callers.items) v.rx v.receiving
    (fewer c.args.callers.items gone c.loop-caller.callers.items c.pop.new.self.items c.in-Some.caller v.all c.in-Some.ensures.items)
    c.requires.rx

pub return_each-requires-in-Some-2-clause-as_many : goal.return_each-requires-in-Some-2-clause-as_many
return_each-requires-in-Some-2-clause-as_many g c κs = let v = c.loop-caller.invariant.1 in
    ap (λ (z : CallerValue _ _ _). length z.tx) c.caller.view_is
    ∙ (of_next (IsAsWide _ _ _) c.args.callers.items c.loop-caller.invariant.0 c.loop-caller.callers.items c.pop.new.self.items c.in-Some.caller c.requires.as_many v.all c.in-Some.ensures.items).tx
    ∙ sym v.sending

pub return_each-requires-in-Some-2-clause-room : goal.return_each-requires-in-Some-2-clause-room
return_each-requires-in-Some-2-clause-room g c κs = let v = c.loop-caller.invariant.1 in let gone = c.loop-caller.invariant.0 in
    room_left tx_at c.args.ports.now.tx.items c.loop-caller.ports.tx.items gone (length c.args.callers.items) v.tx v.sending
    (fewer c.args.callers.items gone c.loop-caller.callers.items c.pop.new.self.items c.in-Some.caller v.all c.in-Some.ensures.items)
    c.requires.tx

pub loop-caller-preserved : goal.loop-caller-preserved
loop-caller-preserved g c = let v = c.loop-caller.invariant.1 in let gone = c.loop-caller.invariant.0 in let x = c.in-Some.caller in let is = c.caller.view_is in let old = c.args.ports.now in let now = c.loop-caller.ports in (
  gone ++ x ∷ [],
  record {
    all = next_gone c.args.callers.items gone c.loop-caller.callers.items c.pop.new.self.items x v.all c.in-Some.ensures.items;
    memory = lane_back memory_of old.memory now.memory c.take_back.new.self gone x v.memory (c.take_back.ensures ∙ ap (λ (z : CallerValue _ _ _). with_home now.memory (memory_of z ∷ [])) is);
    service = lane_back service_of old.service now.service c.take_back-in-Some.new.self gone x v.service (c.take_back-in-Some.ensures ∙ ap (λ (z : CallerValue _ _ _). with_home now.service (service_of z ∷ [])) is);
    heap = c.push_reserved.ensures.items ∙ ap (λ l. l ++ c.caller.inside.heap ∷ []) v.heap ∙ ap (λ (z : CallerValue _ _ _). map heap_of gone ++ heap_of z ∷ []) is ∙ sym (map_snoc heap_of gone x);
    room = c.push_reserved.ensures.capacity ∙ v.room;
    journals = c.return_each.ensures.len ∙ v.journals;
    journal = one_back journal_at old.journal.items now.journal.items c.return_each.new.lanes.items gone x v.journal v.journals
        (λ k l p low. c.return_each.ensures.back k l p low ∙ ap (λ (z : CallerValue _ _ _). with_home (get_or now.journal.items k l) (get_or z.journal k p ∷ [])) is);
    receiving = c.return_each-in-Some.ensures.len ∙ v.receiving;
    rx = one_back rx_at old.rx.items now.rx.items c.return_each-in-Some.new.lanes.items gone x v.rx v.receiving
        (λ k l p low. c.return_each-in-Some.ensures.back k l p low ∙ ap (λ (z : CallerValue _ _ _). with_home (get_or now.rx.items k l) (get_or z.rx k p ∷ [])) is);
    sending = c.return_each-in-Some-2.ensures.len ∙ v.sending;
    tx = one_back tx_at old.tx.items now.tx.items c.return_each-in-Some-2.new.lanes.items gone x v.tx v.sending
        (λ k l p low. c.return_each-in-Some-2.ensures.back k l p low ∙ ap (λ (z : CallerValue _ _ _). with_home (get_or now.tx.items k l) (get_or z.tx k p ∷ [])) is);
  },
)
