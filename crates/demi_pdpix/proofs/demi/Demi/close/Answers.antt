use Rattle.std.proofs.Common.{sum_by, ◌≡◌, ◌+◌, [], ◌∷◌, All, length, length-append, map, ap, sym, subst, ◌∙◌, arith}
use Rattle.demi_heap.specs.Laid.{CountsWords}
use Rattle.demi_heap.specs.Seen.{claims, ends, loans, returns}
use Rattle.demi_heap.specs.Seen.{PassValue as HeapPassValue}
use Rattle.demi_pdpix.specs.Closing.{beside}
use Rattle.demi_pdpix.specs.Lanes.{port_of}
use Rattle.demi_pdpix.specs.Returning.{IsAsWide}
use Rattle.demi_pdpix.specs.Seen.{AreAt, CallerValue, DemiId, IsOf, LogPair, RxPair, TxPair, as_list, heap_of, memory_of, service_of}
use Rattle.demi_pdpix.proofs.Ended.{all_of_heap, each_to, ended_lanes, gathered, many_at, many_passes, map_len, ready_lane, ready_lanes}
use Rattle.demi_pdpix.proofs.demi.Demi.close.Goals as goal

pub return_all-requires-clause-as_many : goal.return_all-requires-clause-as_many
return_all-requires-clause-as_many g c κs within = let d = c.args.self in let ports = c.self.inside.ports in let is = sym c.self.view_is in
    each_to (IsOf d) (IsAsWide (length ports.journal.items) (length ports.rx.items) (length ports.tx.items)) c.args.callers.items (λ x i. record {
      journal = many_at x.journal d.journal i.journal ∙ ap (λ (z : DemiId _). length z.journal) is ∙ map_len port_of ports.journal.items;
      rx = many_at x.rx d.rx i.rx ∙ ap (λ (z : DemiId _). length z.rx) is ∙ map_len port_of ports.rx.items;
      tx = many_at x.tx d.tx i.tx ∙ ap (λ (z : DemiId _). length z.tx) is ∙ map_len port_of ports.tx.items;
    }) c.requires.of

pub close_one-memory-requires-clause-ready : goal.close_one-memory-requires-clause-ready
close_one-memory-requires-clause-ready g c κs = let d = c.args.self in
    ready_lane memory_of c.args.callers.items c.return_all.new.ports.memory c.self.inside.ports.memory d.memory c.args.seats.memory.0
    c.return_all.ensures.memory c.self.invariant.0.memory.0 (ap (λ (z : DemiId _). z.memory) c.self.view_is) (each_to (IsOf d) (λ (x : CallerValue _ _ _). x.memory.port ≡ d.memory) c.args.callers.items (λ x i. i.memory) c.requires.of) c.requires.memory

pub close_one-service-requires-clause-ready : goal.close_one-service-requires-clause-ready
close_one-service-requires-clause-ready g c κs within = let d = c.args.self in
    ready_lane service_of c.args.callers.items c.return_all.new.ports.service c.self.inside.ports.service d.service c.args.seats.service.0
    c.return_all.ensures.service c.self.invariant.0.service.0 (ap (λ (z : DemiId _). z.service) c.self.view_is) (each_to (IsOf d) (λ (x : CallerValue _ _ _). x.service.port ≡ d.service) c.args.callers.items (λ x i. i.service) c.requires.of) c.requires.service

pub close_one-service-requires-clause-room : goal.close_one-service-requires-clause-room
close_one-service-requires-clause-room g c κs within =
    let h = c.return_all.ensures.heap in let h0 = ap length h.0 in let h1 = h.1 in let m = map_len heap_of c.args.callers.items in
    let a = c.close_one-memory.ensures.passes in let a0 = ap length a.0 in let a1 = a.1 in let x = length-append c.return_all.new.heap.items (c.args.seats.memory.1 ∷ []) in
    let room = c.self.invariant.2 in let wide = c.self.invariant.0.passes in let n = c.requires.count.0 in let e = ap (λ (z : DemiId _). z.callers) c.self.view_is in
    omega (arith, h0, h1, m, a0, a1, x, room, wide, n, e)

-- how much room is left, and how many passes came back, after each step
pub close_journal-journal-requires-clause-room : goal.close_journal-journal-requires-clause-room
close_journal-journal-requires-clause-room g c κs =
    let h = c.return_all.ensures.heap in let h0 = ap length h.0 in let h1 = h.1 in let m = map_len heap_of c.args.callers.items in
    let a = c.close_one-memory.ensures.passes in let a0 = ap length a.0 in let a1 = a.1 in let x = length-append c.return_all.new.heap.items (c.args.seats.memory.1 ∷ []) in
    let b = c.close_one-service.ensures.passes in let b0 = ap length b.0 in let b1 = b.1 in let y = length-append c.close_one-memory.new.passes.items (c.args.seats.service.1 ∷ []) in
    let room = c.self.invariant.2 in let wide = c.self.invariant.0.passes in let n = c.requires.count.0 in let e = ap (λ (z : DemiId _). z.callers) c.self.view_is in let j = c.return_all.ensures.journal.0 in
    omega (arith, h0, h1, m, a0, a1, x, b0, b1, y, room, wide, n, e, j)

pub close_journal-journal-requires-clause-ready : goal.close_journal-journal-requires-clause-ready
close_journal-journal-requires-clause-ready g c κs = let d = c.args.self in let r = c.return_all.ensures.journal in
    ready_lanes (λ (x : CallerValue _ _ _). x.journal) c.args.callers.items d.journal c.self.inside.ports.journal.items c.return_all.new.ports.journal.items (as_list c.args.seats.journal)
    (ap (λ (z : DemiId _). z.journal) c.self.view_is) (λ k l low. (c.self.invariant.0.journal k l low).0) r.0 r.1
    (each_to (IsOf d) (λ (x : CallerValue _ _ _). AreAt x.journal d.journal) c.args.callers.items (λ x i. i.journal) c.requires.of) c.requires.journal

pub close_each-requires-clause-room : goal.close_each-requires-clause-room
close_each-requires-clause-room g c κs =
    let h = c.return_all.ensures.heap in let h0 = ap length h.0 in let h1 = h.1 in let m = map_len heap_of c.args.callers.items in
    let a = c.close_one-memory.ensures.passes in let a0 = ap length a.0 in let a1 = a.1 in let x = length-append c.return_all.new.heap.items (c.args.seats.memory.1 ∷ []) in
    let b = c.close_one-service.ensures.passes in let b0 = ap length b.0 in let b1 = b.1 in let y = length-append c.close_one-memory.new.passes.items (c.args.seats.service.1 ∷ []) in
    let p = c.close_journal-journal.ensures.passes in let p0 = ap length p.0 in let p1 = p.1 in let q : length (map beside (as_list c.args.seats.journal)) ≡ length (as_list c.args.seats.journal) = map_len beside (as_list c.args.seats.journal) in
    let z = length-append c.close_one-service.new.passes.items (map beside (as_list c.args.seats.journal)) in
    let room = c.self.invariant.2 in let wide = c.self.invariant.0.passes in let n = c.requires.count.0 in let e = ap (λ (z : DemiId _). z.callers) c.self.view_is in
    let s = c.requires.count.1 in let w = ap (λ (z : DemiId _). length z.journal) (sym c.self.view_is) in let v = map_len port_of c.self.inside.ports.journal.items in let i = c.return_all.ensures.rx.0 in let k = c.self.invariant.4 in (
      omega (arith, h0, h1, m, a0, a1, x, b0, b1, y, p0, p1, q, z, room, wide, n, e, s, w, v, i),
      c.self.invariant.3,
      omega (arith, i, k),
    )

pub close_each-requires-clause-ready : goal.close_each-requires-clause-ready
close_each-requires-clause-ready g c κs = let d = c.args.self in let r = c.return_all.ensures.rx in
    ready_lanes (λ (x : CallerValue _ _ _). x.rx) c.args.callers.items d.rx c.self.inside.ports.rx.items c.return_all.new.ports.rx.items c.args.seats.rx.items
    (ap (λ (z : DemiId _). z.rx) c.self.view_is) (λ k l low. (c.self.invariant.0.rx k l low).0) r.0 r.1
    (each_to (IsOf d) (λ (x : CallerValue _ _ _). AreAt x.rx d.rx) c.args.callers.items (λ x i. i.rx) c.requires.of) c.requires.rx

pub close_each-requires-2-clause-ready : goal.close_each-requires-2-clause-ready
close_each-requires-2-clause-ready g c κs = let d = c.args.self in let r = c.return_all.ensures.tx in
    ready_lanes (λ (x : CallerValue _ _ _). x.tx) c.args.callers.items d.tx c.self.inside.ports.tx.items c.return_all.new.ports.tx.items c.args.seats.tx.items
    (ap (λ (z : DemiId _). z.tx) c.self.view_is) (λ k l low. (c.self.invariant.0.tx k l low).0) r.0 r.1
    (each_to (IsOf d) (λ (x : CallerValue _ _ _). AreAt x.tx d.tx) c.args.callers.items (λ x i. i.tx) c.requires.of) c.requires.tx

pub close_each-requires-2-clause-room : goal.close_each-requires-2-clause-room
close_each-requires-2-clause-room g c κs =
    let h = c.return_all.ensures.heap in let h0 = ap length h.0 in let h1 = h.1 in let m = map_len heap_of c.args.callers.items in
    let a = c.close_one-memory.ensures.passes in let a0 = ap length a.0 in let a1 = a.1 in let x = length-append c.return_all.new.heap.items (c.args.seats.memory.1 ∷ []) in
    let b = c.close_one-service.ensures.passes in let b0 = ap length b.0 in let b1 = b.1 in let y = length-append c.close_one-memory.new.passes.items (c.args.seats.service.1 ∷ []) in
    let p = c.close_journal-journal.ensures.passes in let p0 = ap length p.0 in let p1 = p.1 in let q : length (map beside (as_list c.args.seats.journal)) ≡ length (as_list c.args.seats.journal) = map_len beside (as_list c.args.seats.journal) in
    let z = length-append c.close_one-service.new.passes.items (map beside (as_list c.args.seats.journal)) in
    let o = c.close_each.ensures.passes in let o0 = ap length o.0 in let o1 = o.1 in let u : length (map beside c.args.seats.rx.items) ≡ length c.args.seats.rx.items = map_len beside c.args.seats.rx.items in
    let t = length-append c.close_journal-journal.new.passes.items (map beside c.args.seats.rx.items) in
    let room = c.self.invariant.2 in let wide = c.self.invariant.0.passes in let n = c.requires.count.0 in let e = ap (λ (z : DemiId _). z.callers) c.self.view_is in
    let s = c.requires.count.1 in let w = ap (λ (z : DemiId _). length z.journal) (sym c.self.view_is) in let v = map_len port_of c.self.inside.ports.journal.items in
    let s' = c.requires.count.2 in let w' = ap (λ (z : DemiId _). length z.rx) (sym c.self.view_is) in let v' = map_len port_of c.self.inside.ports.rx.items in
    let i = c.return_all.ensures.tx.0 in let k = c.self.invariant.6 in (
      omega (arith, h0, h1, m, a0, a1, x, b0, b1, y, p0, p1, q, z, o0, o1, u, t, room, wide, n, e, s, w, v, s', w', v', i),
      c.self.invariant.5,
      omega (arith, i, k),
    )

pub close-requires : goal.close-requires
close-requires g c = let d = c.args.self in let callers = c.args.callers.items in let first = c.args.seats.memory.1 in let second = c.args.seats.service.1 in let journal = as_list c.args.seats.journal in let rx = c.args.seats.rx.items in let tx = c.args.seats.tx.items in
    let all = gathered callers first second journal rx tx c.return_all.new.heap.items c.close_one-memory.new.passes.items c.close_one-service.new.passes.items c.close_journal-journal.new.passes.items c.close_each.new.passes.items c.close_each-2.new.passes.items
    c.return_all.ensures.heap.0 c.close_one-memory.ensures.passes.0 c.close_one-service.ensures.passes.0 c.close_journal-journal.ensures.passes.0 c.close_each.ensures.passes.0 c.close_each-2.ensures.passes.0 in
    let long = ap length all in let many = many_passes callers first second journal rx tx in let shape = c.self.invariant.0.passes in let n = c.requires.count in let n0 = n.0 in let n1 = n.1 in let n2 = n.2 in let n3 = n.3 in
    let e = ap (λ (z : DemiId _). z.callers) c.self.view_is in
    let a = ap (λ (z : DemiId _). length z.journal) (sym c.self.view_is) in let a' = map_len port_of c.self.inside.ports.journal.items in
    let b = ap (λ (z : DemiId _). length z.rx) (sym c.self.view_is) in let b' = map_len port_of c.self.inside.ports.rx.items in
    let f = ap (λ (z : DemiId _). length z.tx) (sym c.self.view_is) in let f' = map_len port_of c.self.inside.ports.tx.items in
    let q : d.heap ≡ c.self.inside.heap = ap (λ (z : DemiId _). z.heap) (sym c.self.view_is) in let h = c.requires.heap in (
      omega (arith, long, many, shape, n0, n1, n2, n3, e, a, a', b, b', f, f'),
      subst (All (λ (p : HeapPassValue). p.heap ≡ c.self.inside.heap)) (sym all)
          (all_of_heap c.self.inside.heap callers first second journal rx tx
          (each_to (IsOf d) (λ (x : CallerValue _ _ _). x.heap.heap ≡ c.self.inside.heap) callers (λ x i. i.heap ∙ q) c.requires.of)
          (h.0 ∙ q) (h.1 ∙ q)
          (each_to (λ (s : LogPair). s.1.heap ≡ d.heap) (λ (s : LogPair). s.1.heap ≡ c.self.inside.heap) journal (λ s i. i ∙ q) h.2)
          (each_to (λ (s : RxPair). s.1.heap ≡ d.heap) (λ (s : RxPair). s.1.heap ≡ c.self.inside.heap) rx (λ s i. i ∙ q) h.3)
          (each_to (λ (s : TxPair). s.1.heap ≡ d.heap) (λ (s : TxPair). s.1.heap ≡ c.self.inside.heap) tx (λ s i. i ∙ q) h.4)),
    )

pub returns-clause-journal : goal.returns-clause-journal
returns-clause-journal g c = let d = c.args.self in let r = c.return_all.ensures.journal in
    ended_lanes (λ (x : CallerValue _ _ _). x.journal) c.args.callers.items d.journal c.self.inside.ports.journal.items c.return_all.new.ports.journal.items (as_list c.args.seats.journal) (as_list c.close_journal-journal.result)
    (ap (λ (z : DemiId _). z.journal) c.self.view_is) (λ k l low. (c.self.invariant.0.journal k l low).0) r.0 r.1 c.close_journal-journal.ensures.ends

pub returns-clause-rx : goal.returns-clause-rx
returns-clause-rx g c = let d = c.args.self in let r = c.return_all.ensures.rx in
    ended_lanes (λ (x : CallerValue _ _ _). x.rx) c.args.callers.items d.rx c.self.inside.ports.rx.items c.return_all.new.ports.rx.items c.args.seats.rx.items c.close_each.new.ends.items
    (ap (λ (z : DemiId _). z.rx) c.self.view_is) (λ k l low. (c.self.invariant.0.rx k l low).0) r.0 r.1 c.close_each.ensures.ends

pub returns-clause-tx : goal.returns-clause-tx
returns-clause-tx g c = let d = c.args.self in let r = c.return_all.ensures.tx in
    ended_lanes (λ (x : CallerValue _ _ _). x.tx) c.args.callers.items d.tx c.self.inside.ports.tx.items c.return_all.new.ports.tx.items c.args.seats.tx.items c.close_each-2.new.ends.items
    (ap (λ (z : DemiId _). z.tx) c.self.view_is) (λ k l low. (c.self.invariant.0.tx k l low).0) r.0 r.1 c.close_each-2.ensures.ends

pub returns-clause-words : goal.returns-clause-words
returns-clause-words g c = let e = c.close.result in
    subst (λ ps. CountsWords c.args.self.heap.shape ps e.free e.app e.lent e.dev)
    (gathered c.args.callers.items c.args.seats.memory.1 c.args.seats.service.1 (as_list c.args.seats.journal) c.args.seats.rx.items c.args.seats.tx.items c.return_all.new.heap.items c.close_one-memory.new.passes.items c.close_one-service.new.passes.items c.close_journal-journal.new.passes.items c.close_each.new.passes.items c.close_each-2.new.passes.items
    c.return_all.ensures.heap.0 c.close_one-memory.ensures.passes.0 c.close_one-service.ensures.passes.0 c.close_journal-journal.ensures.passes.0 c.close_each.ensures.passes.0 c.close_each-2.ensures.passes.0)
    (subst (λ h. CountsWords h c.close_each-2.new.passes.items e.free e.app e.lent e.dev) (ap (λ (z : DemiId _). z.heap.shape) c.self.view_is) c.close.ensures.words)

pub returns-clause-claims : goal.returns-clause-claims
returns-clause-claims g c = let out = c.close.result.app + c.close.result.lent in
    subst (λ ps. sum_by claims ps ≡ sum_by ends ps + out)
    (gathered c.args.callers.items c.args.seats.memory.1 c.args.seats.service.1 (as_list c.args.seats.journal) c.args.seats.rx.items c.args.seats.tx.items c.return_all.new.heap.items c.close_one-memory.new.passes.items c.close_one-service.new.passes.items c.close_journal-journal.new.passes.items c.close_each.new.passes.items c.close_each-2.new.passes.items
    c.return_all.ensures.heap.0 c.close_one-memory.ensures.passes.0 c.close_one-service.ensures.passes.0 c.close_journal-journal.ensures.passes.0 c.close_each.ensures.passes.0 c.close_each-2.ensures.passes.0)
    c.close.ensures.claims

pub returns-clause-loans : goal.returns-clause-loans
returns-clause-loans g c = let out = c.close.result.lent + c.close.result.dev in
    subst (λ ps. sum_by loans ps ≡ sum_by returns ps + out)
    (gathered c.args.callers.items c.args.seats.memory.1 c.args.seats.service.1 (as_list c.args.seats.journal) c.args.seats.rx.items c.args.seats.tx.items c.return_all.new.heap.items c.close_one-memory.new.passes.items c.close_one-service.new.passes.items c.close_journal-journal.new.passes.items c.close_each.new.passes.items c.close_each-2.new.passes.items
    c.return_all.ensures.heap.0 c.close_one-memory.ensures.passes.0 c.close_one-service.ensures.passes.0 c.close_journal-journal.ensures.passes.0 c.close_each.ensures.passes.0 c.close_each-2.ensures.passes.0)
    c.close.ensures.loans
