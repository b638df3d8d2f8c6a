use Rattle.std.proofs.Common.{◌≡◌, [], ◌∷◌, All, length, length-append, reverse, ap, sym, subst, ◌∙◌, arith}
use Rattle.demi_heap.specs.Seen.{PassValue as HeapPassValue, new_pass}
use Rattle.demi_pdpix.specs.Making.{AreNewPasses, HaveLeft, IsRoom, whole_of}
use Rattle.demi_pdpix.specs.Seen.{AreNewCallers}
use Rattle.demi_pdpix.proofs.Dealt.{all_init, all_last, next_caller}
use Rattle.demi_pdpix.proofs.SamePorts.{new_of, same_on, still_room}
use Rattle.demi_pdpix.proofs.dealing.deal_all.Goals as goal

pub deal_one-requires-clause-room : goal.deal_one-requires-clause-room
deal_one-requires-clause-room g c κs within = let p = c.args.ports.now in let v = c.loop-room.invariant in let x = c.in-Some.room in
    still_room p c.loop-room.ports x v.same c.requires.rooms.0 (all_last (IsRoom (length p.journal.items) (length p.rx.items)) c.pop.new.self.items x (subst (All (IsRoom (length p.journal.items) (length p.rx.items))) c.in-Some.ensures.items v.rooms))

pub loop-room-preserved : goal.loop-room-preserved
loop-room-preserved g c = let v = c.loop-room.invariant in let p = c.args.ports.now in let now = c.loop-room.ports in let new = c.deal_one.new.ports in let h = c.args.heap.now in
    let e = c.len-number.ensures in let ok = c.pop.new.self.ok in let q : c.len-number.result ≡ length c.pop.new.self.items = omega (arith, e, ok) in
    let a = ap length c.in-Some.ensures.items in let b = length-append c.pop.new.self.items (c.in-Some.room ∷ []) in
    let x = ap length c.in-Some-pop.ensures.items in let y = length-append c.pop-in-Some.new.self.items (c.in-Some-pop.heap ∷ []) in
    let s = ap length c.push_reserved.ensures.items in let t = length-append c.loop-room.callers.items (c.deal_one.result ∷ []) in
    let few = v.few in let passes = v.passes in let many = v.many in
    let fresh = subst (All (λ (z : HeapPassValue). z ≡ new_pass h)) c.in-Some-pop.ensures.items v.new in
    record {
      left = subst (λ n. HaveLeft n new) q c.deal_one.ensures.left;
      same = same_on p now new v.same c.deal_one.ensures.same;
      rooms = all_init (IsRoom (length p.journal.items) (length p.rx.items)) c.pop.new.self.items c.in-Some.room (subst (All (IsRoom (length p.journal.items) (length p.rx.items))) c.in-Some.ensures.items v.rooms);
      few = omega (arith, a, b, few);
      passes = omega (arith, a, b, x, y, passes);
      new = all_init (λ (z : HeapPassValue). z ≡ new_pass h) c.pop-in-Some.new.self.items c.in-Some-pop.heap fresh;
      room = c.pop-in-Some.ensures.capacity ∙ v.room;
      many = omega (arith, a, b, s, t, many);
      caller_room = c.push_reserved.ensures.capacity ∙ v.caller_room;
      are = subst (λ cs. AreNewCallers (whole_of h p c.args.count) (length c.pop.new.self.items) (reverse cs)) (sym c.push_reserved.ensures.items)
          (next_caller (whole_of h p c.args.count) (length c.pop.new.self.items) (length c.loop-room.rooms.items) c.loop-room.callers.items c.deal_one.result v.are (omega (arith, a, b))
          (new_of h p now c.args.count (length c.pop.new.self.items) c.deal_one.result v.same
          (c.deal_one.ensures.heap ∙ all_last (λ (z : HeapPassValue). z ≡ new_pass h) c.pop-in-Some.new.self.items c.in-Some-pop.heap fresh)
          (subst (λ n. AreNewPasses now n c.deal_one.result) q c.deal_one.ensures.caller)));
    }
