use Rattle.std.proofs.Common.{◌≡◌, ℕ, ◌+◌, ◌-◌, sym, ap, ◌∙◌, subst, arith}
use Rattle.std.specs.Prelude.{Some}
use Rattle.std.specs.Slots.{slots_filled, slots_items, slots_len}
use Rattle.demi_buf.specs.Bufs.{BufValue}
use Rattle.demi_heap_core.specs.declared.shape.Superblock.{Superblock}
use Rattle.demi_heap.specs.Rule.{IsAt}
use Rattle.demi_heap.specs.Laid.{IsFront, IsTakenFrom}
use Rattle.demi_heap.proofs.Laying.{in_it, front_more, front_whole, taken_value}
use Rattle.demi_heap.proofs.close.join_block.Goals as goal

pub unreachable-requires : goal.unreachable-requires
unreachable-requires c = let inv = c.loop-taken.invariant in let range = c.requires.range.0 in let more = c.loop-taken-test.true in
    let same : c.carve.inside.count ≡ c.args.carve.count = ap (λ (q : Superblock). q.count) c.carve.view_is in
    let got = taken_value c.args.carve c.args.end c.loop-taken.taken (slots_items c.args.closed.now.slots) (slots_items c.loop-taken.closed.slots) c.take_at.result range (omega arith) inv.1 c.requires.home c.take_at.ensures.value in
    let is = got.1 in let none = c.in-None.is in cc

pub loop-taken-preserved : goal.loop-taken-preserved
loop-taken-preserved c = let inv = c.loop-taken.invariant in let range = c.requires.range.0 in let more = c.loop-taken-test.true in let r = c.args.carve in
    let same : c.carve.inside.count ≡ r.count = ap (λ (q : Superblock). q.count) c.carve.view_is in let t : ℕ = c.loop-taken.taken in
    let got = taken_value r c.args.end t (slots_items c.args.closed.now.slots) (slots_items c.loop-taken.closed.slots) c.take_at.result range (omega arith) inv.1 c.requires.home c.take_at.ensures.value in
    let is : got.0 ≡ c.in-Some.buf = in_it got.0 c.in-Some.buf (sym got.1 ∙ c.in-Some.is) in
    let here : IsAt (Some (r, r.count - (t + 1))) c.in-Some.buf = subst (λ (b : BufValue). IsAt (Some (r, r.count - (t + 1))) b) is got.2 in
    let after = c.take_at.ensures in let next : c.args.end - t - 1 ≡ c.args.end - (t + 1) = omega arith in let len = inv.5 in (
      subst (λ (n : ℕ). IsTakenFrom (slots_filled c.take_at.new.closed.slots) (slots_len c.take_at.new.closed.slots) n) next after.taken,
      after.same.0 ∙ inv.1,
      after.same.1 ∙ inv.2,
      after.same.2 ∙ inv.3,
      subst (IsFront r) (sym c.push_reserved.ensures.items) (front_more r c.loop-taken.bufs.items c.in-Some.buf (r.count - (t + 1)) inv.4 here (omega arith)),
      omega arith,
      omega arith,
    )

pub join-requires : goal.join-requires
join-requires c = let inv = c.loop-taken.invariant in let done = c.loop-taken-test.false in let r = c.args.carve in let len = inv.5 in
    let same : c.carve.inside.count ≡ r.count = ap (λ (q : Superblock). q.count) c.carve.view_is in
    front_whole r c.loop-taken.bufs.items inv.4 (omega arith)
