use Rattle.std.proofs.Common.{◌≡◌, ℕ, ◌+◌, ◌*◌, refl, sym, ap, ◌∙◌, arith}
use Rattle.demi_buf.specs.Bufs.{number_of, size_of}
use Rattle.demi_buf.proofs.block.join_rest.Goals as goal

pub loop-slot-init : goal.loop-slot-init
loop-slot-init c = let asked = c.requires in let long = asked.3 in let some_left = asked.4 in (omega arith, omega arith, (asked.0, asked.1, asked.2), refl, omega arith)

pub take_out-buf-requires : goal.take_out-buf-requires
take_out-buf-requires c = let before = c.loop-slot.invariant.2 in (number_of before.0 c.args.class, before.1, c.loop-slot-test.true)

pub join_to-whole-requires : goal.join_to-whole-requires
join_to-whole-requires c = let inv = c.loop-slot.invariant in let before = inv.2 in let slot = c.take_out-buf.ensures.slot.0 in let low = inv.0 in
    let out = c.take_out-buf.ensures.rest (number_of before.0 c.args.class) before.1 in
    (before.0, omega arith, out.0, inv.3 ∙ before.2, inv.4 ∙ ap (λ (k : ℕ). k * size_of c.args.class) (sym slot))

pub loop-slot-preserved : goal.loop-slot-preserved
loop-slot-preserved c = let inv = c.loop-slot.invariant in let before = inv.2 in let slot = c.take_out-buf.ensures.slot.0 in let more = c.loop-slot-test.true in
    let out = c.take_out-buf.ensures.rest (number_of before.0 c.args.class) before.1 in let joined = c.join_to-whole.ensures in
    (omega arith, omega arith, (before.0, out.1, before.2), joined.0 ∙ inv.3, joined.1 ∙ ap (λ (k : ℕ). (k + 1) * size_of c.args.class) slot)

pub destroy_empty-requires : goal.destroy_empty-requires
destroy_empty-requires c = let inv = c.loop-slot.invariant in let left = inv.2.1.left in let done = c.loop-slot-test.false in let ok = c.loop-slot.bufs.ok.0 in omega arith

pub returns : goal.returns
returns c = let inv = c.loop-slot.invariant in let done = c.loop-slot-test.false in let high = inv.1 in let all : c.loop-slot.slot ≡ c.args.count = omega arith in
    (inv.3, inv.4 ∙ ap (λ (k : ℕ). k * size_of c.args.class) all)
