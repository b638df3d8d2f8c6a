use Rattle.std.proofs.Common.{◌≡◌, ℕ, ◌-◌, ◌≤◌, List, [], ◌∷◌, ◌++◌, sym, ap, ◌∙◌, subst, arith, append_assoc}
use lib.ListN.{get_elem?}
use Rattle.std.specs.Prelude.{Option}
use Rattle.std.specs.Slots.{IsFull, slots_filled, slots_items, slots_len}
use Rattle.demi_buf.specs.Bufs.{BufValue}
use Rattle.demi_heap_core.specs.declared.shape.Superblock.{Superblock}
use Rattle.demi_heap_core.specs.Owner.{total}
use Rattle.demi_heap.specs.Laid.{places, IsTakenFrom, IsWholeFrom}
use Rattle.demi_heap.proofs.Laying.{total_snoc, whole_block}
use Rattle.demi_heap.proofs.close.settle.Goals as goal

pub overflow_sub-first : goal.overflow_sub-first
overflow_sub-first c = let r = c.in-Some.carve in let t = total_snoc c.pop.new.self.items r in let whole = ap (total places) c.in-Some.ensures.items in let sum = c.loop-carve.invariant.5 in
    let same : c.carve.inside.count ≡ r.count = ap (λ (q : Superblock). q.count) c.carve.view_is in omega arith

pub all_free-requires : goal.all_free-requires
all_free-requires c = let inv = c.loop-carve.invariant in let len = ap slots_len inv.3 in let full = c.requires.full.2 in let wide = inv.6 in
    (subst IsFull (sym inv.3) c.requires.full.0, omega arith, omega arith)

pub join_block-requires-clause-range : goal.join_block-requires-clause-range
join_block-requires-clause-range c = let r = c.in-Some.carve in let inv = c.loop-carve.invariant in let t = total_snoc c.pop.new.self.items r in let whole = ap (total places) c.in-Some.ensures.items in let sum = inv.5 in let wide = inv.6 in let len = inv.2 in let full = c.requires.full.3 in
    (omega arith, omega arith, inv.0)

pub join_block-requires-clause-home : goal.join_block-requires-clause-home
join_block-requires-clause-home c = let r = c.in-Some.carve in let inv = c.loop-carve.invariant in let rs = c.pop.new.self.items in let t = total_snoc rs r in let whole = ap (total places) c.in-Some.ensures.items in let sum = inv.5 in
    let same : c.carve.inside.count ≡ r.count = ap (λ (q : Superblock). q.count) c.carve.view_is in
    subst (λ (row : List (Option BufValue)). IsWholeFrom (c.loop-carve.end - r.count) row r) (sym inv.1)
    (whole_block (slots_items c.args.closed.words) (slots_items c.args.closed.slots) c.args.carves.items rs inv.4.0 r c.loop-carve.end
    (inv.4.1 ∙ ap (λ (l : List Superblock). l ++ inv.4.0) c.in-Some.ensures.items) (omega arith) c.requires.home
    (λ k low high. ap (λ ws. get_elem? (slots_items ws) k) (sym inv.3) ∙ c.all_free.ensures c.if-all_free.true k (subst (λ (n : ℕ). c.loop-carve.end - n ≤ k) (sym same) low) high))

pub give_up-requires : goal.give_up-requires
give_up-requires c = let r = c.in-Some.carve in let inv = c.loop-carve.invariant in let t = total_snoc c.pop.new.self.items r in let whole = ap (total places) c.in-Some.ensures.items in let sum = inv.5 in let wide = inv.6 in let len = inv.2 in let full = c.requires.full.3 in
    record { range = (omega arith, omega arith, inv.0) }

pub loop-carve-preserved-then-all_free : goal.loop-carve-preserved-then-all_free
loop-carve-preserved-then-all_free c = let r = c.in-Some.carve in let inv = c.loop-carve.invariant in let rs = c.pop.new.self.items in let t = total_snoc rs r in let whole = ap (total places) c.in-Some.ensures.items in let sum = inv.5 in let wide = inv.6 in
    let same : c.carve.inside.count ≡ r.count = ap (λ (q : Superblock). q.count) c.carve.view_is in let after = c.join_block.ensures in (
      subst (λ (n : ℕ). IsTakenFrom (slots_filled c.join_block.new.closed.slots) (slots_len c.join_block.new.closed.slots) (c.loop-carve.end - n)) (sym same) after.taken,
      after.same.0 ∙ inv.1,
      after.same.1 ∙ inv.2,
      after.same.2 ∙ inv.3,
      (r ∷ inv.4.0, inv.4.1 ∙ (ap (λ (l : List Superblock). l ++ inv.4.0) c.in-Some.ensures.items ∙ append_assoc rs (r ∷ []) inv.4.0)),
      omega arith,
      omega arith,
    )

pub loop-carve-preserved : goal.loop-carve-preserved
loop-carve-preserved c = let r = c.in-Some.carve in let inv = c.loop-carve.invariant in let rs = c.pop.new.self.items in let t = total_snoc rs r in let whole = ap (total places) c.in-Some.ensures.items in let sum = inv.5 in let wide = inv.6 in
    let same : c.carve.inside.count ≡ r.count = ap (λ (q : Superblock). q.count) c.carve.view_is in let after = c.give_up.ensures in (
      subst (λ (n : ℕ). IsTakenFrom (slots_filled c.give_up.new.closed.slots) (slots_len c.give_up.new.closed.slots) (c.loop-carve.end - n)) (sym same) after.taken,
      after.same.0 ∙ inv.1,
      after.same.1 ∙ inv.2,
      after.same.2 ∙ inv.3,
      (r ∷ inv.4.0, inv.4.1 ∙ (ap (λ (l : List Superblock). l ++ inv.4.0) c.in-Some.ensures.items ∙ append_assoc rs (r ∷ []) inv.4.0)),
      omega arith,
      omega arith,
    )
