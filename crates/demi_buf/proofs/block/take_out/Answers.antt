use Rattle.std.proofs.Common.{◌≡◌, ◌<◌, ◌≢◌, ℕ, ◌+◌, ◌-◌, List, get_or, sym, ap, ◌∙◌, subst, arith}
use mathlib.Core.Logic.{dite}
use lib.ListN.{get_elem?}
use native.Mathlib.Decide.{ℕ_discrete}
use Rattle.demi_buf.specs.Bufs.{BufValue, IsRest}
use Rattle.demi_buf.proofs.Rest.{elem_or, or_elem, no_room, taken}
use Rattle.demi_buf.proofs.block.take_out.Goals as goal

taken_out : (c : goal.After-swap_remove) (block : ℕ) → IsRest block c.args.count c.args.slot c.args.bufs.now.items
    → (c.swap_remove.result.slot ≡ c.args.slot) × (c.swap_remove.result.block ≡ block) × (c.swap_remove.result.count ≡ c.args.count) × IsRest block c.args.count (c.args.slot + 1) c.swap_remove.new.self.items
taken_out c block rest =
    let items = c.loop-i.bufs.items in let new = c.swap_remove.new.self.items in let i : ℕ = c.loop-i.i in let x : BufValue = c.swap_remove.result in let y : BufValue = c.index.result.now in
    let inside = c.loop-i-test.true in let len = c.len.ensures in let ok = c.loop-i.bufs.ok.0 in let less = c.swap_remove.ensures.len in let ok' = c.swap_remove.new.self.ok.0 in
    let same : x ≡ y = c.swap_remove.ensures.value ∙ ((elem_or items i (get_or items i y) x (or_elem items i y (omega arith))).1 ∙ sym c.index.ensures) in
    let slot : x.slot ≡ c.args.slot = ap (λ (b : BufValue). b.slot) same ∙ (sym c.number.ensures.0 ∙ c.if-number-slot.true) in
    let t = taken block c.args.count c.args.slot items (subst (IsRest block c.args.count c.args.slot) (sym c.loop-i.invariant.2) rest) new i x (omega arith) c.swap_remove.ensures.value slot (omega arith)
    (subst (λ (n : ℕ). ((d : BufValue) → i + 1 < n → get_or new i d ≡ get_or items (n - 1) d) × ((k : ℕ) (d : BufValue) → k ≢ i → k + 1 < n → get_or new k d ≡ get_or items k d)) ok c.swap_remove.ensures.by_index) in
    (slot, t.0, t.1, t.2)

pub returns-then-number-slot-clause-slot : goal.returns-then-number-slot-clause-slot
returns-then-number-slot-clause-slot c = let asked = c.requires in let t = taken_out c asked.0 asked.1 in (t.0, t.2)

pub returns-then-number-slot-clause-rest : goal.returns-then-number-slot-clause-rest
returns-then-number-slot-clause-rest c = λ block rest. let t = taken_out c block rest in (t.1, t.3)

pub loop-i-preserved : goal.loop-i-preserved
loop-i-preserved c = let inside = c.loop-i-test.true in let len = c.len.ensures in let i : ℕ = c.loop-i.i in let items = c.loop-i.bufs.items in (
  omega arith,
  (λ j b lt e. dite (ℕ_discrete j i)
      (λ here. let y : BufValue = c.index.result.now in
      let is : b ≡ y = sym (elem_or items i b y (ap (get_elem? items) (sym here) ∙ e)).1 ∙ sym c.index.ensures in
      subst (λ (u : BufValue). (u.slot < u.count) × (u.slot ≢ c.args.slot)) (sym is) (let n = c.number.ensures in (omega (arith, n.0, n.1), (λ s. c.if-number-slot.false (n.0 ∙ s)))))
      (λ other. c.loop-i.invariant.1 j b (omega arith) e)),
  c.loop-i.invariant.2,
)

pub unreachable-requires : goal.unreachable-requires
unreachable-requires c = let asked = c.requires in let done = c.loop-i-test.false in let len = c.len.ensures in let ok = c.loop-i.bufs.ok.0 in
    let whole = c.loop-i.invariant.2 in let many = ap (λ (l : List BufValue). Rattle.std.proofs.Common.length l) whole in
    no_room asked.0 c.args.count c.args.slot c.args.bufs.now.items asked.1 asked.2 (λ j b lt e. c.loop-i.invariant.1 j b (omega arith) (ap (λ (l : List BufValue). get_elem? l j) whole ∙ e))
