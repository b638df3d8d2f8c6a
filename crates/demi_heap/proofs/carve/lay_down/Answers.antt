use Rattle.std.proofs.Common.{◌≡◌, ℕ, ◌+◌, ◌-◌, ◌<◌, List, [], ◌∷◌, ◌++◌, length, get_or, sym, ap, ◌∙◌, subst, arith}
use Rattle.demi_buf.specs.Bufs.{BufValue, carved, number_of, superblock_of}
use Rattle.demi_buf.specs.Names.{place_block}
use Rattle.demi_heap_core.specs.declared.shape.Superblock.{Superblock}
use Rattle.demi_heap.specs.Laid.{counts_shape, EachLies, IsLaid}
use Rattle.demi_heap.proofs.Laying.{total_snoc, lies_wider, lay_next}
use Rattle.demi_heap.proofs.carve.lay_down.Goals as goal

pub loop-init : goal.loop-init
loop-init c = let n : ℕ = c.len-count.result in let p = superblock_of c.args.bufs.items in let rs = c.args.carves.now.items in let row = c.args.row.now.items in
    let r : Superblock = record { place = p; count = n } in let bufs = c.args.bufs.items in
    let laid = c.requires.laid.0 in let wide = laid.wide in
    let size : length bufs ≡ n = omega arith in let whole : bufs ≡ carved p c.args.class n n = subst (λ (m : ℕ). bufs ≡ carved p c.args.class m m) size c.requires.new.0 in
    let all : n ≡ n - 0 = omega arith in (
      whole ∙ ap (λ (m : ℕ). carved p c.args.class n m) all,
      omega arith,
      omega arith,
      omega arith,
      omega arith,
      lies_wider rs (r ∷ []) row (omega arith) laid.each,
      c.requires.laid.1,
    )

pub loop-preserved : goal.loop-preserved
loop-preserved c = let n : ℕ = c.len-count.result in let p = superblock_of c.args.bufs.items in let rs = c.args.carves.now.items in let h = counts_shape c.args.counts.now in
    let before = c.loop.invariant in let i : ℕ = c.loop.counter in let more = c.loop-test.true in let some_left : 0 < n - i = omega arith in let long = before.3 in
    let laid = c.requires.laid.0 in let wide = laid.wide in let near = c.requires.slots in let low = near.0 in let high = near.1 in
    let one = lay_next h c.args.class rs p n (n - i) i c.loop.bufs.items c.take_last-buf.new.self.items c.take_last-buf.result c.loop.row.items c.push_reserved.new.self.items
    before.0 some_left (omega arith) c.take_last-buf.ensures.items c.push_reserved.ensures.items (omega arith) before.5 before.6 (omega arith) (omega arith) in
    let next : n - i - 1 ≡ n - (i + 1) = omega arith in (
      one.0 ∙ ap (λ (m : ℕ). carved p c.args.class n m) next,
      omega arith,
      omega arith,
      omega arith,
      omega arith,
      one.1,
      one.2,
    )

pub returns-clause-laid : goal.returns-clause-laid
returns-clause-laid c = let n : ℕ = c.len-count.result in let rs = c.args.carves.now.items in
    let before = c.loop.invariant in let r : Superblock = record { place = number_of (place_block c.place-place.result) c.class-class_of.result; count = n } in
    let lens = c.args.bufs.ok.0 in let low = c.requires.new.2 in let some_one : 0 < length c.args.bufs.items = omega arith in
    let is : superblock_of c.args.bufs.items ≡ number_of (place_block c.place-place.result) c.class-class_of.result =
    first_of c.args.bufs.items c.index-2.result.now some_one c.index-2.ensures ∙ (sym c.place-place.ensures
    ∙ ap (number_of (place_block c.place-place.result)) (sym (c.class-class_of.ensures ∙ ap (λ (b : BufValue). b.class) (same_first c.args.bufs.items c.index.result.now c.index-2.result.now some_one c.index.ensures c.index-2.ensures)))) in
    let long = before.3 in let wide = c.requires.laid.0.wide in let t = total_snoc rs r in (
      subst (λ (xs : List Superblock). IsLaid xs c.loop.row.items) (sym c.push_reserved-2.ensures.items) record { wide = omega arith; each = subst (λ (q : ℕ). EachLies (rs ++ record { place = q; count = n } ∷ []) c.loop.row.items) is before.5 },
      before.6,
    )
  where
    first_of : (bs : List BufValue) (b : BufValue) → 0 < length bs → b ≡ get_or bs 0 b → superblock_of bs ≡ b.block
    first_of [] b lt e = absurd (omega arith)
    first_of (x ∷ bs) b lt e = ap (λ (y : BufValue). y.block) (sym e)

    same_first : (bs : List BufValue) (a b : BufValue) → 0 < length bs → a ≡ get_or bs 0 a → b ≡ get_or bs 0 b → a ≡ b
    same_first [] a b lt e f = absurd (omega arith)
    same_first (x ∷ bs) a b lt e f = e ∙ sym f
