use Rattle.std.proofs.Common.{◌≡◌, ℕ, ◌+◌, ◌-◌, [], ◌∷◌, ◌++◌, length, sym, ap, ◌∙◌, subst, arith}
use Rattle.std.specs.Prelude.{Option, Some, None}
use Rattle.demi_buf.specs.Bufs.{BufValue}
use Rattle.demi_heap_core.specs.declared.shape.Superblock.{Superblock}
use Rattle.demi_heap.specs.Rule.{IsAt, lies_in}
use Rattle.demi_heap.specs.Laid.{EachLies, IsFront}
use Rattle.demi_heap.proofs.Laying.{total_snoc, lies_less, lies_here, lies_narrower, front_more, front_none, front_whole}
use Rattle.demi_heap.proofs.carve.take_back.Goals as goal

pub loop-init : goal.loop-init
loop-init c = let r = c.args.carve in let rs = c.args.carves.now.items in let t = total_snoc rs r in let wide = c.requires.wide in let inv = c.carve.invariant in
    let same : c.carve.inside.count ≡ r.count = ap (λ (q : Superblock). q.count) c.carve.view_is in
    let none = inv.1 in let room = inv.2 in (
      omega arith,
      c.requires.each,
      subst (IsFront r) (sym inv.0) (front_none r),
      none,
      room,
    )

pub unreachable-requires : goal.unreachable-requires
unreachable-requires c = let l = lies_less (c.args.carves.now.items ++ c.args.carve ∷ []) c.take_last.new.self.items c.take_last.result (subst (EachLies (c.args.carves.now.items ++ c.args.carve ∷ [])) c.take_last.ensures.items c.loop.invariant.1) in
    let some = l.1.1 in let none = c.in-None.is in cc

pub loop-preserved : goal.loop-preserved
loop-preserved c = let r = c.args.carve in let rs = c.args.carves.now.items in let row' = c.take_last.new.self.items in let before = c.loop.invariant in
    let l = lies_less (rs ++ r ∷ []) row' c.take_last.result (subst (EachLies (rs ++ r ∷ [])) c.take_last.ensures.items before.1) in
    let same : c.carve.inside.count ≡ r.count = ap (λ (q : Superblock). q.count) c.carve.view_is in
    let more = c.loop-test.true in let b₀ = before.0 in let b₃ = before.3 in let len = c.take_last.ensures.len in
    let is : l.1.0 ≡ c.in-Some.buf = in_it l.1.0 c.in-Some.buf (sym l.1.1 ∙ c.in-Some.is) in
    let i : ℕ = r.count - (c.loop.counter + 1) in
    let place : lies_in (rs ++ r ∷ []) (length row') ≡ Some (r, i) = lies_here rs r [] (length row') i (omega arith) (omega arith) in
    let here : IsAt (Some (r, i)) c.in-Some.buf = subst (λ (b : BufValue). IsAt (Some (r, i)) b) is (subst (λ (q : Option (Superblock × ℕ)). IsAt q l.1.0) place l.1.2) in (
      omega arith,
      l.0,
      subst (IsFront r) (sym c.push_reserved.ensures.items) (front_more r c.loop.bufs.items c.in-Some.buf i before.2 here (omega arith)),
      omega arith,
      omega arith,
    )
  where
    in_it : (x y : BufValue) → Some x ≡ Some y → x ≡ y
    in_it x y q = ap (out x) q
      where
        out : BufValue → Option BufValue → BufValue
        out d None = d
        out d (Some z) = z

pub join-requires : goal.join-requires
join-requires c = let r = c.args.carve in let before = c.loop.invariant in let done = c.loop-test.false in let b₃ = before.3 in
    let same : c.carve.inside.count ≡ r.count = ap (λ (q : Superblock). q.count) c.carve.view_is in
    front_whole r c.loop.bufs.items before.2 (omega arith)

pub returns : goal.returns
returns c = let r = c.args.carve in let rs = c.args.carves.now.items in let before = c.loop.invariant in let done = c.loop-test.false in let b₀ = before.0 in
    let same : c.carve.inside.count ≡ r.count = ap (λ (q : Superblock). q.count) c.carve.view_is in
    record { wide = omega arith; each = lies_narrower rs (r ∷ []) c.loop.row.items (omega arith) before.1 }
