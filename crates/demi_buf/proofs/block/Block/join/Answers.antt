use Rattle.std.proofs.Common.{◌≡◌, ℕ, sym, ap, ◌∙◌, subst, arith}
use Rattle.demi_buf.specs.Bufs.{BufValue, number_of, size_of, IsRest}
use Rattle.demi_buf.proofs.block.Block.join.Goals as goal

pub join_rest-whole-requires : goal.join_rest-whole-requires
join_rest-whole-requires c = let all = c.requires in let first : BufValue = c.take_out-first.result in let got = c.into_first-row.ensures in let class : c.class-class.result ≡ first.class = c.class-class.ensures in
    let len = c.len-count.ensures in let ok = c.args.bufs.ok.0 in
    let whole : IsRest all.block c.len-count.result 0 c.args.bufs.items = record {
      left = omega arith;
      alike = λ i b e. let a = all.alike i b e in (a.0, a.1 ∙ omega (arith, len, ok), omega arith);
      once = all.once;
    } in
    let out = c.take_out-first.ensures.rest all.block whole in let left = out.1.left in
    (got.0, subst (λ (b : ℕ). IsRest b c.len-count.result 1 c.take_out-first.new.bufs.items) (sym out.0 ∙ (got.1 ∙ ap (number_of got.0) (sym class))) out.1, got.3 ∙ got.2, got.4 ∙ ap size_of (sym class), omega arith)
