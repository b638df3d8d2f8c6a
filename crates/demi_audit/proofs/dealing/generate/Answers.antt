use Rattle.std.proofs.Common.{◌≡◌, ◌∙◌, ap, map, arith}
use Rattle.std.specs.List.{range_with_len}
use Rattle.demi_audit.specs.Generator.{input_of}
use Rattle.demi_audit.proofs.Deals.{one_input}
use Rattle.demi_audit.proofs.Sizes.{inputs_small}
use Rattle.demi_audit.proofs.dealing.generate.Goals as goal

pub loop-link-preserved : goal.loop-link-preserved
loop-link-preserved c = one_input (input_of c.args.seed c.args.links c.args.count) c.loop-link.all.items c.push.new.self.items c.in_ok-input.input c.loop-link.link
    c.loop-link.invariant c.in_ok-input.ensures c.in_ok-push.ensures.items

pub returns-clause-small : goal.returns-clause-small
returns-clause-small c =
    let end : c.loop-link.link ≡ c.args.links = omega arith in
    inputs_small c.args.seed c.args.links c.args.count c.loop-link.all.items c.requires.count
    (c.loop-link.invariant ∙ ap (λ n. map (input_of c.args.seed c.args.links c.args.count) (range_with_len 0 n)) end)
