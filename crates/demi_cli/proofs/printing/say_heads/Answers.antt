use Rattle.std.proofs.Common.{◌≡◌, ◌+◌, ◌++◌, ◌∙◌, ap, sym, subst, List, ℕ, length, take, arith, get_or}
use Rattle.demi_core.specs.World.{after_say}
use Rattle.demi_cli.specs.declared.head.Head.{Head}
use Rattle.demi_cli.specs.Lines.{count_line, line, lines_from}
use Rattle.demi_cli.specs.Saying.{SaidBut, SaidFront}
use Rattle.demi_cli.proofs.Says.{front_on, front_longer, said_on, said_whole, here, heads_count, line_here, lines_more, lines_on, lines_end, no_record, on_ok, on_err}
use Rattle.demi_cli.proofs.printing.say_heads.Goals as goal

-- no head
abbrev nothing : Head
nothing = record { index = 0; value_bytes = 0; link = 0; key_bytes = 0 }

pub overflow_add-end : goal.overflow_add-end
overflow_add-end g c =
    let h = c.requires.1 in
    let at = here c.args.heads.now c.requires.0 c.as_slice-rows.result.now c.as_slice-keys.result.now c.saying.i c.saying.at nothing h c.as_slice-rows.ensures.value c.as_slice-keys.ensures.value c.saying-test.true (c.saying.invariant.at c.requires.0 h) in
    omega (arith, at.within)

pub slice_bounds-say_line-end : goal.slice_bounds-say_line-end
slice_bounds-say_line-end g c =
    let h = c.requires.1 in
    let at = here c.args.heads.now c.requires.0 c.as_slice-rows.result.now c.as_slice-keys.result.now c.saying.i c.saying.at nothing h c.as_slice-rows.ensures.value c.as_slice-keys.ensures.value c.saying-test.true (c.saying.invariant.at c.requires.0 h) in
    omega (arith, at.within)

pub returns-in-Err-clause-part : goal.returns-in-Err-clause-part
returns-in-Err-clause-part g c = λ records h.
    let waits = c.saying.text.bytes in
    let on = lines_on records c.saying.i in
    let old = g.W.World.state c.args.world.now in
    let mid = g.W.World.state c.saying.world in
    let new = g.W.World.state c.say_line.new.world in
    subst (λ (l : List ℕ). SaidFront l old new) (sym on.1)
    (front_on waits on.0 (lines_from 1 (take c.saying.i records)) old mid new (c.saying.invariant.said records h) (front_longer waits on.0 mid new c.in-Err.ensures.part))

pub saying-preserved : goal.saying-preserved
saying-preserved g c =
    let old = g.W.World.state c.args.world.now in
    let mid = g.W.World.state c.saying.world in
    let new = g.W.World.state c.say_line.new.world in
    let e = c.in-Ok.ensures in
    let i = c.saying.invariant in
    record {
      at = λ records h.
          (here c.args.heads.now records c.as_slice-rows.result.now c.as_slice-keys.result.now c.saying.i c.saying.at nothing h c.as_slice-rows.ensures.value c.as_slice-keys.ensures.value c.saying-test.true (i.at records h)).next;
      said = λ records h.
          let at = here c.args.heads.now records c.as_slice-rows.result.now c.as_slice-keys.result.now c.saying.i c.saying.at nothing h c.as_slice-rows.ensures.value c.as_slice-keys.ensures.value c.saying-test.true (i.at records h) in
          let r = get_or records c.saying.i no_record in
          let next : c.saying.i + 1 ≡ 1 + c.saying.i = omega arith in
          let is = line_here (c.saying.i + 1) (1 + c.saying.i) (get_or c.as_slice-rows.result.now c.saying.i nothing) _ r next at.head_is at.key in
          let on : SaidBut c.say_line.new.text.bytes (c.saying.text.bytes ++ line (1 + c.saying.i) r) mid new = subst (λ (l : List ℕ). SaidBut c.say_line.new.text.bytes (c.saying.text.bytes ++ l) mid new) is e.said in
          subst (λ (l : List ℕ). SaidBut c.say_line.new.text.bytes l old new) (sym (lines_more 1 records c.saying.i at.less))
          (said_on c.saying.text.bytes (line (1 + c.saying.i) r) c.say_line.new.text.bytes (lines_from 1 (take c.saying.i records)) old mid new (i.said records h) on);
      later = omega (arith, e.later, i.later);
      faults = e.faults ∙ i.faults;
    }

pub returns-clause-said : goal.returns-clause-said
returns-clause-said g c = λ records h.
    let all : length c.as_slice-rows.result.now ≡ length records = ap (λ (l : List Head). length l) c.as_slice-rows.ensures.value ∙ heads_count c.args.heads.now records h in
    let waits = c.saying.text.bytes in
    let old = g.W.World.state c.args.world.now in
    let mid = g.W.World.state c.saying.world in
    let new = g.W.World.state c.say_count.new.world in
    on_ok c.say_count.result _ _
    (λ is. said_whole waits (count_line (length c.as_slice-rows.result.now)) (lines_from 1 (take c.saying.i records)) old mid new (c.saying.invariant.said records h) is
    ∙ ap (after_say old) (lines_end records c.saying.i (length c.as_slice-rows.result.now) all (omega (arith, c.saying-test.false))))
    c.say_count.ensures.said

pub returns-clause-part : goal.returns-clause-part
returns-clause-part g c = λ records h.
    let all : length c.as_slice-rows.result.now ≡ length records = ap (λ (l : List Head). length l) c.as_slice-rows.ensures.value ∙ heads_count c.args.heads.now records h in
    let waits = c.saying.text.bytes in
    let old = g.W.World.state c.args.world.now in
    let mid = g.W.World.state c.saying.world in
    let new = g.W.World.state c.say_count.new.world in
    on_err c.say_count.result _ _
    (λ f. subst (λ (l : List ℕ). SaidFront l old new) (lines_end records c.saying.i (length c.as_slice-rows.result.now) all (omega (arith, c.saying-test.false)))
    (front_on waits (count_line (length c.as_slice-rows.result.now)) (lines_from 1 (take c.saying.i records)) old mid new (c.saying.invariant.said records h) f))
    c.say_count.ensures.part
