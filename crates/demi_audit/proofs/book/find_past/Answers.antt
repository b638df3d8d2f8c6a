use Rattle.std.proofs.Common.{◌<◌, length, take, get_or, arith, ap, sym, subst}
use Rattle.std.proofs.lemmas.List.{take_all, take_more}
use Rattle.demi_spec.specs.Record.{Record}
use Rattle.demi_audit.specs.Past.{PastOf, no_record}
use Rattle.demi_audit.proofs.Logged.{counted}
use Rattle.demi_audit.proofs.book.find_past.Goals as goal

pub entry_at-requires : goal.entry_at-requires
entry_at-requires c =
    let r = c.requires in
    (r.0, r.1, omega (arith, counted c.args.text.now c.args.ends.now r.0 r.1, c.adding-test.true))

pub adding-preserved : goal.adding-preserved
adding-preserved c = λ rs l.
    let i = c.adding.i in
    let less : i < length rs = omega (arith, counted c.args.text.now c.args.ends.now rs l, c.adding-test.true) in
    let r = get_or rs i no_record in
    let same = ap (λ (x : Record). x.key) (sym (c.entry_at.ensures rs l)) in
    subst (PastOf c.add.new.self) (sym (take_more rs i no_record less)) (c.in_ok-add.ensures (take i rs) r (c.adding.invariant rs l) same)

pub returns : goal.returns
returns c = λ rs l.
    subst (PastOf c.adding.past) (take_all c.adding.i rs (omega (arith, counted c.args.text.now c.args.ends.now rs l, c.adding-test.false))) (c.adding.invariant rs l)
