use Rattle.std.proofs.Common.{◌≡◌, ℕ, suc, ◌<◌, length, get_or, take, drop, sym, ap, subst, ◌∙◌, arith}
use Rattle.std.proofs.lemmas.Bool.{eqb-true}
use Rattle.demi_port_core.specs.declared.place.Place.{Place}
use Rattle.demi_port_core.specs.declared.place.Token.{Token}
use Rattle.demi_device.proofs.Ring.{item_is}
use Rattle.demi_device.proofs.Taking.{any_at, parted_at}
use Rattle.demi_device.proofs.finishing.remove_token.Goals as goal

pub returns-then-eq-clause-taken : goal.returns-then-eq-clause-taken
returns-then-eq-clause-taken c = let l = c.loop-i.unanswered.items in let i : ℕ = c.loop-i.i in let r = c.remove.result in let x = c.index.result.now in
    let within : i < length l = let n = c.len-i-end.ensures in let t = c.loop-i-test.true in let s = c.loop-i.invariant.same in let ok = c.loop-i.unanswered.ok in let e = ap (λ v. v.len) s in omega arith in
    let here : get_or l i r ≡ x = item_is l i x r within c.index.ensures in
    let is : x ≡ r = sym here ∙ sym c.remove.ensures.value in
    let place : r.0.0 ≡ c.args.place.0 = ap (λ y. y.0.0) (sym is) ∙ eqb-true _ _ (sym c.eq.ensures ∙ c.if-eq.true) in
    let y : Place × Token = (c.args.place, r.1) in
    let same : x ≡ y = is ∙ (λ q. (record { 0 = place q }, r.1)) in
    (take i l, drop (suc i) l, ap (λ v. v.items) (sym c.loop-i.invariant.same) ∙ parted_at l i y r within (here ∙ same), c.remove.ensures.items)

pub unreachable-requires : goal.unreachable-requires
unreachable-requires c = let l = c.loop-i.unanswered.items in
    let w = any_at (λ (y : Place × Token). y.0.0 ≡ c.args.place.0) l (subst (λ v. Rattle.demi_port_core.specs.History.AnyOf (λ (y : Place × Token). y.0.0 ≡ c.args.place.0) v.items) (sym c.loop-i.invariant.same) c.requires) in
    let small = w.2 in c.loop-i.invariant.others w.0 w.1 (let n = c.len-i-end.ensures in let t = c.loop-i-test.false in let ok = c.loop-i.unanswered.ok in let e = ap (λ v. v.len) c.loop-i.invariant.same in omega arith) w.3
