use Rattle.std.proofs.Common.{◌≢◌, ℕ, ◌+◌, ◌*◌, ◌/◌, ◌≤◌, inl, inr, refl, ap, ◌∙◌, arith, None, ◌∷◌}
use Rattle.demi_port_core.specs.Told.{looking}
use Rattle.demi_port_core.proofs.Sights.{later_look, later_same, missed_word, missed_race}
use Rattle.demi_port.proofs.tables.Tables.try_token.Goals as goal
use Rattle.demi_port_core.specs.Words.{token_word}

pub returns-then-word-ne0-clause-lost : goal.returns-then-word-ne0-clause-lost
returns-then-word-ne0-clause-lost g c = let k = c.look-word.ensures.look in let m = missed_word c.args.pass.now.seat.me.0 _ k.0 c.args.index c.look-word.result k.1 k.2 (inl c.if-word-ne0.true) in (m.0, m.1, c.look-word.ensures.port.2)

pub returns-then-round-ge-LAST-clause-lost : goal.returns-then-round-ge-LAST-clause-lost
returns-then-round-ge-LAST-clause-lost g c = let k = c.look-word.ensures.look in let n : ℕ = c.look-word.result in let big : 1099511627776 ≤ n / 8 = omega (arith, c.if-round-ge-LAST.true) in
    let m = missed_word c.args.pass.now.seat.me.0 _ k.0 c.args.index n k.1 k.2 (inr big) in (m.0, m.1, c.look-word.ensures.port.2)

pub returns-then-acquire-clause-won : goal.returns-then-acquire-clause-won
returns-then-acquire-clause-won g c op is = let k = c.look-word.ensures.look in let a = c.acquire.ensures.won op is c.if-acquire.true in let v = c.args.pass.now.seat.me.0 in let w = c.look-word.new.pass.seat.me.0 in let i : ℕ = c.args.index in let n : ℕ = c.look-word.result in
    let mid = later_look v v w k.0 (token_word i) n (later_same v) k.1 k.2 in let x = looking a.0 (token_word i) (n / 8 * 8) w in
    (x, later_look v w x a.0 (token_word i) (n / 8 * 8) mid a.1 refl, a.2, a.3 ∙ ap (λ l. (i, None) ∷ l) c.look-word.ensures.port.2)

pub returns-else-acquire-clause-lost : goal.returns-else-acquire-clause-lost
returns-else-acquire-clause-lost g c = let k = c.look-word.ensures.look in let a = c.acquire.ensures.lost c.if-acquire.false in let n : ℕ = c.look-word.result in let m : ℕ = a.1 in
    let even = c.if-word-ne0.false in let ne : m ≢ n = λ e. a.2 (omega (arith, e, even)) in
    let r = missed_race c.args.pass.now.seat.me.0 c.look-word.new.pass.seat.me.0 _ k.0 a.0 c.args.index n m k.1 k.2 a.3 a.4 ne in (r.0, r.1, a.5 ∙ c.look-word.ensures.port.2)
