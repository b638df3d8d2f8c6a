use Rattle.std.proofs.Common.{◌≡◌, ℕ, ◌<◌, ◌≤◌, [], ◌∷◌, ◌++◌, get_or, set, sym, ap, subst, ◌∙◌}
use Rattle.std.specs.Prelude.{replicate}
use Rattle.std.specs.Int.{bit_at}
use Rattle.std.proofs.lemmas.Nat.Bits.{bit_at-zero}
use Rattle.demi_port_core.specs.Bits.{has_bit}
use Rattle.demi_device.proofs.Bells.{first_has, not_one, or_none, or_right}
use Rattle.demi_device.proofs.inbox.Inbox.take_in.Goals as goal
use Rattle.demi_port_core.specs.Words.{bells_word}

pub fetch_rung-requires-clause-taken : goal.fetch_rung-requires-clause-taken
fetch_rung-requires-clause-taken g c κs within i small bound set = let b = c.take-bells.ensures.bells in let n : ℕ = b.1 in
    ap (λ z. bit_at z.rang i) b.4 ∙ or_right c.self.inside.seat.rang n i (sym (first_has i n (replicate 15 0) bound) ∙ ap (λ ws. has_bit ws i) (sym b.3) ∙ set)

pub fetch_rung-requires-clause-rest : goal.fetch_rung-requires-clause-rest
fetch_rung-requires-clause-rest g c κs within i small bound unset = let b = c.take-bells.ensures.bells in let n : ℕ = b.1 in
    ap (λ z. bit_at z.rang i) b.4 ∙ or_none c.self.inside.seat.rang n i (ap (λ z. bit_at z.seat.rang i) c.self.view_is ∙ c.requires.cleared i small bound)
    (not_one n i (λ one. unset (ap (λ ws. has_bit ws i) b.3 ∙ first_has i n (replicate 15 0) bound ∙ one)))

pub returns-clause-quiet : goal.returns-clause-quiet
returns-clause-quiet g c nothing = let b = c.take-bells.ensures.bells in let t : ℕ = b.0 in let n : ℕ = b.1 in let f = c.fetch_rung.ensures in let k = f.none nothing in (
  (
    c.args.self.now.seat.looks,
    t,
    n,
    subst (λ (m : ℕ). m ≤ t) (ap (λ z. z.seat.clock) c.self.view_is) b.2,
    ap (λ z. z.looks) f.fetched.1 ∙ ap (λ z. z.looks) b.4 ∙ ap (λ z. z.seat.looks ++ (t, (bells_word, n)) ∷ []) c.self.view_is,
    λ i small bound. not_one n i (λ one. k.1 i (subst (λ (m : ℕ). i < m) (ap (λ z. z.tokens.slots) c.requires.port) small) bound (ap (λ ws. has_bit ws i) b.3 ∙ first_has i n (replicate 15 0) bound ∙ one)),
  ),
  k.0 ∙ ap (λ z. z.fetched) b.4 ∙ ap (λ z. z.seat.fetched) c.self.view_is,
)

pub returns-then-bells-eq0-clause-cleared : goal.returns-then-bells-eq0-clause-cleared
returns-then-bells-eq0-clause-cleared g c i small bound = let b = c.take-bells.ensures.bells in let n : ℕ = b.1 in let zero : n ≡ 0 = ap (λ ws. get_or ws 0 0) (sym b.3) ∙ c.if-bells-eq0.true in
    ap (λ z. bit_at z.rang i) b.4 ∙ or_none c.self.inside.seat.rang n i (ap (λ z. bit_at z.seat.rang i) c.self.view_is ∙ c.requires.cleared i small bound) (ap (λ m. bit_at m i) zero ∙ bit_at-zero i)
