use Rattle.std.proofs.Common.{⊎_elim, ◌≡◌, ◌≢◌, ℕ, ◌+◌, ◌<◌, ◌≤◌, false, true, [], ◌∷◌, length, sym, ap, subst, ◌∙◌, arith, length-append}
use mathlib.Core.Logic.{dite}
use native.Mathlib.Decide.{ℕ_discrete}
use Rattle.std.specs.Int.{bit_at}
use Rattle.demi_port_core.specs.Bits.{has_bit}
use Rattle.demi_port_core.specs.Told.{clear}
use Rattle.demi_device.specs.Holding.{FetchedMore, InboxValue}
use Rattle.demi_device.proofs.Bells.{clear_none, clear_other, clear_same, fetched_one, none_from}
use Rattle.demi_device.proofs.Ring.{sides}
use Rattle.demi_device.proofs.inbox.Inbox.fetch_rung.Goals as goal
use Rattle.demi_device.proofs.inbox.Inbox.fetch_rung.Goals.{then-has, else-has}

pub loop-index-preserved : goal.loop-index-preserved
loop-index-preserved g c = let l = c.loop-index in let v = l.invariant in let n : ℕ = l.index in let few = c.bells-index-end.ensures.few in let test = c.loop-index-test.true in let low : n < 64 = (let a = few.0 in omega arith) in elim c.if-has.branch [
  | then-has w ↦ let f = w.fetch_one.ensures in let e = ap (λ z. z.seat) w.self-is ∙ f.fetched.1 in let x = f.fetched.0 in record {
    port = ap (λ z. z.port) e ∙ v.port;
    given = ap (λ z. z.given) w.self-is ∙ f.given ∙ v.given;
    fetched = fetched_one n c.args.self.now.seat l.self.seat c.if-has.self.seat v.fetched (x, e);
    cleared = λ i below small bound. ap (λ z. bit_at z.rang i) e ∙ dite (ℕ_discrete i n) (λ same. subst (λ (j : ℕ). bit_at (clear n l.self.seat.rang) j ≡ 0) (sym same) (clear_same n l.self.seat.rang low)) (λ ne. clear_other n l.self.seat.rang i low bound ne ∙ v.cleared i (omega arith) small bound);
    ahead = λ i above small bound set. ap (λ z. bit_at z.rang i) e ∙ clear_other n l.self.seat.rang i low bound (λ same. omega arith) ∙ v.ahead i (omega arith) small bound set;
    rest = λ i small bound unset. ap (λ z. bit_at z.rang i) e ∙ clear_none n l.self.seat.rang i low bound (v.rest i small bound unset);
    none = λ nothing. let bad : true ≡ false = sym w.some-is ∙ nothing in absurd (cc);
    some = λ _. let a = ap (λ z. length z.fetched) e in let b = length-append l.self.seat.fetched (x ∷ []) in let d = ap (λ z. length z.fetched) v.fetched.1 in let k = length-append c.args.self.now.seat.fetched v.fetched.0 in
        (omega arith, subst (λ (z : InboxValue g.row.L-Said.Denot g.row.L-Told.Denot g.row.L-Base.Denot). length z.seat.fetched ≤ length z.seat.finished + c.args.port.now.tokens.slots) (sym w.self-is) f.room);
  }
  | else-has w ↦ let e = w.self-is in let off : (i : ℕ) → i ≡ n → has_bit c.args.bells.now.words i ≢ 1 = (λ i same set. let bad : false ≡ true = w.if-has.ensures.1 (subst (λ (j : ℕ). has_bit c.args.bells.now.words j ≡ 1) same set) in (cc)) in record {
    port = ap (λ z. z.seat.port) e ∙ v.port;
    given = ap (λ z. z.given) e ∙ v.given;
    fetched = subst (λ (z : InboxValue g.row.L-Said.Denot g.row.L-Told.Denot g.row.L-Base.Denot). FetchedMore c.args.self.now.seat z.seat) (sym e) v.fetched;
    cleared = λ i below small bound. ap (λ z. bit_at z.seat.rang i) e ∙ dite (ℕ_discrete i n) (λ same. v.rest i small bound (off i same)) (λ ne. v.cleared i (omega arith) small bound);
    ahead = λ i above small bound set. ap (λ z. bit_at z.seat.rang i) e ∙ v.ahead i (omega arith) small bound set;
    rest = λ i small bound unset. ap (λ z. bit_at z.seat.rang i) e ∙ v.rest i small bound unset;
    none = λ nothing. let k = v.none (sym w.some-is ∙ nothing) in (ap (λ z. z.seat.fetched) e ∙ k.0, λ i below small bound. dite (ℕ_discrete i n) (λ same. off i same) (λ ne. k.1 i (omega arith) small bound));
    some = λ yes. subst (λ (z : InboxValue g.row.L-Said.Denot g.row.L-Told.Denot g.row.L-Base.Denot). (length c.args.self.now.seat.fetched < length z.seat.fetched) × (length z.seat.fetched ≤ length z.seat.finished + c.args.port.now.tokens.slots)) (sym e) (v.some (sym w.some-is ∙ yes));
  }
]

pub returns-then-bells-index-eq0-clause-cleared : goal.returns-then-bells-index-eq0-clause-cleared
returns-then-bells-index-eq0-clause-cleared g c i small bound = let l = c.loop-index in
    ⊎_elim (λ (le : l.index ≤ i). l.invariant.rest i small bound (none_from c.args.bells.now.words i l.index c.if-bells-index-eq0.true le bound)) (λ (less : i < l.index). l.invariant.cleared i less small bound) (sides l.index i)

pub returns-then-bells-index-eq0-clause-none : goal.returns-then-bells-index-eq0-clause-none
returns-then-bells-index-eq0-clause-none g c nothing = let l = c.loop-index in let k = l.invariant.none nothing in
    (k.0, λ i small bound. ⊎_elim (λ (le : l.index ≤ i). none_from c.args.bells.now.words i l.index c.if-bells-index-eq0.true le bound) (λ (less : i < l.index). k.1 i less small bound) (sides l.index i))

pub returns-clause-cleared : goal.returns-clause-cleared
returns-clause-cleared g c i small bound = let l = c.loop-index in let test = c.loop-index-test.false in let s = ap (λ z. z.tokens.slots) c.requires.port in
    l.invariant.cleared i (let all = c.bells-index-end.ensures.all i (omega arith) bound in omega arith) small bound

pub returns-clause-none : goal.returns-clause-none
returns-clause-none g c nothing = let l = c.loop-index in let test = c.loop-index-test.false in let s = ap (λ z. z.tokens.slots) c.requires.port in let k = l.invariant.none nothing in
    (k.0, λ i small bound. k.1 i (let all = c.bells-index-end.ensures.all i (omega arith) bound in omega arith) small bound)
