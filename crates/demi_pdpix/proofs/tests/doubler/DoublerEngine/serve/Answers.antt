use Rattle.std.proofs.Common.{◌≡◌, ℕ, suc, ◌+◌, ◌*◌, List, [], ◌∷◌, ◌++◌, length, sym, ap, ◌∙◌, refl, arith, length-append}
use lib.ListN.{get_elem?}
use Rattle.demi_device.specs.Doubling.{doubled, first_zero}
use Rattle.demi_device.proofs.Doubling.{doubled_snoc, last_at, none_above, none_left, stop_next}
use Rattle.demi_pdpix.proofs.tests.doubler.DoublerEngine.serve.Goals as goal

length_doubled : (p : ℕ) (h : List ℕ) → length (doubled p h) ≡ length h
length_doubled p [] = refl
length_doubled p (x ∷ h) = ap suc (length_doubled (p + 1) h)

pub add-requires-after_bounds : goal.add-requires-after_bounds
add-requires-after_bounds c κs = let a = c.requires.holds in let e = ap length c.requires.empty in let n = length_doubled 0 c.args.self.now.history.value in omega arith

pub invariant_of-drop : goal.invariant_of-drop
invariant_of-drop c = let h = c.args.self.now.history.value in record {
  stopped = stop_next c.args.self.now.stop c.stop_after.result c.args.place c.args.op h c.args.self.now.stopped c.requires.next c.stop_after.ensures.some c.stop_after.ensures.none ∙ ap first_zero (sym c.longer.ensures);
}

pub returns-clause-finished : goal.returns-clause-finished
returns-clause-finished c = let h = c.args.self.now.history.value in let n : ℕ = c.args.op in let p : ℕ = c.args.place.0 in let at : p ≡ 0 + length h = c.requires.next ∙ (omega arith) in let twice : n * 2 ≡ 2 * n = omega arith in
    let one : c.add.new.self.added ≡ (p, n * 2) ∷ [] = c.add.ensures.added ∙ ap (λ l. l ++ (p, n * 2) ∷ []) c.requires.empty in
    ap (doubled 0) c.longer.ensures ∙ doubled_snoc 0 n h ∙ (λ q. doubled 0 h ++ (sym at q, sym twice q) ∷ []) ∙ ap (λ l. doubled 0 h ++ l) (sym one)

pub returns-clause-comes : goal.returns-clause-comes
returns-clause-comes c = let h = c.args.self.now.history.value in let n : ℕ = c.args.op in let p : ℕ = c.args.place.0 in let next = c.requires.next in let k = ap length c.longer.ensures in let len = length-append h (n ∷ []) in
    let one : c.add.new.self.added ≡ (p, n * 2) ∷ [] = c.add.ensures.added ∙ ap (λ l. l ++ (p, n * 2) ∷ []) c.requires.empty in
    rw one (
      record {
        served = (omega arith);
        open_yet = none_above 0 p h (omega arith);
        may_tell = tt;
        admitted = (n, ap (λ l. get_elem? l p) c.longer.ensures ∙ ap (get_elem? (h ++ n ∷ [])) next ∙ last_at h n, omega arith);
      },
      tt,
    )

pub returns-clause-pends : goal.returns-clause-pends
returns-clause-pends c p small other = none_left 0 p c.longer.result.value (omega arith) (omega arith) other

pub returns-clause-ends : goal.returns-clause-ends
returns-clause-ends c _ p small other = none_left 0 p c.longer.result.value (omega arith) (omega arith) other
