use Rattle.std.proofs.Common.{◌≡◌, ◌≤◌, ◌+◌, ◌-◌, ◌∙◌, ap, sym, subst, ℕ, List, length, take, drop, arith}
use Rattle.demi_audit.specs.TextStores.{bytes_at}
use Rattle.demi_audit.proofs.Indexing.{found_small}
use Rattle.demi_audit.proofs.text_store.TextStore.get.Goals as goal

pub returns-clause-small : goal.returns-clause-small
returns-clause-small c =
    let s = c.in_ok-span.span in
    let keeps = c.requires.1 in
    let text = c.args.self.now.text.items in
    let size : s.from + s.size - s.from ≡ s.size = omega arith in
    let here : take (s.from + s.size - s.from) (drop s.from c.deref.result.now) ≡ bytes_at text s = ap (λ n. take n (drop s.from c.deref.result.now)) size ∙ ap (λ (l : List ℕ). take s.size (drop s.from l)) c.deref.ensures.value in
    subst (λ (l : List ℕ). length l ≤ 65536) (sym here) (found_small text c.args.self.now.values c.requires.0 c.args.key.now s keeps.index keeps.fits c.in_ok-span.ensures)
