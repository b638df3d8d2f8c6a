use Rattle.std.proofs.Common.{◌≡◌, ◌≢◌, ℕ, ◌<◌, List, ◌++◌, length, ap, sym, ◌∙◌, subst, arith, take, take_all, Some, None, Option}
use Rattle.std.proofs.lemmas.List.{length-take-le}
use Rattle.demi_heap.specs.Seen.{HalfValue}
use Rattle.demi_sga.specs.Arrays.{byte_count, part_of}
use Rattle.demi_logq.specs.Folding.{bytes_of}
use Rattle.demi_logq.proofs.Pieces.{Next, count_is, part_next}
use Rattle.demi_spec.specs.Record.{Record}
use Rattle.demi_store.specs.Cores.{Core}
use Rattle.demi_store.proofs.drafting.begin_with.Goals as goal

step : (sga : List HalfValue) (from count : ℕ) (piece : List ℕ) → count ≡ byte_count sga → from < count → piece ≡ part_of sga from count → Next sga from piece
step sga from count piece whole less is = subst (Next sga from) (sym is) (part_next sga from count (omega arith) (omega arith))

some_is : (o : Option Record) (r : Record) → o ≡ Some r → o ≢ None
some_is o r e none = absurd (let f : Some r ≡ None = sym e ∙ none in cc)

same_record : (o : Option Record) (r t : Record) → o ≡ Some r → o ≡ Some t → t ≡ r
same_record o r t e f = let g : Some t ≡ Some r = sym f ∙ e in cc

pub piece-requires-clause-begun : goal.piece-requires-clause-begun
piece-requires-clause-begun g c =
    some_is c.adding.core.begun (record { link = c.args.link; index = c.args.index; key = c.args.key.now.items; value = take c.adding.from (bytes_of c.args.value.now) })
    (ap (λ (v : Core g.row.D.Denot). v.begun) c.adding.invariant.begun)

pub piece-requires-clause-fits : goal.piece-requires-clause-fits
piece-requires-clause-fits g c t is =
    let n = step c.args.value.now c.adding.from c.len-count.result c.part-piece.result.now c.len-count.ensures.bytes c.adding-test.true c.part-piece.ensures in
    let r : Record = record { link = c.args.link; index = c.args.index; key = c.args.key.now.items; value = take c.adding.from (bytes_of c.args.value.now) } in
    let same = ap (λ (x : Record). length x.value) (same_record c.adding.core.begun r t (ap (λ (v : Core g.row.D.Denot). v.begun) c.adding.invariant.begun) is) in
    let count = count_is c.args.value.now in let within = n.within in let most = c.requires.most in
    let long = length-take-le c.adding.from (bytes_of c.args.value.now) (omega arith) in
    omega arith

pub overflow_cast-from : goal.overflow_cast-from
overflow_cast-from g c =
    let n = step c.args.value.now c.adding.from c.len-count.result c.part-piece.result.now c.len-count.ensures.bytes c.adding-test.true c.part-piece.ensures in
    let within = n.within in let most = c.requires.most in omega arith

pub overflow_add-from : goal.overflow_add-from
overflow_add-from g c =
    let n = step c.args.value.now c.adding.from c.len-count.result c.part-piece.result.now c.len-count.ensures.bytes c.adding-test.true c.part-piece.ensures in
    let within = n.within in let most = c.requires.most in omega arith

pub adding-smaller : goal.adding-smaller
adding-smaller g c =
    let n = step c.args.value.now c.adding.from c.len-count.result c.part-piece.result.now c.len-count.ensures.bytes c.adding-test.true c.part-piece.ensures in
    let some = n.some in let within = n.within in let whole = c.len-count.ensures.bytes in omega arith

pub adding-preserved : goal.adding-preserved
adding-preserved g c =
    let n = step c.args.value.now c.adding.from c.len-count.result c.part-piece.result.now c.len-count.ensures.bytes c.adding-test.true c.part-piece.ensures in
    let r : Record = record { link = c.args.link; index = c.args.index; key = c.args.key.now.items; value = take c.adding.from (bytes_of c.args.value.now) } in
    record {
      within = n.within;
      begun = c.piece.ensures.more r (ap (λ (v : Core g.row.D.Denot). v.begun) c.adding.invariant.begun)
          ∙ ap (λ (v : Core g.row.D.Denot). record v { begun = Some (record r { value = r.value ++ c.part-piece.result.now }) }) c.adding.invariant.begun
          ∙ ap (λ (l : List ℕ). record (c.args.core.now) { begun = Some (record r { value = l }) }) n.more;
    }

pub returns : goal.returns
returns g c =
    let count = count_is c.args.value.now in let whole = c.len-count.ensures.bytes in let over = c.adding-test.false in
    let r : Record = record { link = c.args.link; index = c.args.index; key = c.args.key.now.items; value = take c.adding.from (bytes_of c.args.value.now) } in
    c.adding.invariant.begun ∙ ap (λ (l : List ℕ). record (c.args.core.now) { begun = Some (record r { value = l }) }) (take_all c.adding.from (bytes_of c.args.value.now) (omega arith))
