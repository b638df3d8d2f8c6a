use Rattle.std.proofs.Common.{ℕ, List, take, refl, sym, ap, ◌∙◌}
use Rattle.std.specs.List.{refill}
use denote.RawPtr.{block_of}
use Rattle.demi_buf.specs.Bufs.{BufValue, number_of, with_bytes}
use Rattle.demi_buf.specs.Places.{somes}
use Rattle.demi_buf.proofs.Runs.{count, shown, written}
use Rattle.demi_buf.proofs.buf.Buf.bytes_mut.Goals as goal

pub invariant_of-self-lent : goal.invariant_of-self-lent
invariant_of-self-lent c = λ w. let b = c.self.inside in let row = c.self.invariant.0 in let new = written b.cells.slots b.len row.filled.1 w in
    (record { owned = row.owned; lies = row.lies; long = new.0 ∙ row.long; filled = (row.filled.0, new.1); number = row.number }, c.self.invariant.1)

pub returns : goal.returns
returns c = let b = c.self.inside in let run = c.self.invariant.0.filled.1 in let xs = somes (take b.len b.cells.slots) in
    let v : BufValue = record { block = number_of (block_of b.base.ptr) b.class; count = b.count; slot = b.slot; class = b.class; bytes = xs } in (
      (refl, λ w. ap (λ (l : List ℕ). record v { bytes = l }) ((written b.cells.slots b.len run w).2 ∙ ap (λ (k : ℕ). refill k xs w) (sym (count b.cells.slots b.len run))) ∙ ap (λ (u : BufValue). with_bytes u w) c.self.view_is),
      record { writes_back = tt; value = shown b.cells.slots b.len run c.slice_mut.result.now c.slice_mut.ensures.value ∙ ap (λ (u : BufValue). u.bytes) c.self.view_is },
    )
