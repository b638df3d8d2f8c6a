use Rattle.std.proofs.Common.{◌≡◌, ◌-◌, ◌≤◌, take, Some}
use Rattle.demi_sga.specs.Arrays.{byte_count}
use Rattle.demi_logq.specs.Folding.{bytes_of}
use Rattle.demi_store.proofs.drafting.begin_with.Given as goal

abbrev pub invariant-adding : goal.invariant-adding
invariant-adding g l = record {
  within : l.from ≤ byte_count l.value;
  begun : l.core ≡ record (l.fn.core) { begun = Some (record { link = l.link; index = l.index; key = l.key.items; value = take l.from (bytes_of l.value) }) };
}

abbrev pub decreases-adding : goal.decreases-adding
decreases-adding g l = l.count - l.from
