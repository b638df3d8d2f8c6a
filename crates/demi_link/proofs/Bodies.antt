-- What has bytes of what came back.
use Rattle.std.specs.Prelude.{◌≤◌, ◌==◌, cond, Bool, true, false, List, Option, Some, None, length}
use Rattle.std.proofs.Common.{arith}
use Rattle.demi_heap.specs.Seen.{HalfValue, HeapId}
use Rattle.demi_sga.specs.Arrays.{AreOf, byte_count}
use Rattle.demi_streamq.specs.Sending.{array_bytes}
use Rattle.demi_link.specs.Fitting.{body_of}
use Rattle.demi_link.specs.Giving.{where_bytes}

pub trimmed_heap : (heap : HeapId) (body : Option (List HalfValue)) → AreOf heap (body_of body) → AreOf heap (body_of (where_bytes body))
trimmed_heap heap None h = tt
trimmed_heap heap (Some sga) h = go (byte_count sga == 0)
  where
    go : (b : Bool) → AreOf heap (body_of (cond b None (Some sga)))
    go true = tt
    go false = h

pub trimmed_long : (body : Option (List HalfValue)) → length (body_of body) ≤ 1 → length (body_of (where_bytes body)) ≤ 1
trimmed_long None h = h
trimmed_long (Some sga) h = go (byte_count sga == 0)
  where
    go : (b : Bool) → length (body_of (cond b None (Some sga))) ≤ 1
    go true = omega arith
    go false = h

pub trimmed_few : (body : Option (List HalfValue)) → length (array_bytes (body_of body)) ≤ 65536 → length (array_bytes (body_of (where_bytes body))) ≤ 65536
trimmed_few None h = h
trimmed_few (Some sga) h = go (byte_count sga == 0)
  where
    go : (b : Bool) → length (array_bytes (body_of (cond b None (Some sga)))) ≤ 65536
    go true = omega arith
    go false = h
