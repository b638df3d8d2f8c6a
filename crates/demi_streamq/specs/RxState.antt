-- What the engine remembers is as its history and its outcomes have it.
use Rattle.std.specs.Prelude.{ℕ, List, option_map}
use Rattle.demi_streamq.specs.declared.rx_op.RxOp.{RxOp}
use Rattle.demi_streamq.specs.declared.rx_out.RxOut.{RxOut}
use Rattle.demi_streamq.specs.declared.rx_answering.RxState.{RxState}
use Rattle.demi_streamq.specs.RxKept.{RxKept}

-- its flags and its count are as the history and the outcomes have it
abbrev pub IsKept : List RxOp → List (ℕ × RxOut) → RxState → Type 0
IsKept h f s = RxKept h f s.at_end s.broken (option_map (λ p. p.0) s.stop) s.taken
