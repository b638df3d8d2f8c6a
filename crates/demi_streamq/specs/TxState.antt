-- What the sending engine remembers is as its history and its outcomes have it.
use Rattle.std.specs.Prelude.{ℕ, List, option_map}
use Rattle.demi_streamq.specs.declared.tx_op.TxOp.{TxOp}
use Rattle.demi_streamq.specs.declared.tx_out.TxOut.{TxOut}
use Rattle.demi_streamq.specs.declared.tx_answering.TxState.{TxState}
use Rattle.demi_streamq.specs.TxKept.{TxKept}

-- its flags are as the history and the outcomes have it
abbrev pub IsKept : List TxOp → List (ℕ × TxOut) → TxState → Type 0
IsKept h f s = TxKept h f s.closed (option_map (λ p. p.0) s.broken) (option_map (λ p. p.0) s.stop)
