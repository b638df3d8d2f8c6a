-- How a worker stops the ports of a link, and what it has of the link from then on.
use Rattle.std.specs.Prelude.{◌≡◌, ℕ, List}
use Rattle.demi_streamq.specs.Receiving.{RxAdmits}
use Rattle.demi_streamq.specs.Sending.{TxAdmits}
use Rattle.demi_streamq.specs.declared.rx_op.RxOp.TheVariants as receiving
use Rattle.demi_streamq.specs.declared.tx_op.TxOp.TheVariants as sending
use Rattle.demi_link.specs.Sights.{LeavesBe, Redeems, Side, Sight, Submits}

-- The pass p submitted this stop, redeemed it with an outcome that is admitted there, and became q.
pub record Stops {D T O : Type 0} (admits : O → List D → List (ℕ × T) → ℕ → Type 0) (stop : D) (p q : Side D T) : Type 0 where
  pub place : ℕ
  pub token : ℕ
  pub outcome : O
  pub between : Side D T
  pub submits : Submits place p between token stop
  pub redeems : Redeems (admits outcome) token place between q

-- Both ports of a link were stopped, and of what its worker has for it nothing else has changed.
pub record IsStopped (a b : Sight) : Type 0 where
  pub only : b ≡ record a { rx = b.rx; tx = b.tx }
  pub rx : Stops (λ o h t p. RxAdmits h t p o) receiving.Stop a.rx b.rx
  pub tx : Stops (λ o h t p. TxAdmits h t p o) sending.Stop a.tx b.tx

-- Both ports of a link were stopped, and after that others of its worker alone went on.
pub record IsLeft (link : ℕ) (a b : Sight) : Type 0 where
  pub stopped : IsStopped a (record a { rx = b.rx; tx = b.tx })
  pub beside : LeavesBe link (record a { rx = b.rx; tx = b.tx }) b
