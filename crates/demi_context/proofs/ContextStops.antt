-- A link whose ports were stopped, and those beside it.
use Rattle.std.proofs.Common.{◌≡◌, ◌≢◌, ℕ, ap, sym, subst}
use Rattle.demi_served.specs.Keeps.{Worker, WorkerKeeps}
use Rattle.demi_served.specs.Steps.{GoesBeside}
use Rattle.demi_served.proofs.Beside.{beside_none}
use Rattle.demi_link.specs.Sights.{LeavesBe, worker_of}
use Rattle.demi_worker.specs.Stopping.{IsStopped}
use Rattle.demi_context.specs.ContextLedgers.{LedgerValue, due_of, out_of}
use Rattle.demi_context.specs.ContextPorts.{Whole, side_at}
use Rattle.demi_context.specs.ContextSights.{ContextValue, Goes, sight_of}
use Rattle.demi_context.specs.Halting.{LinkHalts}

module _ (a b : ContextValue) (link : ℕ) (demi : b.demi ≡ a.demi) (number : b.number ≡ a.number) (ledger : b.ledger ≡ a.ledger) (halts : LinkHalts link a.caller b.caller) where
  beside : (k : ℕ) → link ≢ k → LeavesBe k (sight_of a k) (sight_of b k)
  beside k other =
      let mine : Worker = worker_of (sight_of a k) in
      let worker : worker_of (sight_of b k) ≡ mine = λ i. record { submitted = (halts.store i).submitted; known = (halts.store i).known; draws = (ledger i).draws } in
      record {
        heap = ap (λ (d : Whole). d.heap) demi;
        base = ap (λ (d : Whole). d.service.key.base) demi;
        number = number;
        worker = subst (GoesBeside k mine) (sym worker) (beside_none k mine);
        keeps = λ keeps. subst WorkerKeeps (sym worker) keeps;
        rx = halts.others.0 k other;
        tx = halts.others.1 k other;
        out = ap (λ (l : LedgerValue). out_of l k) ledger;
        due = ap (λ (l : LedgerValue). due_of l k) ledger;
      }

  pub stopped_goes : Goes link a b
  stopped_goes = record { demi = demi; number = number; memory = halts.memory; others = beside }

  pub stopped_link : IsStopped (sight_of a link) (sight_of b link)
  stopped_link = record {
    only = λ i. record {
      heap = (demi i).heap;
      base = (demi i).service.key.base;
      number = number i;
      store = halts.store i;
      draws = (ledger i).draws;
      rx = side_at b.caller.rx link;
      tx = side_at b.caller.tx link;
      out = out_of (ledger i) link;
      due = due_of (ledger i) link;
    };
    rx = halts.rx;
    tx = halts.tx;
  }
