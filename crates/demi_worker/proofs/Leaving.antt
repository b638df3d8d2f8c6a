-- What others of a worker leave of what it has for a link, step by step.
use Rattle.std.specs.Prelude.{◌≢◌, ℕ, suc, List, [], ◌∷◌, ◌++◌, refl}
use Rattle.std.specs.List.{AllByRecursion}
use Rattle.std.proofs.Common.{sym, ◌∙◌, ap, arith, subst}
use Rattle.demi_sched.specs.Going.{GoesWithin}
use Rattle.demi_sched.proofs.Names.{stays_within}
use Rattle.demi_streamq.specs.Receiving.{RxAdmits}
use Rattle.demi_streamq.specs.Sending.{TxAdmits}
use Rattle.demi_streamq.specs.declared.rx_op.RxOp.{RxOp}
use Rattle.demi_streamq.specs.declared.rx_op.RxOp.TheVariants as receiving
use Rattle.demi_streamq.specs.declared.rx_out.RxOut.{RxOut}
use Rattle.demi_streamq.specs.declared.rx_told.RxTold.{RxTold}
use Rattle.demi_streamq.specs.declared.tx_op.TxOp.{TxOp}
use Rattle.demi_streamq.specs.declared.tx_op.TxOp.TheVariants as sending
use Rattle.demi_streamq.specs.declared.tx_out.TxOut.{TxOut}
use Rattle.demi_served.specs.Keeps.{Draw}
use Rattle.demi_served.proofs.Beside.{beside_none, beside_on}
use Rattle.demi_link.specs.Sights.{LeavesBe, Side, Sight, worker_of}
use Rattle.demi_worker.specs.Ending.{IsNew}
use Rattle.demi_worker.specs.Standing.{LeavesOthers}
use Rattle.demi_worker.specs.Stopping.{IsLeft, IsStopped, Stops}

pub leaves_self : (link : ℕ) (a : Sight) → LeavesBe link a a
leaves_self link a = record { heap = refl; base = refl; number = refl; worker = beside_none link (worker_of a); keeps = λ k. k; rx = refl; tx = refl; out = refl; due = refl }

pub leaves_on : (link : ℕ) (a b c : Sight) → LeavesBe link a b → LeavesBe link b c → LeavesBe link a c
leaves_on link a b c g h = record {
  heap = h.heap ∙ g.heap;
  base = h.base ∙ g.base;
  number = h.number ∙ g.number;
  worker = beside_on link (worker_of a) (worker_of b) (worker_of c) g.worker h.worker;
  keeps = λ k. h.keeps (g.keeps k);
  rx = h.rx ∙ g.rx;
  tx = h.tx ∙ g.tx;
  out = h.out ∙ g.out;
  due = h.due ∙ g.due;
}

-- Steps by names leave every link of another name.
module _ {C : Type 0} (goes : ℕ → C → C → Type 0) (sight : C → ℕ → Sight) (beside : (n : ℕ) (a b : C) → goes n a b → (link : ℕ) → n ≢ link → LeavesBe link (sight a link) (sight b link)) where
  pub leaves_within : (names : List ℕ) (a b : C) → GoesWithin goes names a b → LeavesOthers names (sight a) (sight b)
  leaves_within names a b g = λ link other. stays_within goes (λ (x : C). LeavesBe link (sight a link) (sight x link)) link
      (λ n x y p step d. leaves_on link (sight a link) (sight x link) (sight y link) p (beside n x y step link d)) names other a b g (leaves_self link (sight a link))

  pub leaves_one : (n : ℕ) (a b : C) → goes n a b → LeavesOthers (n ∷ []) (sight a) (sight b)
  leaves_one n a b step = λ link other. beside n a b step link other.0

  pub leaves_all : (a b : C) → ((n : ℕ) → goes n a b) → LeavesOthers [] (sight a) (sight b)
  leaves_all a b step = λ link other. beside (suc link) a b (step (suc link)) link (λ z. absurd (omega arith))

-- a link whose ports were just stopped
pub left_now : (link : ℕ) (a b : Sight) → IsStopped a b → IsLeft link a b
left_now link a b s = record {
  stopped = record { only = refl; rx = s.rx; tx = s.tx };
  beside = subst (λ (z : Sight). LeavesBe link z b) s.only (leaves_self link b);
}

-- and one that others went on beside
pub left_on : (link : ℕ) (a b c : Sight) → IsLeft link a b → LeavesBe link b c → IsLeft link a c
left_on link a b c h g = record {
  stopped = record {
    only = refl;
    rx = subst (λ (p : Side RxOp RxTold). Stops (λ (o : RxOut) heard told place. RxAdmits heard told place o) receiving.Stop a.rx p) (sym g.rx) h.stopped.rx;
    tx = subst (λ (p : Side TxOp ℕ). Stops (λ (o : TxOut) heard told place. TxAdmits heard told place o) sending.Stop a.tx p) (sym g.tx) h.stopped.tx;
  };
  beside = subst (λ (p : Side RxOp RxTold). LeavesBe link (record a { rx = p; tx = c.tx }) c) (sym g.rx)
      (subst (λ (p : Side TxOp ℕ). LeavesBe link (record a { rx = b.rx; tx = p }) c) (sym g.tx) (leaves_on link (record a { rx = b.rx; tx = b.tx }) b c h.beside g));
}

all_join : {X : Type 0} (P : X → Type 0) (xs ys : List X) → AllByRecursion P xs → AllByRecursion P ys → AllByRecursion P (xs ++ ys)
all_join P [] ys p q = q
all_join P (x ∷ xs) ys p q = (p.0, all_join P xs ys p.1 q)

-- a link for which nothing was done yet
pub new_beside : (number link : ℕ) (a b : Sight) → IsNew number a link → LeavesBe link a b → IsNew number b link
new_beside number link a b n g =
    let more = g.worker.draws in
    record {
      fresh = record {
        draws = subst (AllByRecursion (λ (d : Draw). d.link ≢ link)) (sym more.1) (all_join (λ (d : Draw). d.link ≢ link) a.draws more.0 n.fresh.draws more.2);
        pops = ap (λ (p : Side RxOp RxTold). p.submitted) g.rx ∙ n.fresh.pops;
        pushes = ap (λ (p : Side TxOp ℕ). p.submitted) g.tx ∙ n.fresh.pushes;
        out = g.out ∙ n.fresh.out;
        due = g.due ∙ n.fresh.due;
      };
      number = g.number ∙ n.number;
      worker = g.keeps n.worker;
    }
