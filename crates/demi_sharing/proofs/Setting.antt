-- A caller that asked for a queue is set out.
use Rattle.std.proofs.Common.{◌≡◌, ℕ, List, [], ◌∷◌, ◌++◌, None, Some, ◌∙◌, ap, sym}
use Rattle.demi_context.proofs.ContextOwing.{along, submits_owes}
use Rattle.demi_context.proofs.ContextSides.{submitted_side}
use Rattle.demi_context.proofs.Halting.{only_memory}
use Rattle.demi_context.specs.ContextPorts.{Caller, Whole}
use Rattle.demi_context.specs.Halting.{HasLooked}
use Rattle.demi_link.specs.Sights.{Side, Submits, side_of}
use Rattle.demi_memq.specs.declared.op.MemOp.{MemOp}
use Rattle.demi_memq.specs.declared.op.MemOp.TheVariants.{Queue}
use Rattle.demi_pdpix.specs.Asks.{to_memory}
use Rattle.demi_pdpix.specs.Calls.{Submits as CallSubmits}
use Rattle.demi_pdpix.specs.Kinds.{kind_of}
use Rattle.demi_pdpix.specs.Owing.{due_at, one_more_at}
use Rattle.demi_pdpix.specs.Seen.{IsOf}
use Rattle.demi_pdpix.specs.declared.kind.PortKind.TheVariants.{Memory}
use Rattle.demi_port_core.specs.declared.place.QToken.{QToken}
use Rattle.demi_sharing.specs.Dealing.{MemSide}
use Rattle.demi_sharing.specs.Setting.{IsSetOut}

-- the first operation of a pass is all that it submitted
first_one : (place token : ℕ) (d : MemOp) (p q : MemSide) → p.submitted ≡ [] → Submits place p q token d → q.submitted ≡ (place, (token, d)) ∷ []
first_one place token d p q none s = ap (λ (x : MemSide). x.submitted) s.side ∙ ap (λ (l : List (ℕ × (ℕ × MemOp))). l ++ (place, (token, d)) ∷ []) none

pub set_out : (d : Whole) (n : ℕ) (t : QToken) (a b c : Caller) → HasLooked a b → t.port ≡ 0
    → CallSubmits Memory (to_memory Queue) b c t.token.0 → IsOf d c → IsSetOut d n None a → IsSetOut d n (Some t) c
set_out d n t a b c looked port s of was =
    let only = only_memory b c s.0 in
    let side = submitted_side s.1.0 b.memory c.memory t.token.0 Queue s.1.1 in
    let none : (side_of b.memory).submitted ≡ [] = ap (λ (x : MemSide). x.submitted) looked.memory ∙ was.memory in
    let due = submits_owes Memory (to_memory Queue) t.token.0 b c s n (due_at d []) (looked.owes n (due_at d []) was.owes.1) in
    record {
      memory = (port, (s.1.0, first_one s.1.0 t.token.0 Queue (side_of b.memory) (side_of c.memory) none side));
      store = ap (λ (x : Side _ _). x.submitted) (only.0 ∙ looked.sides.0) ∙ was.store;
      rx = λ k. ap (λ (x : Side _ _). x.submitted) (only.1 k ∙ looked.sides.1 k) ∙ was.rx k;
      tx = λ k. ap (λ (x : Side _ _). x.submitted) (only.2 k ∙ looked.sides.2 k) ∙ was.tx k;
      owes = (of, along n (one_more_at Memory (due_at d [])) (due_at d (t ∷ [])) c (λ kind. ap (λ (k : ℕ). one_more_at (kind_of d k) (due_at d []) kind) (sym port)) due);
    }
