-- What the calls of a context do to what its worker asked.
use Rattle.std.proofs.Common.{◌≡◌, ℕ, ◌+◌, List, [], ◌∷◌, ◌++◌, None, Some, length, ap, sym, ◌∙◌}
use Rattle.std.specs.Prelude.{map}
use Rattle.demi_port.specs.declared.redeem.Redeem.{Redeem}
use Rattle.demi_port.specs.declared.redeem.Redeem.TheVariants.{NotYet, Ready, Spent, Unknown}
use Rattle.demi_spec.specs.Input.{Asked}
use Rattle.demi_store.specs.declared.ask.StoreAsk.{StoreAsk}
use Rattle.demi_store.specs.declared.op.StoreOp.{StoreOp}
use Rattle.demi_served.specs.Alone.{AsksAll, asked_by, asked_with}
use Rattle.demi_served.specs.Asking.{asks_for, ask_of}
use Rattle.demi_served.specs.Keeps.{Worker}
use Rattle.demi_served.specs.Steps.{after_ask, after_draw}
use Rattle.demi_link.specs.Events.{TriedBy}
use Rattle.demi_link.specs.Sights.{Side, Submits, side_of}
use Rattle.demi_context.specs.ContextLedgers.{LedgerValue}
use Rattle.demi_context.specs.ContextPorts.{Caller}
use Rattle.demi_context.specs.ContextSights.{worker_at}

-- who submitted nothing to the store and drew no number asked nothing
pub asks_first : (c : Caller) (l : LedgerValue) → c.service.submitted ≡ [] → l.draws ≡ [] → AsksAll (worker_at c l)
asks_first c l none undrawn = ap (λ (s : List (ℕ × (ℕ × StoreAsk))). asked_by (map (λ x. x.1.1) s)) none ∙ sym (ap (asked_with 1) undrawn)

-- who submitted and drew nothing more asked what it had asked
pub asks_same : (c e : Caller) (l m : LedgerValue) → e.service.submitted ≡ c.service.submitted → m.draws ≡ l.draws → AsksAll (worker_at c l) → AsksAll (worker_at e m)
asks_same c e l m same undrawn all = ap (λ (s : List (ℕ × (ℕ × StoreAsk))). asked_by (map (λ x. x.1.1) s)) same ∙ all ∙ sym (ap (asked_with 1) undrawn)

-- a try submits nothing
pub tried_submits : {L P O S T B D U : Type 0} (admits : O → List D → List (ℕ × U) → ℕ → Type 0) (token : ℕ) (p q : Side D U) (r : Redeem L P O S T B) → TriedBy admits token p q r → q.submitted ≡ p.submitted
tried_submits admits token p q (Ready place outcome) t = ap (λ (s : Side _ _). s.submitted) t.side
tried_submits admits token p q NotYet t = ap (λ (s : Side _ _). s.submitted) t
tried_submits admits token p q Spent t = ap (λ (s : Side _ _). s.submitted) t
tried_submits admits token p q Unknown t = ap (λ (s : Side _ _). s.submitted) t

-- a number was drawn for a request that asks nothing
pub asks_drawn : (c : Caller) (l m : LedgerValue) (link index : ℕ) (q : Asked)
    → ((w : Worker) (link index : ℕ) (q : Asked) → AsksAll w → ask_of link index q ≡ None → AsksAll (after_draw w link index q))
    → m.draws ≡ l.draws ++ record { link = link; index = index; request = q } ∷ [] → ask_of link index q ≡ None → AsksAll (worker_at c l) → AsksAll (worker_at c m)
asks_drawn c l m link index q drawn draws plain all = drawn (worker_at c l) link index q all plain ∙ sym (ap (asked_with 1) draws)

-- a number was drawn, and the store was asked with it
pub asks_asked : (c e : Caller) (l m : LedgerValue) (link index : ℕ) (q : Asked) (op : StoreOp) (place token sequence : ℕ)
    → ((w : Worker) (link index : ℕ) (q : Asked) (op : StoreOp) (p t : ℕ) → AsksAll w → ask_of link index q ≡ Some (asks_for op) → AsksAll (after_ask w link index q op p t))
    → sequence ≡ length l.draws + 1 → Submits place (side_of c.service) (side_of e.service) token (record { sequence = sequence; op = op })
    → m.draws ≡ l.draws ++ record { link = link; index = index; request = q } ∷ [] → ask_of link index q ≡ Some (asks_for op) → AsksAll (worker_at c l) → AsksAll (worker_at e m)
asks_asked c e l m link index q op place token sequence asked next sub draws asks all =
    let submitted : e.service.submitted ≡ c.service.submitted ++ (place, (token, record { sequence = length l.draws + 1; op = op })) ∷ [] =
    ap (λ (s : Side _ _). s.submitted) sub.side ∙ ap (λ (n : ℕ). c.service.submitted ++ (place, (token, record { sequence = n; op = op })) ∷ []) next in
    ap (λ (s : List (ℕ × (ℕ × StoreAsk))). asked_by (map (λ x. x.1.1) s)) submitted ∙ asked (worker_at c l) link index q op place token all asks ∙ sym (ap (asked_with 1) draws)
