use Rattle.std.proofs.Common.{◌≡◌, ◌≢◌, ℕ, ◌+◌, ◌-◌, ◌%◌, ◌≤◌, List, [], ◌∷◌, ◌++◌, length, set, sym, ap, subst, ◌∙◌, refl, arith, length-append}
use Rattle.std.specs.Prelude.{Option, None}
use mathlib.Core.Option.{some}
use lib.ListN.{get_elem?}
use Rattle.demi_port_core.specs.History.{Each, ground_of}
use Rattle.demi_port_core.specs.declared.place.Place.{Place}
use Rattle.demi_port_core.specs.declared.place.Token.{Token}
use Rattle.demi_device.specs.declared.early.Early.{Early}
use Rattle.demi_device.specs.Holding.{Holds, InboxValue}
use Rattle.demi_device.proofs.Ring.{at_within, holds_next, item_is, next_is, next_known, next_none, next_none_early, turns_on, turns_over}
use Rattle.demi_device.proofs.inbox.Inbox.next.Goals as goal
use Rattle.demi_device.proofs.inbox.Inbox.next.Goals.{then-self, else-self}

pub returns-then-self-eq0-clause-none : goal.returns-then-self-eq0-clause-none
returns-then-self-eq0-clause-none g c = let D = g.row.L-Said.Denot in
    (subst (λ (z : InboxValue D g.row.L-Told.Denot g.row.L-Base.Denot). Each (λ (x : ℕ × (ℕ × D)). x.0 ≢ z.given) z.seat.fetched) c.self.view_is (next_none_early _ _ _ _ _ _ _ _ _ _ c.self.invariant.2 c.if-self-eq0.true), refl)

pub returns-in_default-clause-none : goal.returns-in_default-clause-none
returns-in_default-clause-none g c = let D = g.row.L-Said.Denot in let b = c.self.inside in let h = c.self.invariant.2 in let within = at_within _ _ _ _ _ _ _ _ _ _ h c.if-self-eq0.false in let sized = h.sized in
    let is = item_is b.ring.items b.at c.index_mut.result.now None (omega arith) c.index_mut.ensures.value ∙ sym c.take.ensures.value ∙ c.in_default.is in
    (subst (λ (z : InboxValue D g.row.L-Told.Denot g.row.L-Base.Denot). Each (λ (x : ℕ × (ℕ × D)). x.0 ≢ z.given) z.seat.fetched) c.self.view_is (next_none _ _ _ _ _ _ _ _ _ _ h is), ap (λ z. z.given) c.self.view_is)

pub invariant_of-self-2 : goal.invariant_of-self-2
invariant_of-self-2 g c = let b = c.self.inside in let h = c.self.invariant.2 in let within = at_within _ _ _ _ _ _ _ _ _ _ h c.if-self-eq0.false in let sized = h.sized in let L = g.L.Law in
    let is = item_is b.ring.items b.at c.index_mut.result.now None (omega arith) c.index_mut.ensures.value ∙ sym c.take.ensures.value ∙ c.in-Some.is in
    let n : ℕ = length b.unanswered.items + length b.seat.finished in let e = c.in-Some.field-0 in let p = c.push_reserved.ensures in
    let turned : c.if-self.self ≡ (n + 1) % b.count = elim c.if-self.branch [ then-self w ↦ w.self-is ∙ turns_over b.count n b.at h.at_next w.if-self.true | else-self w ↦ w.self-is ∙ turns_on b.count n b.at h.at_next (let ne = w.if-self.false in omega arith) ] in
    let many : n + 1 ≡ length (b.unanswered.items ++ (e.place, e.token) ∷ []) + length b.seat.finished = let k = length-append b.unanswered.items ((e.place, e.token) ∷ []) in omega arith in
    let k = holds_next _ _ _ _ _ _ _ _ _ _ h e (b.early - 1) c.if-self.self is within (let some = c.if-self-eq0.false in omega arith) turned in
    let k' = subst (λ (m : ℕ). Holds L.said (L.proper b.seat.port.key.base) b.count m c.if-self.self (b.early - 1) (set b.ring.items b.at None) (b.unanswered.items ++ (e.place, e.token) ∷ []) b.seat.fetched b.seat.finished) many k in (
      c.self.invariant.0,
      subst (λ (m : ℕ). b.count ≤ m) (sym p.capacity) c.self.invariant.1,
      subst (λ (z : List (Place × Token) × Option (Early g.row.L-Op.Denot)). Holds L.said (L.proper b.seat.port.key.base) b.count (length z.0 + length b.seat.finished) c.if-self.self (b.early - 1) (set b.ring.items b.at z.1) z.0 b.seat.fetched b.seat.finished)
          (λ q. (sym p.items q, sym c.take.ensures.after q)) k',
    )

pub returns-clause-next : goal.returns-clause-next
returns-clause-next g c = let D = g.row.L-Said.Denot in let b = c.self.inside in let h = c.self.invariant.2 in let within = at_within _ _ _ _ _ _ _ _ _ _ h c.if-self-eq0.false in let sized = h.sized in let e = c.in-Some.field-0 in
    let is = item_is b.ring.items b.at c.index_mut.result.now None (omega arith) c.index_mut.ensures.value ∙ sym c.take.ensures.value ∙ c.in-Some.is in let given = ap (λ z. z.given) c.self.view_is in (
      next_is _ _ _ _ _ _ _ _ _ _ h e is ∙ given,
      (let k = length-append b.unanswered.items ((e.place, e.token) ∷ []) in let i = ap length c.push_reserved.ensures.items in omega arith),
      subst (λ (z : InboxValue D g.row.L-Told.Denot g.row.L-Base.Denot). get_elem? (ground_of z.seat.fetched) z.given ≡ some (g.L.Law.said e.op)) c.self.view_is (next_known _ _ _ _ _ _ _ _ _ _ h e is),
    )

pub returns-clause-proper : goal.returns-clause-proper
returns-clause-proper g c = let b = c.self.inside in let h = c.self.invariant.2 in let within = at_within _ _ _ _ _ _ _ _ _ _ h c.if-self-eq0.false in let sized = h.sized in let e = c.in-Some.field-0 in
    let is = item_is b.ring.items b.at c.index_mut.result.now None (omega arith) c.index_mut.ensures.value ∙ sym c.take.ensures.value ∙ c.in-Some.is in
    subst (λ base. g.L.Law.proper base (g.L.Law.said e.op)) (ap (λ z. z.seat.port.key.base) c.self.view_is) (h.lies b.at e is).is_proper
