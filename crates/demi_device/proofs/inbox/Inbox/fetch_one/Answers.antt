use Rattle.std.proofs.Common.{◌≡◌, ℕ, ◌+◌, ◌%◌, ◌<◌, ◌≤◌, [], ◌∷◌, ◌++◌, length, set, sym, ap, subst, ◌∙◌, arith}
use Rattle.std.specs.Prelude.{Option, None}
use Rattle.std.proofs.Math.Nat.{mod-lt}
use Rattle.std.specs.Vec.{vec_capacity}
use Rattle.demi_port.specs.Seen.{DeviceValue}
use Rattle.demi_port_core.specs.Told.{clear}
use Rattle.demi_device.specs.declared.early.Early.{Early}
use Rattle.demi_device.specs.Holding.{Holds}
use Rattle.demi_device.proofs.Ring.{holds_fetched, item_is, slot_free}
use Rattle.demi_device.proofs.inbox.Inbox.fetch_one.Goals as goal

pub unreachable-requires : goal.unreachable-requires
unreachable-requires g c = let b = c.self.inside in let h = c.self.invariant.2 in let e = c.fetch-op.ensures in let p : ℕ = c.fetch-op.result.1.0 in
    let slots : b.count ≡ c.args.port.now.tokens.slots = c.self.invariant.0 ∙ ap (λ z. z.seat.port.tokens.slots) c.self.view_is ∙ ap (λ z. z.tokens.slots) c.requires.port in
    let within : p % b.count < b.count = mod-lt p {m = b.count} (let t = c.requires.taken.0 in omega arith) in let sized = h.sized in
    slot_free _ _ _ _ _ _ _ _ _ _ h p c.in-Some.field-0 e.fresh (let k = e.near _ h.low in omega arith)
    (item_is b.ring.items (p % b.count) c.index_mut.result.now None (omega arith) c.index_mut.ensures.value ∙ sym c.replace.ensures.value ∙ c.in-Some.is)

pub invariant_of-self : goal.invariant_of-self
invariant_of-self g c = let b = c.self.inside in let h = c.self.invariant.2 in let e = c.fetch-op.ensures in let r = c.fetch-op.result in let p : ℕ = r.1.0 in let L = g.L.Law in
    let slots : b.count ≡ c.args.port.now.tokens.slots = c.self.invariant.0 ∙ ap (λ z. z.seat.port.tokens.slots) c.self.view_is ∙ ap (λ z. z.tokens.slots) c.requires.port in
    let within : p % b.count < b.count = mod-lt p {m = b.count} (let t = c.requires.taken.0 in omega arith) in
    let is_proper = subst (λ base. L.proper base (L.said r.2)) (sym (ap (λ z. z.seat.port.key.base) c.self.view_is ∙ ap (λ z. z.key.base) c.requires.port)) e.proper in
    subst (λ (z : DeviceValue g.row.L-Said.Denot g.row.L-Told.Denot g.row.L-Base.Denot × Option (Early g.row.L-Op.Denot)). (b.count ≡ z.0.port.tokens.slots) × (b.count ≤ vec_capacity b.unanswered)
    × Holds L.said (L.proper z.0.port.key.base) b.count (length b.unanswered.items + length z.0.finished) b.at (b.early + 1) (set b.ring.items (p % b.count) z.1) b.unanswered.items z.0.fetched z.0.finished)
    (λ q. (sym e.fetched q, sym c.replace.ensures.after q))
    (c.self.invariant.0, c.self.invariant.1, holds_fetched _ _ _ _ _ _ _ _ _ _ h (record { place = r.1; token = r.0; op = r.2 }) e.fresh (let k = e.near _ h.low in omega arith) (let k = e.room in omega arith) within is_proper)

pub returns-clause-fetched : goal.returns-clause-fetched
returns-clause-fetched g c = let r = c.fetch-op.result in let x : ℕ × (ℕ × g.row.L-Said.Denot) = (r.1.0, (r.0.0, g.L.Law.said r.2)) in
    (x, c.fetch-op.ensures.fetched ∙ (λ q. record (c.self.view_is q).seat { rang = clear c.args.index (c.self.view_is q).seat.rang; fetched = (c.self.view_is q).seat.fetched ++ x ∷ [] }))
