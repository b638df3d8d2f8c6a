use Rattle.std.proofs.Common.{◌≡◌, ◌≢◌, ℕ, ◌+◌, ◌<◌, ◌≤◌, List, [], ◌∷◌, ◌++◌, length, sym, ap, subst, ◌∙◌}
use Rattle.std.specs.Vec.{vec_capacity}
use Rattle.demi_port.specs.Seen.{DeviceValue, above_all}
use Rattle.demi_port_core.specs.History.{Apart, Each, ground_of}
use Rattle.demi_port_core.specs.Trails.{MayTell, told_at}
use Rattle.demi_port_core.specs.declared.place.Place.{Place}
use Rattle.demi_port_core.specs.declared.place.Token.{Token}
use Rattle.demi_device.specs.Holding.{Holds, InboxValue}
use Rattle.demi_device.proofs.Ring.{holds_finished, token_known}
use Rattle.demi_device.proofs.inbox.Inbox.finish.Goals as goal

pub remove_token-token-requires : goal.remove_token-token-requires
remove_token-token-requires g c = let back = sym c.self.view_is in let p : ℕ = c.args.place.0 in
    c.self.invariant.2.rest p (subst (λ (z : InboxValue g.row.L-Said.Denot g.row.L-Told.Denot g.row.L-Base.Denot). p < z.given) back c.requires.given.0)
    (subst (λ (z : InboxValue g.row.L-Said.Denot g.row.L-Told.Denot g.row.L-Base.Denot). Each (λ (x : ℕ × ℕ). x.0 ≢ p) z.seat.finished) back c.requires.given.1)

pub finish-requires-clause-fetched : goal.finish-requires-clause-fetched
finish-requires-clause-fetched g c κs within = let D = g.row.L-Said.Denot in let T = g.row.L-Told.Denot in let B = g.row.L-Base.Denot in let back = sym c.self.view_is in let p : ℕ = c.args.place.0 in let t = c.remove_token-token.ensures.taken in
    let o = g.L.Law.told c.args.out in let known = token_known _ _ _ _ _ _ _ _ _ _ c.self.invariant.2 c.args.place c.remove_token-token.result t.0 t.1 t.2 in (
      p,
      known.0,
      known.1,
      subst (λ (z : InboxValue D T B). Each (λ (x : ℕ × ℕ). x.0 ≢ p) z.seat.finished) back c.requires.given.1,
      subst (λ (z : InboxValue D T B). MayTell (above_all z.seat.finished) p o) back c.requires.may_tell,
      subst (λ (z : InboxValue D T B). g.L.Law.admits c.args.port.now.key.base (ground_of z.seat.fetched) (z.seat.trail ++ told_at p o) p c.args.out) back c.requires.admitted,
    )

pub invariant_of-self : goal.invariant_of-self
invariant_of-self g c = let D = g.row.L-Said.Denot in let T = g.row.L-Told.Denot in let B = g.row.L-Base.Denot in let back = sym c.self.view_is in let b = c.self.inside in let L = g.L.Law in let p : ℕ = c.args.place.0 in let t = c.remove_token-token.ensures.taken in let token = c.remove_token-token.result in
    let low = subst (λ (z : InboxValue D T B). p < z.given) back c.requires.given.0 in
    let other = subst (λ (z : InboxValue D T B). Each (λ (x : ℕ × ℕ). x.0 ≢ p) z.seat.finished) back c.requires.given.1 in
    let known = token_known _ _ _ _ _ _ _ _ _ _ c.self.invariant.2 c.args.place token t.0 t.1 t.2 in
    let h = holds_finished _ _ _ _ _ _ _ _ _ _ c.self.invariant.2 c.args.place token t.0 t.1 t.2 low other in let e = c.finish.ensures.finished p known.0 known.1 other in
    let h' = subst (λ (m : ℕ). Holds L.said (L.proper b.seat.port.key.base) b.count m b.at b.early b.ring.items (t.0 ++ t.1) b.seat.fetched (b.seat.finished ++ (p, token.0) ∷ [])) h.given h in
    subst (λ (z : DeviceValue D T B × List (Place × Token)). (b.count ≡ z.0.port.tokens.slots) × (b.count ≤ vec_capacity c.remove_token-token.new.unanswered) × Holds L.said (L.proper z.0.port.key.base) b.count (length z.1 + length z.0.finished) b.at b.early b.ring.items z.1 z.0.fetched z.0.finished)
    (λ q. (sym e q, sym t.3 q))
    (c.self.invariant.0, subst (λ (m : ℕ). b.count ≤ m) (sym c.remove_token-token.ensures.capacity) c.self.invariant.1, h')

pub returns-clause-given : goal.returns-clause-given
returns-clause-given g c = let D = g.row.L-Said.Denot in let T = g.row.L-Told.Denot in let B = g.row.L-Base.Denot in let back = sym c.self.view_is in let b = c.self.inside in let p : ℕ = c.args.place.0 in let t = c.remove_token-token.ensures.taken in let token = c.remove_token-token.result in
    let low = subst (λ (z : InboxValue D T B). p < z.given) back c.requires.given.0 in
    let other = subst (λ (z : InboxValue D T B). Each (λ (x : ℕ × ℕ). x.0 ≢ p) z.seat.finished) back c.requires.given.1 in
    let known = token_known _ _ _ _ _ _ _ _ _ _ c.self.invariant.2 c.args.place token t.0 t.1 t.2 in
    let h = holds_finished _ _ _ _ _ _ _ _ _ _ c.self.invariant.2 c.args.place token t.0 t.1 t.2 low other in let e = c.finish.ensures.finished p known.0 known.1 other in
    (λ q. length (t.3 q) + length (e q).finished) ∙ sym h.given ∙ ap (λ z. z.given) c.self.view_is

pub returns-clause-finished : goal.returns-clause-finished
returns-clause-finished g c = let D = g.row.L-Said.Denot in let T = g.row.L-Told.Denot in let B = g.row.L-Base.Denot in let back = sym c.self.view_is in let p : ℕ = c.args.place.0 in let t = c.remove_token-token.ensures.taken in let token = c.remove_token-token.result in
    let other = subst (λ (z : InboxValue D T B). Each (λ (x : ℕ × ℕ). x.0 ≢ p) z.seat.finished) back c.requires.given.1 in
    let known = token_known _ _ _ _ _ _ _ _ _ _ c.self.invariant.2 c.args.place token t.0 t.1 t.2 in let owes = c.finish.new.seat.owes in
    (token.0, c.finish.ensures.finished p known.0 known.1 other ∙ (λ q. record (c.self.view_is q).seat { finished = (c.self.view_is q).seat.finished ++ (p, token.0) ∷ []; trail = (c.self.view_is q).seat.trail ++ told_at p (g.L.Law.told c.args.out); owes = owes }))

pub returns-clause-once : goal.returns-clause-once
returns-clause-once g c = let D = g.row.L-Said.Denot in let T = g.row.L-Told.Denot in let B = g.row.L-Base.Denot in let back = sym c.self.view_is in let p : ℕ = c.args.place.0 in let t = c.remove_token-token.ensures.taken in let token = c.remove_token-token.result in
    let low = subst (λ (z : InboxValue D T B). p < z.given) back c.requires.given.0 in
    let other = subst (λ (z : InboxValue D T B). Each (λ (x : ℕ × ℕ). x.0 ≢ p) z.seat.finished) back c.requires.given.1 in
    let known = token_known _ _ _ _ _ _ _ _ _ _ c.self.invariant.2 c.args.place token t.0 t.1 t.2 in
    let h = holds_finished _ _ _ _ _ _ _ _ _ _ c.self.invariant.2 c.args.place token t.0 t.1 t.2 low other in
    subst (λ (z : DeviceValue D T B). Apart z.finished) (sym (c.finish.ensures.finished p known.0 known.1 other)) h.once
