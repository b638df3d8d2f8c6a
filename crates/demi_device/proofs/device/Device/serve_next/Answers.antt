use Rattle.std.proofs.Common.{◌≡◌, ◌≢◌, ℕ, ◌<◌, List, [], ◌∷◌, ◌++◌, length, sym, ap, subst, ◌∙◌, arith, length-append}
use Rattle.demi_port.specs.Seen.{DeviceValue}
use Rattle.demi_port_core.specs.History.{ground_of}
use Rattle.demi_port_core.specs.Trails.{StartsWith}
use Rattle.demi_device.specs.Serving.{AllCome, places, trail}
use Rattle.demi_device.proofs.Serve.{each_comes, not_next, serves_all, serves_next, starts_next, stays_admitted}
use Rattle.demi_device.specs.Turning.{Grows}
use Rattle.demi_device.proofs.Growing.{grows_self, grows_served}
use Rattle.demi_device.proofs.device.Device.serve_next.Goals as goal

pub returns-in_default-clause-none : goal.returns-in_default-clause-none
returns-in_default-clause-none g c _ = let i = c.in_default.ensures in let engine = c.self.inside.engine in (
  (λ q. record { engine = engine; seat = i.seat q }) ∙ c.self.view_is,
  not_next c.self.inside.inbox.given (length (g.E.Engine.served engine)) c.next.new.self.seat c.self.invariant.2.all_given (subst (λ (z : DeviceValue g.row.E-L-Said.Denot g.row.E-L-Told.Denot g.row.E-L-Base.Denot). Rattle.demi_port_core.specs.History.Each (λ (x : ℕ × (ℕ × g.row.E-L-Said.Denot)). x.0 ≢ c.self.inside.inbox.given) z.fetched) (sym i.seat) i.none.0),
)

pub finish_all-requires-clause-comes : goal.finish_all-requires-clause-comes
finish_all-requires-clause-comes g c κs within = let D = g.row.E-L-Said.Denot in let T = g.row.E-L-Told.Denot in let B = g.row.E-L-Base.Denot in let L = g.E.L.Law in let E = g.E.Engine in let b = c.self.inside in let h = c.self.invariant.2 in let i = c.in-Some.ensures in let s = c.serve.ensures in
    let old = b.inbox.seat in let more = c.serve.new.done.added in let d = L.said c.in-Some.op in
    let base : E.base c.serve.new.self ≡ c.args.port.now.key.base = s.base ∙ h.same_base ∙ ap (λ z. z.seat.port.key.base) c.self.view_is ∙ ap (λ z. z.key.base) c.requires.port in
    let starts : StartsWith (ground_of old.fetched) (E.served c.serve.new.self) = subst (StartsWith (ground_of old.fetched)) (sym s.served) (starts_next (ground_of old.fetched) (E.served b.engine) d h.begins (ap (lib.ListN.get_elem? (ground_of old.fetched)) (sym h.all_given) ∙ i.next.2)) in
    let n : length (E.served c.serve.new.self) ≡ c.next.new.self.given = (let a = ap length s.served in let k = length-append (E.served b.engine) (d ∷ []) in let e = i.next.1 in let f = h.all_given in omega arith) in
    let told = L.told in let nb = c.args.port.now.key.base in
    let k = each_comes (length (E.served c.serve.new.self)) told (L.admits (E.base c.serve.new.self) (E.served c.serve.new.self)) (L.admits (E.base c.serve.new.self) (ground_of old.fetched))
    (stays_admitted (L.admits (E.base c.serve.new.self)) (L.steady (E.base c.serve.new.self)) (ground_of old.fetched) (E.served c.serve.new.self) starts) _ _ more s.comes in
    let k' = subst (λ (z : ℕ × (B × (List (ℕ × T) × List ℕ))). AllCome z.0 told (L.admits z.1.0 (ground_of old.fetched)) z.1.1.0 z.1.1.1 more) (λ q. (n q, (base q, (sym h.same_trail q, sym h.same_places q)))) k in
    subst (λ (z : DeviceValue D T B). AllCome c.next.new.self.given told (L.admits nb (ground_of z.fetched)) z.trail (places z.finished) more) (sym i.seat) k'

pub invariant_of-self-2 : goal.invariant_of-self-2
invariant_of-self-2 g c = let L = g.E.L.Law in let E = g.E.Engine in let b = c.self.inside in let h = c.self.invariant.2 in let i = c.in-Some.ensures in let s = c.serve.ensures in let f = c.finish_all.ensures in (
  f.done.0,
  f.done.1 ∙ s.done ∙ c.self.invariant.1 ∙ sym (ap (λ z. z.port.tokens.slots) f.seat ∙ ap (λ z. z.port.tokens.slots) i.seat),
  (let new = c.finish_all.new.self.seat in let added = c.serve.new.done.added in
      serves_next _ _ _ _ _ _ _ _ _ _ h (E.base c.serve.new.self) (E.room c.serve.new.self) c.finish_all.new.self.given (L.said c.in-Some.op) (E.served c.serve.new.self) added (E.finished c.serve.new.self) new
      s.base s.room (f.given ∙ i.next.1) i.next.2 s.served s.finished
      (f.seat ∙ (λ q. record (i.seat q) { finished = new.finished; trail = (i.seat q).trail ++ trail L.told added; owes = new.owes }))
      (f.finished ∙ ap (λ z. places z.finished ++ places added) i.seat) f.once (L.steady (E.base b.engine)) s.comes s.pends s.ends),
)

pub returns-in_default-clause-grows : goal.returns-in_default-clause-grows
returns-in_default-clause-grows g c = let E = g.E.Engine in let i = c.in_default.ensures in let engine = c.self.inside.engine in let seat = c.next.new.self.seat in
    subst (λ z. Grows (E.finished z.engine) (E.finished engine) z.seat seat) ((λ q. record { engine = engine; seat = i.seat q }) ∙ c.self.view_is) (grows_self (E.finished engine) seat)

pub returns-clause-some : goal.returns-clause-some
returns-clause-some g c _ = let E = g.E.Engine in let b = c.self.inside in let d = g.E.L.Law.said c.in-Some.op in (
  subst (λ z. length (E.served z.engine) < length z.seat.fetched) c.self.view_is (subst (λ (n : ℕ). n < length b.inbox.seat.fetched) c.self.invariant.2.all_given c.in-Some.ensures.held),
  (d, c.serve.ensures.served ∙ ap (λ z. E.served z.engine ++ d ∷ []) c.self.view_is),
)

pub returns-clause-grows : goal.returns-clause-grows
returns-clause-grows g c = let E = g.E.Engine in let told = g.E.L.Law.told in let b = c.self.inside in let i = c.in-Some.ensures in let s = c.serve.ensures in let f = c.finish_all.ensures in
    let new = c.finish_all.new.self.seat in let added = c.serve.new.done.added in let after = E.finished c.serve.new.self in let outcomes : StartsWith after (E.finished b.engine) = (added, s.finished) in
    let only = f.seat ∙ (λ q. record (i.seat q) { finished = new.finished; trail = ap (λ z. z.trail) (sym f.seat) q; owes = new.owes }) in
    let finished = subst (λ (z : DeviceValue g.row.E-L-Said.Denot g.row.E-L-Told.Denot g.row.E-L-Base.Denot). StartsWith new.finished z.finished) i.seat f.grows in
    let tells : StartsWith new.trail b.inbox.seat.trail = (trail told added, ap (λ z. z.trail) f.seat ∙ ap (λ z. z.trail ++ trail told added) i.seat) in
    subst (λ z. Grows (E.finished z.engine) after z.seat new) c.self.view_is (grows_served (E.finished b.engine) after b.inbox.seat new only outcomes finished tells)

pub returns-clause-serves : goal.returns-clause-serves
returns-clause-serves g c = let L = g.E.L.Law in let E = g.E.Engine in let b = c.self.inside in let h = c.self.invariant.2 in let i = c.in-Some.ensures in let s = c.serve.ensures in let f = c.finish_all.ensures in serves_all _ _ _ _ _ _ _ _ _ _ (let new = c.finish_all.new.self.seat in let added = c.serve.new.done.added in
    serves_next _ _ _ _ _ _ _ _ _ _ h (E.base c.serve.new.self) (E.room c.serve.new.self) c.finish_all.new.self.given (L.said c.in-Some.op) (E.served c.serve.new.self) added (E.finished c.serve.new.self) new
    s.base s.room (f.given ∙ i.next.1) i.next.2 s.served s.finished
    (f.seat ∙ (λ q. record (i.seat q) { finished = new.finished; trail = (i.seat q).trail ++ trail L.told added; owes = new.owes }))
    (f.finished ∙ ap (λ z. places z.finished ++ places added) i.seat) f.once (L.steady (E.base b.engine)) s.comes s.pends s.ends)
