use Rattle.std.proofs.Common.{ℕ, [], ◌∷◌, ◌++◌, sym, ap, subst, ◌∙◌, refl}
use Rattle.std.proofs.Common.{append_assoc, append-nil}
use Rattle.demi_port.specs.Seen.{DeviceValue}
use Rattle.demi_port_core.specs.History.{ground_of}
use Rattle.demi_port_core.specs.Trails.{MayTell, told_at}
use Rattle.demi_device.specs.Serving.{AllCome, places, trail}
use Rattle.demi_device.proofs.Outcomes.{above_places, each_place, finished_more, places_append, trail_append}
use Rattle.demi_port.proofs.Devices.{starts_more}
use Rattle.demi_device.proofs.Growing.{starts_same}
use Rattle.demi_device.proofs.inbox.Inbox.finish_all.Goals as goal

pub loop-place-init : goal.loop-place-init
loop-place-init g c = let s = c.args.self.now.seat in (
  [],
  record {
    all = refl;
    room = refl;
    given = refl;
    seat = λ q. record s { trail = sym (append-nil s.trail) q };
    finished = sym (append-nil (places s.finished));
    grows = starts_same s.finished s.finished refl;
    once = c.requires.once;
    comes = c.requires.comes;
  },
)

pub finish-requires-clause-given : goal.finish-requires-clause-given
finish-requires-clause-given g c κs within = let l = c.loop-place in let t = subst (AllCome l.self.given g.L.Law.told (g.L.Law.admits c.args.port.now.key.base (ground_of l.self.seat.fetched)) l.self.seat.trail (places l.self.seat.finished)) c.in-Some.ensures.first l.invariant.1.comes in
    (t.0.served, each_place c.in-Some.place.0 l.self.seat.finished t.0.open_yet)

pub finish-requires-clause-may_tell : goal.finish-requires-clause-may_tell
finish-requires-clause-may_tell g c κs within = let l = c.loop-place in let t = subst (AllCome l.self.given g.L.Law.told (g.L.Law.admits c.args.port.now.key.base (ground_of l.self.seat.fetched)) l.self.seat.trail (places l.self.seat.finished)) c.in-Some.ensures.first l.invariant.1.comes in
    subst (λ (n : ℕ). MayTell n c.in-Some.place.0 (g.L.Law.told c.in-Some.out)) (above_places l.self.seat.finished) t.0.may_tell

pub loop-place-preserved : goal.loop-place-preserved
loop-place-preserved g c = let l = c.loop-place in let v = l.invariant.1 in let before = l.invariant.0 in let L = g.L.Law in let first = c.in-Some.ensures.first in let p : ℕ = c.in-Some.place.0 in let out = c.in-Some.out in
    let t = subst (AllCome l.self.given L.told (L.admits c.args.port.now.key.base (ground_of l.self.seat.fetched)) l.self.seat.trail (places l.self.seat.finished)) first v.comes in
    let f = c.finish.ensures in let e = f.finished.1 in let s = c.args.self.now.seat in let new = c.finish.new.self.seat in (
      before ++ (p, out) ∷ [],
      record {
        all = v.all ∙ ap (λ r. before ++ r) first ∙ sym (append_assoc before ((p, out) ∷ []) c.take.new.self.added);
        room = c.in-Some.ensures.room ∙ v.room;
        given = f.given ∙ v.given;
        seat = finished_more s l.self.seat new (p, f.finished.0) (trail L.told before) (told_at p (L.told out)) v.seat e ∙ (λ q. record s { finished = new.finished; trail = s.trail ++ (ap (λ r. trail L.told before ++ r) (sym (append-nil (told_at p (L.told out)))) ∙ sym (trail_append L.told before ((p, out) ∷ []))) q; owes = new.owes });
        finished = ap (λ z. places z.finished) e ∙ places_append l.self.seat.finished ((p, f.finished.0) ∷ []) ∙ ap (λ r. r ++ p ∷ []) v.finished ∙ append_assoc (places s.finished) (places before) (p ∷ []) ∙ ap (λ r. places s.finished ++ r) (sym (places_append before ((p, out) ∷ [])));
        grows = starts_more _ _ _ ((p, f.finished.0) ∷ [], ap (λ z. z.finished) e) v.grows;
        once = f.once;
        comes = subst (λ (z : ℕ × DeviceValue g.row.L-Said.Denot g.row.L-Told.Denot g.row.L-Base.Denot). AllCome z.0 L.told (L.admits c.args.port.now.key.base (ground_of z.1.fetched)) z.1.trail (places z.1.finished) c.take.new.self.added) (λ q. (sym f.given q, sym e q))
            (subst (λ ps. AllCome l.self.given L.told (L.admits c.args.port.now.key.base (ground_of l.self.seat.fetched)) (l.self.seat.trail ++ told_at p (L.told out)) ps c.take.new.self.added) (sym (places_append l.self.seat.finished ((p, f.finished.0) ∷ []))) t.1);
      },
    )
