use Rattle.std.proofs.Common.{◌≡◌, ◌≢◌, ◌↔◌, ◌⊎◌, ◌∙◌, ◌≤◌, ◌++◌, ◌∷◌, [], ap, inl, refl, rules, subst, sym}
use Rattle.demi_port_core.specs.History.{Among, Each}
use Rattle.demi_port_core.proofs.Lists.{each_front}
use Rattle.demi_sched.specs.declared.held.Held.{Held}
use Rattle.demi_sched.specs.declared.state.State.TheVariants.{Due}
use Rattle.demi_link.specs.Fitting.{Fits}
use Rattle.demi_link.specs.Linked.{LinkValue}
use Rattle.demi_link.specs.Talks.{new_talk}
use Rattle.demi_link.specs.declared.phase.Cause.TheVariants.{NoMemory}
use Rattle.demi_link.proofs.Ended.{fresh_fits}
use Rattle.demi_worker.specs.Standing.{Stands, ended_links, held_links, taken_in}
use Rattle.demi_worker.proofs.Leaving.{leaves_one}
use Rattle.demi_worker.proofs.Links.{held_next, link_of, others_of}
use Rattle.demi_worker.proofs.Served.{never_began}
use Rattle.demi_worker.proofs.Standing.{links_held, links_refused, stands_as, stands_held, stands_refused}
use Rattle.demi_worker.proofs.worker.Worker.take_in.Goals as goal

pub hold-requires-clause-other : goal.hold-requires-clause-other
hold-requires-clause-other g c =
    let was = c.args.self.now in let link = c.args.link in
    let held = held_links was.scheduler.held in
    let all = others_of link (taken_in was.scheduler.held was.ended.items) c.requires.other in
    subst (λ (k : LinkValue). Each (λ n. n ≢ k.desk.link) held) (sym c.in-Ok.ensures) (each_front (λ n. n ≢ link) held (ended_links was.ended.items) all)

pub returns-in-Ok-clause-stands : goal.returns-in-Ok-clause-stands
returns-in-Ok-clause-stands g c =
    let was = c.args.self.now in let now = c.hold.new.self in let k = c.in-Ok.made in let link = c.args.link in let new = c.requires.new in
    let ports = g.C.Scanner.ports in let sight = g.C.Calls.sight in
    let there = ports was.context in let had = sight was.context in
    let low : was.number ≤ 255 = search rules in
    let fresh = fresh_fits there link was.number (had link) new.worker new.number low new.fresh in
    let fit = subst (λ (x : LinkValue). Fits there (had x.desk.link) x.desk x.phase) (sym c.in-Ok.ensures) fresh in
    let other = subst (λ (x : LinkValue). Among x.desk.link (taken_in was.scheduler.held was.ended.items) → ⊥) (sym c.in-Ok.ensures) c.requires.other in
    let h : Held LinkValue = record { number = was.scheduler.added; coroutine = k; state = Due } in
    let stands = stands_held there had was.scheduler now.scheduler was.ended.items h other c.requires.room c.hold.ensures.held fit c.requires.stands in
    let listed = stands_as there there had now.scheduler now.scheduler was.ended.items now.ended.items refl refl (ap (λ v. v.items) c.hold.ensures.ended) stands in
    subst (λ (x : g.row.C.Denot). Stands (ports x) (sight x) now.scheduler now.ended.items) (sym c.hold.ensures.context) listed

pub returns-in-Ok-clause-links : goal.returns-in-Ok-clause-links
returns-in-Ok-clause-links g c = λ n.
    let was = c.args.self.now in let now = c.hold.new.self in
    let before = taken_in was.scheduler.held was.ended.items in
    let h : Held LinkValue = record { number = was.scheduler.added; coroutine = c.in-Ok.made; state = Due } in
    subst (λ es. Among n (taken_in now.scheduler.held es) ↔ ((n ≡ c.args.link) ⊎ Among n before)) (sym (ap (λ v. v.items) c.hold.ensures.ended))
    (subst (λ m. Among n (taken_in now.scheduler.held was.ended.items) ↔ ((n ≡ m) ⊎ Among n before)) (ap link_of c.in-Ok.ensures) (links_held was.scheduler now.scheduler was.ended.items h n c.hold.ensures.held))

pub returns-in-Ok-clause-held : goal.returns-in-Ok-clause-held
returns-in-Ok-clause-held g c =
    let was = c.args.self.now in
    let h : Held LinkValue = record { number = was.scheduler.added; coroutine = c.in-Ok.made; state = Due } in
    inl (ap (λ s. held_links s.held) c.hold.ensures.held ∙ held_next was.scheduler.held h ∙ ap (λ m. held_links was.scheduler.held ++ m ∷ []) (ap link_of c.in-Ok.ensures))

pub returns-in-Err-clause-stands : goal.returns-in-Err-clause-stands
returns-in-Err-clause-stands g c =
    let was = c.args.self.now in let now = c.refuse.new.self in let link = c.args.link in let new = c.requires.new in let e = c.refuse.ensures in
    let ports = g.C.Scanner.ports in let sight = g.C.Calls.sight in
    let there = ports was.context in let had = sight was.context in
    let low : was.number ≤ 255 = search rules in
    let served = never_began there link was.number (had link) (fresh_fits there link was.number (had link) new.worker new.number low new.fresh) in
    let others = leaves_one g.C.Scanner.goes sight g.met.C.Calls.goes_beside link was.context now.context e.goes in
    let stands = stands_refused there had (sight now.context) was.ended.items now.ended.items link NoMemory (new_talk was.number) e.listed e.stopped others served was.scheduler c.requires.other c.requires.room c.requires.stands in
    stands_as there (ports now.context) (sight now.context) was.scheduler now.scheduler now.ended.items now.ended.items (g.met.C.Scanner.goes_ports link was.context now.context e.goes) e.scheduler refl stands

pub returns-in-Err-clause-links : goal.returns-in-Err-clause-links
returns-in-Err-clause-links g c = λ n.
    let was = c.args.self.now in let now = c.refuse.new.self in let link = c.args.link in
    subst (λ s. Among n (taken_in s.held now.ended.items) ↔ ((n ≡ link) ⊎ Among n (taken_in was.scheduler.held was.ended.items))) (sym c.refuse.ensures.scheduler)
    (links_refused was.ended.items now.ended.items link NoMemory (new_talk was.number) (g.C.Calls.sight was.context link) c.refuse.ensures.listed was.scheduler n)
