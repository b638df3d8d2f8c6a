use Rattle.std.proofs.Common.{◌∙◌, List, [], ◌∷◌, ap, subst, sym}
use Rattle.demi_link.specs.Linked.{LinkValue}
use Rattle.demi_sched.specs.declared.held.Held.{Held}
use Rattle.demi_worker.specs.Standing.{SameLinks, ended_links, taken_in}
use Rattle.demi_worker.specs.declared.ended.Ended.{Ended}
use Rattle.demi_worker.proofs.Links.{same_next, same_on, same_self}
use Rattle.demi_worker.proofs.tests.serve_two.Goals as goal

pub returns-clause-links : goal.returns-clause-links
returns-clause-links g c =
    let made = c.make-worker.result in let one = c.take_in.new.self in let two = c.take_in-2.new.self in let end = c.serve.new.self in
    let none = subst (λ (hs : List (Held LinkValue)). SameLinks (taken_in hs made.ended.items) []) (sym (ap (λ s. s.held) c.make-worker.ensures.scheduler ∙ c.requires.none.0))
    (subst (λ (es : List Ended). SameLinks (taken_in [] es) []) (sym c.make-worker.ensures.ended) (same_self [])) in
    let first = same_next (taken_in one.scheduler.held one.ended.items) (taken_in made.scheduler.held made.ended.items) [] c.args.links.0 c.take_in.ensures.links none in
    let both = same_next (taken_in two.scheduler.held two.ended.items) (taken_in one.scheduler.held one.ended.items) (c.args.links.0 ∷ []) c.args.links.1 c.take_in-2.ensures.links first in
    let all = same_on (ended_links end.ended.items) (taken_in two.scheduler.held two.ended.items) (c.args.links.1 ∷ c.args.links.0 ∷ []) c.serve.ensures.links both in
    subst (λ v. SameLinks (ended_links v.items) (c.args.links.1 ∷ c.args.links.0 ∷ [])) (sym c.parts.ensures.ended) all
