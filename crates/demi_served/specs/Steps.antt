-- What a poll does to a worker and to a link.
use Rattle.std.specs.Prelude.{◌≡◌, ◌≢◌, ℕ, ◌+◌, List, [], ◌∷◌, ◌++◌, length}
use Rattle.std.specs.List.{AllByRecursion}
use Rattle.demi_port_core.specs.Trails.{StartsWith, Behind}
use Rattle.demi_port_core.specs.declared.trail.Trail.{Trail}
use Rattle.demi_spec.specs.Input.{Asked}
use Rattle.demi_spec.specs.Reply.{Reply}
use Rattle.demi_store.specs.declared.ask.StoreAsk.{StoreAsk}
use Rattle.demi_store.specs.declared.op.StoreOp.{StoreOp}
use Rattle.demi_store.specs.declared.op.StoreOp.TheVariants.{Stop}
use Rattle.demi_store.specs.declared.told.StoreTold.{StoreTold}
use Rattle.demi_served.specs.Keeps.{Draw, Worker, Link}

-- a worker that has done nothing
abbrev pub new_worker : Trail StoreAsk StoreTold → Worker
new_worker known = record { submitted = []; known = known; draws = [] }

-- the worker drew its next number for the request of this link with this index, and asks nothing
abbrev pub after_draw : Worker → ℕ → ℕ → Asked → Worker
after_draw w link index q = record w { draws = w.draws ++ record { link = link; index = index; request = q } ∷ [] }

-- the worker drew its next number for that request, and asked so with it at the place p, with the token t
abbrev pub after_ask : Worker → ℕ → ℕ → Asked → StoreOp → ℕ → ℕ → Worker
after_ask w link index q op p t = record w {
  submitted = w.submitted ++ (p, (t, record { sequence = length w.draws + 1; op = op })) ∷ [];
  draws = w.draws ++ record { link = link; index = index; request = q } ∷ [];
}

-- the worker asked the store to stop
abbrev pub after_stop : Worker → ℕ → ℕ → Worker
after_stop w p t = record w { submitted = w.submitted ++ (p, (t, record { sequence = 0; op = Stop })) ∷ [] }

-- the worker's pass was handed more
abbrev pub after_handing : Worker → Trail StoreAsk StoreTold → Worker
after_handing w known = record w { known = known }

-- a link of a worker that has done nothing
abbrev pub new_link : ℕ → Link
new_link worker = record { worker = worker; drawn = []; replies = [] }

-- a number was drawn for the link's next request
abbrev pub after_drawn : Link → Asked → Link
after_drawn k q = record k { drawn = k.drawn ++ q ∷ [] }

-- one more reply was pushed
abbrev pub after_reply : Link → Reply → Link
after_reply k r = record k { replies = k.replies ++ r ∷ [] }

-- a worker went on, and drew no number for this link
pub record GoesBeside (link : ℕ) (v w : Worker) : Type 0 where
  pub submitted : StartsWith w.submitted v.submitted
  pub draws : (more : List Draw) × (w.draws ≡ v.draws ++ more) × AllByRecursion (λ d. d.link ≢ link) more
  pub known : Behind w.known v.known
