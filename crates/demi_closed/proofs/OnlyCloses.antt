-- What a session of one link and one worker shows once its ports are closed.
use Rattle.std.proofs.Common.{◌≡◌, ◌≢◌, ℕ, zero, suc, ◌+◌, ◌<◌, ◌≤◌, Bool, true, false, List, [], ◌∷◌, Some, length, refl, arith, ◌∙◌, ap, sym, subst, append-nil}
use Rattle.std.specs.Prelude.{◌==◌, slice_get, take}
use Rattle.std.specs.List.{AllByRecursion}
use Rattle.std.proofs.lemmas.Bool.Decides.{nat_tests}
use Rattle.std.proofs.lemmas.List.{take_all}
use mathlib.Core.Option.{some}
use lib.ListN.{get_elem?}
use Rattle.demi_port.specs.Seen.{DeviceValue, PortId, known_at, known_by, says}
use Rattle.demi_port_core.specs.History.{Each, of_pass}
use Rattle.demi_port_core.specs.Trails.{Behind}
use Rattle.demi_port_core.specs.declared.trail.Trail.{Trail}
use Rattle.demi_spec.specs.Input.{Asked}
use Rattle.demi_spec.specs.Record.{Record}
use Rattle.demi_spec.specs.Store.{serial}
use Rattle.demi_store.specs.Laws.{StoreBasis}
use Rattle.demi_store.specs.declared.ask.StoreAsk.{StoreAsk}
use Rattle.demi_store.specs.declared.told.StoreTold.{StoreTold}
use Rattle.demi_served.specs.Accounts.{LeftInLog, StoreEntry}
use Rattle.demi_served.specs.Alone.{AsksAll, AskedAll}
use Rattle.demi_served.specs.Ends.{IsForOwn, PassesOf, PortClosed, StoreEnd, StoreEnds, StorePass}
use Rattle.demi_served.specs.Keeps.{Draw, Link, LinkKeeps, Worker, WorkerKeeps}
use Rattle.demi_served.specs.Links.{LinkPorts}
use Rattle.demi_served.specs.Steps.{GoesBeside, after_handing, after_stop}
use Rattle.demi_served.specs.Talks.{LinkRun, Talk}
use Rattle.demi_link.specs.Ends.{IsKnown}
use Rattle.demi_link.specs.Fitting.{Fits, Keeps}
use Rattle.demi_link.specs.Sights.{Sight, worker_of}
use Rattle.demi_link.specs.Talks.{DeskValue}
use Rattle.demi_link.specs.declared.phase.Cause.{Cause}
use Rattle.demi_link.specs.declared.phase.Cause.TheVariants as cause
use Rattle.demi_link.specs.declared.phase.Phase.TheVariants.{Over}
use Rattle.demi_pdpix.specs.Lanes.{IsEndOf}
use Rattle.demi_closed.specs.Closed.{Added}
use Rattle.demi_closed.specs.LinkClosed.{LinkResult, WasServed}
use Rattle.demi_closed.specs.OnlyLink.{ServesOne, WentOn, run_of, store_stop}
use Rattle.demi_closed.proofs.NeverBegan.{few_none, keeps_of, settle, worker_keeps}

all_of_draws : (P : Draw → Type 0) (draws : List Draw) → ((i : ℕ) (x : Draw) → slice_get draws i ≡ Some x → P x) → AllByRecursion P draws
all_of_draws P [] f = tt
all_of_draws P (x ∷ draws) f = (f 0 x refl, all_of_draws P draws (λ i y at. f (suc i) y at))

draw_at : (P : Draw → Type 0) (draws : List Draw) (i : ℕ) (x : Draw) → AllByRecursion P draws → slice_get draws i ≡ Some x → P x
draw_at P [] i x h at = absurd (cc)
draw_at P (y ∷ draws) zero x h at = subst P (some_is at) h.0
  where
    some_is : {A : Type 0} {a b : A} → Some a ≡ Some b → a ≡ b
    some_is e = cc
draw_at P (y ∷ draws) (suc i) x h at = draw_at P draws i x h.1 at

-- the worker once it had stopped the store
module _ (s : Sight) (d : DeskValue) (one : ServesOne s d) (pass : StorePass) (added : Added store_stop s.store pass) where
  abbrev pub last : Worker
  last = record { submitted = pass.submitted; known = known_by pass; draws = s.draws }

  abbrev stopped : Worker
  stopped = after_handing (after_stop (worker_of s) added.place added.token) (known_by pass)

  last_is : stopped ≡ last
  last_is = ap (λ (l : List (ℕ × (ℕ × StoreAsk))). record { submitted = l; known = known_by pass; draws = s.draws }) (sym added.submitted)

  pub beside : GoesBeside d.link (worker_of s) last
  beside = record {
    submitted = ((added.place, (added.token, store_stop)) ∷ [], added.submitted);
    draws = ([], sym (append-nil s.draws), tt);
    known = added.grows;
  }

  -- each draw is for link 0
  pub for_one : AllByRecursion (λ (x : Draw). x.link ≡ 0) s.draws
  for_one = all_of_draws (λ (x : Draw). x.link ≡ 0) s.draws (λ i x at. go i x at (x.link == 0) refl)
    where
      go : (i : ℕ) (x : Draw) → slice_get s.draws i ≡ Some x → (b : Bool) → (x.link == 0) ≡ b → x.link ≡ 0
      go i x at true t = grind (arith, nat_tests)
      go i x at false t =
          let differs : x.link ≢ 0 = λ e. absurd (grind (arith, nat_tests)) in
          absurd (draw_at (λ (y : Draw). y.link ≢ x.link) s.draws i x (one.others x.link differs) at refl)

module _ (ports : ℕ) (s now : Sight) (d : DeskValue) (c : Cause) (w : WasServed ports s d c) (went : WentOn d.link s now) (one : ServesOne now d) (pass : StorePass) (number : pass.number ≡ 0) (added : Added store_stop now.store pass)
    (id : PortId StoreBasis) (seat : DeviceValue StoreAsk StoreTold StoreBasis) (end : StoreEnd) (ends : IsEndOf id seat (pass ∷ []) end) (alone : seat.passes ≡ 1)
    (l : LinkRun) (e : LinkPorts) (t : Talk) (r : LinkResult c d l e t) (records : List Record) (left : LeftInLog now.base (says end.history) end.trail records)
    (handed : (v : Worker) (known : Trail StoreAsk StoreTold) → WorkerKeeps v → WorkerKeeps (after_handing v known))
    (stops : (v : Worker) (p q : ℕ) → WorkerKeeps v → WorkerKeeps (after_stop v p q))
    (keeps_beside : (b : StoreBasis) (v x : Worker) (link : ℕ) (k : Link) → LinkKeeps b v link k → GoesBeside link v x → LinkKeeps b x link k)
    (closed : (z : StoreEnd) (workers : List Worker) (passes : List StorePass) → PassesOf 0 workers passes
    → Each (λ p. p.submitted ≡ of_pass p.number 0 z.history) passes
    → ((p : ℕ) (x : StoreEntry) → get_elem? z.history p ≡ some x → x.0 < length passes)
    → z.heard ≡ says z.history → Each (λ p. Behind (known_at z) (known_by p)) passes
    → PortClosed (known_at z) z.history workers) where
  abbrev pub k : Link
  k = d.talk.kept

  abbrev pub me : Worker
  me = last now d one pass added

  keeps : WorkerKeeps me
  keeps = subst WorkerKeeps (last_is now d one pass added) (handed _ (known_by pass) (stops (worker_of now) added.place added.token (went.keeps (worker_keeps ports s d c w))))

  kept : Keeps s d
  kept = keeps_of ports s d c w

  kept_now : LinkKeeps now.base (worker_of now) d.link k
  kept_now = subst (λ (b : StoreBasis). LinkKeeps b (worker_of now) d.link k) (sym went.base) (keeps_beside s.base (worker_of s) (worker_of now) d.link k kept.kept went.worker)

  link_keeps : LinkKeeps now.base me 0 k
  link_keeps = subst (λ (n : ℕ). LinkKeeps now.base me n k) one.link (keeps_beside now.base (worker_of now) me d.link k kept_now (beside now d one pass added))

  mine : k.worker ≡ 0
  mine = kept.number.0 ∙ sym went.number ∙ one.number

  owns : (x : Draw) → x.link ≡ 0 → IsForOwn (k ∷ []) 0 x
  owns x at = (k, ap (λ (n : ℕ). slice_get (k ∷ []) n) at, mine)

  own_draws : (draws : List Draw) → AllByRecursion (λ (x : Draw). x.link ≡ 0) draws → AllByRecursion (IsForOwn (k ∷ []) 0) draws
  own_draws [] h = tt
  own_draws (x ∷ draws) h = (owns x h.0, own_draws draws h.1)

  pub ends_all : StoreEnds now.base (known_at end) end.history (me ∷ []) (k ∷ []) (run_of now.base l records) (t ∷ [])
  ends_all = record {
    old = refl;
    limit = refl;
    logged = left;
    closed = closed end (me ∷ []) (pass ∷ []) (record { number = number; submitted = refl; known = refl }, tt) ends.passes_of (λ p x at. subst (λ (n : ℕ). x.0 < n) alone (ends.entries p x at)) ends.heard ends.behind;
    kept = (keeps, tt);
    own = (own_draws now.draws (for_one now d one pass added), tt);
    spoke = ((me, ap (λ (n : ℕ). slice_get (me ∷ []) n) mine, link_keeps), tt);
    talked = ((r.replies, r.asks), tt);
  }

  pub asked_all : ((v : Worker) (p q : ℕ) → AsksAll v → AskedAll (after_stop v p q)) → ((v : Worker) (known : Trail StoreAsk StoreTold) → AskedAll v → AskedAll (after_handing v known)) → AskedAll me
  asked_all stop hand = subst AskedAll (last_is now d one pass added) (hand _ (known_by pass) (stop (worker_of now) added.place added.token one.asks))

over_more : (ports : ℕ) (s : Sight) (d : DeskValue) (c : Cause) → Fits ports s d (Over c) → IsKnown c → length d.talk.kept.drawn ≤ length d.talk.kept.replies + 1
over_more ports s d cause.Clean f known = let e = f.agrees.3.1 in omega arith
over_more ports s d cause.Bye f known = let e = f.agrees.3.1 in omega arith
over_more ports s d (cause.Refused code) f known = let e = f.agrees.3.1 in omega arith
over_more ports s d cause.ReadFault f known = let e = f.agrees.3.1 in omega arith
over_more ports s d cause.WriteFault f known = let e = f.agrees.3.1 in omega arith
over_more ports s d cause.LogFault f known = let e = f.agrees.3.1 in omega arith
over_more ports s d cause.NoMemory f known = let e = f.agrees.3.1 in omega arith
over_more ports s d cause.Lost f known = absurd known

-- at most one number more was drawn than there are replies
pub one_more : (ports : ℕ) (s : Sight) (d : DeskValue) (c : Cause) → WasServed ports s d c → length d.talk.kept.drawn ≤ length d.talk.kept.replies + 1
one_more ports s d c w = settle ports s d c (λ f. over_more ports s d c f w.known) (λ n. few_none ports s d c n) w

pub all_taken : (n : ℕ) (records new : List Record) (limit : ℕ) (asks : List Asked) → length asks ≤ n → new ≡ (serial records limit (take n asks)).records → new ≡ (serial records limit asks).records
all_taken n records new limit asks le e = e ∙ ap (λ (q : List Asked). (serial records limit q).records) (take_all n asks le)
