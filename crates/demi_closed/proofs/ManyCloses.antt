-- What a session of any number of links and workers shows once its store's port is closed.
use Rattle.std.proofs.Common.{◌≡◌, ◌⊎◌, ℕ, ◌+◌, ◌<◌, List, [], ◌∷◌, Some, length, map, refl, arith, ◌∙◌, ap, sym, subst, append-nil, inl, inr}
use Rattle.std.specs.Prelude.{slice_get}
use Rattle.std.specs.List.{AllByRecursion, AllZip}
use mathlib.Core.Option.{some}
use lib.ListN.{get_elem?}
use Rattle.demi_device.specs.Serving.{trail}
use Rattle.demi_port.specs.Seen.{DeviceValue, PortId, known_at, known_by, says}
use Rattle.demi_port_core.specs.History.{Each, of_pass}
use Rattle.demi_port_core.specs.Trails.{Behind}
use Rattle.demi_port_core.specs.declared.trail.Trail.{Trail}
use Rattle.demi_spec.specs.Record.{Record}
use Rattle.demi_store.specs.Laws.{StoreBasis}
use Rattle.demi_store.specs.declared.ask.StoreAsk.{StoreAsk}
use Rattle.demi_store.specs.declared.told.StoreTold.{StoreTold}
use Rattle.demi_streamq.specs.Sending as tx
use Rattle.demi_served.specs.Accounts.{LeftInLog, StoreEntry}
use Rattle.demi_served.specs.Ends.{IsForOwn, IsKeptBy, IsTalkOf, PassesOf, PortClosed, StoreEnd, StoreEnds, StorePass}
use Rattle.demi_served.specs.Keeps.{Draw, Link, LinkKeeps, Worker, WorkerKeeps}
use Rattle.demi_served.specs.Links.{AllEnded, LinkEnded, LinkPorts}
use Rattle.demi_served.specs.Served.{Placed, TornTalk, WholeTalk}
use Rattle.demi_served.specs.Steps.{GoesBeside, after_handing, after_stop}
use Rattle.demi_served.specs.Talks.{LinkRun, Talk}
use Rattle.demi_served.specs.Writing.{WroteAll}
use Rattle.demi_link.specs.Ends.{IsDone}
use Rattle.demi_link.specs.Fitting.{Keeps}
use Rattle.demi_link.specs.Sights.{Side, side_of, worker_of}
use Rattle.demi_pdpix.specs.Lanes.{IsEndOf}
use Rattle.demi_closed.specs.Closed.{Added}
use Rattle.demi_closed.specs.ManyLinks.{AllResults, AllWereWritten, IsAnsweredInFull, IsForLinkOf, IsServedBy, IsWorkerOf, LinkEnd, WorkerEnd, session_of, worker_now, worker_then}
use Rattle.demi_closed.specs.OnlyLink.{store_stop}
use Rattle.demi_closed.proofs.Lists.{all_so, each_placed, map_at, map_long, placed_at, placed_map}
use Rattle.demi_closed.proofs.NeverBegan.{keeps_of}

-- what a link's coroutine kept
abbrev pub kept_of : LinkEnd → Link
kept_of k = k.desk.talk.kept

abbrev pub pass_of : WorkerEnd → StorePass
pass_of w = w.pass

zero_more : (n : ℕ) → 0 + n ≡ n
zero_more n = omega arith

-- a worker that did nothing more, and one that stopped the store
same_now : (w : WorkerEnd) → side_of w.pass ≡ w.store → worker_then w ≡ worker_now w
same_now w e = ap (λ (s : Side StoreAsk StoreTold). record { submitted = s.submitted; known = s.known; draws = w.draws }) (sym e)

stopped_now : (w : WorkerEnd) (a : Added store_stop w.store w.pass) → after_handing (after_stop (worker_then w) a.place a.token) (known_by w.pass) ≡ worker_now w
stopped_now w a = ap (λ (l : List (ℕ × (ℕ × StoreAsk))). record { submitted = l; known = known_by w.pass; draws = w.draws }) (sym a.submitted)

module _ (handed : (v : Worker) (known : Trail StoreAsk StoreTold) → WorkerKeeps v → WorkerKeeps (after_handing v known))
    (stops : (v : Worker) (p q : ℕ) → WorkerKeeps v → WorkerKeeps (after_stop v p q))
    (none : (link : ℕ) (v : Worker) → GoesBeside link v v)
    (on : (link : ℕ) (u v x : Worker) → GoesBeside link u v → GoesBeside link v x → GoesBeside link u x)
    (keeps_beside : (b : StoreBasis) (v x : Worker) (link : ℕ) (k : Link) → LinkKeeps b v link k → GoesBeside link v x → LinkKeeps b x link k) where
  keeps_now : (b : StoreBasis) (links : List LinkEnd) (n : ℕ) (w : WorkerEnd) → IsWorkerOf b links n w → WorkerKeeps (worker_now w)
  keeps_now b links n w is = elim (is.left) [
    | inl e ↦ subst WorkerKeeps (same_now w e) is.keeps
    | inr a ↦ subst WorkerKeeps (stopped_now w a) (handed _ (known_by w.pass) (stops (worker_then w) a.place a.token is.keeps))
  ]

  beside_now : (link : ℕ) (w : WorkerEnd) → (side_of w.pass ≡ w.store) ⊎ Added store_stop w.store w.pass → GoesBeside link (worker_then w) (worker_now w)
  beside_now link w left = elim left [
    | inl e ↦ subst (GoesBeside link (worker_then w)) (same_now w e) (none link (worker_then w))
    | inr a ↦ record {
      submitted = ((a.place, (a.token, store_stop)) ∷ [], a.submitted);
      draws = ([], sym (append-nil w.draws), tt);
      known = a.grows;
    }
  ]

  module _ (b : StoreBasis) (there : ℕ) (workers : List WorkerEnd) (links : List LinkEnd) (are_workers : Placed (IsWorkerOf b links) 0 workers) (are_served : Placed (IsServedBy there workers) 0 links) where
    worker_at : (n : ℕ) (w : WorkerEnd) → slice_get workers n ≡ Some w → IsWorkerOf b links n w
    worker_at n w at = subst (λ (m : ℕ). IsWorkerOf b links m w) (zero_more n) (placed_at (IsWorkerOf b links) 0 workers n w are_workers at)

    served_at : (n : ℕ) (k : LinkEnd) → slice_get links n ≡ Some k → IsServedBy there workers n k
    served_at n k at = subst (λ (m : ℕ). IsServedBy there workers m k) (zero_more n) (placed_at (IsServedBy there workers) 0 links n k are_served at)

    keeps_it : (n : ℕ) (k : LinkEnd) → IsServedBy there workers n k → Keeps k.had k.desk
    keeps_it n k s = keeps_of there k.had k.desk k.cause s.served

    its_worker : (n : ℕ) (k : LinkEnd) → IsServedBy there workers n k → (kept_of k).worker ≡ k.worker
    its_worker n k s = (keeps_it n k s).number.0 ∙ s.number

    is_kept : (n : ℕ) (k : LinkEnd) → IsServedBy there workers n k → IsKeptBy b (map worker_now workers) n (kept_of k)
    is_kept n k s =
        let by = worker_at k.worker s.by s.there in
        let kept : LinkKeeps k.had.base (worker_of k.had) n (kept_of k) = subst (λ (l : ℕ). LinkKeeps k.had.base (worker_of k.had) l (kept_of k)) s.link (keeps_it n k s).kept in
        let went : GoesBeside n (worker_of k.had) (worker_now s.by) = on n (worker_of k.had) (worker_then s.by) (worker_now s.by) s.went (beside_now n s.by by.left) in
        let later : LinkKeeps k.had.base (worker_now s.by) n (kept_of k) = keeps_beside k.had.base (worker_of k.had) (worker_now s.by) n (kept_of k) kept went in
        (worker_now s.by, ap (λ (m : ℕ). slice_get (map worker_now workers) m) (its_worker n k s) ∙ map_at worker_now workers k.worker s.by s.there, subst (λ (x : StoreBasis). LinkKeeps x (worker_now s.by) n (kept_of k)) (sym s.base ∙ by.base) later)

    owns : (n : ℕ) (x : Draw) → IsForLinkOf links n x → IsForOwn (map kept_of links) n x
    owns n x f = (kept_of f.0, map_at kept_of links x.link f.0 f.1, its_worker x.link f.0 (served_at x.link f.0 f.1) ∙ f.2)

    passes_from : (n : ℕ) (ws : List WorkerEnd) → Placed (IsWorkerOf b links) n ws → PassesOf n (map worker_now ws) (map pass_of ws)
    passes_from n [] h = tt
    passes_from n (w ∷ ws) h = (record { number = h.0.number; submitted = refl; known = refl }, passes_from (n + 1) ws h.1)

    module _ (id : PortId StoreBasis) (seat : DeviceValue StoreAsk StoreTold StoreBasis) (end : StoreEnd) (ends : IsEndOf id seat (map pass_of workers) end) (as_many : seat.passes ≡ length workers)
        (closed : (z : StoreEnd) (vs : List Worker) (passes : List StorePass) → PassesOf 0 vs passes
        → Each (λ p. p.submitted ≡ of_pass p.number 0 z.history) passes
        → ((p : ℕ) (x : StoreEntry) → get_elem? z.history p ≡ some x → x.0 < length passes)
        → z.heard ≡ says z.history → Each (λ p. Behind (known_at z) (known_by p)) passes
        → PortClosed (known_at z) z.history vs)
        (runs : List LinkRun) (ports : List LinkPorts) (talks : List Talk) (records : List Record) (left : LeftInLog b (says end.history) end.trail records) where
      talked : (ks : List LinkEnd) (ls : List LinkRun) (es : List LinkPorts) (ts : List Talk) → AllResults ks ls es ts → AllZip IsTalkOf (map kept_of ks) ts
      talked [] [] [] [] r = tt
      talked [] [] [] (t ∷ ts) r = absurd r
      talked [] [] (e ∷ es) ts r = absurd r
      talked [] (l ∷ ls) es ts r = absurd r
      talked (k ∷ ks) [] es ts r = absurd r
      talked (k ∷ ks) (l ∷ ls) [] ts r = absurd r
      talked (k ∷ ks) (l ∷ ls) (e ∷ es) [] r = absurd r
      talked (k ∷ ks) (l ∷ ls) (e ∷ es) (t ∷ ts) r = ((r.0.replies, r.0.asks), talked ks ls es ts r.1)

      pub ends_all : AllResults links runs ports talks → StoreEnds b (known_at end) end.history (map worker_now workers) (map kept_of links) (session_of b runs records) talks
      ends_all results = record {
        old = refl;
        limit = refl;
        logged = left;
        closed = closed end (map worker_now workers) (map pass_of workers) (passes_from 0 workers are_workers) ends.passes_of
            (λ p x at. subst (λ (n : ℕ). x.0 < n) (as_many ∙ sym (map_long pass_of workers)) (ends.entries p x at)) ends.heard ends.behind;
        kept = each_placed worker_now (IsWorkerOf b links) WorkerKeeps 0 workers (λ n w is. keeps_now b links n w is) are_workers;
        own = placed_map worker_now (IsWorkerOf b links) (λ n v. AllByRecursion (IsForOwn (map kept_of links) n) v.draws) 0 workers
            (λ n w is. all_so (IsForLinkOf links n) (IsForOwn (map kept_of links) n) w.draws (owns n) is.own) are_workers;
        spoke = placed_map kept_of (IsServedBy there workers) (IsKeptBy b (map worker_now workers)) 0 links (λ n k s. is_kept n k s) are_served;
        talked = talked links runs ports talks results;
      }

pub all_ended : (ks : List LinkEnd) (ls : List LinkRun) (es : List LinkPorts) (ts : List Talk) → AllResults ks ls es ts → AllEnded ls es ts
all_ended [] [] [] [] r = tt
all_ended [] [] [] (t ∷ ts) r = absurd r
all_ended [] [] (e ∷ es) ts r = absurd r
all_ended [] (l ∷ ls) es ts r = absurd r
all_ended (k ∷ ks) [] es ts r = absurd r
all_ended (k ∷ ks) (l ∷ ls) [] ts r = absurd r
all_ended (k ∷ ks) (l ∷ ls) (e ∷ es) [] r = absurd r
all_ended (k ∷ ks) (l ∷ ls) (e ∷ es) (t ∷ ts) r = (r.0.ended, all_ended ks ls es ts r.1)

pub all_torn : ((l : LinkRun) (e : LinkPorts) (t : Talk) → LinkEnded l e t → TornTalk l t)
    → (ks : List LinkEnd) (ls : List LinkRun) (es : List LinkPorts) (ts : List Talk) → AllResults ks ls es ts → AllZip TornTalk ls ts
all_torn torn [] [] [] [] r = tt
all_torn torn [] [] [] (t ∷ ts) r = absurd r
all_torn torn [] [] (e ∷ es) ts r = absurd r
all_torn torn [] (l ∷ ls) es ts r = absurd r
all_torn torn (k ∷ ks) [] es ts r = absurd r
all_torn torn (k ∷ ks) (l ∷ ls) [] ts r = absurd r
all_torn torn (k ∷ ks) (l ∷ ls) (e ∷ es) [] r = absurd r
all_torn torn (k ∷ ks) (l ∷ ls) (e ∷ es) (t ∷ ts) r = (torn l e t r.0.ended, all_torn torn ks ls es ts r.1)

pub all_answered : (ks : List LinkEnd) (ls : List LinkRun) (es : List LinkPorts) (ts : List Talk) → AllResults ks ls es ts → AllZip IsAnsweredInFull (map (λ k. k.cause) ks) ts
all_answered [] [] [] [] r = tt
all_answered [] [] [] (t ∷ ts) r = absurd r
all_answered [] [] (e ∷ es) ts r = absurd r
all_answered [] (l ∷ ls) es ts r = absurd r
all_answered (k ∷ ks) [] es ts r = absurd r
all_answered (k ∷ ks) (l ∷ ls) [] ts r = absurd r
all_answered (k ∷ ks) (l ∷ ls) (e ∷ es) [] r = absurd r
all_answered (k ∷ ks) (l ∷ ls) (e ∷ es) (t ∷ ts) r = ((λ done. (r.0.all done).1), all_answered ks ls es ts r.1)

-- where each input came to an end, as many numbers were drawn for a link as it has replies
pub all_even : (ks : List LinkEnd) (ls : List LinkRun) (es : List LinkPorts) (ts : List Talk) → AllResults ks ls es ts → AllByRecursion IsDone (map (λ k. k.cause) ks) → AllByRecursion (λ k. length k.drawn ≡ length k.replies) (map kept_of ks)
all_even [] [] [] [] r d = tt
all_even [] [] [] (t ∷ ts) r d = absurd r
all_even [] [] (e ∷ es) ts r d = absurd r
all_even [] (l ∷ ls) es ts r d = absurd r
all_even (k ∷ ks) [] es ts r d = absurd r
all_even (k ∷ ks) (l ∷ ls) [] ts r d = absurd r
all_even (k ∷ ks) (l ∷ ls) (e ∷ es) [] r d = absurd r
all_even (k ∷ ks) (l ∷ ls) (e ∷ es) (t ∷ ts) r d =
    ((let x = ap length (r.0.all d.0).0 in let y = (r.0.all d.0).1 in let z = ap length r.0.replies in omega (arith, x, y, z)), all_even ks ls es ts r.1 d.1)

-- the law of links that were answered in full, and what it comes to
module _ (full : (l : LinkRun) (e : LinkPorts) (t : Talk) → LinkEnded l e t → WroteAll e.pushes (trail tx.told e.wrote) → length t.replies ≡ length t.asks → WholeTalk l t) where
  whole_one : (k : LinkEnd) (l : LinkRun) (e : LinkPorts) (t : Talk) → AllResults (k ∷ []) (l ∷ []) (e ∷ []) (t ∷ []) → IsDone k.cause → WholeTalk l t
  whole_one k l e t r done = full l e t r.0.ended (r.0.all done).2 (r.0.all done).1

  pub all_whole : (ks : List LinkEnd) (ls : List LinkRun) (es : List LinkPorts) (ts : List Talk) → AllResults ks ls es ts → AllByRecursion IsDone (map (λ k. k.cause) ks) → AllZip WholeTalk ls ts
  all_whole [] [] [] [] r d = tt
  all_whole [] [] [] (t ∷ ts) r d = absurd r
  all_whole [] [] (e ∷ es) ts r d = absurd r
  all_whole [] (l ∷ ls) es ts r d = absurd r
  all_whole (k ∷ ks) [] es ts r d = absurd r
  all_whole (k ∷ ks) (l ∷ ls) [] ts r d = absurd r
  all_whole (k ∷ ks) (l ∷ ls) (e ∷ es) [] r d = absurd r
  all_whole (k ∷ ks) (l ∷ ls) (e ∷ es) (t ∷ ts) r d = (whole_one k l e t (r.0, tt) d.0, all_whole ks ls es ts r.1 d.1)

  pub all_written_out : (ks : List LinkEnd) (ls : List LinkRun) (es : List LinkPorts) (ts : List Talk) → AllResults ks ls es ts → AllWereWritten (map (λ k. k.cause) ks) ls ts
  all_written_out [] [] [] [] r = tt
  all_written_out [] [] [] (t ∷ ts) r = absurd r
  all_written_out [] [] (e ∷ es) ts r = absurd r
  all_written_out [] (l ∷ ls) es ts r = absurd r
  all_written_out (k ∷ ks) [] es ts r = absurd r
  all_written_out (k ∷ ks) (l ∷ ls) [] ts r = absurd r
  all_written_out (k ∷ ks) (l ∷ ls) (e ∷ es) [] r = absurd r
  all_written_out (k ∷ ks) (l ∷ ls) (e ∷ es) (t ∷ ts) r = ((λ done. (whole_one k l e t (r.0, tt) done).written), all_written_out ks ls es ts r.1)
