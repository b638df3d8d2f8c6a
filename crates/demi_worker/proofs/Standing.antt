-- How a worker stands after each of its steps.
use Rattle.std.specs.Prelude.{◌≡◌, ◌≢◌, ◌↔◌, ◌⊎◌, ℕ, ◌+◌, ◌<◌, Bool, false, cond, List, [], ◌∷◌, ◌++◌, length, refl}
use Rattle.std.proofs.Common.{sym, ◌∙◌, ap, arith, subst, inl}
use Rattle.demi_port_core.specs.History.{Among, Each}
use Rattle.demi_port_core.proofs.Lists.{each_back, each_both, each_front, each_more, each_snoc}
use Rattle.demi_sched.specs.Holding.{SchedulerValue}
use Rattle.demi_sched.specs.Polling.{Collected}
use Rattle.demi_sched.specs.Waiting.{has_ended, live}
use Rattle.demi_sched.specs.declared.held.Held.{Held}
use Rattle.demi_link.specs.Beside.{fits_beside}
use Rattle.demi_link.specs.Fitting.{Fits}
use Rattle.demi_link.specs.Linked.{LinkValue}
use Rattle.demi_link.specs.Sights.{LeavesBe, Sight}
use Rattle.demi_link.specs.Talks.{TalkValue}
use Rattle.demi_link.specs.declared.phase.Cause.{Cause}
use Rattle.demi_link.specs.declared.phase.Phase.TheVariants.{Over}
use Rattle.demi_worker.specs.Ending.{IsServed, Lists}
use Rattle.demi_worker.specs.Standing.{IsFit, LeavesOthers, SameLinks, Stands, ended_links, held_links, taken_in}
use Rattle.demi_worker.specs.Stopping.{IsStopped}
use Rattle.demi_worker.specs.declared.ended.Ended.{Ended}
use Rattle.demi_worker.proofs.Links.{held_count, held_next, length_next, moved_out, one_more_ended, one_more_held, others_of, out_among, out_count, out_each, out_names}
use Rattle.demi_worker.proofs.Listed.{apart_next, count_next, links_next, once_next, served_next, stopped_beside, stopped_next}

-- what others leave of the links that are held
pub fits_all : (ports : ℕ) (a b : ℕ → Sight) (Q : ℕ → Type 0) → ((n : ℕ) → Q n → LeavesBe n (a n) (b n)) → (hs : List (Held LinkValue)) → Each Q (held_links hs) → Each (IsFit ports a) hs → Each (IsFit ports b) hs
fits_all ports a b Q f [] q e = tt
fits_all ports a b Q f (h ∷ hs) q e =
    let d = h.coroutine.desk in
    (fits_beside (a d.link) (b d.link) d (f d.link q.0) ports ports h.coroutine.phase refl e.0, fits_all ports a b Q f hs q.1 e.1)

all_so : (Q : ℕ → Type 0) → ((n : ℕ) → Q n) → (ns : List ℕ) → Each Q ns
all_so Q f [] = tt
all_so Q f (n ∷ ns) = (f n, all_so Q f ns)

-- the same, said otherwise
pub stands_as : (ports after : ℕ) (a : ℕ → Sight) (s t : SchedulerValue LinkValue) (es fs : List Ended) → after ≡ ports → t ≡ s → fs ≡ es → Stands ports a s es → Stands after a t fs
stands_as ports after a s t es fs p e f st = subst (λ n. Stands n a t fs) (sym p) (subst (λ (v : SchedulerValue LinkValue). Stands ports a v fs) (sym e) (subst (λ (l : List Ended). Stands ports a s l) (sym f) st))

pub stands_fits : (ports after : ℕ) (a : ℕ → Sight) (hs : List (Held LinkValue)) → after ≡ ports → Each (IsFit after a) hs → Each (IsFit ports a) hs
stands_fits ports after a hs e f = subst (λ n. Each (IsFit n a) hs) e f

-- where nobody did anything
pub stands_beside : (ports : ℕ) (a b : ℕ → Sight) (s : SchedulerValue LinkValue) (es : List Ended) → LeavesOthers [] a b → Stands ports a s es → Stands ports b s es
stands_beside ports a b s es g st = record {
  ports = st.ports;
  fits = fits_all ports a b (λ n. Unit {0}) (λ n q. g n tt) s.held (all_so (λ n. Unit {0}) (λ n. tt) (held_links s.held)) st.fits;
  served = st.served;
  stopped = stopped_beside a b (λ n. Unit {0}) (λ n q. g n tt) es (all_so (λ n. Unit {0}) (λ n. tt) (ended_links es)) st.stopped;
  once = st.once;
  apart = st.apart;
  room = st.room;
  small = st.small;
  added = st.added;
}

-- after a round
pub stands_polled : (ports : ℕ) (a b : ℕ → Sight) (s t : SchedulerValue LinkValue) (es : List Ended) → LeavesOthers (held_links s.held) a b → t ≡ record s { held = t.held } → held_links t.held ≡ held_links s.held
    → Each (IsFit ports b) t.held → Stands ports a s es → Stands ports b t es
stands_polled ports a b s t es g same names fits st =
    let long : length t.held ≡ length s.held = sym (held_count t.held) ∙ ap length names ∙ held_count s.held in
    let room : t.room ≡ s.room = ap (λ (v : SchedulerValue LinkValue). v.room) same in
    let added : t.added ≡ s.added = ap (λ (v : SchedulerValue LinkValue). v.added) same in
    record {
      ports = st.ports ∙ sym (ap (λ (v : SchedulerValue LinkValue). v.ports) same);
      fits = fits;
      served = st.served;
      stopped = stopped_beside a b (λ link. Each (λ n. n ≢ link) (held_links s.held)) g es st.apart st.stopped;
      once = st.once;
      apart = subst (λ ns. Each (λ link. Each (λ n. n ≢ link) ns) (ended_links es)) (sym names) st.apart;
      room = (let r = st.room in omega arith);
      small = (let r = st.small in omega arith);
      added = (let r = st.added in omega arith);
    }

-- a link that has ended was served
pub ended_served : (ports : ℕ) (sight : ℕ → Sight) (k : LinkValue) (n : ℕ) (cause : Cause) (did : TalkValue) → n ≡ k.desk.link → k.phase ≡ Over cause → did ≡ k.desk.talk
    → Fits ports (sight k.desk.link) k.desk k.phase → IsServed ports n cause did (sight n)
ended_served ports sight k n cause did link phase talk fits = record {
  desk = k.desk;
  link = sym link;
  talk = sym talk;
  over = inl (subst (λ m. Fits ports (sight m) k.desk (Over cause)) (sym link) (subst (Fits ports (sight k.desk.link) k.desk) phase fits));
}

-- the links of those that are held and of the ends, with one more end
module _ (es after : List Ended) (n : ℕ) (cause : Cause) (did : TalkValue) (had : Sight) (l : Lists es after n cause did had) where
  pub links_ended : (s t : SchedulerValue LinkValue) (number : ℕ) (k : LinkValue) → k.desk.link ≡ n → Collected s.held number k t.held → SameLinks (taken_in t.held after) (taken_in s.held es)
  links_ended s t number k is c =
      let f : (m : ℕ) → Among m (held_links s.held) ↔ ((m ≡ n) ⊎ Among m (held_links t.held)) = λ m. subst (λ x. Among m (held_links s.held) ↔ ((m ≡ x) ⊎ Among m (held_links t.held))) is (out_among s.held t.held number k c m) in
      subst (λ ns. SameLinks (held_links t.held ++ ns) (taken_in s.held es)) (sym (links_next es after n cause did had l)) (moved_out (held_links s.held) (held_links t.held) (ended_links es) n f)

  pub links_refused : (s : SchedulerValue LinkValue) (m : ℕ) → Among m (taken_in s.held after) ↔ ((m ≡ n) ⊎ Among m (taken_in s.held es))
  links_refused s m = subst (λ ns. Among m (held_links s.held ++ ns) ↔ ((m ≡ n) ⊎ Among m (taken_in s.held es))) (sym (links_next es after n cause did had l)) (one_more_ended (held_links s.held) (ended_links es) n m)

-- One more end was listed, of a link that is not held any more.
module _ (ports : ℕ) (a b : ℕ → Sight) (es after : List Ended) (n : ℕ) (cause : Cause) (did : TalkValue) (l : Lists es after n cause did (a n)) (stop : IsStopped (a n) (b n)) (g : LeavesOthers (n ∷ []) a b)
    (v : IsServed ports n cause did (a n)) where
  -- one that has ended
  pub stands_ended : (s t : SchedulerValue LinkValue) (number : ℕ) (k : LinkValue) → k.desk.link ≡ n → Collected s.held number k t.held → t ≡ record s { held = t.held } → Each (λ m. m ≢ n) (held_links t.held)
      → Stands ports a s es → Stands ports b t after
  stands_ended s t number k is c same free st =
      let apart = each_more (λ link. Each (λ m. m ≢ link) (held_links s.held)) (λ link. (n ≢ link) × Each (λ m. m ≢ link) (held_links t.held)) (ended_links es)
      (λ link e. let o = out_names s.held t.held number k c (λ m. m ≢ link) e in (subst (λ m. m ≢ link) is o.0, o.1)) st.apart in
      let others = each_more (λ link. (n ≢ link) × Each (λ m. m ≢ link) (held_links t.held)) (λ m. m ≢ n) (ended_links es) (λ link e. λ q. e.0 (sym q)) apart in
      let left = each_more (λ link. (n ≢ link) × Each (λ m. m ≢ link) (held_links t.held)) (λ link. Each (λ m. m ≢ link) (held_links t.held)) (ended_links es) (λ link e. e.1) apart in
      let fits = (out_each s.held t.held number k c (IsFit ports a) st.fits).1 in
      let one = out_count s.held t.held number k c in
      let more = count_next es after n cause did (a n) l in
      let room : t.room ≡ s.room = ap (λ (x : SchedulerValue LinkValue). x.room) same in
      let added : t.added ≡ s.added = ap (λ (x : SchedulerValue LinkValue). x.added) same in
      record {
        ports = st.ports ∙ sym (ap (λ (x : SchedulerValue LinkValue). x.ports) same);
        fits = fits_all ports a b (λ m. m ≢ n) (λ m d. g m ((λ q. d (sym q)), tt)) t.held free fits;
        served = served_next ports a b es after n cause did l v st.served;
        stopped = stopped_next ports a b es after n cause did l stop g others st.stopped;
        once = once_next ports a b es after n cause did l others st.once;
        apart = apart_next ports a b es after n cause did l (held_links t.held) free left;
        room = (let r = st.room in omega arith);
        small = (let r = st.small in omega arith);
        added = (let r = st.added in omega arith);
      }

  -- one that never began
  pub stands_refused : (s : SchedulerValue LinkValue) → (Among n (taken_in s.held es) → ⊥) → length s.held + length es < s.room → Stands ports a s es → Stands ports b s after
  stands_refused s other less st =
      let all = others_of n (taken_in s.held es) other in
      let free = each_front (λ m. m ≢ n) (held_links s.held) (ended_links es) all in
      let others = each_back (λ m. m ≢ n) (held_links s.held) (ended_links es) all in
      let more = count_next es after n cause did (a n) l in
      record {
        ports = st.ports;
        fits = fits_all ports a b (λ m. m ≢ n) (λ m d. g m ((λ q. d (sym q)), tt)) s.held free st.fits;
        served = served_next ports a b es after n cause did l v st.served;
        stopped = stopped_next ports a b es after n cause did l stop g others st.stopped;
        once = once_next ports a b es after n cause did l others st.once;
        apart = apart_next ports a b es after n cause did l (held_links s.held) free st.apart;
        room = (let r = st.room in omega arith);
        small = st.small;
        added = (let r = st.added in omega arith);
      }

-- one more is held
pub stands_held : (ports : ℕ) (a : ℕ → Sight) (s t : SchedulerValue LinkValue) (es : List Ended) (h : Held LinkValue) → (Among h.coroutine.desk.link (taken_in s.held es) → ⊥) → length s.held + length es < s.room
    → t ≡ record s { added = s.added + 1; held = s.held ++ h ∷ [] } → IsFit ports a h → Stands ports a s es → Stands ports a t es
stands_held ports a s t es h other less is fit st =
    let n = h.coroutine.desk.link in
    let all = others_of n (taken_in s.held es) other in
    let others = each_back (λ m. m ≢ n) (held_links s.held) (ended_links es) all in
    let both = each_both (λ m. m ≢ n) (λ link. Each (λ m. m ≢ link) (held_links s.held)) (ended_links es) others st.apart in
    let more = length_next s.held h in
    let next : Stands ports a (record s { added = s.added + 1; held = s.held ++ h ∷ [] }) es = record {
      ports = st.ports;
      fits = each_snoc (IsFit ports a) s.held h st.fits fit;
      served = st.served;
      stopped = st.stopped;
      once = st.once;
      apart = subst (λ ns. Each (λ link. Each (λ m. m ≢ link) ns) (ended_links es)) (sym (held_next s.held h))
          (each_more (λ m. (m ≢ n) × Each (λ x. x ≢ m) (held_links s.held)) (λ link. Each (λ m. m ≢ link) (held_links s.held ++ n ∷ [])) (ended_links es)
          (λ link e. each_snoc (λ m. m ≢ link) (held_links s.held) n e.1 (λ q. e.0 (sym q))) both);
      room = (let r = st.room in omega arith);
      small = st.small;
      added = (let r = st.added in omega arith);
    } in
    subst (λ (v : SchedulerValue LinkValue). Stands ports a v es) (sym is) next

pub links_held : (s t : SchedulerValue LinkValue) (es : List Ended) (h : Held LinkValue) (m : ℕ) → t ≡ record s { added = s.added + 1; held = s.held ++ h ∷ [] } → Among m (taken_in t.held es) ↔ ((m ≡ h.coroutine.desk.link) ⊎ Among m (taken_in s.held es))
links_held s t es h m is =
    let n = h.coroutine.desk.link in
    let names = ap (λ (v : SchedulerValue LinkValue). held_links v.held) is ∙ held_next s.held h in
    subst (λ ns. Among m (ns ++ ended_links es) ↔ ((m ≡ n) ⊎ Among m (taken_in s.held es))) (sym names) (one_more_held (held_links s.held) (ended_links es) n m)

-- where none has ended and none is live, none is held
pub none_held : (hs : List (Held LinkValue)) → Each (λ (h : Held LinkValue). has_ended h.state ≡ false) hs → live hs ≡ 0 → hs ≡ []
none_held [] e none = refl
none_held (h ∷ hs) e none = absurd (let one : cond {A = ℕ} (has_ended h.state) 0 1 ≡ 1 = ap (λ (b : Bool). cond {A = ℕ} b 0 1) e.0 in omega arith)
