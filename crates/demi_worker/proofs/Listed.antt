-- One more end is listed.
use Rattle.std.specs.Prelude.{◌≡◌, ◌≢◌, ℕ, ◌+◌, List, [], ◌∷◌, ◌++◌, length}
use Rattle.std.proofs.Common.{sym, ◌∙◌, ap, subst}
use Rattle.demi_port_core.specs.History.{Each}
use Rattle.demi_port_core.proofs.Lists.{each_snoc}
use Rattle.demi_sched.specs.Going.{Differ}
use Rattle.demi_link.specs.Sights.{LeavesBe, Sight}
use Rattle.demi_link.specs.Talks.{TalkValue}
use Rattle.demi_link.specs.declared.phase.Cause.{Cause}
use Rattle.demi_worker.specs.Ending.{IsServed, Lists}
use Rattle.demi_worker.specs.Standing.{HasEnd, HasStopped, LeavesOthers, ended_links}
use Rattle.demi_worker.specs.Stopping.{IsLeft, IsStopped}
use Rattle.demi_worker.specs.declared.ended.Ended.{Ended}
use Rattle.demi_worker.proofs.Leaving.{left_now, left_on}
use Rattle.demi_worker.proofs.Links.{differ_next, ended_next, length_next}

-- what others leave of the links that were listed
pub stopped_beside : (a b : ℕ → Sight) (Q : ℕ → Type 0) → ((n : ℕ) → Q n → LeavesBe n (a n) (b n)) → (es : List Ended) → Each Q (ended_links es) → Each (HasStopped a) es → Each (HasStopped b) es
stopped_beside a b Q f [] q s = tt
stopped_beside a b Q f (e ∷ es) q s = (left_on e.link e.had.value (a e.link) (b e.link) s.0 (f e.link q.0), stopped_beside a b Q f es q.1 s.1)

module _ (es after : List Ended) (n : ℕ) (cause : Cause) (did : TalkValue) (had : Sight) (l : Lists es after n cause did had) where
  pub links_next : ended_links after ≡ ended_links es ++ n ∷ []
  links_next = ap ended_links l.all ∙ ended_next es l.last ∙ ap (λ m. ended_links es ++ m ∷ []) l.link

  pub count_next : length after ≡ length es + 1
  count_next = ap length l.all ∙ length_next es l.last

module _ (ports : ℕ) (a b : ℕ → Sight) (es after : List Ended) (n : ℕ) (cause : Cause) (did : TalkValue) (l : Lists es after n cause did (a n)) where
  pub served_next : IsServed ports n cause did (a n) → Each (HasEnd ports) es → Each (HasEnd ports) after
  served_next v e = subst (Each (HasEnd ports)) (sym l.all) (each_snoc (HasEnd ports) es l.last e
      (subst (λ m. IsServed ports m l.last.cause l.last.talk.value l.last.had.value) (sym l.link)
      (subst (λ (c : Cause). IsServed ports n c l.last.talk.value l.last.had.value) (sym l.cause)
      (subst (λ (k : TalkValue). IsServed ports n cause k l.last.had.value) (sym l.talk)
      (subst (λ (s : Sight). IsServed ports n cause did s) (sym l.had) v)))))

  pub stopped_next : IsStopped (a n) (b n) → LeavesOthers (n ∷ []) a b → Each (λ m. m ≢ n) (ended_links es) → Each (HasStopped a) es → Each (HasStopped b) after
  stopped_next s g d e =
      let others = stopped_beside a b (λ m. m ≢ n) (λ m f. g m ((λ q. f (sym q)), tt)) es d e in
      subst (Each (HasStopped b)) (sym l.all) (each_snoc (HasStopped b) es l.last others
      (subst (λ m. IsLeft m l.last.had.value (b m)) (sym l.link)
      (subst (λ (z : Sight). IsLeft n z (b n)) (sym l.had) (left_now n (a n) (b n) s))))

  pub once_next : Each (λ m. m ≢ n) (ended_links es) → Differ (ended_links es) → Differ (ended_links after)
  once_next d e = subst Differ (sym (links_next es after n cause did (a n) l)) (differ_next (ended_links es) n e d)

  pub apart_next : (held : List ℕ) → Each (λ m. m ≢ n) held → Each (λ link. Each (λ m. m ≢ link) held) (ended_links es) → Each (λ link. Each (λ m. m ≢ link) held) (ended_links after)
  apart_next held d e = subst (Each (λ link. Each (λ m. m ≢ link) held)) (sym (links_next es after n cause did (a n) l)) (each_snoc (λ link. Each (λ m. m ≢ link) held) (ended_links es) n e d)
