-- The caller of a worker that did its work and the last of it.
use Rattle.std.proofs.Common.{◌≡◌, ℕ, List, [], ◌∷◌, ◌∙◌, ap, sym, subst}
use Rattle.demi_link.specs.Sights.{side_of}
use Rattle.demi_pdpix.specs.Owing.{Owes}
use Rattle.demi_worker.specs.declared.ended.Ended.{Ended}
use Rattle.demi_closed.specs.Closed.{Added}
use Rattle.demi_context.specs.ContextPorts.{Caller, Whole, side_at}
use Rattle.demi_context.specs.ContextSights.{sight_of}
use Rattle.demi_server.specs.Hands.{Done, HandValue, HasFinished, HasServed, ServedLink}
use Rattle.demi_closed.specs.OnlyLink.{store_stop}

same_done : {a b : Caller} {x y : List Ended} → Done a x ≡ Done b y → (a ≡ b) × (x ≡ y)
same_done e = (cc, cc)

module _ (d : Whole) (first middle last : HandValue) (after : Caller) (ended : List Ended) (demi_is : first.demi ≡ d) (number_is : first.number ≡ 0)
    (did : HasServed first middle) (ends : HasFinished middle last) (done : last.stage ≡ Done after ended) where
  abbrev pub link : ServedLink first.demi first.number did.caller did.ended
  link = did.served

  same_before : (did.caller ≡ ends.before) × (did.ended ≡ ends.ended)
  same_before = same_done (sym did.stage ∙ ends.was)

  same_after : (ends.after ≡ after) × (ends.ended ≡ ended)
  same_after = same_done (sym ends.is ∙ done)

  pub only_ended : ended ≡ link.end ∷ []
  only_ended = sym same_after.1 ∙ sym same_before.1 ∙ link.only

  -- the caller before the last of the work is that of the context
  before_is : ends.before ≡ link.context.caller
  before_is = sym same_before.0 ∙ sym link.caller_is

  pub owes_none : Owes d 0 [] after
  owes_none =
      let at_zero : Owes first.demi 0 [] did.caller = subst (λ (n : ℕ). Owes first.demi n [] did.caller) number_is link.owes in
      let at_middle : Owes middle.demi 0 [] did.caller = subst (λ (z : Whole). Owes z 0 [] did.caller) (sym did.demi) at_zero in
      let at_last : Owes middle.demi 0 [] ends.after = ends.owes 0 (subst (λ (c : Caller). Owes middle.demi 0 [] c) same_before.0 at_middle) in
      subst (λ (c : Caller). Owes d 0 [] c) same_after.0 (subst (λ (z : Whole). Owes z 0 [] ends.after) (did.demi ∙ demi_is) at_last)

  pub same_rx : side_at after.rx 0 ≡ (sight_of link.context 0).rx
  same_rx = sym (ap (λ (c : Caller). side_at c.rx 0) same_after.0) ∙ ends.rx 0 ∙ ap (λ (c : Caller). side_at c.rx 0) before_is

  pub same_tx : side_at after.tx 0 ≡ (sight_of link.context 0).tx
  same_tx = sym (ap (λ (c : Caller). side_at c.tx 0) same_after.0) ∙ ends.tx 0 ∙ ap (λ (c : Caller). side_at c.tx 0) before_is

  pub stopped_store : Added store_stop (sight_of link.context 0).store after.service
  stopped_store =
      let now : Added store_stop (side_of ends.before.service) after.service = subst (λ (c : Caller). Added store_stop (side_of ends.before.service) c.service) same_after.0 ends.store_stops in
      subst (λ (c : Caller). Added store_stop (side_of c.service) after.service) before_is now
