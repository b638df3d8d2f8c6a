-- Where one worker served one link alone, its replies and its records are those of the store on one thread.
use Rattle.std.proofs.Common.{◌≡◌, ℕ, zero, suc, ◌+◌, ◌-◌, ◌≤◌, Bool, true, List, [], ◌∷◌, ◌++◌, length, take, drop, Option, None, Some, refl, arith, ◌∙◌, ap, sym, subst, cond, append_assoc, append-nil, inl, inr, ◌⊎◌, length-take-le, length-append}
use Rattle.std.specs.Prelude.{slice_get, map, ◌==◌}
use Rattle.std.specs.List.{AllByRecursion}
use Rattle.std.proofs.lemmas.Bool.Decides.{nat_tests}
use Rattle.std.proofs.lemmas.List.{take-append-drop, take_all, take-append-le}
use Rattle.std.proofs.Math.Seq.{take-append_seam, drop-append_seam}
use Rattle.demi_port.specs.Seen.{says}
use Rattle.demi_port_core.specs.declared.trail.Trail.{Trail}
use Rattle.demi_spec.specs.Input.{Asked}
use Rattle.demi_spec.specs.Reply.{Reply}
use Rattle.demi_spec.specs.Record.{Record}
use Rattle.demi_spec.specs.Store.{added, serial_from}
use Rattle.demi_store.specs.History.{Standing, opened, struck_at}
use Rattle.demi_store.specs.Laws.{StoreBasis}
use Rattle.demi_store.specs.declared.ask.StoreAsk.{StoreAsk}
use Rattle.demi_store.specs.declared.told.StoreTold.{StoreTold}
use Rattle.demi_served.specs.Talks.{Run, Talk}
use Rattle.demi_served.specs.Asking.{Ask, Puts, Stops, ask_of}
use Rattle.demi_served.specs.Accounts.{StoreEntry, asked_in, IsLeft, IsAccounted, Accounted}
use Rattle.demi_served.specs.Keeps.{Draw, Worker, Link, of_link, numbered, RepliesKeep}
use Rattle.demi_served.specs.Ends.{IsForOwn, IsTalkOf, StoreEnds}
use Rattle.demi_served.specs.Alone.{Numbered, with_ask, asked_with, asked_by, submitted_by, AskedAll}
use Rattle.demi_served.proofs.Lists.{some_is, all_at, all_by, get_left}
use Rattle.demi_served.proofs.Folds.{said_at, standing_from, history_join, end_is}
use Rattle.demi_served.proofs.Entries.{get_elem}
use Rattle.demi_served.proofs.Closes.{numbered_at, speaking, replies_at, accounted}
use Rattle.demi_served.proofs.AsksAll.{of_only_pass}
use Rattle.demi_served.proofs.Orders.{wants, wants_are, SaidFrom, RepliesFrom, in_order, replies_from}
use Rattle.demi_served.proofs.Leaves.{MayLeave, leaves, stops_keep, stops_calm, records_in_order, serial_push, stand, reach}

only_link : (draws : List Draw) → AllByRecursion (λ d. d.link ≡ 0) draws → of_link 0 draws ≡ draws
only_link [] h = refl
only_link (d ∷ draws) h =
    let link = h.0 in
    let test : (d.link == 0) ≡ true = grind (arith, nat_tests) in
    ap (λ (c : Bool). cond c (d ∷ of_link 0 draws) (of_link 0 draws)) test
    ∙ ap (λ (l : List Draw). d ∷ l) (only_link draws h.1)

first_of : {X : Type 0} (x y : X) (i : ℕ) → slice_get (x ∷ []) i ≡ Some y → (i ≡ 0) × (x ≡ y)
first_of x y zero e = (refl, some_is e)
first_of x y (suc i) e = absurd (cc)

module _ (b : StoreBasis) (end : Trail StoreAsk StoreTold) (history : List StoreEntry) (w : Worker) (k : Link) (run : Run) (t : Talk) (ends : StoreEnds b end history (w ∷ []) (k ∷ []) run (t ∷ [])) (told : b.told ≡ true) (asked : AskedAll w) where
  abbrev stops : List Numbered
  stops = asked.stops

  pub acc : Accounted b history end.told run (t ∷ [])
  acc = accounted b end history (w ∷ []) (k ∷ []) run (t ∷ []) ends

  talk : IsTalkOf k t
  talk = ends.talked.0

  pub only : (p : ℕ) (e : StoreEntry) → slice_get history p ≡ Some e → e.0 ≡ 0
  only p e at = let less = ends.closed.entries p e (get_elem history p e at) in omega arith

  record Speaks : Type 0 where
    draws : w.draws ≡ numbered 0 0 k.drawn
    zero_is : k.worker ≡ 0
    replied : RepliesKeep b w k.worker 0 0 0 k.drawn k.replies

  speaks : Speaks
  speaks =
      let s = speaking b end history (w ∷ []) (k ∷ []) run (t ∷ []) ends 0 k refl in
      let worker = first_of w s.worker k.worker s.here in
      let links : AllByRecursion (λ d. d.link ≡ 0) w.draws = all_by (λ d. d.link ≡ 0) w.draws (λ i d e. (let own = all_at (IsForOwn (k ∷ []) 0) w.draws i d ends.own.0 e in (first_of k own.0 d.link own.1).0)) in
      let own : of_link 0 w.draws ≡ numbered 0 0 k.drawn = ap (λ (x : Worker). of_link 0 x.draws) worker.1
      ∙ s.keeps.own in
      record {
        draws = sym (only_link w.draws links) ∙ own;
        zero_is = worker.0;
        replied = subst (λ (x : Worker). RepliesKeep b x k.worker 0 0 0 k.drawn k.replies) (sym worker.1) s.keeps.replied;
      }

  all_said : asked_by (says history) ≡ asked_with 1 (numbered 0 0 k.drawn) ++ stops
  all_said =
      let worker = ends.closed.passes.0.0 in
      let alone : submitted_by w ≡ says history = ap (λ (l : List (ℕ × (ℕ × StoreAsk))). map (λ x. x.1.1) l) worker
      ∙ of_only_pass history 0 only in
      ap asked_by (sym alone) ∙ asked.asked ∙ ap (λ (l : List Draw). asked_with 1 l ++ stops) speaks.draws

  wanted : asked_in (says history) ≡ wants (asked_with 1 (numbered 0 0 k.drawn) ++ stops)
  wanted = sym (wants_are (says history)) ∙ ap wants all_said

  from : RepliesFrom b history end.told told only acc.rises stops 0 k.drawn t.replies
  from = replies_from b history end.told told only acc.rises stops 0 k.drawn t.replies (λ j r e. (
      let h = replies_at b end history (w ∷ []) (k ∷ []) run (t ∷ []) ends w k.worker 0 0 0 k.drawn k.replies j r speaks.replied (ap (λ (l : List Reply). slice_get l j) (sym talk.0) ∙ e) in
      let a = acc.replied 0 j t r refl e in
      let same : a.0 ≡ h.0 = some_is (sym a.1 ∙ ap (λ (l : List Asked). slice_get l j) talk.1.1 ∙ get_left k.drawn talk.1.0 j h.0 h.1) in
      let at = numbered_at 0 0 k.drawn (r.sequence - 1) (record { link = 0; index = 0 + j; request = h.0 }) (ap (λ (l : List Draw). slice_get l (r.sequence - 1)) (sym speaks.draws) ∙ h.4.1) in
      let some = h.4.0 in
      let zero_more : j ≡ 0 + j = omega arith in
      (h.0, h.1, h.2 ∙ speaks.zero_is, number j r.sequence at.0 some, subst (λ m. IsAccounted b history end.told h.0 r (ask_of 0 m h.0)) zero_more (subst (λ z. IsAccounted b history end.told z r (ask_of 0 j z)) same a.3))))
    where
      number : (j s : ℕ) → 0 + j ≡ 0 + (s - 1) → 1 ≤ s → s ≡ 0 + j + 1
      number j s e l = omega (arith, e)

  stands : SaidFrom b history end.told told only acc.rises stops 0 (asked_with 1 (numbered 0 0 k.drawn) ++ stops)
  stands j x e = let n : j ≡ 0 + j = omega arith in ap (slice_get (asked_by (says history))) (sym n)
      ∙ ap (λ (l : List Numbered). slice_get l j) all_said ∙ e

  pub serial_replies : t.replies ≡ take (length t.replies) (serial_from 0 b.records b.limit t.asks).replies
  serial_replies = in_order b history end.told told only acc.rises stops 0 0 k.drawn talk.1.0 t.replies stands from
      ∙ ap (λ (l : List Asked). take (length t.replies) (serial_from 0 b.records b.limit l).replies) (sym talk.1.1)

  pub serial_all : length t.replies ≡ length t.asks → t.replies ≡ (serial_from 0 b.records b.limit t.asks).replies
  serial_all even = serial_replies ∙ take_all (length t.replies) (serial_from 0 b.records b.limit t.asks).replies (shorter (as_long 0 b.records t.asks))
    where
      as_long : (i : ℕ) (records : List Record) (qs : List Asked)
          → length (serial_from i records b.limit qs).replies ≡ length qs
      as_long i records [] = refl
      as_long i records (q ∷ qs) = ap suc (as_long (i + 1) (records ++ added records b.limit 0 i q) qs)

      shorter : {n : ℕ} → n ≡ length t.asks → n ≤ length t.replies
      shorter e = omega (arith, e, even)

  all_are : run.records ≡ (standing_from b.limit (struck_at end.told) 0 (opened b.records) (asked_in (says history))).records ++ ends.logged.extra
  all_are = ends.logged.all ∙ ap (λ (x : Standing). x.records ++ ends.logged.extra) (end_is b (says history) end.told)

  left_is : IsLeft (standing_from b.limit (struck_at end.told) 0 (opened b.records) (asked_in (says history))).fault
      (asked_in (says history)) ends.logged.extra
  left_is = subst (λ (x : Standing). IsLeft x.fault (asked_in (says history)) ends.logged.extra) (end_is b (says history) end.told) ends.logged.left

  pub serial_records : ends.logged.extra ≡ [] → length t.replies ≡ length k.drawn
      → drop run.old run.records ≡ (serial_from 0 b.records b.limit (take (length t.replies) t.asks)).records
  serial_records none even =
      let asks : List Ask = asked_in (says history) in
      let are_stops = asked.are_stops in
      let drawn : take (length t.replies) t.asks ≡ k.drawn = ap (λ n. take n t.asks) even
      ∙ ap (take (length k.drawn)) talk.1.1 ∙ take-append_seam k.drawn talk.1.0 in
      let order = records_in_order b history end.told told only acc.rises stops are_stops 0 0 k.drawn t.replies wanted stands from even in
      let all : run.records ≡ b.records ++ (serial_from 0 b.records b.limit k.drawn).records =
      all_are ∙ ap (λ (l : List Record). (standing_from b.limit (struck_at end.told) 0 (opened b.records) asks).records ++ l) none ∙ append-nil _ ∙ order in
      ap (λ n. drop n run.records) (sym ends.old) ∙ ap (drop (length b.records)) all
      ∙ drop-append_seam b.records (serial_from 0 b.records b.limit k.drawn).records
      ∙ ap (λ (l : List Asked). (serial_from 0 b.records b.limit l).records) (sym drawn)

  long_enough : (i : ℕ) (qs : List Asked) (rs : List Reply)
      → RepliesFrom b history end.told told only acc.rises stops i qs rs → length rs ≤ length qs
  long_enough i qs [] h = omega arith
  long_enough i [] (r ∷ rs) h = absurd h
  long_enough i (q ∷ qs) (r ∷ rs) h = let k = long_enough (i + 1) qs rs h.3 in omega arith

  front_replied : (i : ℕ) (qs : List Asked) (rs : List Reply)
      → RepliesFrom b history end.told told only acc.rises stops i qs rs
      → RepliesFrom b history end.told told only acc.rises stops i (take (length rs) qs) rs
  front_replied i qs [] h = tt
  front_replied i [] (r ∷ rs) h = absurd h
  front_replied i (q ∷ qs) (r ∷ rs) h = (h.0, h.1, h.2, front_replied (i + 1) qs rs h.3)

  abbrev pub front : List Asked
  front = take (length t.replies) k.drawn

  abbrev pub struck : ℕ → Option StoreTold
  struck = struck_at end.told

  abbrev pub of_all : List Ask
  of_all = asked_in (says history)

  abbrev pub last : Standing
  last = standing_from b.limit struck 0 (opened b.records) of_all

  new_are : (records : List Record) → run.records ≡ b.records ++ records → drop run.old run.records ≡ records
  new_are records all = ap (λ n. drop n run.records) (sym ends.old) ∙ ap (drop (length b.records)) all
      ∙ drop-append_seam b.records records

  in_front : length (take (length t.replies) k.drawn) ≡ length t.replies
  in_front = length-take-le (length t.replies) k.drawn (long_enough 0 k.drawn t.replies from)

  asked_front : take (length t.replies) t.asks ≡ front
  asked_front = ap (take (length t.replies)) talk.1.1
      ∙ take-append-le (length t.replies) k.drawn talk.1.0 (long_enough 0 k.drawn t.replies from)

  asked_more : (q : Asked) → drop (length t.replies) k.drawn ≡ q ∷ []
      → take (length t.replies + 1) t.asks ≡ front ++ q ∷ []
  asked_more q e =
      let whole : t.asks ≡ (front ++ q ∷ []) ++ talk.1.0 = talk.1.1
      ∙ ap (λ (l : List Asked). l ++ talk.1.0) (sym (take-append-drop (length t.replies) k.drawn) ∙ ap (λ (l : List Asked). front ++ l) e) in
      let long : length t.replies + 1 ≡ length (front ++ q ∷ []) = sym (length-append front (q ∷ []) ∙ ap (λ n. n + 1) in_front) in
      ap (λ n. take n t.asks) long ∙ ap (take (length (front ++ q ∷ []))) whole
      ∙ take-append_seam (front ++ q ∷ []) talk.1.0

  abbrev pub Same : Type 0
  Same = drop run.old run.records ≡ (serial_from 0 b.records b.limit (take (length t.replies) t.asks)).records

  abbrev pub More : Type 0
  More = drop run.old run.records ≡ (serial_from 0 b.records b.limit (take (length t.replies + 1) t.asks)).records

  same_by : run.records ≡ b.records ++ (serial_from 0 b.records b.limit front).records → Same
  same_by all = new_are (serial_from 0 b.records b.limit front).records all
      ∙ ap (λ (l : List Asked). (serial_from 0 b.records b.limit l).records) (sym asked_front)

  no_extra : last.fault ≡ None → (extra : List Record) → IsLeft last.fault of_all extra → extra ≡ []
  no_extra calm extra (inl none) = none
  no_extra calm extra (inr one) = absurd (never (sym calm ∙ one.2))
    where
      never : {p : ℕ} → None ≡ Some p → ⊥
      never e = absurd (cc)

  taken_long : (xs : List Ask) (p : ℕ) (x : Ask) (ys : List Ask) → drop p xs ≡ x ∷ ys
      → (length (take p xs) ≡ p) × (slice_get xs p ≡ Some x)
  taken_long xs zero x ys e = (refl, ap (λ (l : List Ask). slice_get l 0) e)
  taken_long [] (suc p) x ys e = absurd (cc)
  taken_long (z ∷ xs) (suc p) x ys e = let k = taken_long xs p x ys e in (ap suc k.0, k.1)

  abbrev are_stops : AllByRecursion (λ x. x.ask ≡ Stops) stops
  are_stops = asked.are_stops

  abbrev pub here_at : ℕ → Standing
  here_at p = stand b history end.told told only acc.rises stops are_stops p

  last_is : (p : ℕ) → last ≡ standing_from b.limit struck (0 + length (take p of_all)) (here_at p) (drop p of_all)
  last_is p = ap (standing_from b.limit struck 0 (opened b.records)) (sym (take-append-drop p of_all))
      ∙ history_join b.limit struck 0 (opened b.records) (take p of_all) (drop p of_all)

  -- no further ask
  ends_calm : (p : ℕ) → (here_at p).records ≡ b.records ++ (serial_from 0 b.records b.limit front).records
      → (here_at p).fault ≡ None → drop p of_all ≡ wants stops → Same
  ends_calm p records calm rest =
      let final : last ≡ standing_from b.limit struck (0 + length (take p of_all)) (here_at p) (wants stops) = last_is p ∙ ap (standing_from b.limit struck (0 + length (take p of_all)) (here_at p)) rest in
      let none = no_extra (ap (λ (x : Standing). x.fault) final ∙ stops_calm b.limit struck (0 + length (take p of_all)) (here_at p) stops are_stops ∙ calm) ends.logged.extra left_is in
      same_by (all_are ∙ ap (λ (l : List Record). last.records ++ l) none ∙ append-nil last.records ∙ ap (λ (x : Standing). x.records) final ∙ stops_keep b.limit struck (0 + length (take p of_all)) (here_at p) stops are_stops ∙ records)

  -- one further ask
  ends_asked : (p : ℕ) (q : Asked) (ask : Ask) → drop (length t.replies) k.drawn ≡ q ∷ []
      → ask_of 0 (0 + length front) q ≡ Some ask
      → (here_at p).records ≡ b.records ++ (serial_from 0 b.records b.limit front).records → (here_at p).fault ≡ None
      → drop p of_all ≡ ask ∷ wants stops → Same ⊎ More
  ends_asked p q ask tail is records calm rest = go (leaves b.limit p (0 + length front) q ask s (struck p) is calm)
    where
      s : Standing
      s = here_at p

      next : Standing
      next = (said_at b.limit p s ask (struck p)).1

      place : (length (take p of_all) ≡ p) × (slice_get of_all p ≡ Some ask)
      place = taken_long of_all p ask (wants stops) rest

      final : last ≡ standing_from b.limit struck (0 + length (take p of_all) + 1) next (wants stops)
      final = last_is p ∙ ap (standing_from b.limit struck (0 + length (take p of_all)) s) rest
          ∙ ap (λ m. standing_from b.limit struck (0 + length (take p of_all) + 1) (said_at b.limit m s ask (struck m)).1 (wants stops)) (zero_less (length (take p of_all)) p place.0)
        where
          zero_less : (n p : ℕ) → n ≡ p → 0 + n ≡ p
          zero_less n p e = omega (arith, e)

      final_records : last.records ≡ next.records
      final_records = ap (λ (x : Standing). x.records) final
          ∙ stops_keep b.limit struck (0 + length (take p of_all) + 1) next stops are_stops

      final_fault : last.fault ≡ next.fault
      final_fault = ap (λ (x : Standing). x.fault) final
          ∙ stops_calm b.limit struck (0 + length (take p of_all) + 1) next stops are_stops

      new : List Record
      new = added s.records b.limit 0 (0 + length front) q

      more_by : run.records ≡ s.records ++ new → More
      more_by all =
          let so : List Record = (serial_from 0 b.records b.limit front).records in
          new_are (so ++ new) (all ∙ ap (λ (l : List Record). l ++ new) records ∙ append_assoc b.records so new)
          ∙ ap (λ (l : List Record). so ++ added l b.limit 0 (0 + length front) q) records
          ∙ sym (serial_push 0 b.limit b.records front q)
          ∙ ap (λ (l : List Asked). (serial_from 0 b.records b.limit l).records) (sym (asked_more q tail))

      left : (extra : List Record) → run.records ≡ last.records ++ extra → IsLeft last.fault of_all extra
          → next.records ≡ s.records → next.fault ≡ Some p
          → ((r : Record) → ask_of 0 (0 + length front) q ≡ Some (Puts r) → new ≡ r ∷ []) → Same ⊎ More
      left extra all (inl none) same fault adds = inl (same_by (all ∙ ap (λ (l : List Record). last.records ++ l) none ∙ append-nil last.records ∙ final_records ∙ same ∙ records))
      left extra all (inr one) same fault adds =
          let at : p ≡ one.0 = some_is (sym fault ∙ sym final_fault ∙ one.2) in
          let put : ask ≡ Puts one.1 = some_is (sym place.1 ∙ ap (slice_get of_all) at ∙ one.3) in
          inr (more_by (all ∙ ap (λ (l : List Record). last.records ++ l) (one.4 ∙ sym (adds one.1 (is ∙ ap Some put))) ∙ ap (λ (l : List Record). l ++ new) (final_records ∙ same)))

      go : MayLeave b.limit (0 + length front) q s p next → Same ⊎ More
      go (inl (same, none)) = inl (same_by (all_are ∙ ap (λ (l : List Record). last.records ++ l) (no_extra (final_fault ∙ none) ends.logged.extra left_is) ∙ append-nil last.records ∙ final_records ∙ same ∙ records))
      go (inr (inl (stored, none))) = inr (more_by (all_are ∙ ap (λ (l : List Record). last.records ++ l) (no_extra (final_fault ∙ none) ends.logged.extra left_is) ∙ append-nil last.records ∙ final_records ∙ stored))
      go (inr (inr (same, fault, adds))) = left ends.logged.extra all_are left_is same fault adds

  pub serial_more : length k.drawn ≤ length t.replies + 1 → Same ⊎ More
  serial_more few =
      let whole : front ++ drop (length t.replies) k.drawn ≡ k.drawn = take-append-drop (length t.replies) k.drawn in
      let now : asked_by (says history) ≡ asked_with (0 + 1) (numbered 0 0 (front ++ drop (length t.replies) k.drawn)) ++ stops = all_said ∙ ap (λ (l : List Asked). asked_with 1 (numbered 0 0 l) ++ stops) (sym whole) in
      let there = reach b history end.told told only acc.rises stops are_stops 0 0 front (drop (length t.replies) k.drawn) t.replies refl (sym (wants_are (says history)) ∙ ap wants now)
      (λ j x e. (let n : j ≡ 0 + j = omega arith in ap (slice_get (asked_by (says history))) (sym n) ∙ ap (λ (l : List Numbered). slice_get l j) now ∙ e)) (front_replied 0 k.drawn t.replies from) (sym in_front) in
      let short : length (drop (length t.replies) k.drawn) ≤ 1 = few_left in
      go (drop (length t.replies) k.drawn) refl short there.place there.records there.calm there.rest
    where
      few_left : length (drop (length t.replies) k.drawn) ≤ 1
      few_left =
          let a = ap length (take-append-drop (length t.replies) k.drawn) in
          let c = length-append (take (length t.replies) k.drawn) (drop (length t.replies) k.drawn) in
          let d = in_front in omega (arith, a, c, d, few)

      go : (tail : List Asked) → drop (length t.replies) k.drawn ≡ tail → length tail ≤ 1 → (p : ℕ)
          → (here_at p).records ≡ b.records ++ (serial_from 0 b.records b.limit front).records
          → (here_at p).fault ≡ None
          → drop p of_all ≡ wants (asked_with (0 + length front + 1) (numbered 0 (0 + length front) tail) ++ stops)
          → Same ⊎ More
      go [] e short p records calm rest = inl (ends_calm p records calm rest)
      go (q ∷ []) e short p records calm rest = by (ask_of 0 (0 + length front) q) refl rest
        where
          by : (o : Option Ask) → ask_of 0 (0 + length front) q ≡ o
              → drop p of_all ≡ wants (with_ask (0 + length front + 1) o [] ++ stops) → Same ⊎ More
          by None none rest = inl (ends_calm p records calm rest)
          by (Some ask) some rest = ends_asked p q ask e some records calm rest
      go (q ∷ x ∷ tail) e short p records calm rest = absurd (omega arith)
