-- One worker that serves one link alone replies as the store on one thread.
use Rattle.std.proofs.Common.{◌≡◌, ℕ, zero, suc, ◌+◌, ◌<◌, List, [], ◌∷◌, ◌++◌, length, take, Option, None, Some, refl, arith, ◌∙◌, ap, sym, subst, append-nil, inl, inr, true}
use Rattle.std.specs.Prelude.{slice_get, map}
use Rattle.std.proofs.lemmas.Bool.{cases_lt}
use Rattle.demi_port.specs.Seen.{says}
use Rattle.demi_spec.specs.Request.{Put, Get, End}
use Rattle.demi_spec.specs.Input.{Asked, Request_of, Refused_end}
use Rattle.demi_spec.specs.Reply.{Answer, Reply}
use Rattle.demi_spec.specs.Record.{Record}
use Rattle.demi_spec.specs.Store.{answer, added, serial_from}
use Rattle.demi_store.specs.History.{Told, Fault, Standing, struck_at}
use Rattle.demi_store.specs.Laws.{StoreBasis}
use Rattle.demi_store.specs.declared.ask.StoreAsk.{StoreAsk}
use Rattle.demi_store.specs.declared.told.StoreTold.{StoreTold}
use Rattle.demi_served.specs.Asking.{Ask, asks_for, ask_of, plain_answer}
use Rattle.demi_served.specs.Accounts.{StoreEntry, asks_at, asked_in, IsNoStop, IsLater, IsAccounted}
use Rattle.demi_served.specs.Keeps.{numbered}
use Rattle.demi_served.specs.Alone.{Numbered, numbered_ask, with_ask, asked_with, asked_by}
use Rattle.demi_served.proofs.Lists.{some_is}
use Rattle.demi_served.proofs.Folds.{said_at, storeresult}
use Rattle.demi_served.proofs.Places.{IsStep, told_step, below, below_next}
use Rattle.demi_served.proofs.Comes.{step_fault}
use Rattle.demi_served.proofs.Serves.{says_at, asked_at, is_request, placing}

pub plain_step : (index limit : ℕ) (q : Asked) (records : List Record) → ask_of 0 index q ≡ None
    → (plain_answer q ≡ answer records limit q) × (added records limit 0 index q ≡ [])
plain_step index limit (Request_of (Put key value)) records e = absurd (cc)
plain_step index limit (Request_of (Get key)) records e = absurd (cc)
plain_step index limit (Request_of End) records e = (refl, refl)
plain_step index limit (Refused_end code) records e = (refl, refl)

told_calm : (limit place : ℕ) (s : Standing) (ask : Ask) (k : Option StoreTold) (a : Answer) → s.fault ≡ None
    → (said_at limit place s ask k).0 ≡ Told a → (said_at limit place s ask k).1.fault ≡ None
told_calm limit place s ask k a none told = elim (step_fault limit place s ask k none) [
  | inl still ↦ still
  | inr now ↦ absurd (never (sym told ∙ now.2))
]
  where
    never : {x : Answer} → Told x ≡ Fault → ⊥
    never e = absurd (cc)

-- what numbered asks ask
abbrev pub wants : List Numbered → List Ask
wants numbers = map (λ n. n.ask) numbers

pub wants_are : (history : List StoreAsk) → wants (asked_by history) ≡ asked_in history
wants_are [] = refl
wants_are (s ∷ history) = ap (λ (l : List Ask). asks_for s.op ∷ l) (wants_are history)

entry_of : (history : List StoreEntry) (p : ℕ) (x : Numbered) → slice_get (asked_by (says history)) p ≡ Some x
    → (e : StoreEntry) × (slice_get history p ≡ Some e) × (numbered_ask e.1.1 ≡ x)
entry_of [] p x e = absurd (cc)
entry_of (y ∷ history) zero x e = (y, refl, some_is e)
entry_of (y ∷ history) (suc p) x e = entry_of history p x e

module _ (b : StoreBasis) (history : List StoreEntry) (trail : List (ℕ × StoreTold)) (told : b.told ≡ true) (alone : (p : ℕ) (e : StoreEntry) → slice_get history p ≡ Some e → e.0 ≡ 0)
    (rises : (p q : ℕ) (x y : StoreEntry) → p < q → slice_get history p ≡ Some x → slice_get history q ≡ Some y → x.0 ≡ y.0 → IsLater x.1.1 y.1.1) (stops : List Numbered) where
  abbrev pub before : ℕ → Standing
  before p = below b.limit (struck_at trail) b.records (asked_in (says history)) p

  -- these sayings stand from a place on
  abbrev pub SaidFrom : ℕ → List Numbered → Type 0
  SaidFrom p numbers = (j : ℕ) (x : Numbered) → slice_get numbers j ≡ Some x → slice_get (asked_by (says history)) (p + j) ≡ Some x

  -- each of these replies, from an index on, is accounted for
  abbrev pub RepliesFrom : ℕ → List Asked → List Reply → Type 0
  RepliesFrom i qs [] = Unit {0}
  RepliesFrom i [] (r ∷ rs) = ⊥
  RepliesFrom i (q ∷ qs) (r ∷ rs) = (r.worker ≡ 0) × (r.sequence ≡ i + 1) × IsAccounted b history trail q r (ask_of 0 i q) × RepliesFrom (i + 1) qs rs

  -- one number is that of one place
  one_place : (p q : ℕ) (x y : StoreEntry) → slice_get history p ≡ Some x → slice_get history q ≡ Some y
      → IsNoStop (asks_at x) → IsNoStop (asks_at y) → x.1.1.sequence ≡ y.1.1.sequence → p ≡ q
  one_place p q x y e f a c same =
      let workers : x.0 ≡ y.0 = alone p x e ∙ sym (alone q y f) in
      elim (cases_lt p q) [
        | inl less ↦ let r = rises p q x y less e f workers a c in absurd (omega (arith, same))
        | inr not_less ↦ elim (cases_lt q p) [
          | inl more ↦ let r = rises q p y x more f e (sym workers) c a in absurd (omega (arith, same))
          | inr not_more ↦ omega arith
        ]
      ]

  -- the ask of this number stands at the place, and the reply to it was said there
  asked_there : (i p : ℕ) (q : Asked) (r : Reply) (ask : Ask) → ask_of 0 i q ≡ Some ask
      → slice_get (asked_by (says history)) p ≡ Some (record { sequence = i + 1; ask = ask }) → r.sequence ≡ i + 1
      → IsAccounted b history trail q r (Some ask)
      → (slice_get (asked_in (says history)) p ≡ Some ask) × ((said_at b.limit p (before p) ask (struck_at trail p)).0 ≡ Told r.answer)
  asked_there i p q r ask is here number h =
      let x = entry_of history p (record { sequence = i + 1; ask = ask }) here in
      let y = placing b history trail told r ask h.0 h.1 in
      let mine : asks_at x.0 ≡ ask = ap (λ (z : Numbered). z.ask) x.2 in
      let my_number : x.0.1.1.sequence ≡ i + 1 = ap (λ (z : Numbered). z.sequence) x.2 in
      let place : y.place ≡ p = one_place y.place p y.entry x.0 y.here x.1 (subst IsNoStop (sym y.is) (is_request 0 i q ask is)) (subst IsNoStop (sym mine) (is_request 0 i q ask is)) (y.sequence ∙ number ∙ sym my_number) in (
        asked_at (says history) p x.0.1.1 (says_at history p x.0 x.1) ∙ ap Some mine,
        ap (λ m. storeresult b.limit b.records (struck_at trail) (asked_in (says history)) m ask) (sym place)
            ∙ y.said,
      )

  pub asked_step : (i p : ℕ) (q : Asked) (r : Reply) (ask : Ask) → ask_of 0 i q ≡ Some ask
      → slice_get (asked_by (says history)) p ≡ Some (record { sequence = i + 1; ask = ask }) → r.sequence ≡ i + 1
      → IsAccounted b history trail q r (Some ask)
      → IsStep (before p) b.limit 0 i q r.answer (before (p + 1))
  asked_step i p q r ask is here number h =
      let t = asked_there i p q r ask is here number h in
      subst (IsStep (before p) b.limit 0 i q r.answer) (sym (below_next b.limit (struck_at trail) b.records (asked_in (says history)) p ask t.0)) (told_step b.limit p 0 i (before p) q ask (struck_at trail p) r.answer is t.1)

  pub step_calm : (i p : ℕ) (q : Asked) (r : Reply) (ask : Ask) → ask_of 0 i q ≡ Some ask
      → slice_get (asked_by (says history)) p ≡ Some (record { sequence = i + 1; ask = ask }) → r.sequence ≡ i + 1
      → IsAccounted b history trail q r (Some ask)
      → (before p).fault ≡ None → (before (p + 1)).fault ≡ None
  step_calm i p q r ask is here number h calm =
      let t = asked_there i p q r ask is here number h in
      ap (λ (z : Standing). z.fault) (below_next b.limit (struck_at trail) b.records (asked_in (says history)) p ask t.0) ∙ told_calm b.limit p (before p) ask (struck_at trail p) r.answer calm t.1

  reply_is : (i : ℕ) (r : Reply) (a : Answer) → r.worker ≡ 0 → r.sequence ≡ i + 1 → r.answer ≡ a
      → r ≡ record { worker = 0; sequence = i + 1; answer = a }
  reply_is i r a w s e = λ j. record { worker = w j; sequence = s j; answer = e j }

  pub in_order : (i p : ℕ) (qs beyond : List Asked) (rs : List Reply)
      → SaidFrom p (asked_with (i + 1) (numbered 0 i qs) ++ stops) → RepliesFrom i qs rs
      → rs ≡ take (length rs) (serial_from i (before p).records b.limit (qs ++ beyond)).replies
  in_order i p qs beyond [] said h = refl
  in_order i p [] beyond (r ∷ rs) said h = absurd h
  in_order i p (q ∷ qs) beyond (r ∷ rs) said h = go (ask_of 0 i q) refl said h.2 (λ m s. in_order (i + 1) m qs beyond rs s h.3)
    where
      first : (a : Answer) → r.answer ≡ a → (records more : List Record) → more ≡ records
          → rs ≡ take (length rs) (serial_from (i + 1) more b.limit (qs ++ beyond)).replies
          → r ∷ rs ≡ record { worker = 0; sequence = i + 1; answer = a } ∷ take (length rs)
          (serial_from (i + 1) records b.limit (qs ++ beyond)).replies
      first a e records more same rest = λ j. reply_is i r a h.0 h.1 e j ∷ (rest ∙ ap (λ (l : List Record). take (length rs) (serial_from (i + 1) l b.limit (qs ++ beyond)).replies) same) j

      go : (o : Option Ask) → ask_of 0 i q ≡ o
          → SaidFrom p (with_ask (i + 1) o (asked_with (i + 1 + 1) (numbered 0 (i + 1) qs)) ++ stops)
          → IsAccounted b history trail q r o
          → ((m : ℕ) → SaidFrom m (asked_with (i + 1 + 1) (numbered 0 (i + 1) qs) ++ stops) → rs ≡ take (length rs) (serial_from (i + 1) (before m).records b.limit (qs ++ beyond)).replies)
          → r ∷ rs ≡ take (length (r ∷ rs)) (serial_from i (before p).records b.limit (q ∷ qs ++ beyond)).replies
      go None none said acc again =
          let plain = plain_step i b.limit q (before p).records none in
          first (answer (before p).records b.limit q) (acc ∙ plain.0) ((before p).records ++ added (before p).records b.limit 0 i q) (before p).records (sym (append-nil (before p).records) ∙ ap (λ (l : List Record). (before p).records ++ l) (sym plain.1)) (again p said)
      go (Some ask) some said acc again =
          let zero_more : p + 0 ≡ p = omega arith in
          let here : slice_get (asked_by (says history)) p ≡ Some (record { sequence = i + 1; ask = ask }) = ap (slice_get (asked_by (says history))) (sym zero_more) ∙ said 0 (record { sequence = i + 1; ask = ask }) refl in
          let step = asked_step i p q r ask some here h.1 acc in
          first (answer (before p).records b.limit q) step.0 ((before p).records ++ added (before p).records b.limit 0 i q) (before (p + 1)).records step.1
          (again (p + 1) (λ j x e. (let n : p + 1 + j ≡ p + suc j = omega arith in ap (slice_get (asked_by (says history))) n ∙ said (suc j) x e)))

  pub replies_from : (i : ℕ) (qs : List Asked) (rs : List Reply)
      → ((j : ℕ) (r : Reply) → slice_get rs j ≡ Some r → (q : Asked) × (slice_get qs j ≡ Some q) × (r.worker ≡ 0) × (r.sequence ≡ i + j + 1) × IsAccounted b history trail q r (ask_of 0 (i + j) q)) → RepliesFrom i qs rs
  replies_from i qs [] h = tt
  replies_from i [] (r ∷ rs) h = let k = h 0 r refl in absurd (let e = k.1 in cc)
  replies_from i (q ∷ qs) (r ∷ rs) h =
      let k = h 0 r refl in
      let n : i + 0 ≡ i = omega arith in
      let same : k.0 ≡ q = sym (some_is k.1) in (
        k.2,
        k.3 ∙ ap (λ m. m + 1) n,
        subst (λ m. IsAccounted b history trail q r (ask_of 0 m q)) n (subst (λ z. IsAccounted b history trail z r (ask_of 0 (i + 0) z)) same k.4),
        replies_from (i + 1) qs rs (λ j x e. (let o = h (suc j) x e in let m : i + suc j ≡ i + 1 + j = omega arith in (o.0, o.1, o.2, o.3 ∙ ap (λ z. z + 1) m, subst (λ z. IsAccounted b history trail o.0 x (ask_of 0 z o.0)) m o.4))),
      )
