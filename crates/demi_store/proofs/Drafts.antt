-- The record that is begun, and what a put of it leaves.
use Rattle.std.proofs.Common.{◌≡◌, ◌≢◌, ℕ, ◌+◌, ◌≤◌, List, [], ◌∷◌, ◌++◌, length, Option, None, Some, Bool, refl, ap, sym, ◌∙◌, arith, subst, inl, inr}
use Rattle.std.specs.Prelude.{slice_index}
use Rattle.std.specs.Int.{w16, w32, to_be_bytes}
use Rattle.std.proofs.Common.{append_assoc}
use Rattle.std.proofs.lemmas.List.{append-nil}
use Rattle.demi_spec.specs.Record.{Record, IsRecord, payload, record_of}
use Rattle.demi_spec.proofs.Payloads.{record_again}
use Rattle.demi_logq.specs.Logged.{Logged}
use Rattle.demi_port_core.specs.declared.place.Place.{Place}
use Rattle.demi_store.specs.Cores.{Core, CorePut, IsDraft, unstaged}
use Rattle.demi_store.specs.Shelves.{Keeps, PutIs}
use Rattle.demi_store.specs.declared.index.Index.{Index}
use Rattle.demi_store.specs.declared.answer.StoreAnswer.{StoreAnswer}
use Rattle.demi_store.specs.declared.answer.StoreAnswer.TheVariants as said
use Rattle.demi_store.proofs.Heard.{none_of}
use Rattle.demi_store.proofs.Shelving.{length_of}

pub some_draft : (draft : List ℕ) → IsDraft draft → record_of draft ≢ None → (r : Record) × IsRecord r × (draft ≡ payload r)
some_draft draft (inl e) some = absurd (some (none_of draft e))
some_draft draft (inr d) some = d

pub no_draft : (draft : List ℕ) → IsDraft draft → record_of draft ≡ None → draft ≡ []
no_draft draft (inl e) none = e
no_draft draft (inr d) none = absurd (let both : Some d.0 ≡ None = sym (record_again d.0 d.1) ∙ sym (ap record_of d.2) ∙ none in cc)

pub the_draft : (draft : List ℕ) → IsDraft draft → (r : Record) → record_of draft ≡ Some r → IsRecord r × (draft ≡ payload r)
the_draft draft (inl e) r is = absurd (let n = none_of draft e in let both : Some r ≡ None = sym is ∙ n in cc)
the_draft draft (inr d) r is =
    let again : Some d.0 ≡ Some r = sym (ap record_of d.2 ∙ record_again d.0 d.1) ∙ is in
    let same : d.0 ≡ r = cc in
    (subst (λ (x : Record). IsRecord x) same d.1, d.2 ∙ ap payload same)

pub draft_head : (draft : List ℕ) (r : Record) → IsRecord r → draft ≡ payload r → (8 ≤ length draft) × (7 + slice_index draft 6 ≤ length draft)
draft_head draft r ok text =
    let k0 = ok.key.0 in
    let l = length_of r in
    subst (λ (d : List ℕ). (8 ≤ length d) × (7 + slice_index d 6 ≤ length d)) (sym text) (omega arith, omega arith)

-- a store, whatever is staged in its log
abbrev pub core_of : {D : Type 0} → Logged D → List Record → ℕ → Option Record → Option Place → Core D
core_of log records limit begun fault = record { log = unstaged log; records = records; limit = limit; begun = begun; fault = fault }

pub begun_is : (link index : ℕ) (key draft : List ℕ) → draft ≡ to_be_bytes w16 link ++ to_be_bytes w32 index ++ length key ∷ key → draft ≡ payload (record { link = link; index = index; key = key; value = [] })
begun_is link index key draft is = is ∙ sym (append-nil (to_be_bytes w16 link ++ to_be_bytes w32 index ++ length key ∷ key))

pub more_is : (r : Record) (draft draft' more : List ℕ) → draft ≡ payload r → draft' ≡ draft ++ more → draft' ≡ payload (record r { value = r.value ++ more })
more_is r draft draft' more text is = is ∙ ap (λ (l : List ℕ). l ++ more) text ∙ append_assoc (to_be_bytes w16 r.link ++ to_be_bytes w32 r.index ++ length r.key ∷ r.key) r.value more

module _ {D : Type 0} (bytes : D → Option (List ℕ)) (held faults : D → ℕ) (appends : D → List ℕ → Bool → D → Type 0) (log log' : Logged D) (index index' : Index) (limit limit' : ℕ) (fault fault' : Option Place) (records : List Record) (place : ℕ) (r : Record) where
  pub other_keeps : (a : StoreAnswer) → ((v : ℕ) → a ≡ said.Stored v → ⊥) → PutIs bytes held faults appends log index limit fault log' index' fault' records place r a → Keeps bytes log' index' limit fault' records
  other_keeps (said.Stored v) never p = absurd (never v refl)
  other_keeps (said.Full v) never p = p.4
  other_keeps said.NoMemory never p = p.3
  other_keeps said.Fault never p = p.3
  other_keeps (said.Broken at) never p = p.2
  other_keeps (said.Found v) never p = absurd p
  other_keeps (said.Missing v) never p = absurd p
  other_keeps (said.Stopped at) never p = absurd p
  other_keeps said.Halted never p = absurd p

  same_core : (l : Logged D) (f : Option Place) (b' : Option Record) → log' ≡ l → limit' ≡ limit → fault' ≡ f → b' ≡ None → core_of log' records limit' b' fault' ≡ core_of l records limit None f
  same_core l f b' p q s e = λ i. core_of (p i) records (q i) (e i) (s i)

  pub stored_put : (b b' : Option Record) (records' : List Record) (v : ℕ) → limit' ≡ limit → b' ≡ None → records' ≡ records ++ r ∷ [] → PutIs bytes held faults appends log index limit fault log' index' fault' records place r (said.Stored v)
      → CorePut bytes held faults appends (core_of log records limit b fault) (core_of log' records' limit' b' fault') place r (said.Stored v)
  stored_put b b' records' v q e grown p = (p.0, p.1, p.2, (λ i. core_of log' (grown i) (q i) (e i) ((p.3 ∙ sym p.0) i)), p.5)

  pub other_put : (b b' : Option Record) (a : StoreAnswer) → ((v : ℕ) → a ≡ said.Stored v → ⊥) → limit' ≡ limit → b' ≡ None → PutIs bytes held faults appends log index limit fault log' index' fault' records place r a
      → CorePut bytes held faults appends (core_of log records limit b fault) (core_of log' records limit' b' fault') place r a
  other_put b b' (said.Stored v) never q e p = absurd (never v refl)
  other_put b b' (said.Full v) never q e p = (p.0, p.1, p.2, same_core log fault b' p.5 q (p.3 ∙ sym p.0) e)
  other_put b b' said.NoMemory never q e p = (p.0, p.1, same_core log fault b' p.4 q (p.2 ∙ sym p.0) e)
  other_put b b' said.Fault never q e p = (p.0, p.1, same_core log' (Some (record { 0 = place })) b' refl q p.2 e, p.4)
  other_put b b' (said.Broken at) never q e p = (p.0, same_core log fault b' p.3 q p.1 e)
  other_put b b' (said.Found v) never q e p = absurd p
  other_put b b' (said.Missing v) never q e p = absurd p
  other_put b b' (said.Stopped at) never q e p = absurd p
  other_put b b' said.Halted never q e p = absurd p
