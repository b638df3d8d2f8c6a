-- An outcome that the law admits is a reply of the one-thread store.
use Rattle.std.proofs.Common.{◌≡◌, ℕ, List, [], ◌∷◌, ◌++◌, length, Option, None, Some, refl, ◌∙◌, ap, sym, Bool}
use Rattle.demi_heap.specs.Seen.{HalfValue}
use Rattle.demi_logq.specs.Folding.{bytes_of}
use Rattle.demi_spec.specs.Request.{Get}
use Rattle.demi_spec.specs.Input.{Request_of}
use Rattle.demi_spec.specs.Reply.{Answer, Stored, Found, Missing, Refused, Bye, Full}
use Rattle.demi_spec.specs.Store.{found}
use Rattle.demi_spec.specs.Store as store
use Rattle.demi_store.specs.History.{Said, Told, Fault, NoMemory, Broken, Stopped, Halted, Standing, value_bytes, record_of_put, struck_at}
use Rattle.demi_store.specs.Laws.{StoreBasis, Admits, AnswerIs, BackIs, AllSame, said_to}
use Rattle.demi_store.specs.declared.answer.StoreAnswer.{StoreAnswer}
use Rattle.demi_store.specs.declared.answer.StoreAnswer.TheVariants as said
use Rattle.demi_store.specs.declared.ask.StoreAsk.{StoreAsk}
use Rattle.demi_store.specs.declared.back.Back.{Back}
use Rattle.demi_store.specs.declared.back.Back.TheVariants.{Nothing, Value, Room}
use Rattle.demi_store.specs.declared.op.StoreOp.{StoreOp}
use Rattle.demi_store.specs.declared.op.StoreOp.TheVariants as op
use Rattle.demi_store.specs.declared.out.StoreOut.{StoreOut}
use Rattle.demi_store.specs.declared.told.StoreTold.{StoreTold}
use Rattle.demi_served.specs.Asking.{Gets, Stops, IsRepliedAs, IsToldTo, asks_for, answer_with, reply_for}
use Rattle.demi_served.proofs.Folds.{said_by, said_at, result_is}
use Rattle.demi_served.proofs.Places.{told_step}
use Rattle.demi_served.proofs.Versions.{put_version}

same_bytes : (sga back : List HalfValue) → AllSame sga back → bytes_of back ≡ bytes_of sga
same_bytes [] [] h = refl
same_bytes [] (y ∷ back) h = absurd h
same_bytes (x ∷ sga) [] h = absurd h
same_bytes (x ∷ sga) (y ∷ back) h = ap (λ (l : List ℕ). l ++ bytes_of back) h.1
    ∙ ap (λ (l : List ℕ). x.bytes ++ l) (same_bytes sga back h.2)

-- the operation is a put of this value
abbrev HasValue : StoreOp → List ℕ → Type 0
HasValue (op.Put link index key x) value = value ≡ value_bytes x
HasValue (op.Get key room) value = ⊥
HasValue op.Stop value = ⊥

stored_value : (limit place : ℕ) (s : Standing) (k : Option StoreTold) (o : StoreOp) (v : ℕ) (value : List ℕ)
    → (said_at limit place s (asks_for o) k).0 ≡ Told (Stored v value) → HasValue o value
stored_value limit place s k (op.Put link index key x) v value h = value_is (put_version limit place (record_of_put link index key x) s k v value h)
  where
    value_is : {v w : ℕ} {a b : List ℕ} → Stored v a ≡ Stored w b → a ≡ b
    value_is e = cc
stored_value limit place s k (op.Get key room) v value h = go (store.map s.records key.items) (told_step limit place 0 0 s (Request_of (Get key.items)) (Gets key.items) k (Stored v value) refl h).0
  where
    go : (o : Option (List ℕ)) → Stored v value ≡ found (length s.records) o → ⊥
    go None e = absurd (cc)
    go (Some x) e = absurd (cc)
stored_value limit place s k op.Stop v value h = go s.stop h
  where
    go : (o : Option ℕ) → (said_by limit place s Stops k o).0 ≡ Told (Stored v value) → ⊥
    go None h = absurd (cc)
    go (Some at) h = absurd (cc)

some_answer : {x y : Answer} → Some x ≡ Some y → x ≡ y
some_answer e = cc

stored_back : (told : Bool) (o : StoreOp) (back : Back) (v : ℕ) (value : List ℕ) (a : Answer) → HasValue o value
    → BackIs told (Told (Stored v value)) o back → answer_with (said.Stored v) back ≡ Some a → a ≡ Stored v value
stored_back told (op.Put link index key None) Nothing v value a has b e = sym (some_answer e)
    ∙ ap (Stored v) (sym has)
stored_back told (op.Put link index key None) (Value back) v value a has b e = absurd b
stored_back told (op.Put link index key None) (Room back) v value a has b e = absurd b
stored_back told (op.Put link index key (Some sga)) Nothing v value a has b e = absurd b
stored_back told (op.Put link index key (Some sga)) (Value back) v value a has b e =
    sym (some_answer e) ∙ ap (Stored v) (same_bytes sga back b ∙ sym has)
stored_back told (op.Put link index key (Some sga)) (Room back) v value a has b e = absurd b
stored_back told (op.Get key room) back v value a has b e = absurd has
stored_back told op.Stop back v value a has b e = absurd has

found_back : (told : Bool) (o : StoreOp) (back : Back) (v : ℕ) (value : List ℕ) (a : Answer)
    → BackIs told (Told (Found v value)) o back → answer_with (said.Found v) back ≡ Some a
    → IsRepliedAs told (Found v value) a
found_back told o Nothing v value a b e = absurd (cc)
found_back told o (Value back) v value a b e = absurd (cc)
found_back told (op.Put link index key None) (Room back) v value a b e = absurd b
found_back told (op.Put link index key (Some sga)) (Room back) v value a b e = absurd b
found_back told (op.Get key room) (Room back) v value a b e = (back.bytes, sym (some_answer e), b.1)
found_back told op.Stop (Room back) v value a b e = absurd b

none_some : {a : Answer} → None ≡ Some a → ⊥
none_some e = absurd (cc)

-- what is said, by what is answered and what comes back
abbrev IsBack : Bool → Said → Answer → Type 0
IsBack told s a = (x : Answer) × (s ≡ Told x) × IsRepliedAs told x a

told_back : (told : Bool) (s : Said) (o : StoreOp) (answer : StoreAnswer) (back : Back) (a : Answer)
    → ((v : ℕ) (value : List ℕ) → s ≡ Told (Stored v value) → HasValue o value) → AnswerIs s answer
    → BackIs told s o back → answer_with answer back ≡ Some a → IsBack told s a
told_back told s o answer back a has is b e = go s has is b
  where
    by : (x : StoreAnswer) → answer ≡ x → answer_with x back ≡ Some a
    by x is = ap (λ (z : StoreAnswer). answer_with z back) (sym is) ∙ e

    go : (s : Said) → ((v : ℕ) (value : List ℕ) → s ≡ Told (Stored v value) → HasValue o value) → AnswerIs s answer
        → BackIs told s o back → IsBack told s a
    go (Told (Stored v value)) has is b = (Stored v value, refl, stored_back told o back v value a (has v value refl) b (by (said.Stored v) is))
    go (Told (Found v value)) has is b = (Found v value, refl, found_back told o back v value a b (by (said.Found v) is))
    go (Told (Missing v)) has is b = (Missing v, refl, sym (some_answer (by (said.Missing v) is)))
    go (Told (Full v)) has is b = (Full v, refl, sym (some_answer (by (said.Full v) is)))
    go (Told (Refused code)) has is b = absurd is
    go (Told Bye) has is b = absurd is
    go Fault has is b = absurd (none_some (by said.Fault is))
    go NoMemory has is b = absurd (none_some (by said.NoMemory is))
    go (Broken at) has is b = absurd (none_some (by (said.Broken (record { 0 = at })) is))
    go (Stopped at) has is b = absurd (none_some (by (said.Stopped (record { 0 = at })) is))
    go Halted has is b = absurd (none_some (by said.Halted is))

pub outcome_told : (b : StoreBasis) (h : List StoreAsk) (t : List (ℕ × StoreTold)) (p : ℕ) (out : StoreOut)
    (a : Answer) → Admits b h t p out → reply_for out ≡ Some a → IsToldTo b h t p a
outcome_told b h t p out a is e =
    let s : Said = said_to b h t p is.0 in
    let k = told_back b.told s is.0.op out.answer out.back a
    (λ v value same. stored_value b.limit p _ (struck_at t p) is.0.op v value (sym (result_is b h t p is.0) ∙ same)) is.2.0 is.2.1 e in
    (k.0, record { asked = is.0; here = is.1; result = k.1 }, k.2)
