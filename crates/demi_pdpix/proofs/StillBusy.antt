-- Tries that found an operation still to come.
use Rattle.std.proofs.Common.{◌≡◌, ℕ, zero, suc, ◌+◌, ◌<◌, List, [], ◌∷◌, ◌++◌, length, length-append, get_or, replicate, refl, ap, sym, subst, ◌∙◌, append_assoc, append-nil, arith}
use Rattle.demi_port_core.specs.declared.place.QToken.{QToken}
use Rattle.demi_pdpix.specs.declared.outcomes.Answer.{Answer}
use Rattle.demi_pdpix.specs.declared.outcomes.Answer.TheVariants.{Ready as Got, NotYet as Busy, Spent as Over, Unknown as NoSuch}
use Rattle.demi_pdpix.specs.Several.{StoppedAt, TriedAny, any_of, rounds}
use Rattle.demi_heap.specs.Seen.{HeapId}
use Rattle.demi_pdpix.specs.declared.kind.PortKind.{PortKind}
use Rattle.demi_pdpix.specs.declared.kind.PortKind.TheVariants.{Memory, Service, Journal, Receiving, Sending, Nowhere}
use Rattle.demi_pdpix.specs.Kinds.{kind_of}
use Rattle.demi_pdpix.specs.Seen.{CallerValue, DemiId}
use Rattle.demi_pdpix.specs.Tries.{AllBusy, BusyAt, FoundBusy, Tried, TriedAt}
use Rattle.demi_pdpix.proofs.Columns.{same_there}
use Rattle.demi_pdpix.proofs.Returned.{at_end}

abbrev is_busy : {L P O S T B : Type 0} → Answer L P O S T B → Type 0
is_busy Busy = Unit {0}
is_busy (Got p o) = ⊥
is_busy Over = ⊥
is_busy NoSuch = ⊥

-- by the kind of the port
busy_at : {L P O S T B : Type 0} (admits : B → List S → List (ℕ × T) → ℕ → O → Type 0) (kind : PortKind) (heap : HeapId) (token : ℕ) (c e : CallerValue S T B) (answer : Answer L P O S T B)
    → answer ≡ Busy → TriedAt kind admits heap token c e answer → BusyAt kind token c e
busy_at admits Memory heap token c e answer is tried = subst (TriedAt Memory admits heap token c e) is tried
busy_at admits Service heap token c e answer is tried = subst (TriedAt Service admits heap token c e) is tried
busy_at admits Journal heap token c e answer is tried = subst (TriedAt Journal admits heap token c e) is tried
busy_at admits (Receiving k) heap token c e answer is tried = subst (TriedAt (Receiving k) admits heap token c e) is tried
busy_at admits (Sending k) heap token c e answer is tried = subst (TriedAt (Sending k) admits heap token c e) is tried
busy_at admits Nowhere heap token c e answer is tried = absurd (subst is_busy (sym is ∙ tried.0) tt)

pub busy_of : {L P O S T B : Type 0} (admits : B → List S → List (ℕ × T) → ℕ → O → Type 0) (d : DemiId B) (t : QToken) (c e : CallerValue S T B) (answer : Answer L P O S T B) → answer ≡ Busy → Tried admits d t c e answer → FoundBusy d t c e
busy_of admits d t c e answer is tried = busy_at admits (kind_of d t.port) d.heap t.token.0 c e answer is tried

pub busy_append : {D T B : Type 0} (d : DemiId B) (xs ys : List QToken) (c m e : CallerValue D T B) → AllBusy d xs c m → AllBusy d ys m e → AllBusy d (xs ++ ys) c e
busy_append d [] ys c m e a b = subst (λ z. AllBusy d ys z e) a b
busy_append d (x ∷ xs) ys c m e a b = (a.0, a.1, busy_append d xs ys a.0 m e a.2 b)

pub busy_snoc : {D T B : Type 0} (d : DemiId B) (xs : List QToken) (t : QToken) (c m e : CallerValue D T B) → AllBusy d xs c m → FoundBusy d t m e → AllBusy d (xs ++ t ∷ []) c e
busy_snoc d xs t c m e a b = busy_append d xs (t ∷ []) c m e a (e, b, refl)

pub replicate_snoc : (n : ℕ) (t : QToken) → replicate n t ++ t ∷ [] ≡ replicate (suc n) t
replicate_snoc zero t = refl
replicate_snoc (suc n) t = ap (λ l. t ∷ l) (replicate_snoc n t)

pub rounds_snoc : (n : ℕ) (ts : List QToken) → rounds n ts ++ ts ≡ rounds (suc n) ts
rounds_snoc zero ts = sym (append-nil ts)
rounds_snoc (suc n) ts = append_assoc ts (rounds n ts) ts ∙ ap (λ l. ts ++ l) (rounds_snoc n ts)

pub split_next : (tokens before after : List QToken) (i : ℕ) (t : QToken) → tokens ≡ before ++ after → length before ≡ i → i < length tokens → t ≡ get_or tokens i t → (rest : List QToken) × (after ≡ t ∷ rest)
split_next tokens before [] i t is many low at = absurd (let e = ap length is in let f = length-append before [] in omega (arith, e, f, many, low))
split_next tokens before (x ∷ xs) i t is many low at =
    (xs, ap (λ y. y ∷ xs) (sym (at_end before x xs t) ∙ ap (λ j. get_or (before ++ x ∷ xs) j t) many ∙ ap (λ l. get_or l i t) (sym is) ∙ sym at))

pub stopped : {L P O S T B : Type 0} (admits : B → List S → List (ℕ × T) → ℕ → O → Type 0) (d : DemiId B) (tokens : List QToken) (c e : CallerValue S T B) (i : ℕ) (answer : Answer L P O S T B)
    → (answer ≡ Busy → ⊥) → StoppedAt admits d tokens c e i answer → TriedAny admits d tokens c e (any_of i answer)
stopped admits d tokens c e i (Got p o) other at = at
stopped admits d tokens c e i Busy other at = absurd (other refl)
stopped admits d tokens c e i Over other at = at
stopped admits d tokens c e i NoSuch other at = at

-- one token more was still to come
pub one_busy : {L P O S T B : Type 0} (admits : B → List S → List (ℕ × T) → ℕ → O → Type 0) (d : DemiId B) (tokens before after : List QToken) (i : ℕ) (x : QToken) (first c e : CallerValue S T B) (answer : Answer L P O S T B)
    → tokens ≡ before ++ after → length before ≡ i → i < length tokens → AllBusy d before first c → Tried admits d (get_or tokens i x) c e answer → answer ≡ Busy
    → (more : List QToken) × (rest : List QToken) × (tokens ≡ more ++ rest) × (length more ≡ i + 1) × AllBusy d more first e
one_busy admits d tokens before after i x first c e answer is many low busy tried come =
    let t = get_or tokens i x in let s = split_next tokens before after i t is many low (same_there tokens i x t low) in let f = length-append before (t ∷ []) in
    (before ++ t ∷ [], s.0, is ∙ ap (λ l. before ++ l) s.1 ∙ sym (append_assoc before (t ∷ []) s.0), omega (arith, f, many), busy_snoc d before t first c e busy (busy_of admits d t c e answer come tried))

-- the tries stopped here
pub one_stop : {L P O S T B : Type 0} (admits : B → List S → List (ℕ × T) → ℕ → O → Type 0) (d : DemiId B) (tokens before after : List QToken) (i : ℕ) (x : QToken) (first c e : CallerValue S T B) (answer : Answer L P O S T B)
    → tokens ≡ before ++ after → length before ≡ i → i < length tokens → AllBusy d before first c → Tried admits d (get_or tokens i x) c e answer → (answer ≡ Busy → ⊥)
    → TriedAny admits d tokens first e (any_of i answer)
one_stop admits d tokens before after i x first c e answer is many low busy tried other =
    let t = get_or tokens i x in let s = split_next tokens before after i t is many low (same_there tokens i x t low) in
    stopped admits d tokens first e i answer other (before, t, s.0, c, is ∙ ap (λ l. before ++ l) s.1, many, busy, tried)
