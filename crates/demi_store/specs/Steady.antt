-- What is admitted at a place stays as the history and the trail grow.
use mathlib.Core.Logic.{◌↔◌}
use Rattle.std.specs.Prelude.{◌≡◌, ℕ, zero, suc, ◌+◌, ◌<◌, ◌≤◌, ◌==◌, cond, Bool, true, false, List, [], ◌∷◌, ◌++◌, length, take, slice_get, Option, Some, None, refl}
use Rattle.std.proofs.Common.{ap, sym, ◌∙◌, arith, subst}
use Rattle.std.proofs.lemmas.List.{take-append-le, length-take-le}
use Rattle.std.proofs.lemmas.Bool.Decides.{nat_tests}
use Rattle.demi_port_core.specs.History.{AllAbove}
use Rattle.demi_spec.specs.Record.{Record}
use Rattle.demi_store.specs.declared.ask.StoreAsk.{StoreAsk}
use Rattle.demi_store.specs.declared.out.StoreOut.{StoreOut}
use Rattle.demi_store.specs.declared.told.StoreTold.{StoreTold}
use Rattle.demi_store.specs.History.{Standing, said_at, standing_from, opened, store_result, struck_at}
use Rattle.demi_store.specs.Laws.{StoreBasis, Admits, SaysTo, said_to}

-- what stands behind operations hangs on what is told of their places alone
pub standing_same : (limit : ℕ) (s s' : ℕ → Option StoreTold) (place : ℕ) (st : Standing) (asks : List StoreAsk) → ((p : ℕ) → p < place + length asks → s' p ≡ s p) → standing_from limit s' place st asks ≡ standing_from limit s place st asks
standing_same limit s s' place st [] same = refl
standing_same limit s s' place st (a ∷ asks) same =
    ap (λ (o : Option StoreTold). standing_from limit s' (place + 1) (said_at limit place st a o).1 asks) (same place (omega arith))
    ∙ standing_same limit s s' (place + 1) (said_at limit place st a (s place)).1 asks (λ p less. same p (omega arith))

-- a longer history, and a trail that tells the same of all places up to this one
pub result_steady : (limit : ℕ) (old : List Record) (s s' : ℕ → Option StoreTold) (h more : List StoreAsk) (p : ℕ) (ask : StoreAsk) → p ≤ length h → ((q : ℕ) → q < p + 1 → s' q ≡ s q) → store_result limit old s' (h ++ more) p ask ≡ store_result limit old s h p ask
result_steady limit old s s' h more p ask within same =
    let front : take p (h ++ more) ≡ take p h = take-append-le p h more within in
    let long : length (take p h) ≡ p = length-take-le p h within in
    ap (λ (l : List StoreAsk). (said_at limit p (standing_from limit s' 0 (opened old) l) ask (s' p)).0) front
    ∙ ap (λ (st : Standing). (said_at limit p st ask (s' p)).0) (standing_same limit s s' 0 (opened old) (take p h) (λ q less. same q (omega arith)))
    ∙ ap (λ (o : Option StoreTold). (said_at limit p (standing_from limit s 0 (opened old) (take p h)) ask o).0) (same p (omega arith))

test : {A : Type 0} (b : Bool) (o x : A) → b ≡ false → cond b o x ≡ x
test true o x e = absurd (cc)
test false o x e = refl

none_told : (l : List (ℕ × StoreTold)) (p q : ℕ) → AllAbove p l → q < p + 1 → struck_at l q ≡ None
none_told [] p q a less = refl
none_told (x ∷ l) p q a less = test (x.0 == q) (Some x.1) (struck_at l q) (let b = a.0 in grind (arith, nat_tests)) ∙ none_told l p q a.1 less

-- what greater places tell says nothing of this one
pub struck_steady : (t later : List (ℕ × StoreTold)) (p q : ℕ) → AllAbove p later → q < p + 1 → struck_at (t ++ later) q ≡ struck_at t q
struck_steady [] later p q above less = none_told later p q above less
struck_steady (x ∷ t) later p q above less = ap (λ (o : Option StoreTold). cond (x.0 == q) (Some x.1) o) (struck_steady t later p q above less)

within : {A : Type 0} (h : List A) (p : ℕ) (a : A) → slice_get h p ≡ Some a → p < length h
within [] p a e = absurd (cc)
within (x ∷ h) zero a e = omega arith
within (x ∷ h) (suc p) a e = let l = within h p a e in omega arith

got_front : {A : Type 0} (h more : List A) (p : ℕ) → p < length h → slice_get (h ++ more) p ≡ slice_get h p
got_front [] more p less = absurd (omega arith)
got_front (x ∷ h) more zero less = refl
got_front (x ∷ h) more (suc p) less = got_front h more p (omega arith)

same_said : (b : StoreBasis) (h more : List StoreAsk) (t later : List (ℕ × StoreTold)) (p : ℕ) (ask : StoreAsk) → p < length h → AllAbove p later → said_to b (h ++ more) (t ++ later) p ask ≡ said_to b h t p ask
same_said b h more t later p ask less above =
    result_steady b.limit b.records (struck_at t) (struck_at (t ++ later)) h more p ask (omega arith) (λ q few. struck_steady t later p q above few)

pub admits_steady : (b : StoreBasis) (h more : List StoreAsk) (t later : List (ℕ × StoreTold)) (p : ℕ) (o x : StoreOut) → Admits b h t p o → AllAbove p later → (Admits b (h ++ more) (t ++ later) p x ↔ Admits b h t p x)
admits_steady b h more t later p o x is above =
    let less = within h p is.0 is.1 in
    let front = got_front h more p less in (
      (λ e. (e.0, sym front ∙ e.1, subst (λ s. SaysTo b.told e.0.op s x) (same_said b h more t later p e.0 less above) e.2)),
      (λ e. (e.0, front ∙ e.1, subst (λ s. SaysTo b.told e.0.op s x) (sym (same_said b h more t later p e.0 less above)) e.2)),
    )
