-- A whole with two callers, at its beginning, at its end, and in between.
use Rattle.std.proofs.Common.{◌≡◌, ℕ, zero, suc, ◌+◌, ◌<◌, List, [], ◌∷◌, ◌++◌, All, length, length-append, get_or, map, refl, ap, sym, subst, ◌∙◌, arith}
use Rattle.std.specs.Prelude.{Option, None}
use Rattle.demi_device.specs.Turning.{WholeDevice}
use Rattle.demi_heap.specs.Seen.{HeapId}
use Rattle.demi_heap.specs.Seen.{PassValue as HeapPassValue}
use Rattle.demi_port.specs.Seen.{PassValue, PortId}
use Rattle.demi_port_core.specs.declared.place.Place.{Place}
use Rattle.demi_port_core.specs.declared.place.QToken.{QToken}
use Rattle.demi_pdpix.specs.declared.all.Halted.{Halted}
use Rattle.demi_pdpix.specs.declared.outcomes.QResult.{QResult}
use Rattle.demi_pdpix.specs.Home.{AreBack, IsBack}
use Rattle.demi_pdpix.specs.InTests.{IsFit, IsOnlyFit, IsSet}
use Rattle.demi_pdpix.specs.Notes.{all_learnt, all_noted, each_learnt, noted}
use Rattle.demi_pdpix.specs.Owing.{AreCalm, AreDue, IsFirstDue, Owes}
use Rattle.demi_pdpix.specs.Seen.{AreNewPairs, CallerValue, DemiId, IsOf, Pair}
use Rattle.demi_pdpix.specs.Together.{WaitedAll}
use Rattle.demi_pdpix.proofs.Learning.{learnt_of, noted_of}
use Rattle.demi_pdpix.proofs.Outstanding.{owes_none}

learnt_due : {D T B : Type 0} (n : ℕ) (f : ℕ → ℕ) (ps qs : List (PassValue D T B)) → AreDue n f ps → AreDue n f (each_learnt ps qs)
learnt_due n f [] qs due k p low = absurd (omega (arith, low))
learnt_due n f (x ∷ ps) [] due k p low = due k p low
learnt_due n f (x ∷ ps) (y ∷ qs) due zero p low = due 0 p (omega arith)
learnt_due n f (x ∷ ps) (y ∷ qs) due (suc k) p low = learnt_due n (λ j. f (suc j)) ps qs (λ j q l. due (suc j) q (omega (arith, l))) k p (omega (arith, low))

noted_due : {D T B : Type 0} (n : ℕ) (f : ℕ → ℕ) (ps : List (PassValue D T B)) → AreDue n f ps → AreDue n f (map noted ps)
noted_due n f [] due k p low = absurd (omega (arith, low))
noted_due n f (x ∷ ps) due zero p low = due 0 p (omega arith)
noted_due n f (x ∷ ps) due (suc k) p low = noted_due n (λ j. f (suc j)) ps (λ j q l. due (suc j) q (omega (arith, l))) k p (omega (arith, low))

learnt_first : {D T B : Type 0} (n m : ℕ) (ps qs : List (PassValue D T B)) → IsFirstDue n m ps → IsFirstDue n m (each_learnt ps qs)
learnt_first n m [] qs due p low = absurd (omega (arith, low))
learnt_first n m (x ∷ ps) [] due p low = due p low
learnt_first n m (x ∷ ps) (y ∷ qs) due p low = due p (omega arith)

noted_first : {D T B : Type 0} (n m : ℕ) (ps : List (PassValue D T B)) → IsFirstDue n m ps → IsFirstDue n m (map noted ps)
noted_first n m [] due p low = absurd (omega (arith, low))
noted_first n m (x ∷ ps) due p low = due p (omega arith)

-- who has learnt owes what it did
pub learnt_owes : {D T B : Type 0} (d : DemiId B) (n : ℕ) (tokens : List QToken) (c e : CallerValue D T B) → Owes d n tokens c → Owes d n tokens (all_learnt c e)
learnt_owes d n tokens c e owes = (
  learnt_of d c e owes.0,
  (owes.1.0, owes.1.1, learnt_first n _ c.journal e.journal owes.1.2, learnt_due n _ c.rx e.rx owes.1.3, learnt_due n _ c.tx e.tx owes.1.4),
)

-- and so does the other
pub noted_owes : {D T B : Type 0} (d : DemiId B) (n : ℕ) (tokens : List QToken) (c : CallerValue D T B) → Owes d n tokens c → Owes d n tokens (all_noted c)
noted_owes d n tokens c owes = (
  noted_of d c owes.0,
  (owes.1.0, owes.1.1, noted_first n _ c.journal owes.1.2, noted_due n _ c.rx owes.1.3, noted_due n _ c.tx owes.1.4),
)

-- what a caller does to its heap alone leaves what it owes
pub heap_owes : {D T B : Type 0} (d : DemiId B) (n : ℕ) (tokens : List QToken) (c : CallerValue D T B) (h : HeapPassValue) → h.heap ≡ c.heap.heap → Owes d n tokens c → Owes d n tokens (record c { heap = h })
heap_owes d n tokens c h same owes = (
  record {
    heap = same ∙ owes.0.heap;
    memory = owes.0.memory;
    service = owes.0.service;
    journal = owes.0.journal;
    rx = owes.0.rx;
    tx = owes.0.tx;
  },
  owes.1,
)

pub on_heap_owes : {D T B : Type 0} (d : DemiId B) (n : ℕ) (tokens : List QToken) (c e : CallerValue D T B) (h : HeapPassValue) → e ≡ record c { heap = h } → h.heap ≡ c.heap.heap → Owes d n tokens c → Owes d n tokens e
on_heap_owes d n tokens c e h is same owes = subst (Owes d n tokens) (sym is) (heap_owes d n tokens c h same owes)

-- all of the tokens were redeemed
pub all_owes : {L P O S T B : Type 0} (admits : B → List S → List (ℕ × T) → ℕ → O → Type 0) (d : DemiId B) (n : ℕ) (tokens : List QToken) (results : List (Place × QResult L P O S T B)) (halted : Option Halted) (c e : CallerValue S T B)
    → IsOf d e → halted ≡ None → WaitedAll admits d tokens c e results halted → Owes d n tokens c → Owes d n [] e
all_owes admits d n tokens results halted c e of is waited owes =
    owes_none admits d n c e of tokens results (subst (λ (h : Option Halted). WaitedAll admits d tokens c e results h) is waited).1 owes

-- two callers, as they are taken from the end of their list
pub two_calm : {D T B : Type 0} (d : DemiId B) (cs mid rest : List (CallerValue D T B)) (a b : CallerValue D T B) → cs ≡ mid ++ b ∷ [] → mid ≡ rest ++ a ∷ [] → length cs ≡ 2 → AreCalm d 0 cs
    → (rest ≡ []) × Owes d 0 [] a × Owes d 1 [] b
two_calm d cs mid [] a b is was many calm = let both = subst (AreCalm d 0) (is ∙ ap (λ l. l ++ b ∷ []) was) calm in (refl, both.0, both.1.0)
two_calm d cs mid (r ∷ rest) a b is was many calm =
    let p = ap length (is ∙ ap (λ l. l ++ b ∷ []) was) in let q = length-append (r ∷ rest ++ a ∷ []) (b ∷ []) in let s = length-append rest (a ∷ []) in absurd (omega (arith, p, q, s, many))

-- the one port of its kind that a new whole has, with its seat
pub only_fit : {D T B : Type 0} (h : HeapId) (base : B) (ports : List (PortId B)) (seats : List (Pair D T B)) → length ports ≡ 1 → All (λ (p : PortId B). p.key.base ≡ base) ports
    → All (λ (p : PortId B). p.tokens.slots ≡ 4) ports → AreNewPairs h 2 ports seats → IsOnlyFit h base ports seats
only_fit h base [] seats many b t new = absurd (omega (arith, many))
only_fit h base (x ∷ []) [] many b t new = absurd new
only_fit h base (x ∷ []) (s ∷ []) many b t new = (x, s, refl, refl, record { new = new.0; tokens = t 0 x (omega arith); stands = b 0 x (omega arith) })
only_fit h base (x ∷ []) (s ∷ r ∷ ss) many b t new = absurd new.1
only_fit h base (x ∷ y ∷ xs) seats many b t new = absurd (omega (arith, many))

-- it is the one at this reference, and the seat is the last of its list, which leaves none
pub only_at : {D T B : Type 0} (h : HeapId) (base : B) (ports : List (PortId B)) (seats rest : List (Pair D T B)) (x : PortId B) (s : Pair D T B) → IsOnlyFit h base ports seats → x ≡ get_or ports 0 x → seats ≡ rest ++ s ∷ []
    → (rest ≡ []) × IsFit h base x s
only_at h base ports seats [] x s fit at is =
    let port : x ≡ fit.0 = at ∙ ap (λ l. get_or l 0 x) fit.2 in let seat : s ≡ fit.1 = ap (λ l. get_or l 0 s) (sym is ∙ fit.3) in
    (refl, subst (λ p. IsFit h base p s) (sym port) (subst (λ z. IsFit h base fit.0 z) (sym seat) fit.4))
only_at h base ports seats (r ∷ rest) x s fit at is = let p = ap length (sym is ∙ fit.3) in let q = length-append rest (s ∷ []) in absurd (omega (arith, p, q))

-- a device is at a port whatever the port is called
pub set_along : {E D T B : Type 0} (base : E → B) (p q : PortId B) (v : WholeDevice E D T B) → q ≡ p → IsSet base p v → IsSet base q v
set_along base p q v is set = subst (λ x. IsSet base x v) (sym is) set

-- a seat has come back, whatever heap and port are called
pub back_along : {D T B : Type 0} (h i : HeapId) (callers : ℕ) (x y : PortId B) (s : Pair D T B) → h ≡ i → callers ≡ 2 → x ≡ y → IsBack h 2 x s → IsBack i callers y s
back_along h i callers x y s heap two port back = record { port_is = back.port_is ∙ port; passes = back.passes ∙ sym two; heap_is = back.heap_is ∙ heap }

-- the seat of that port has come back
pub only_back : {D T B : Type 0} (h i : HeapId) (callers : ℕ) (base : B) (ports : List (PortId B)) (seats now : List (Pair D T B)) (x : PortId B) (s : Pair D T B) → IsOnlyFit h base ports seats → x ≡ get_or ports 0 x → i ≡ h → callers ≡ 2
    → IsBack i 2 x s → now ≡ s ∷ [] → AreBack h callers ports now
only_back h i callers base ports seats now x s fit at heap two back is =
    let port : x ≡ fit.0 = at ∙ ap (λ l. get_or l 0 x) fit.2 in
    subst (λ xs. AreBack h callers xs now) (sym fit.2) (subst (AreBack h callers (fit.0 ∷ [])) (sym is) (back_along i h callers x fit.0 s heap two port back, tt))
