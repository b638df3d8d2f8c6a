-- A whole with one caller, at its beginning and at its end.
use Rattle.std.proofs.Common.{◌≡◌, ℕ, zero, suc, ◌+◌, ◌<◌, inl, List, [], ◌∷◌, ◌++◌, length, get_or, take, replicate, refl, ap, sym, subst, ◌∙◌, arith}
use Rattle.demi_heap.specs.Seen.{HeapId}
use Rattle.demi_port_core.specs.History.{Each}
use Rattle.demi_port_core.specs.declared.place.Place.{Place}
use Rattle.demi_port_core.specs.declared.place.QToken.{QToken}
use Rattle.demi_port.specs.Seen.{DeviceValue, Found, PassValue, PortId}
use Rattle.demi_pdpix.specs.declared.kind.PortKind.{PortKind}
use Rattle.demi_pdpix.specs.declared.kind.PortKind.TheVariants.{Memory, Service, Journal, Receiving, Sending, Nowhere}
use Rattle.demi_pdpix.specs.declared.outcomes.QResult.{QResult}
use Rattle.demi_pdpix.specs.declared.outcomes.Answer.{Answer}
use Rattle.demi_pdpix.specs.declared.outcomes.Answer.TheVariants.{Ready, NotYet, Spent, Unknown}
use Rattle.demi_pdpix.specs.Alone.{IsAlone}
use Rattle.demi_pdpix.specs.Answers.{SawSpent}
use Rattle.demi_pdpix.specs.Closing.{AllBack, AllBackAt}
use Rattle.demi_pdpix.specs.Kinds.{kind_of}
use Rattle.demi_pdpix.specs.Owing.{IsDue, IsDueAt, Owes, due_at}
use Rattle.demi_pdpix.specs.Seen.{AreAt, AreNewCallers, AreNewPairs, CallerValue, DemiId, IsNewPair, IsOf, Pair}
use Rattle.std.specs.Prelude.{Option, Some, cond, nat_lt}
use Rattle.demi_pdpix.specs.declared.all.Halted.{Halted}
use Rattle.demi_pdpix.specs.declared.all.Halted.TheVariants.{Spent as SpentAt}
use Rattle.demi_pdpix.specs.Together.{AllCame, StoppedBy, WaitedAll}
use Rattle.demi_pdpix.specs.Tries.{TriedAt}
use Rattle.demi_pdpix.proofs.Outstanding.{all_busy_due, all_came_due, changed_due, changed_first, new_owes}

-- a look at a word changes nothing of what is outstanding
found_due : {D T B : Type 0} (n m token : ℕ) (F : ℕ → Type 0) (p q : PassValue D T B) → Found p q token F → IsDue n m p → IsDue n m q
found_due n m token F p q (t, k, after, is, new) due =
    (ap (λ (x : PassValue _ _ _). x.number) new ∙ due.0, ap (λ (x : PassValue _ _ _). length x.submitted) new ∙ due.1 ∙ ap (λ j. j + m) (sym (ap (λ (x : PassValue _ _ _). length x.redeemed) new)))

spent_due : {D T B : Type 0} (n m token : ℕ) (p q : PassValue D T B) → SawSpent token p q → IsDue n m p → IsDue n m q
spent_due n m token p q saw due = found_due n m token _ p q saw due

abbrev is_unknown : {L P O S T B : Type 0} → Answer L P O S T B → Type 0
is_unknown (Ready p o) = ⊥
is_unknown NotYet = ⊥
is_unknown Spent = ⊥
is_unknown Unknown = Unit {0}

-- nor does a try of a token that was redeemed before
spent_due_at : (L P O : Type 0) {S T B : Type 0} (kind : PortKind) (admits : B → List S → List (ℕ × T) → ℕ → O → Type 0) (heap : HeapId) (n token : ℕ) (f : PortKind → ℕ) (c e : CallerValue S T B)
    → TriedAt {L = L} {P = P} {O = O} kind admits heap token c e Spent → IsDueAt n f c → IsDueAt n f e
spent_due_at L P O Memory admits heap n token f c e s due = subst (IsDueAt n f) (sym s.0) (spent_due n (f Memory) token c.memory e.memory s.1 due.0, due.1, due.2, due.3, due.4)
spent_due_at L P O Service admits heap n token f c e s due = subst (IsDueAt n f) (sym s.0) (due.0, spent_due n (f Service) token c.service e.service s.1 due.1, due.2, due.3, due.4)
spent_due_at L P O Journal admits heap n token f c e s due = subst (IsDueAt n f) (sym s.0)
    (due.0, due.1, changed_first (SawSpent token) n (f Journal) (f Journal) c.journal e.journal (spent_due n (f Journal) token) s.1 due.2, due.3, due.4)
spent_due_at L P O (Receiving j) admits heap n token f c e s due = subst (IsDueAt n f) (sym s.0)
    (due.0, due.1, due.2, changed_due (SawSpent token) n j (λ k. f (Receiving k)) (λ k. f (Receiving k)) c.rx e.rx (spent_due n (f (Receiving j)) token) (λ k ne. refl) s.1 due.3, due.4)
spent_due_at L P O (Sending j) admits heap n token f c e s due = subst (IsDueAt n f) (sym s.0)
    (due.0, due.1, due.2, due.3, changed_due (SawSpent token) n j (λ k. f (Sending k)) (λ k. f (Sending k)) c.tx e.tx (spent_due n (f (Sending j)) token) (λ k ne. refl) s.1 due.4)
spent_due_at L P O Nowhere admits heap n token f c e s due = absurd (subst (is_unknown {L = L} {P = P} {O = O}) (sym s.0) tt)

two_of : (before : List QToken) (x : QToken) (after : List QToken) (a b c : QToken) → a ∷ b ∷ c ∷ [] ≡ before ++ x ∷ after → length before ≡ 2 → before ≡ a ∷ b ∷ []
two_of [] x after a b c is many = absurd (omega (arith, many))
two_of (p ∷ []) x after a b c is many = absurd (omega (arith, many))
two_of (p ∷ q ∷ []) x after a b c is many = sym (ap (take 2) is)
two_of (p ∷ q ∷ r ∷ rs) x after a b c is many = absurd (omega (arith, many))

-- a wait for two tokens and the first again, which was then spent, leaves nothing outstanding
pub two_came : {L P O S T B : Type 0} (admits : B → List S → List (ℕ × T) → ℕ → O → Type 0) (d : DemiId B) (a b : QToken) (results : List (Place × QResult L P O S T B)) (n : ℕ) (c e : CallerValue S T B)
    → StoppedBy admits d (a ∷ b ∷ a ∷ []) results c e 2 Spent → IsDueAt n (due_at d (a ∷ b ∷ [])) c → IsDueAt n (due_at d []) e
two_came {L} {P} {O} admits d a b results n c e (before, x, after, m, is, many, came, waited) due =
    let both = subst (λ ts. AllCame admits d ts results c m) (two_of before x after a b a is many) came in
    let none = all_came_due admits d (a ∷ b ∷ []) [] results n c m both due in
    spent_due_at L P O (kind_of d x.port) admits d.heap n x.token.0 (due_at d []) waited.1 e waited.3 (all_busy_due d (replicate waited.0 x) n (due_at d []) m waited.1 waited.2 none)

pub halted_at_two : {L P O S T B : Type 0} (admits : B → List S → List (ℕ × T) → ℕ → O → Type 0) (d : DemiId B) (a b : QToken) (results : List (Place × QResult L P O S T B)) (halted : Option Halted) (c e : CallerValue S T B)
    → IsOf d e → halted ≡ Some (SpentAt 2) → WaitedAll admits d (a ∷ b ∷ a ∷ []) c e results halted → Owes d 0 (a ∷ b ∷ []) c → Owes d 0 [] e
halted_at_two admits d a b results halted c e of is waited owes =
    (of, two_came admits d a b results 0 c e (subst (λ (h : Option Halted). WaitedAll admits d (a ∷ b ∷ a ∷ []) c e results h) is waited) owes.1)

-- there is no port 2 without a log, and no port 9 with one link
pub no_log : {B : Type 0} (d : DemiId B) → length d.journal ≡ 0 → kind_of d 2 ≡ Nowhere
no_log d none = ap (λ n. cond (nat_lt 0 n) Journal Nowhere) none

pub no_fourth : {B : Type 0} (d : DemiId B) → length d.rx ≡ 1 → kind_of d 9 ≡ Nowhere
no_fourth d one = ap (λ n. cond (nat_lt 3 n) (Receiving 3) Nowhere) one

-- a whole that was just made for one caller
pub new_alone : {D T B : Type 0} (d : DemiId B) (cs : List (CallerValue D T B)) → length cs ≡ 1 → AreNewCallers d 0 cs → IsAlone d cs
new_alone d [] many new = absurd (omega (arith, many))
new_alone d (c ∷ []) many new = (c, refl, new_owes d 0 c new.0)
new_alone d (c ∷ e ∷ cs) many new = absurd (omega (arith, many))

pub one_back : {A D T B : Type 0} (f : A → PassValue D T B) (c : A) (port : PortId B) (s : DeviceValue D T B) → s.port ≡ port → s.passes ≡ 1 → IsDue 0 0 (f c) → AllBack f (c ∷ []) port s
one_back f c port s at many due = record {
  seat = at;
  all = λ n low. inl (due.0 ∙ (let z : 0 ≡ n = omega (arith, low, many) in z));
  even = let e = due.1 in omega (arith, e);
}

pair_at : {D T B : Type 0} (h : HeapId) (n : ℕ) (xs : List (PortId B)) (ss : List (Pair D T B)) (k : ℕ) (x : PortId B) (s : Pair D T B) → AreNewPairs h n xs ss → k < length xs → IsNewPair h n (get_or xs k x) (get_or ss k s)
pair_at h n [] [] k x s new low = absurd (omega (arith, low))
pair_at h n [] (y ∷ ys) k x s new low = absurd new
pair_at h n (y ∷ ys) [] k x s new low = absurd new
pair_at h n (y ∷ ys) (z ∷ zs) zero x s new low = new.0
pair_at h n (y ∷ ys) (z ∷ zs) (suc k) x s new low = pair_at h n ys zs k x s new.1 (omega (arith, low))

pub pairs_many : {D T B : Type 0} (h : HeapId) (n : ℕ) (xs : List (PortId B)) (ss : List (Pair D T B)) → AreNewPairs h n xs ss → length ss ≡ length xs
pairs_many h n [] [] new = refl
pairs_many h n [] (y ∷ ys) new = absurd new
pairs_many h n (y ∷ ys) [] new = absurd new
pairs_many h n (y ∷ ys) (z ∷ zs) new = ap suc (pairs_many h n ys zs new.1)

pub pairs_heap : {D T B : Type 0} (h : HeapId) (n : ℕ) (xs : List (PortId B)) (ss : List (Pair D T B)) → AreNewPairs h n xs ss → Each (λ (s : Pair D T B). s.1.heap ≡ h) ss
pairs_heap h n [] [] new = tt
pairs_heap h n [] (y ∷ ys) new = absurd new
pairs_heap h n (y ∷ ys) [] new = absurd new
pairs_heap h n (y ∷ ys) (z ∷ zs) new = (ap (λ p. p.heap) new.0.1, pairs_heap h n ys zs new.1)

pub one_back_at : {A D T B : Type 0} (h : HeapId) (f : ℕ → PassValue D T B → A → PassValue D T B) (c : A) (ports : List (PortId B)) (seats : List (Pair D T B)) → AreNewPairs h 1 ports seats
    → ((k : ℕ) (p : PassValue D T B) → k < length ports → IsDue 0 0 (f k p c)) → AllBackAt f (c ∷ []) ports seats
one_back_at h f c ports seats new due k p x s low =
    let pair = pair_at h 1 ports seats k x s new low in
    one_back (f k p) c (get_or ports k x) (get_or seats k s).0 (ap (λ (z : DeviceValue _ _ _). z.port) pair.0) (ap (λ (z : DeviceValue _ _ _). z.passes) pair.0) (due k p low)

pub at_many : {D T B : Type 0} (ps : List (PassValue D T B)) (xs : List (PortId B)) → AreAt ps xs → length ps ≡ length xs
at_many [] [] are = refl
at_many [] (x ∷ xs) are = absurd are
at_many (p ∷ ps) [] are = absurd are
at_many (p ∷ ps) (x ∷ xs) are = ap suc (at_many ps xs are.1)
