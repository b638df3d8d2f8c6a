-- A whole with one caller, at its beginning and at its end.
use Rattle.std.proofs.Common.{◌≡◌, ◌∙◌, ℕ, zero, suc, ◌<◌, List, [], ◌∷◌, All, length, get_or, refl, sym, ap, subst, arith, inl}
use Rattle.demi_heap.specs.Seen.{HeapId}
use Rattle.demi_port_core.specs.History.{Each}
use Rattle.demi_port.specs.Seen.{PassValue, PortId}
use Rattle.demi_pdpix.specs.Alone.{IsAlone}
use Rattle.demi_pdpix.specs.Closing.{AllBack, AllBackAt}
use Rattle.demi_pdpix.specs.Owing.{IsDue}
use Rattle.demi_pdpix.specs.Seen.{AreAt, AreNewCallers, CallerValue, DemiId, Pair}
use Rattle.demi_pdpix.proofs.Outstanding.{new_owes}
use Rattle.demi_server.specs.Gathering.{AreBackAt, IsBackAt}

-- a whole that was just made for one caller
pub new_alone : {D T B : Type 0} (d : DemiId B) (cs : List (CallerValue D T B)) → length cs ≡ 1 → AreNewCallers d 0 cs → IsAlone d cs
new_alone d [] many new = absurd (omega (arith, many))
new_alone d (c ∷ []) many new = (c, refl, new_owes d 0 c new.0)
new_alone d (c ∷ e ∷ cs) many new = absurd (omega (arith, many))

-- the one caller has all passes of a port
pub one_back : {A D T B : Type 0} (f : A → PassValue D T B) (c : A) (heap : HeapId) (port : PortId B) (s : Pair D T B) → IsBackAt heap 1 port s → IsDue 0 0 (f c) → AllBack f (c ∷ []) port s.0
one_back f c heap port s back due = record {
  seat = back.at;
  all = λ n low. let p = back.passes in inl (due.0 ∙ (let z : 0 ≡ n = omega (arith, low, p) in z));
  even = let e = due.1 in omega (arith, e);
}

pair_at : {D T B : Type 0} (h : HeapId) (xs : List (PortId B)) (ss : List (Pair D T B)) (k : ℕ) (x : PortId B) (s : Pair D T B) → AreBackAt h 1 xs ss → k < length xs → IsBackAt h 1 (get_or xs k x) (get_or ss k s)
pair_at h [] [] k x s back low = absurd (omega (arith, low))
pair_at h [] (y ∷ ys) k x s back low = absurd back
pair_at h (y ∷ ys) [] k x s back low = absurd back
pair_at h (y ∷ ys) (z ∷ zs) zero x s back low = back.0
pair_at h (y ∷ ys) (z ∷ zs) (suc k) x s back low = pair_at h ys zs k x s back.1 (omega (arith, low))

pub pairs_many : {D T B : Type 0} (h : HeapId) (xs : List (PortId B)) (ss : List (Pair D T B)) → AreBackAt h 1 xs ss → length ss ≡ length xs
pairs_many h [] [] back = refl
pairs_many h [] (y ∷ ys) back = absurd back
pairs_many h (y ∷ ys) [] back = absurd back
pairs_many h (y ∷ ys) (z ∷ zs) back = ap suc (pairs_many h ys zs back.1)

pub pairs_heap : {D T B : Type 0} (h : HeapId) (xs : List (PortId B)) (ss : List (Pair D T B)) → AreBackAt h 1 xs ss → Each (λ (s : Pair D T B). s.1.heap ≡ h) ss
pairs_heap h [] [] back = tt
pairs_heap h [] (y ∷ ys) back = absurd back
pairs_heap h (y ∷ ys) [] back = absurd back
pairs_heap h (y ∷ ys) (z ∷ zs) back = (back.0.pass, pairs_heap h ys zs back.1)

pub all_back_at : {A D T B : Type 0} (h : HeapId) (f : ℕ → PassValue D T B → A → PassValue D T B) (c : A) (ports : List (PortId B)) (seats : List (Pair D T B)) → AreBackAt h 1 ports seats
    → ((k : ℕ) (p : PassValue D T B) → k < length ports → IsDue 0 0 (f k p c)) → AllBackAt f (c ∷ []) ports seats
all_back_at h f c ports seats back due k p x s low = one_back (f k p) c h (get_or ports k x) (get_or seats k s) (pair_at h ports seats k x s back low) (due k p low)

pub at_many : {D T B : Type 0} (ps : List (PassValue D T B)) (xs : List (PortId B)) → AreAt ps xs → length ps ≡ length xs
at_many [] [] are = refl
at_many [] (x ∷ xs) are = absurd are
at_many (p ∷ ps) [] are = absurd are
at_many (p ∷ ps) (x ∷ xs) are = ap suc (at_many ps xs are.1)

one_of : {A : Type 0} (P : A → Type 0) (x : A) → P x → All P (x ∷ [])
one_of P x p zero d low = p
one_of P x p (suc k) d low = absurd (omega (arith, low))

-- what holds of one holds of all of one
pub all_of_one : {A : Type 0} (P : A → Type 0) (xs : List A) (x : A) → xs ≡ x ∷ [] → P x → All P xs
all_of_one P xs x is p = subst (All P) (sym is) (one_of P x p)
