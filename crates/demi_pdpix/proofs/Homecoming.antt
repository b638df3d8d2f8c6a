-- Callers who owe nothing and seats that are back: what the close of a whole needs.
use Rattle.std.proofs.Common.{◌≡◌, ℕ, zero, suc, ◌+◌, ◌<◌, ◌≤◌, inl, inr, List, [], ◌∷◌, length, get_or, refl, ap, sym, subst, ◌∙◌, arith}
use Rattle.demi_heap.specs.Seen.{HeapId}
use Rattle.demi_port_core.specs.History.{AnyOf, Each, total}
use Rattle.demi_port.specs.Seen.{PassValue, PortId}
use Rattle.demi_pdpix.specs.declared.seats.Seats.{Seats}
use Rattle.demi_pdpix.specs.Closing.{AllBack, AllBackAt}
use Rattle.demi_pdpix.specs.Home.{AreBack, IsBack, IsHome}
use Rattle.demi_pdpix.specs.Owing.{AreCalm, IsDue, Owes}
use Rattle.demi_pdpix.specs.Returning.{journal_at, rx_at, tx_at}
use Rattle.demi_pdpix.specs.Seen.{AreNewCallers, CallerValue, DemiId, IsOf, Pair, as_list, memory_of, service_of}
use Rattle.demi_pdpix.proofs.OneCaller.{at_many}
use Rattle.demi_pdpix.proofs.Outstanding.{new_owes}
use Rattle.demi_pdpix.proofs.Returned.{here_or_above}

-- of each caller the pass that f gives has the caller's number, from n on, and nothing outstanding
abbrev AllDue : {A D T B : Type 0} → (A → PassValue D T B) → ℕ → List A → Type 0
AllDue f n [] = Unit {0}
AllDue f n (c ∷ cs) = IsDue n 0 (f c) × AllDue f (n + 1) cs

all_numbers : {A D T B : Type 0} (f : A → PassValue D T B) (n : ℕ) (cs : List A) → AllDue f n cs → (k : ℕ) → n ≤ k → k < n + length cs → AnyOf (λ (c : A). (f c).number ≡ k) cs
all_numbers f n [] due k low high = absurd (omega (arith, low, high))
all_numbers f n (c ∷ cs) due k low high = elim (here_or_above n k low) [
  | inl e ↦ inl (due.0.0 ∙ sym e)
  | inr up ↦ inr (all_numbers f (n + 1) cs due.1 k up (omega (arith, high)))
]

all_even : {A D T B : Type 0} (f : A → PassValue D T B) (n : ℕ) (cs : List A) → AllDue f n cs → total (λ (c : A). length (f c).submitted) cs ≡ total (λ (c : A). length (f c).redeemed) cs
all_even f n [] due = refl
all_even f n (c ∷ cs) due = let a = due.0.1 in let b = all_even f (n + 1) cs due.1 in omega (arith, a, b)

all_due : {D T B E U C : Type 0} (d : DemiId C) (f : CallerValue E U C → PassValue D T B) → ((n : ℕ) (c : CallerValue E U C) → Owes d n [] c → IsDue n 0 (f c))
    → (n : ℕ) (cs : List (CallerValue E U C)) → AreCalm d n cs → AllDue f n cs
all_due d f one n [] calm = tt
all_due d f one n (c ∷ cs) calm = (one n c calm.0, all_due d f one (n + 1) cs calm.1)

pub calm_of : {D T B : Type 0} (d : DemiId B) (n : ℕ) (cs : List (CallerValue D T B)) → AreCalm d n cs → Each (IsOf d) cs
calm_of d n [] calm = tt
calm_of d n (c ∷ cs) calm = (calm.0.0, calm_of d (n + 1) cs calm.1)

-- callers that were just made owe nothing
pub new_calm : {D T B : Type 0} (d : DemiId B) (n : ℕ) (cs : List (CallerValue D T B)) → AreNewCallers d n cs → AreCalm d n cs
new_calm d n [] new = tt
new_calm d n (c ∷ cs) new = (new_owes d n c new.0, new_calm d (n + 1) cs new.1)

back : {A D T B : Type 0} (h : HeapId) (callers : ℕ) (f : A → PassValue D T B) (cs : List A) (port : PortId B) (s : Pair D T B) → length cs ≡ callers → AllDue f 0 cs → IsBack h callers port s → AllBack f cs port s.0
back h callers f cs port s many due is = record {
  seat = is.port_is;
  all = λ n low. let p = is.passes in all_numbers f 0 cs due n (omega arith) (omega (arith, low, p, many));
  even = all_even f 0 cs due;
}

back_there : {D T B : Type 0} (h : HeapId) (callers : ℕ) (xs : List (PortId B)) (ss : List (Pair D T B)) (k : ℕ) (x : PortId B) (s : Pair D T B) → AreBack h callers xs ss → k < length xs → IsBack h callers (get_or xs k x) (get_or ss k s)
back_there h callers [] [] k x s are low = absurd (omega (arith, low))
back_there h callers [] (y ∷ ys) k x s are low = absurd are
back_there h callers (y ∷ ys) [] k x s are low = absurd are
back_there h callers (y ∷ ys) (z ∷ zs) zero x s are low = are.0
back_there h callers (y ∷ ys) (z ∷ zs) (suc k) x s are low = back_there h callers ys zs k x s are.1 (omega (arith, low))

backs_many : {D T B : Type 0} (h : HeapId) (callers : ℕ) (xs : List (PortId B)) (ss : List (Pair D T B)) → AreBack h callers xs ss → length ss ≡ length xs
backs_many h callers [] [] are = refl
backs_many h callers [] (y ∷ ys) are = absurd are
backs_many h callers (y ∷ ys) [] are = absurd are
backs_many h callers (y ∷ ys) (z ∷ zs) are = ap suc (backs_many h callers ys zs are.1)

backs_heap : {D T B : Type 0} (h : HeapId) (callers : ℕ) (xs : List (PortId B)) (ss : List (Pair D T B)) → AreBack h callers xs ss → Each (λ (s : Pair D T B). s.1.heap ≡ h) ss
backs_heap h callers [] [] are = tt
backs_heap h callers [] (y ∷ ys) are = absurd are
backs_heap h callers (y ∷ ys) [] are = absurd are
backs_heap h callers (y ∷ ys) (z ∷ zs) are = (are.0.heap_is, backs_heap h callers ys zs are.1)

back_at : {A D T B : Type 0} (h : HeapId) (callers : ℕ) (f : ℕ → PassValue D T B → A → PassValue D T B) (cs : List A) (xs : List (PortId B)) (ss : List (Pair D T B)) → length cs ≡ callers
    → ((k : ℕ) (p : PassValue D T B) → k < length xs → AllDue (f k p) 0 cs) → AreBack h callers xs ss → AllBackAt f cs xs ss
back_at h callers f cs xs ss many due are k p x s low = back h callers (f k p) cs (get_or xs k x) (get_or ss k s) many (due k p low) (back_there h callers xs ss k x s are low)

-- What the close of a whole needs, as its caller cites it.
module _ {L P O S T B : Type 0} (d : DemiId B) (cs : List (CallerValue S T B)) (s : Seats L P O S T B) (home : IsHome d cs s) where
  pub home_count : (length cs ≡ d.callers) × (length (as_list s.journal) ≡ length d.journal) × (length s.rx.items ≡ length d.rx) × (length s.tx.items ≡ length d.tx)
  home_count = (
    home.count,
    backs_many d.heap d.callers d.journal (as_list s.journal) home.journal,
    backs_many d.heap d.callers d.rx s.rx.items home.rx,
    backs_many d.heap d.callers d.tx s.tx.items home.tx,
  )

  pub home_memory : AllBack memory_of cs d.memory s.memory.0
  home_memory = back d.heap d.callers memory_of cs d.memory s.memory home.count (all_due d memory_of (λ n c owes. owes.1.0) 0 cs home.calm) home.memory

  pub home_service : AllBack service_of cs d.service s.service.0
  home_service = back d.heap d.callers service_of cs d.service s.service home.count (all_due d service_of (λ n c owes. owes.1.1) 0 cs home.calm) home.service

  pub home_journal : AllBackAt journal_at cs d.journal (as_list s.journal)
  home_journal = back_at d.heap d.callers journal_at cs d.journal (as_list s.journal) home.count
      (λ k p low. all_due d (journal_at k p) (λ n c owes. let many = at_many c.journal d.journal owes.0.journal in let few = home.few in let first : 0 ≡ k = omega (arith, low, few) in
      subst (λ j. IsDue n 0 (get_or c.journal j p)) first (owes.1.2 p (omega (arith, low, many)))) 0 cs home.calm) home.journal

  pub home_rx : AllBackAt rx_at cs d.rx s.rx.items
  home_rx = back_at d.heap d.callers rx_at cs d.rx s.rx.items home.count
      (λ k p low. all_due d (rx_at k p) (λ n c owes. owes.1.3 k p (let many = at_many c.rx d.rx owes.0.rx in omega (arith, low, many))) 0 cs home.calm) home.rx

  pub home_tx : AllBackAt tx_at cs d.tx s.tx.items
  home_tx = back_at d.heap d.callers tx_at cs d.tx s.tx.items home.count
      (λ k p low. all_due d (tx_at k p) (λ n c owes. owes.1.4 k p (let many = at_many c.tx d.tx owes.0.tx in omega (arith, low, many))) 0 cs home.calm) home.tx

  pub home_heap : (s.memory.1.heap ≡ d.heap) × (s.service.1.heap ≡ d.heap) × Each (λ x. x.1.heap ≡ d.heap) (as_list s.journal) × Each (λ x. x.1.heap ≡ d.heap) s.rx.items × Each (λ x. x.1.heap ≡ d.heap) s.tx.items
  home_heap = (
    home.memory.heap_is,
    home.service.heap_is,
    backs_heap d.heap d.callers d.journal (as_list s.journal) home.journal,
    backs_heap d.heap d.callers d.rx s.rx.items home.rx,
    backs_heap d.heap d.callers d.tx s.tx.items home.tx,
  )
