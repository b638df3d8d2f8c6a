-- What a step of a context's ledger does to what is due, and that the context stays sound.
use Rattle.std.proofs.Common.{◌≡◌, ◌≢◌, ℕ, zero, suc, ◌+◌, ◌<◌, ◌≤◌, Bool, cond, List, [], ◌∷◌, length, get_or, refl, ap, sym, subst, ◌∙◌, inl, inr, arith}
use Rattle.std.specs.Prelude.{◌==◌}
use Rattle.std.proofs.lemmas.Bool.{cases_eq, eq-eqb, ne_eqb}
use Rattle.demi_pdpix.specs.Owing.{IsDue, Owes, due_at, one_more_at, same_kind}
use Rattle.demi_pdpix.specs.Seen.{IsOf}
use Rattle.demi_pdpix.specs.declared.kind.PortKind.{PortKind}
use Rattle.demi_pdpix.specs.declared.kind.PortKind.TheVariants.{Memory, Service, Journal, Receiving, Sending, Nowhere}
use Rattle.demi_port.specs.declared.redeem.Redeem.{Redeem}
use Rattle.demi_port.specs.declared.redeem.Redeem.TheVariants.{NotYet, Ready, Spent, Unknown}
use Rattle.demi_served.specs.Alone.{AsksAll}
use Rattle.demi_link.specs.Events.{settled}
use Rattle.demi_link.specs.Sights.{Due, nothing_due}
use Rattle.demi_context.specs.ContextLedgers.{LedgerValue, due_of, no_ledger, noted_for}
use Rattle.demi_context.specs.ContextPorts.{Caller, OwesLess, OwesMore, OwesSame, Whole, more_at}
use Rattle.demi_context.specs.ContextSights.{IsSound, due_at_ports, sum_below, worker_at}
use Rattle.demi_context.proofs.ContextAsks.{asks_first, asks_same}
use Rattle.demi_context.proofs.ContextOwing.{along, none_more}
use Rattle.demi_context.proofs.ContextSubmits.{as_many}

-- What is noted for a link.
pub noted_here : {A : Type 0} (none : A) (xs : List (ℕ × A)) (link : ℕ) (x : A) → noted_for none ((link, x) ∷ xs) link ≡ x
noted_here none xs link x = ap (λ (b : Bool). cond b x (noted_for none xs link)) (eq-eqb link link refl)

pub noted_else : {A : Type 0} (none : A) (xs : List (ℕ × A)) (link k : ℕ) (x : A) → link ≢ k → noted_for none ((link, x) ∷ xs) k ≡ noted_for none xs k
noted_else none xs link k x other = ap (λ (b : Bool). cond b x (noted_for none xs k)) (ne_eqb link k other)

-- Sums.
sum_same : (n : ℕ) (f g : ℕ → ℕ) → ((k : ℕ) → f k ≡ g k) → sum_below n f ≡ sum_below n g
sum_same zero f g same = refl
sum_same (suc n) f g same = let a = same n in let b = sum_same n f g same in omega (arith, a, b)

sum_low : (n : ℕ) (f g : ℕ → ℕ) → ((k : ℕ) → k < n → g k ≡ f k) → sum_below n g ≡ sum_below n f
sum_low zero f g same = refl
sum_low (suc n) f g same = let a = same n (omega arith) in let b = sum_low n f g (λ k low. same k (omega (arith, low))) in omega (arith, a, b)

sum_but : (n link : ℕ) (f g : ℕ → ℕ) → link < n → ((k : ℕ) → link ≢ k → g k ≡ f k) → sum_below n g + f link ≡ sum_below n f + g link
sum_but zero link f g low others = absurd (omega (arith, low))
sum_but (suc n) link f g low others = elim (cases_eq link n) [
  | inl same ↦ (
      let rest = sum_low n f g (λ k small. others k (λ e. omega (arith, e, same, small))) in
      let a : g link ≡ g n = ap g same in let b : f link ≡ f n = ap f same in omega (arith, rest, a, b))
  | inr other ↦ (
      let small : link < n = omega (arith, low, other) in
      let rest = sum_but n link f g small others in let a = others n other in omega (arith, rest, a))
]

-- What is due once this was noted for a link.
module _ (links link : ℕ) (l m : LedgerValue) (x : Due) (e : m.dues ≡ (link, x) ∷ l.dues) where
  here : due_of m link ≡ x
  here = ap (λ (d : List (ℕ × Due)). noted_for nothing_due d link) e ∙ noted_here nothing_due l.dues link x

  pub due_else : (k : ℕ) → link ≢ k → due_of m k ≡ due_of l k
  due_else k other = ap (λ (d : List (ℕ × Due)). noted_for nothing_due d k) e ∙ noted_else nothing_due l.dues link k x other

  stays : (g : Due → ℕ) → g x ≡ g (due_of l link) → (k : ℕ) → g (due_of m k) ≡ g (due_of l k)
  stays g same k = elim (cases_eq link k) [
    | inl is ↦ subst (λ (j : ℕ). g (due_of m j) ≡ g (due_of l j)) is (ap g here ∙ same)
    | inr other ↦ ap g (due_else k other)
  ]

  grows : (g : Due → ℕ) → g x ≡ g (due_of l link) + 1 → (k : ℕ) → cond (link == k) (g (due_of l k) + 1) (g (due_of l k)) ≡ g (due_of m k)
  grows g more k = elim (cases_eq link k) [
    | inl is ↦ subst (λ (j : ℕ). cond (link == j) (g (due_of l j) + 1) (g (due_of l j)) ≡ g (due_of m j)) is
        (ap (λ (b : Bool). cond b (g (due_of l link) + 1) (g (due_of l link))) (eq-eqb link link refl) ∙ sym more ∙ sym (ap g here))
    | inr other ↦ ap (λ (b : Bool). cond b (g (due_of l k) + 1) (g (due_of l k))) (ne_eqb link k other) ∙ sym (ap g (due_else k other))
  ]

  falls : (s : ℕ) (g : Due → ℕ) → g x + s ≡ g (due_of l link) → (k : ℕ) → g (due_of l k) ≡ cond (link == k) (g (due_of m k) + s) (g (due_of m k))
  falls s g less k = elim (cases_eq link k) [
    | inl is ↦ subst (λ (j : ℕ). g (due_of l j) ≡ cond (link == j) (g (due_of m j) + s) (g (due_of m j))) is
        (sym less ∙ ap (λ (n : ℕ). n + s) (sym (ap g here)) ∙ sym (ap (λ (b : Bool). cond b (g (due_of m link) + s) (g (due_of m link))) (eq-eqb link link refl)))
    | inr other ↦ sym (ap g (due_else k other)) ∙ sym (ap (λ (b : Bool). cond b (g (due_of m k) + s) (g (due_of m k))) (ne_eqb link k other))
  ]

  -- at the receiving port
  pub rx_more : x.store ≡ (due_of l link).store → x.tx ≡ (due_of l link).tx → x.rx ≡ (due_of l link).rx + 1 → (kind : PortKind) → one_more_at (Receiving link) (due_at_ports links l) kind ≡ due_at_ports links m kind
  rx_more a b c Memory = refl
  rx_more a b c Service = sum_same links (λ k. (due_of l k).store) (λ k. (due_of m k).store) (λ k. sym (stays (λ (d : Due). d.store) a k))
  rx_more a b c Journal = refl
  rx_more a b c (Receiving k) = grows (λ (d : Due). d.rx) c k
  rx_more a b c (Sending k) = sym (stays (λ (d : Due). d.tx) b k)
  rx_more a b c Nowhere = refl

  pub rx_fewer : (s : ℕ) → x.store ≡ (due_of l link).store → x.tx ≡ (due_of l link).tx → x.rx + s ≡ (due_of l link).rx → (kind : PortKind) → due_at_ports links l kind ≡ more_at (Receiving link) s (due_at_ports links m) kind
  rx_fewer s a b c Memory = refl
  rx_fewer s a b c Service = sum_same links (λ k. (due_of l k).store) (λ k. (due_of m k).store) (λ k. sym (stays (λ (d : Due). d.store) a k))
  rx_fewer s a b c Journal = refl
  rx_fewer s a b c (Receiving k) = falls s (λ (d : Due). d.rx) c k
  rx_fewer s a b c (Sending k) = sym (stays (λ (d : Due). d.tx) b k)
  rx_fewer s a b c Nowhere = refl

  -- at the sending port
  pub tx_more : x.store ≡ (due_of l link).store → x.rx ≡ (due_of l link).rx → x.tx ≡ (due_of l link).tx + 1 → (kind : PortKind) → one_more_at (Sending link) (due_at_ports links l) kind ≡ due_at_ports links m kind
  tx_more a b c Memory = refl
  tx_more a b c Service = sum_same links (λ k. (due_of l k).store) (λ k. (due_of m k).store) (λ k. sym (stays (λ (d : Due). d.store) a k))
  tx_more a b c Journal = refl
  tx_more a b c (Receiving k) = sym (stays (λ (d : Due). d.rx) b k)
  tx_more a b c (Sending k) = grows (λ (d : Due). d.tx) c k
  tx_more a b c Nowhere = refl

  pub tx_fewer : (s : ℕ) → x.store ≡ (due_of l link).store → x.rx ≡ (due_of l link).rx → x.tx + s ≡ (due_of l link).tx → (kind : PortKind) → due_at_ports links l kind ≡ more_at (Sending link) s (due_at_ports links m) kind
  tx_fewer s a b c Memory = refl
  tx_fewer s a b c Service = sum_same links (λ k. (due_of l k).store) (λ k. (due_of m k).store) (λ k. sym (stays (λ (d : Due). d.store) a k))
  tx_fewer s a b c Journal = refl
  tx_fewer s a b c (Receiving k) = sym (stays (λ (d : Due). d.rx) b k)
  tx_fewer s a b c (Sending k) = falls s (λ (d : Due). d.tx) c k
  tx_fewer s a b c Nowhere = refl

  -- at the store's port
  store_sum : link < links → sum_below links (λ k. (due_of m k).store) + (due_of l link).store ≡ sum_below links (λ k. (due_of l k).store) + x.store
  store_sum low = sum_but links link (λ k. (due_of l k).store) (λ k. (due_of m k).store) low (λ k other. ap (λ (d : Due). d.store) (due_else k other)) ∙ ap (λ (d : Due). sum_below links (λ k. (due_of l k).store) + d.store) here

  pub store_more : link < links → x.rx ≡ (due_of l link).rx → x.tx ≡ (due_of l link).tx → x.store ≡ (due_of l link).store + 1 → (kind : PortKind) → one_more_at Service (due_at_ports links l) kind ≡ due_at_ports links m kind
  store_more low a b c Memory = refl
  store_more low a b c Service = let s = store_sum low in omega (arith, s, c)
  store_more low a b c Journal = refl
  store_more low a b c (Receiving k) = sym (stays (λ (d : Due). d.rx) a k)
  store_more low a b c (Sending k) = sym (stays (λ (d : Due). d.tx) b k)
  store_more low a b c Nowhere = refl

  pub store_fewer : (s : ℕ) → link < links → x.rx ≡ (due_of l link).rx → x.tx ≡ (due_of l link).tx → x.store + s ≡ (due_of l link).store → (kind : PortKind) → due_at_ports links l kind ≡ more_at Service s (due_at_ports links m) kind
  store_fewer s low a b c Memory = refl
  store_fewer s low a b c Service = let h = store_sum low in omega (arith, h, c)
  store_fewer s low a b c Journal = refl
  store_fewer s low a b c (Receiving k) = sym (stays (λ (d : Due). d.rx) a k)
  store_fewer s low a b c (Sending k) = sym (stays (λ (d : Due). d.tx) b k)
  store_fewer s low a b c Nowhere = refl

  -- nothing changed
  pub as_due : x ≡ due_of l link → (kind : PortKind) → due_at_ports links l kind ≡ due_at_ports links m kind
  as_due same Memory = refl
  as_due same Service = sum_same links (λ k. (due_of l k).store) (λ k. (due_of m k).store) (λ k. sym (stays (λ (d : Due). d.store) (ap (λ (d : Due). d.store) same) k))
  as_due same Journal = refl
  as_due same (Receiving k) = sym (stays (λ (d : Due). d.rx) (ap (λ (d : Due). d.rx) same) k)
  as_due same (Sending k) = sym (stays (λ (d : Due). d.tx) (ap (λ (d : Due). d.tx) same) k)
  as_due same Nowhere = refl

  pub none_fewer : (at : PortKind) (s : ℕ) → s ≡ 0 → x ≡ due_of l link → (kind : PortKind) → due_at_ports links l kind ≡ more_at at s (due_at_ports links m) kind
  none_fewer at s none same kind = as_due same kind ∙ sym (none_more (same_kind at kind) (due_at_ports links m kind)) ∙ ap (λ (n : ℕ). more_at at n (due_at_ports links m) kind) (sym none)

-- A context stays sound.
module _ (d : Whole) (c e : Caller) (number links drawn : ℕ) (l m : LedgerValue) (sound : IsSound d c number links drawn l) (of : IsOf d e) where
  pub sound_same : OwesSame c e → e.service.submitted ≡ c.service.submitted → m.draws ≡ l.draws → ((kind : PortKind) → due_at_ports links l kind ≡ due_at_ports links m kind) → IsSound d e number links drawn m
  sound_same owes unasked draws dues = record {
    of = of;
    count = sound.count;
    numbers = ap length draws ∙ sound.numbers;
    due = along number (due_at_ports links l) (due_at_ports links m) e dues (owes number (due_at_ports links l) sound.due);
    asks = asks_same c e l m unasked draws sound.asks;
  }

  pub sound_more : (kind : PortKind) (now : ℕ) → OwesMore kind c e → AsksAll (worker_at e m) → length m.draws ≡ now → ((k : PortKind) → one_more_at kind (due_at_ports links l) k ≡ due_at_ports links m k) → IsSound d e number links now m
  sound_more kind now owes asks draws dues = record {
    of = of;
    count = sound.count;
    numbers = draws;
    due = along number (one_more_at kind (due_at_ports links l)) (due_at_ports links m) e dues (owes number (due_at_ports links l) sound.due);
    asks = asks;
  }

  pub sound_less : (kind : PortKind) (s : ℕ) → OwesLess kind s c e → e.service.submitted ≡ c.service.submitted → m.draws ≡ l.draws → ((k : PortKind) → due_at_ports links l k ≡ more_at kind s (due_at_ports links m) k) → IsSound d e number links drawn m
  sound_less kind s owes unasked draws dues = record {
    of = of;
    count = sound.count;
    numbers = ap length draws ∙ sound.numbers;
    due = owes number (due_at_ports links m) (along number (due_at_ports links l) (more_at kind s (due_at_ports links m)) c dues sound.due);
    asks = asks_same c e l m unasked draws sound.asks;
  }

-- with the same tokens due
pub same_dues : (links : ℕ) (l m : LedgerValue) → m.dues ≡ l.dues → (kind : PortKind) → due_at_ports links l kind ≡ due_at_ports links m kind
same_dues links l m same Memory = refl
same_dues links l m same Service = ap (λ (d : List (ℕ × Due)). sum_below links (λ k. (noted_for nothing_due d k).store)) (sym same)
same_dues links l m same Journal = refl
same_dues links l m same (Receiving k) = ap (λ (d : List (ℕ × Due)). (noted_for nothing_due d k).rx) (sym same)
same_dues links l m same (Sending k) = ap (λ (d : List (ℕ × Due)). (noted_for nothing_due d k).tx) (sym same)
same_dues links l m same Nowhere = refl

sum_none : (n : ℕ) → sum_below n (λ _. 0) ≡ 0
sum_none zero = refl
sum_none (suc n) = let e = sum_none n in omega (arith, e)

-- nothing is due at first
none_due_first : (links : ℕ) (d : Whole) (kind : PortKind) → due_at d [] kind ≡ due_at_ports links no_ledger kind
none_due_first links d Memory = refl
none_due_first links d Service = sym (sum_none links)
none_due_first links d Journal = refl
none_due_first links d (Receiving k) = refl
none_due_first links d (Sending k) = refl
none_due_first links d Nowhere = refl

pub sound_first : (d : Whole) (c : Caller) (number links : ℕ) (l : LedgerValue) → l ≡ no_ledger → (length d.rx ≡ links) × (length d.tx ≡ links) × (links ≤ 16) → Owes d number [] c → c.service.submitted ≡ [] → IsSound d c number links 0 l
sound_first d c number links l is count owes new = subst (IsSound d c number links 0) (sym is) (record {
  of = owes.0;
  count = count;
  numbers = refl;
  due = along number (due_at d []) (due_at_ports links no_ledger) c (none_due_first links d) owes.1;
  asks = asks_first c no_ledger new refl;
})

-- and where nothing is due at the end, nothing is outstanding
pub owes_nothing : (d : Whole) (c : Caller) (number links drawn : ℕ) (l : LedgerValue) → IsSound d c number links drawn l → ((link : ℕ) → link < length d.rx → due_of l link ≡ nothing_due) → Owes d number [] c
owes_nothing d c number links drawn l sound none = (
  sound.of,
  (
    subst (λ (n : ℕ). IsDue number n c.memory) refl sound.due.0,
    subst (λ (n : ℕ). IsDue number n c.service) store_none sound.due.1,
    sound.due.2,
    (λ k p low. subst (λ (n : ℕ). IsDue number n (get_or c.rx k p)) (ap (λ (x : Due). x.rx) (none k (subst (λ (n : ℕ). k < n) (as_many c.rx d.rx sound.of.rx) low))) (sound.due.3 k p low)),
    (λ k p low. subst (λ (n : ℕ). IsDue number n (get_or c.tx k p)) (ap (λ (x : Due). x.tx) (none k (subst (λ (n : ℕ). k < n) (as_many c.tx d.tx sound.of.tx ∙ sound.count.1 ∙ sym sound.count.0) low))) (sound.due.4 k p low)),
  ),
)
  where
    store_none : sum_below links (λ k. (due_of l k).store) ≡ 0
    store_none = sum_low links (λ _. 0) (λ k. (due_of l k).store) (λ k low. ap (λ (x : Due). x.store) (none k (subst (λ (n : ℕ). k < n) (sym sound.count.0) low))) ∙ sum_none links

-- a try redeems at most one token
pub settled_few : {L P O S T B : Type 0} (r : Redeem L P O S T B) → settled r ≤ 1
settled_few (Ready place outcome) = omega arith
settled_few NotYet = omega arith
settled_few Spent = omega arith
settled_few Unknown = omega arith
