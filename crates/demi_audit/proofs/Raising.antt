-- The greatest version by worker and number, and below a number.
use Rattle.std.proofs.Common.{◌≡◌, ◌≢◌, ℕ, zero, suc, ◌+◌, ◌≤◌, ◌<◌, Bool, true, false, cond, List, ◌++◌, length, take, drop, get_or, set, refl, ap, sym, ◌∙◌, subst, arith, inl, inr, ◌⊎◌}
use Rattle.std.specs.Prelude.{◌==◌, max, ◌&&◌}
use Rattle.std.proofs.lemmas.Bool.{cases_eq}
use Rattle.std.proofs.lemmas.Bool.Decides.{nat_tests}
use Rattle.std.proofs.lemmas.List.{get_or-set_same, get_or-set_other, take_more, take_all, drop_all, append-nil}
use Rattle.std.proofs.lemmas.List.Recursion.{max_push}
use Rattle.demi_audit.specs.declared.heard.HeardReply.{HeardReply}
use Rattle.demi_audit.specs.declared.places.Places.{Places}
use Rattle.demi_audit.specs.Hearing.{height}
use Rattle.demi_audit.specs.Turns.{IsPlacing, IsTable, greatest_at, height_at, is_number, HasPlace, most_before, place_at}
use Rattle.demi_audit.proofs.Placing.{place_before, written}

-- the greatest of one more
pub greatest_more : (w s : ℕ) (heard : List HeardReply) (n : ℕ) (d : HeardReply) → n < length heard
    → greatest_at w s (take (n + 1) heard) ≡ max (greatest_at w s (take n heard)) (height_at w s (get_or heard n d))
greatest_more w s heard n d less =
    ap (greatest_at w s) (take_more heard n d less)
    ∙ max_push (greatest_at w s) (height_at w s) refl (λ _ _. refl) (take n heard) (get_or heard n d)

-- another worker or number
pub not_number : (w s : ℕ) (r : HeardReply) → ((w ≡ r.worker) × (s ≡ r.sequence) → ⊥) → is_number w s r ≡ false
not_number w s r other = go (cases_eq w r.worker) (cases_eq s r.sequence)
  where
    go : (w ≡ r.worker) ⊎ (w ≡ r.worker → ⊥) → (s ≡ r.sequence) ⊎ (s ≡ r.sequence → ⊥) → is_number w s r ≡ false
    go (inl a) (inl b) = absurd (other (a, b))
    go (inr a) b = let t : (r.worker == w) ≡ false = grind (arith, nat_tests) in ap (λ (x : Bool). x && (r.sequence == s)) t
    go (inl a) (inr b) = let t : (r.sequence == s) ≡ false = grind (arith, nat_tests) in let u : (r.worker == w) ≡ true = grind (arith, nat_tests) in (λ i. u i && t i)

pub its_number : (r : HeardReply) → is_number r.worker r.sequence r ≡ true
its_number r = let t : (r.sequence == r.sequence) ≡ true = grind (arith, nat_tests) in let u : (r.worker == r.worker) ≡ true = grind (arith, nat_tests) in (λ i. u i && t i)

pub stays_below : (w s : ℕ) (heard : List HeardReply) (n : ℕ) (d : HeardReply) → n < length heard → ((w ≡ (get_or heard n d).worker) × (s ≡ (get_or heard n d).sequence) → ⊥)
    → greatest_at w s (take n heard) ≡ greatest_at w s (take (n + 1) heard)
stays_below w s heard n d less other =
    let r : HeardReply = get_or heard n d in
    let e : height_at w s r ≡ 0 = ap (λ (b : Bool). cond b (height r.kind r.version) 0) (not_number w s r other) in
    omega (arith, greatest_more w s heard n d less, e)

-- a table of the greatest versions, and one reply more that has a place
pub table_more : (p : Places) (heard : List HeardReply) (table : List ℕ) (n at old : ℕ) (d : HeardReply) → IsPlacing p heard → n < length heard → length table ≡ length heard + 256 → at < length heard + 256
    → at ≡ place_at p (get_or heard n d).worker (get_or heard n d).sequence → HasPlace p (get_or heard n d).worker (get_or heard n d).sequence → old ≡ get_or table at 0
    → IsTable p (λ w s. greatest_at w s (take n heard)) table
    → IsTable p (λ w s. greatest_at w s (take (n + 1) heard)) (set table at (max old (height (get_or heard n d).kind (get_or heard n d).version)))
table_more p heard table n at old d h less long within is there was tabled =
    let r : HeardReply = get_or heard n d in
    let x : ℕ = max old (height r.kind r.version) in
    let e : height_at r.worker r.sequence r ≡ height r.kind r.version = ap (λ (b : Bool). cond b (height r.kind r.version) 0) (its_number r) in
    let k : get_or table at 0 ≡ greatest_at r.worker r.sequence (take n heard) = ap (λ (j : ℕ). get_or table j 0) is ∙ tabled r.worker r.sequence 0 there in
    let here : x ≡ greatest_at r.worker r.sequence (take (n + 1) heard) = omega (arith, e, k, was, greatest_more r.worker r.sequence heard n d less) in
    subst (λ (j : ℕ). IsTable p (λ w s. greatest_at w s (take (n + 1) heard)) (set table j x)) (sym is)
    (written p heard (λ w s. greatest_at w s (take n heard)) (λ w s. greatest_at w s (take (n + 1) heard)) table r.worker r.sequence x h there (omega (arith, is, within, long)) tabled here
    (λ v t other. stays_below v t heard n d less other))

-- and one that has none
pub table_same : (p : Places) (heard : List HeardReply) (table : List ℕ) (n : ℕ) (d : HeardReply) → n < length heard → get_or p.counts.items (get_or heard n d).worker 0 < (get_or heard n d).sequence
    → IsTable p (λ w s. greatest_at w s (take n heard)) table → IsTable p (λ w s. greatest_at w s (take (n + 1) heard)) table
table_same p heard table n d less none tabled v t e that =
    tabled v t e that ∙ stays_below v t heard n d less (λ k. let c : get_or p.counts.items v 0 ≡ get_or p.counts.items (get_or heard n d).worker 0 = ap (λ (j : ℕ). get_or p.counts.items j 0) k.0 in omega (arith, c, k.1, that.1, none))

pub most_same : (f g : ℕ → ℕ) (n : ℕ) → ((j : ℕ) → j < n → f j ≡ g j) → most_before f n ≡ most_before g n
most_same f g zero same = refl
most_same f g (suc n) same = (λ i. max (most_same f g n (λ j less. same j (omega arith)) i) (same n (omega arith) i))

-- what was raised, up to a place
pub record Raised (old new : List ℕ) (from k most : ℕ) : Type 0 where
  pub most_is : most ≡ most_before (λ j. get_or old (from + j) 0) k
  pub done : (j d : ℕ) → j < k → get_or new (from + j) d ≡ most_before (λ i. get_or old (from + i) 0) j
  pub others : (j d : ℕ) → (j < from) ⊎ (from + k ≤ j) → get_or new j d ≡ get_or old j d

pub raised_more : (old new : List ℕ) (from k most : ℕ) → Raised old new from k most → from + k < length new → Raised old (set new (from + k) most) from (k + 1) (max most (get_or new (from + k) 0))
raised_more old new from k most r within =
    record {
      most_is = let e = r.others (from + k) 0 (inr (omega arith)) in let s : most_before (λ j. get_or old (from + j) 0) (k + 1) ≡ max (most_before (λ j. get_or old (from + j) 0) k) (get_or old (from + k) 0) = succ (λ j. get_or old (from + j) 0) k in
          omega (arith, e, s, r.most_is);
      done = λ j d less. done j d less (cases_eq j k);
      others = λ j d out. get_or-set_other new (from + k) j most d (apart j out) ∙ r.others j d (wider j out);
    }
  where
    succ : (f : ℕ → ℕ) (n : ℕ) → most_before f (n + 1) ≡ max (most_before f n) (f n)
    succ f n = let e : n + 1 ≡ suc n = omega arith in ap (most_before f) e

    done : (j d : ℕ) → j < k + 1 → (j ≡ k) ⊎ (j ≡ k → ⊥) → get_or (set new (from + k) most) (from + j) d ≡ most_before (λ i. get_or old (from + i) 0) j
    done j d less (inl same) =
        ap (λ (n : ℕ). get_or (set new (from + k) most) (from + n) d) same ∙ get_or-set_same new (from + k) most d within ∙ r.most_is ∙ ap (most_before (λ i. get_or old (from + i) 0)) (sym same)
    done j d less (inr other) = let ne : from + j ≢ from + k = omega arith in get_or-set_other new (from + k) (from + j) most d ne ∙ r.done j d (omega arith)

    apart : (j : ℕ) → (j < from) ⊎ (from + (k + 1) ≤ j) → j ≢ from + k
    apart j (inl a) = omega arith
    apart j (inr a) = omega arith

    wider : (j : ℕ) → (j < from) ⊎ (from + (k + 1) ≤ j) → (j < from) ⊎ (from + k ≤ j)
    wider j (inl a) = inl a
    wider j (inr a) = inr (omega arith)

-- the places of the workers before one are raised, and those of the others stand as they were
pub record RaisedBefore (p : Places) (f : ℕ → ℕ → ℕ) (table : List ℕ) (n : ℕ) : Type 0 where
  pub done : (w s d : ℕ) → HasPlace p w s → w < n → get_or table (place_at p w s) d ≡ most_before (f w) s
  pub rest : (w s d : ℕ) → HasPlace p w s → n ≤ w → get_or table (place_at p w s) d ≡ f w s

pub worker_more : (p : Places) (heard : List HeardReply) (f : ℕ → ℕ → ℕ) (old new : List ℕ) (n from count : ℕ) → IsPlacing p heard → n < 256 → from ≡ get_or p.starts.items n 0 → count ≡ get_or p.counts.items n 0 + 1
    → ((k d : ℕ) → k < count → get_or new (from + k) d ≡ most_before (λ j. get_or old (from + j) 0) k)
    → ((k d : ℕ) → (k < from) ⊎ (from + count ≤ k) → get_or new k d ≡ get_or old k d)
    → RaisedBefore p f old n → RaisedBefore p f new (n + 1)
worker_more p heard f old new n from count h small start size raised others r =
    record {
      done = λ w s d there less. done w s d there less (cases_eq w n);
      rest = λ w s d there more. others (place_at p w s) d (inr (behind w s there more)) ∙ r.rest w s d there (omega arith);
    }
  where
    behind : (w s : ℕ) → HasPlace p w s → n + 1 ≤ w → from + count ≤ place_at p w s
    behind w s there more = let k = place_before p heard h n w (get_or p.counts.items n 0) s (small, omega arith) there (omega arith) in omega (arith, k, start, size)

    done : (w s d : ℕ) → HasPlace p w s → w < n + 1 → (w ≡ n) ⊎ (w ≡ n → ⊥) → get_or new (place_at p w s) d ≡ most_before (f w) s
    done w s d there less (inl same) =
        let c : get_or p.counts.items w 0 ≡ get_or p.counts.items n 0 = ap (λ (j : ℕ). get_or p.counts.items j 0) same in
        let b : get_or p.starts.items w 0 ≡ get_or p.starts.items n 0 = ap (λ (j : ℕ). get_or p.starts.items j 0) same in
        let e : place_at p w s ≡ from + s = omega (arith, b, start) in
        ap (λ (j : ℕ). get_or new j d) e ∙ raised s d (omega (arith, c, size, there.1))
        ∙ most_same (λ j. get_or old (from + j) 0) (f w) s (λ j low.
        let a : from + j ≡ place_at p w j = omega (arith, b, start) in ap (λ (i : ℕ). get_or old i 0) a ∙ r.rest w j 0 (there.0, omega (arith, there.1)) (omega arith))
    done w s d there less (inr other) =
        let k = place_before p heard h w n s 0 there (small, omega arith) (omega arith) in
        others (place_at p w s) d (inl (omega (arith, k, start))) ∙ r.done w s d there (omega arith)

-- a list that was written whole
pub spliced : (new old : List ℕ) (n : ℕ) → length new ≡ n → n ≡ length old → take n (new ++ drop (length new) old) ≡ new
spliced new old n long same =
    ap (λ (l : List ℕ). take n (new ++ l)) (drop_all (length new) old (omega arith)) ∙ ap (take n) (append-nil new) ∙ take_all n new (omega arith)
