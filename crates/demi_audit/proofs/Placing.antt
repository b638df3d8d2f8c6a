-- Places in a table by worker and sequence number.
use Rattle.std.proofs.Common.{◌≡◌, ℕ, zero, suc, ◌+◌, ◌≤◌, ◌<◌, Bool, true, false, cond, List, length, take, get_or, set, ap, sym, ◌∙◌, arith, inl, inr, ◌⊎◌}
use Rattle.std.specs.Prelude.{◌==◌, sum}
use Rattle.std.proofs.lemmas.Bool.{cases_eq, cases_order}
use Rattle.std.proofs.lemmas.Bool.Decides.{nat_tests}
use Rattle.std.proofs.lemmas.List.{get_or-set_same, get_or-set_other, length-set}
use Rattle.std.proofs.lemmas.List.Sums.{sum_by_more, sum_by-set, sum_by-take-le}
use Rattle.demi_audit.specs.declared.heard.HeardReply.{HeardReply}
use Rattle.demi_audit.specs.declared.places.Places.{Places}
use Rattle.demi_audit.specs.Turns.{IsPlacing, IsTable, count_of, HasPlace, place_at}

-- one where a test holds
abbrev one_if : Bool → ℕ
one_if b = cond b 1 0

-- what was counted, and one reply more
pub record Counted (counts : List ℕ) (heard : List HeardReply) (n : ℕ) : Type 0 where
  pub workers : length counts ≡ 256
  pub each : (w : ℕ) → w < 256 → get_or counts w 0 ≡ count_of w (take n heard)
  pub total : sum counts ≡ n

pub counted_more : (counts : List ℕ) (heard : List HeardReply) (n k : ℕ) (d : HeardReply) → n < length heard → Counted counts heard n → (get_or heard n d).worker < 256
    → k ≡ get_or counts (get_or heard n d).worker 0 → Counted (set counts (get_or heard n d).worker (k + 1)) heard (n + 1)
counted_more counts heard n k d less c small is =
    let w : ℕ = (get_or heard n d).worker in
    record {
      workers = length-set counts w (k + 1) ∙ c.workers;
      each = λ v fits. each v fits (cases_eq v w);
      total = let e = sum_by-set (λ (x : ℕ). x) counts w (k + 1) 0 (omega (arith, c.workers)) in omega (arith, c.total);
    }
  where
    step : (v : ℕ) → count_of v (take (n + 1) heard) ≡ count_of v (take n heard) + one_if ((get_or heard n d).worker == v)
    step v = sum_by_more (λ (x : HeardReply). one_if (x.worker == v)) heard n d less

    each : (v : ℕ) → v < 256 → (v ≡ (get_or heard n d).worker) ⊎ (v ≡ (get_or heard n d).worker → ⊥) → get_or (set counts (get_or heard n d).worker (k + 1)) v 0 ≡ count_of v (take (n + 1) heard)
    each v fits (inl same) =
        let t : ((get_or heard n d).worker == v) ≡ true = grind (arith, nat_tests) in
        let e : one_if ((get_or heard n d).worker == v) ≡ 1 = ap one_if t in
        let a : get_or (set counts (get_or heard n d).worker (k + 1)) v 0 ≡ k + 1 =
        ap (λ (j : ℕ). get_or (set counts (get_or heard n d).worker (k + 1)) j 0) same ∙ get_or-set_same counts (get_or heard n d).worker (k + 1) 0 (omega (arith, c.workers)) in
        let b : get_or counts (get_or heard n d).worker 0 ≡ get_or counts v 0 = ap (λ (j : ℕ). get_or counts j 0) (sym same) in
        omega (arith, a, b, is, c.each v fits, step v, e)
    each v fits (inr other) =
        let t : ((get_or heard n d).worker == v) ≡ false = grind (arith, nat_tests) in
        let e : one_if ((get_or heard n d).worker == v) ≡ 0 = ap one_if t in
        let a = get_or-set_other counts (get_or heard n d).worker v (k + 1) 0 other in
        omega (arith, a, c.each v fits, step v, e)

-- the places of one worker stand behind those of each before it
below_next : (counts : List ℕ) (w v : ℕ) → w < v → v ≤ length counts → w + sum (take w counts) + get_or counts w 0 < v + sum (take v counts)
below_next counts w zero less within = absurd (omega arith)
below_next counts w (suc v) less within = go (λ (k : w < v). below_next counts w v k (omega arith)) (cases_eq w v)
  where
    step : sum (take (v + 1) counts) ≡ sum (take v counts) + get_or counts v 0
    step = sum_by_more (λ (x : ℕ). x) counts v 0 (omega arith)

    next : sum (take (suc v) counts) ≡ sum (take (v + 1) counts)
    next = let e : suc v ≡ v + 1 = omega arith in ap (λ (n : ℕ). sum (take n counts)) e

    go : (w < v → w + sum (take w counts) + get_or counts w 0 < v + sum (take v counts)) → (w ≡ v) ⊎ (w ≡ v → ⊥) → w + sum (take w counts) + get_or counts w 0 < suc v + sum (take (suc v) counts)
    go on (inl same) = let a : sum (take w counts) ≡ sum (take v counts) = ap (λ (n : ℕ). sum (take n counts)) same in let b : get_or counts w 0 ≡ get_or counts v 0 = ap (λ (n : ℕ). get_or counts n 0) same in omega (arith, a, b, step, next)
    go on (inr other) = let a = on (omega arith) in omega (arith, a, step, next)

pub place_before : (p : Places) (heard : List HeardReply) → IsPlacing p heard → (w v s t : ℕ) → HasPlace p w s → HasPlace p v t → w < v → place_at p w s < place_at p v t
place_before p heard h w v s t there that less =
    let a = below_next p.counts.items w v less (omega (arith, h.workers, that.0)) in
    omega (arith, a, h.starts w (omega (arith, h.starts_count, there.0)), h.starts v (omega (arith, h.starts_count, that.0)), there.1)

-- two workers or two numbers have two places
pub one_place : (p : Places) (heard : List HeardReply) → IsPlacing p heard → (w v s t : ℕ) → HasPlace p w s → HasPlace p v t → place_at p w s ≡ place_at p v t → (w ≡ v) × (s ≡ t)
one_place p heard h w v s t there that is = go (cases_order w v)
  where
    go : (w ≡ v) ⊎ ((w < v) ⊎ (v < w)) → (w ≡ v) × (s ≡ t)
    go (inl same) = (same, (let e : get_or p.starts.items w 0 ≡ get_or p.starts.items v 0 = ap (λ (n : ℕ). get_or p.starts.items n 0) same in omega (arith, e, is)))
    go (inr (inl less)) = absurd (let k = place_before p heard h w v s t there that less in omega (arith, k, is))
    go (inr (inr more)) = absurd (let k = place_before p heard h v w t s that there more in omega (arith, k, is))

-- where a worker's places end
pub places_end : (p : Places) (heard : List HeardReply) → IsPlacing p heard → (w : ℕ) → w < 256 → get_or p.starts.items w 0 + (get_or p.counts.items w 0 + 1) ≤ length heard + 256
places_end p heard h w small =
    let e : sum (take (w + 1) p.counts.items) ≡ sum (take w p.counts.items) + get_or p.counts.items w 0 = sum_by_more (λ (x : ℕ). x) p.counts.items w 0 (omega (arith, h.workers)) in
    let m : sum (take (w + 1) p.counts.items) ≤ sum p.counts.items = sum_by-take-le (λ (x : ℕ). x) p.counts.items (w + 1) in
    omega (arith, e, m, h.total, h.starts w (omega (arith, h.starts_count)))

pub place_within : (p : Places) (heard : List HeardReply) → IsPlacing p heard → (w s : ℕ) → HasPlace p w s → place_at p w s < length heard + 256
place_within p heard h w s there = let k = places_end p heard h w there.0 in omega (arith, k, there.1)

-- a table after a write at one place, where what it has to say has changed there alone
pub written : {X : Type 0} (p : Places) (heard : List HeardReply) (f g : ℕ → ℕ → X) (table : List X) (w s : ℕ) (x : X) → IsPlacing p heard → HasPlace p w s → place_at p w s < length table
    → IsTable p f table → x ≡ g w s → ((v t : ℕ) → ((v ≡ w) × (t ≡ s) → ⊥) → f v t ≡ g v t) → IsTable p g (set table (place_at p w s) x)
written {X} p heard f g table w s x h there within tabled here others v t d that = go (cases_eq (place_at p v t) (place_at p w s))
  where
    go : (place_at p v t ≡ place_at p w s) ⊎ (place_at p v t ≡ place_at p w s → ⊥) → get_or (set table (place_at p w s) x) (place_at p v t) d ≡ g v t
    go (inl same) =
        let k = one_place p heard h v w t s that there same in
        ap (λ (j : ℕ). get_or (set table (place_at p w s) x) j d) same ∙ get_or-set_same table (place_at p w s) x d within ∙ here
        ∙ ap (λ (j : ℕ). g j s) (sym k.0) ∙ ap (g v) (sym k.1)
    go (inr other) =
        get_or-set_other table (place_at p w s) (place_at p v t) x d other ∙ tabled v t d that
        ∙ others v t (λ k. other (ap (λ (j : ℕ). place_at p j t) k.0 ∙ ap (place_at p w) k.1))
