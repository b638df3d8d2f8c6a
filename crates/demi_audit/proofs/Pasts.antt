-- From a record back to those before it with its key.
use Rattle.std.proofs.Common.{◌≡◌, ℕ, zero, suc, ◌+◌, ◌≤◌, ◌<◌, Bool, true, false, cond, List, [], ◌∷◌, ◌++◌, length, take, get_or, Option, Some, None, refl, ap, sym, ◌∙◌, subst, arith, inl, inr, ◌⊎◌, length-append, Global}
use Rattle.std.specs.Prelude.{bytes_eq, unwrap_or}
use Rattle.std.specs.HashMap.{HashMap, get_by, UpdatesBy}
use Rattle.std.specs.declared.vec.Vec.{Vec}
use Rattle.std.proofs.lemmas.Bool.{cases_eq, cases_lt}
use Rattle.std.proofs.lemmas.Slice.Eq.{bytes_eq-Decides}
use Rattle.std.proofs.lemmas.List.{take_more, get_or_append_left, get_or_push, length_push}
use Rattle.demi_spec.specs.Record.{Record}
use Rattle.demi_spec.specs.Store as store
use Rattle.demi_spec.specs.Store.{unless_later}
use Rattle.demi_store.proofs.Keys.{updated}
use Rattle.demi_audit.specs.declared.past.BackStep.{BackStep}
use Rattle.demi_audit.specs.declared.past.Past.{Past}
use Rattle.demi_audit.specs.Past.{IsBack, IsLatest, PastOf, last_of, no_record, record_at}

-- the records before one more
pub record_stays : (rs : List Record) (r : Record) (n : ℕ) → n ≤ length rs → record_at (rs ++ r ∷ []) n ≡ record_at rs n
record_stays rs r n within = get_or_append_left (no_record ∷ rs) (r ∷ []) no_record n (omega arith)

pub record_new : (rs : List Record) (r : Record) → record_at (rs ++ r ∷ []) (length rs + 1) ≡ r
record_new rs r = get_or_push (no_record ∷ rs) r no_record (length rs + 1) (omega arith)

key_stays : (rs : List Record) (r : Record) (n : ℕ) → n ≤ length rs → (record_at (rs ++ r ∷ []) n).key ≡ (record_at rs n).key
key_stays rs r n within = ap (λ (x : Record). x.key) (record_stays rs r n within)

latest_stays : (rs : List Record) (r : Record) (key : List ℕ) (version n : ℕ) → version ≤ length rs → IsLatest rs key version n → IsLatest (rs ++ r ∷ []) key version n
latest_stays rs r key version n within l =
    record {
      within = l.within;
      has = λ some. key_stays rs r n (let k : n ≤ version = l.within in omega arith) ∙ l.has some;
      none = λ k low high same. l.none k low high (sym (key_stays rs r k (omega arith)) ∙ same);
    }

back_stays : (rs : List Record) (r : Record) (from n : ℕ) → from ≤ length rs → IsBack rs from n → IsBack (rs ++ r ∷ []) from n
back_stays rs r from n within b =
    record {
      within = b.within;
      same = λ some. key_stays rs r n (let k : n ≤ from = b.within in omega arith) ∙ b.same some ∙ sym (key_stays rs r from within);
    }

pub back_itself : (rs : List Record) (n : ℕ) → IsBack rs n n
back_itself rs n = record { within = omega arith; same = λ some. refl }

-- two steps back are one
pub back_on : (rs : List Record) (a b c : ℕ) → IsBack rs a b → IsBack rs b c → IsBack rs a c
back_on rs a b c x y =
    let p : b ≤ a = x.within in
    let q : c ≤ b = y.within in
    record { within = omega arith; same = λ some. y.same some ∙ x.same (omega arith) }

pub past_none : (p : Past) (s : BackStep) → p.steps.items ≡ s ∷ [] → s.jump ≡ 0 → ((key : List ℕ) → last_of p key ≡ 0) → PastOf p []
past_none p s is jump none =
    record {
      count = ap length is;
      previous = λ v d less. absurd (omega arith);
      jump = λ v d within. first v d within;
      shorter = λ v d some within. absurd (omega arith);
      last = λ key. let e = none key in record { within = omega (arith, e); has = λ some. absurd (omega (arith, e)); none = λ k low high same. absurd (omega arith) };
    }
  where
    first : (v : ℕ) (d : BackStep) → v ≤ 0 → IsBack [] v (get_or p.steps.items v d).jump
    first zero d within = let e : (get_or p.steps.items 0 d).jump ≡ 0 = ap (λ (l : List BackStep). (get_or l 0 d).jump) is ∙ jump in record { within = omega (arith, e); same = λ some. absurd (omega (arith, e)) }
    first (suc v) d within = absurd (omega arith)

unwrap_cond : (b : Bool) (v : ℕ) (o : Option ℕ) → unwrap_or (cond b (Some v) o) 0 ≡ cond b v (unwrap_or o 0)
unwrap_cond true v o = refl
unwrap_cond false v o = refl

-- what the keys lead to after one record more
pub last_more : {S : Type 0} (m n : HashMap (Vec ℕ Global) ℕ S) (key bs : List ℕ) (v : ℕ) → UpdatesBy (λ x y. bytes_eq x.items y.items) (λ k. bytes_eq bs k.items) m n (Some v)
    → unwrap_or (get_by (λ k. bytes_eq key k.items) n) 0 ≡ cond (bytes_eq bs key) v (unwrap_or (get_by (λ k. bytes_eq key k.items) m) 0)
last_more m n key bs v h = ap (λ (o : Option ℕ). unwrap_or o 0) (updated bs m n (Some v) h key) ∙ unwrap_cond (bytes_eq bs key) v (get_by (λ k. bytes_eq key k.items) m)

-- one record more
pub past_more : (p q : Past) (rs : List Record) (r : Record) (s : BackStep) → PastOf p rs → q.steps.items ≡ p.steps.items ++ s ∷ [] → s.previous ≡ last_of p r.key → IsBack rs s.previous s.jump
    → ((key : List ℕ) → last_of q key ≡ cond (bytes_eq r.key key) (length rs + 1) (last_of p key)) → PastOf q (rs ++ r ∷ [])
past_more p q rs r s h grown before jump lasts =
    record {
      count = omega (arith, ap length grown, length-append p.steps.items (s ∷ []), length_push rs r, h.count);
      previous = λ v d less. previous v d (cases_lt v (length rs)) (omega (arith, length_push rs r));
      jump = λ v d within. jumps v d (cases_lt (length rs) v) (omega (arith, length_push rs r));
      shorter = λ v d some within. shorter v d some (cases_lt (length rs) v) (omega (arith, length_push rs r));
      last = λ key. last key (bytes_eq r.key key) refl;
    }
  where
    at_old : (v : ℕ) (d : BackStep) → v ≤ length rs → get_or q.steps.items v d ≡ get_or p.steps.items v d
    at_old v d within = ap (λ (l : List BackStep). get_or l v d) grown ∙ get_or_append_left p.steps.items (s ∷ []) d v (omega (arith, h.count))

    at_new : (v : ℕ) (d : BackStep) → v ≡ length rs + 1 → get_or q.steps.items v d ≡ s
    at_new v d is = ap (λ (l : List BackStep). get_or l v d) grown ∙ get_or_push p.steps.items s d v (omega (arith, is, h.count))

    latest_before : IsLatest rs r.key (length rs) s.previous
    latest_before = subst (IsLatest rs r.key (length rs)) (sym before) (h.last r.key)

    from_new : IsBack (rs ++ r ∷ []) (length rs + 1) s.jump
    from_new =
        let a : s.jump ≤ s.previous = jump.within in
        let b : s.previous ≤ length rs = latest_before.within in
        record {
          within = omega arith;
          same = λ some. key_stays rs r s.jump (omega arith) ∙ jump.same some ∙ latest_before.has (omega arith) ∙ sym (ap (λ (x : Record). x.key) (record_new rs r));
        }

    previous : (v : ℕ) (d : BackStep) → (v < length rs) ⊎ (length rs ≤ v) → v ≤ length rs → IsLatest (rs ++ r ∷ []) (record_at (rs ++ r ∷ []) (v + 1)).key v (get_or q.steps.items (v + 1) d).previous
    previous v d (inl less) most =
        let e = at_old (v + 1) d (omega arith) in
        let k = key_stays rs r (v + 1) (omega arith) in
        subst (λ (x : BackStep). IsLatest (rs ++ r ∷ []) (record_at (rs ++ r ∷ []) (v + 1)).key v x.previous) (sym e)
        (subst (λ (x : List ℕ). IsLatest (rs ++ r ∷ []) x v (get_or p.steps.items (v + 1) d).previous) (sym k) (latest_stays rs r (record_at rs (v + 1)).key v (get_or p.steps.items (v + 1) d).previous most (h.previous v d less)))
    previous v d (inr more) most =
        let is : v ≡ length rs = omega arith in
        let e = at_new (v + 1) d (omega arith) in
        let k : (record_at (rs ++ r ∷ []) (v + 1)).key ≡ r.key = ap (λ (n : ℕ). (record_at (rs ++ r ∷ []) (n + 1)).key) is ∙ ap (λ (x : Record). x.key) (record_new rs r) in
        subst (λ (x : BackStep). IsLatest (rs ++ r ∷ []) (record_at (rs ++ r ∷ []) (v + 1)).key v x.previous) (sym e)
        (subst (λ (x : List ℕ). IsLatest (rs ++ r ∷ []) x v s.previous) (sym k)
        (subst (λ (n : ℕ). IsLatest (rs ++ r ∷ []) r.key n s.previous) (sym is) (latest_stays rs r r.key (length rs) s.previous (omega arith) latest_before)))

    jumps : (v : ℕ) (d : BackStep) → (length rs < v) ⊎ (v ≤ length rs) → v ≤ length rs + 1 → IsBack (rs ++ r ∷ []) v (get_or q.steps.items v d).jump
    jumps v d (inl more) most =
        let is : v ≡ length rs + 1 = omega arith in
        let e = at_new v d is in
        subst (λ (x : BackStep). IsBack (rs ++ r ∷ []) v x.jump) (sym e) (subst (λ (n : ℕ). IsBack (rs ++ r ∷ []) n s.jump) (sym is) from_new)
    jumps v d (inr less) most = subst (λ (x : BackStep). IsBack (rs ++ r ∷ []) v x.jump) (sym (at_old v d less)) (back_stays rs r v (get_or p.steps.items v d).jump less (h.jump v d less))

    shorter : (v : ℕ) (d : BackStep) → 0 < v → (length rs < v) ⊎ (v ≤ length rs) → v ≤ length rs + 1 → (get_or q.steps.items v d).jump < v
    shorter v d some (inl more) most =
        let e : (get_or q.steps.items v d).jump ≡ s.jump = ap (λ (x : BackStep). x.jump) (at_new v d (omega arith)) in
        let a : s.jump ≤ s.previous = jump.within in
        let b : s.previous ≤ length rs = latest_before.within in
        omega arith
    shorter v d some (inr less) most = let e : (get_or q.steps.items v d).jump ≡ (get_or p.steps.items v d).jump = ap (λ (x : BackStep). x.jump) (at_old v d less) in omega (arith, e, h.shorter v d some less)

    none_new : (key : List ℕ) → bytes_eq r.key key ≡ false → (k : ℕ) → (k ≡ length rs + 1) ⊎ (k ≡ length rs + 1 → ⊥) → last_of p key < k → k ≤ length rs + 1 → (record_at (rs ++ r ∷ []) k).key ≡ key → ⊥
    none_new key other k (inl is) less most at =
        let same : r.key ≡ key = sym (ap (λ (x : Record). x.key) (record_new rs r)) ∙ ap (λ (n : ℕ). (record_at (rs ++ r ∷ []) n).key) (sym is) ∙ at in
        let t : bytes_eq r.key key ≡ true = (bytes_eq-Decides r.key key).1 same in
        let bad : true ≡ false = sym t ∙ other in
        absurd (cc)
    none_new key other k (inr not) less most at = (h.last key).none k less (omega arith) (sym (key_stays rs r k (omega arith)) ∙ at)

    last : (key : List ℕ) (b : Bool) → bytes_eq r.key key ≡ b → IsLatest (rs ++ r ∷ []) key (length (rs ++ r ∷ [])) (last_of q key)
    last key true same =
        let is : r.key ≡ key = (bytes_eq-Decides r.key key).0 same in
        let e : last_of q key ≡ length rs + 1 = lasts key ∙ ap (λ (b : Bool). cond b (length rs + 1) (last_of p key)) same in
        record {
          within = omega (arith, e, length_push rs r);
          has = λ some. ap (λ (n : ℕ). (record_at (rs ++ r ∷ []) n).key) e ∙ ap (λ (x : Record). x.key) (record_new rs r) ∙ is;
          none = λ k low high at. absurd (omega (arith, e, length_push rs r));
        }
    last key false other =
        let e : last_of q key ≡ last_of p key = lasts key ∙ ap (λ (b : Bool). cond b (length rs + 1) (last_of p key)) other in
        let old = h.last key in
        let low : last_of p key ≤ length rs = old.within in
        record {
          within = omega (arith, e, length_push rs r);
          has = λ some. ap (λ (n : ℕ). (record_at (rs ++ r ∷ []) n).key) e ∙ key_stays rs r (last_of p key) low ∙ old.has (omega (arith, e));
          none = λ k less most at. none_new key other k (cases_eq k (length rs + 1)) (omega (arith, e)) (omega (arith, length_push rs r)) at;
        }

-- the value of the last record with a key
map_push : (rs : List Record) (r : Record) (key : List ℕ) → store.map (rs ++ r ∷ []) key ≡ cond (bytes_eq r.key key) (Some r.value) (store.map rs key)
map_push [] r key = refl
map_push (x ∷ rs) r key = ap (unless_later x key) (map_push rs r key) ∙ go (bytes_eq r.key key)
  where
    go : (b : Bool) → unless_later x key (cond b (Some r.value) (store.map rs key)) ≡ cond b (Some r.value) (unless_later x key (store.map rs key))
    go true = refl
    go false = refl

abbrev pub value_of : List Record → ℕ → Option (List ℕ)
value_of rs zero = None
value_of rs (suc n) = Some (record_at rs (suc n)).value

pub latest_is : (rs : List Record) (key : List ℕ) (version n : ℕ) → version ≤ length rs → IsLatest rs key version n → store.map (take version rs) key ≡ value_of rs n
latest_is rs key zero zero within l = refl
latest_is rs key zero (suc n) within l = absurd (let k : suc n ≤ 0 = l.within in omega arith)
latest_is rs key (suc v) n within l = go (cases_eq n (suc v)) (λ (k : n ≤ v). latest_is rs key v n (omega arith) (record { within = k; has = l.has; none = λ j low high same. l.none j low (omega arith) same }))
  where
    grown : take (suc v) rs ≡ take v rs ++ get_or rs v no_record ∷ []
    grown = let e : suc v ≡ v + 1 = omega arith in ap (λ (k : ℕ). take k rs) e ∙ take_more rs v no_record (omega arith)

    pushed : store.map (take (suc v) rs) key ≡ cond (bytes_eq (get_or rs v no_record).key key) (Some (get_or rs v no_record).value) (store.map (take v rs) key)
    pushed = ap (λ (x : List Record). store.map x key) grown ∙ map_push (take v rs) (get_or rs v no_record) key

    apart : (b : Bool) → bytes_eq (get_or rs v no_record).key key ≡ b → n ≤ v → bytes_eq (get_or rs v no_record).key key ≡ false
    apart true is less = absurd (l.none (suc v) (omega arith) (omega arith) ((bytes_eq-Decides (get_or rs v no_record).key key).0 is))
    apart false is less = is

    go : (n ≡ suc v) ⊎ (n ≡ suc v → ⊥) → (n ≤ v → store.map (take v rs) key ≡ value_of rs n) → store.map (take (suc v) rs) key ≡ value_of rs n
    go (inl is) on =
        let has : (record_at rs (suc v)).key ≡ key = ap (λ (k : ℕ). (record_at rs k).key) (sym is) ∙ l.has (omega arith) in
        let t : bytes_eq (get_or rs v no_record).key key ≡ true = (bytes_eq-Decides (get_or rs v no_record).key key).1 has in
        pushed ∙ ap (λ (b : Bool). cond b (Some (get_or rs v no_record).value) (store.map (take v rs) key)) t ∙ ap (value_of rs) (sym is)
    go (inr other) on =
        let less : n ≤ v = let k : n ≤ suc v = l.within in omega arith in
        let t : bytes_eq (get_or rs v no_record).key key ≡ false = apart (bytes_eq (get_or rs v no_record).key key) refl less in
        pushed ∙ ap (λ (b : Bool). cond b (Some (get_or rs v no_record).value) (store.map (take v rs) key)) t ∙ on less

-- a walk back to the last record with a key that is among the first so many
pub record WalksTo (rs : List Record) (key : List ℕ) (version at : ℕ) : Type 0 where
  pub there : at ≤ length rs
  pub has : 0 < at → (record_at rs at).key ≡ key
  pub none : (k : ℕ) → at < k → k ≤ version → (record_at rs k).key ≡ key → ⊥

pub walk_first : (p : Past) (rs : List Record) (key : List ℕ) (version : ℕ) → PastOf p rs → version ≤ length rs → WalksTo rs key version (last_of p key)
walk_first p rs key version h within =
    let l = h.last key in
    record { there = l.within; has = l.has; none = λ k low high same. l.none k low (omega arith) same }

pub walk_jump : (p : Past) (rs : List Record) (key : List ℕ) (version at : ℕ) (s : BackStep) → PastOf p rs → version < at → s ≡ get_or p.steps.items at s → WalksTo rs key version at → version < s.jump
    → WalksTo rs key version s.jump × (s.jump < at)
walk_jump p rs key version at s h more is w low =
    let there : at ≤ length rs = w.there in
    let b : IsBack rs at s.jump = subst (λ (x : BackStep). IsBack rs at x.jump) (sym is) (h.jump at s there) in
    let back : s.jump ≤ at = b.within in (
      record { there = omega arith; has = λ some. b.same some ∙ w.has (omega arith); none = λ k less most same. absurd (omega arith) },
      subst (λ (x : BackStep). x.jump < at) (sym is) (h.shorter at s (omega arith) there),
    )

pub walk_back : (p : Past) (rs : List Record) (key : List ℕ) (version at : ℕ) (s : BackStep) → PastOf p rs → version < at → s ≡ get_or p.steps.items at s → WalksTo rs key version at
    → WalksTo rs key version s.previous × (s.previous < at)
walk_back p rs key version zero s h more is w = absurd (omega arith)
walk_back p rs key version (suc at) s h more is w =
    let there : suc at ≤ length rs = w.there in
    let e : suc at ≡ at + 1 = omega arith in
    let here : s ≡ get_or p.steps.items (at + 1) s = is ∙ ap (λ (n : ℕ). get_or p.steps.items n s) e in
    let same : (record_at rs (at + 1)).key ≡ key = ap (λ (n : ℕ). (record_at rs n).key) (sym e) ∙ w.has (omega arith) in
    let l : IsLatest rs key at s.previous = subst (λ (x : BackStep). IsLatest rs key at x.previous) (sym here) (subst (λ (x : List ℕ). IsLatest rs x at (get_or p.steps.items (at + 1) s).previous) same (h.previous at s (omega arith))) in
    let low : s.previous ≤ at = l.within in (
      record { there = omega arith; has = l.has; none = λ k less most at_k. l.none k less (omega arith) at_k },
      omega arith,
    )

pub walked : (rs : List Record) (key : List ℕ) (version at : ℕ) → WalksTo rs key version at → at ≤ version → IsLatest rs key version at
walked rs key version at w low = record { within = low; has = w.has; none = w.none }
