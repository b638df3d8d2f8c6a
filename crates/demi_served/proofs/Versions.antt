-- Each new record is that of the put that was told its version.
use Rattle.std.proofs.Common.{◌≡◌, ℕ, suc, ◌+◌, Bool, true, false, List, [], ◌∷◌, ◌++◌, length, Option, Some, refl, arith, ◌∙◌, ap, sym, subst, cond, length-append, append-nil, inl, inr, ◌⊎◌}
use Rattle.std.specs.Prelude.{nat_le, slice_get}
use Rattle.demi_spec.specs.Request.{Put}
use Rattle.demi_spec.specs.Input.{Request_of}
use Rattle.demi_spec.specs.Reply.{Stored, Full}
use Rattle.demi_spec.specs.Record.{Record}
use Rattle.demi_store.specs.History.{Told, Standing, opened}
use Rattle.demi_store.specs.declared.told.StoreTold.{StoreTold}
use Rattle.demi_served.specs.Asking.{Ask, Puts}
use Rattle.demi_served.proofs.Folds.{said_at, storeresult, added_by, stored_from, history_adds}
use Rattle.demi_served.proofs.Places.{below, below_next, told_step}
use Rattle.demi_served.proofs.Comes.{added_told}

-- the version of a stored put counts its record, and its bytes are its value
pub put_version : (limit place : ℕ) (r : Record) (s : Standing) (k : Option StoreTold) (v : ℕ) (bytes : List ℕ)
    → (said_at limit place s (Puts r) k).0 ≡ Told (Stored v bytes)
    → Stored v bytes ≡ Stored (length s.records + 1) r.value
put_version limit place r s k v bytes h = go (nat_le limit (length s.records)) (told_step limit place r.link r.index s (Request_of (Put r.key r.value)) (Puts r) k (Stored v bytes) refl h).0
  where
    go : (b : Bool) → Stored v bytes ≡ cond b (Full (length s.records)) (Stored (length s.records + 1) r.value)
        → Stored v bytes ≡ Stored (length s.records + 1) r.value
    go true e = absurd (cc)
    go false e = e

module _ (limit : ℕ) (struck : ℕ → Option StoreTold) (old : List Record) (all : List Ask) where
  -- the put of this record was told to be stored as this version
  pub record IsStoredAs (v : ℕ) (r : Record) : Type 0 where
    pub place : ℕ
    pub here : slice_get all place ≡ Some (Puts r)
    pub told : storeresult limit old struck all place (Puts r) ≡ Told (Stored v r.value)

  -- these records have versions from v on
  abbrev pub StoredFrom : ℕ → List Record → Type 0
  StoredFrom v [] = Unit {0}
  StoredFrom v (r ∷ records) = IsStoredAs v r × StoredFrom (v + 1) records

  first_stored : (place : ℕ) (a : Ask) (rest : List Record) → slice_get all place ≡ Some a
      → StoredFrom (length (below limit struck old all (place + 1)).records + 1) rest
      → StoredFrom (length (below limit struck old all place).records + 1)
      (added_by a (said_at limit place (below limit struck old all place) a (struck place)).0 ++ rest)
  first_stored place a rest e h = go (added_told a (said_at limit place s a (struck place)).0)
    where
      s : Standing
      s = below limit struck old all place

      grown : (below limit struck old all (place + 1)).records ≡ s.records ++ added_by a
          (said_at limit place s a (struck place)).0
      grown = ap (λ (x : Standing). x.records) (below_next limit struck old all place a e)
          ∙ history_adds limit struck place s (a ∷ [])
          ∙ ap (λ (l : List Record). s.records ++ l) (append-nil (added_by a (said_at limit place s a (struck place)).0))

      go : ((added_by a (said_at limit place s a (struck place)).0 ≡ []) ⊎ ((r : Record) × (v : ℕ) × (bytes : List ℕ) × (a ≡ Puts r) × ((said_at limit place s a (struck place)).0 ≡ Told (Stored v bytes)) × (added_by a (said_at limit place s a (struck place)).0 ≡ r ∷ [])))
          → StoredFrom (length s.records + 1) (added_by a (said_at limit place s a (struck place)).0 ++ rest)
      go (inl none) =
          let long : length (below limit struck old all (place + 1)).records ≡ length s.records = ap length grown
          ∙ length-append s.records _ ∙ ap (λ (l : List Record). length s.records + length l) none
          ∙ omega arith in
          subst (λ (l : List Record). StoredFrom (length s.records + 1) (l ++ rest)) (sym none) (subst (λ m. StoredFrom (m + 1) rest) long h)
      go (inr (r, v, bytes, is, said, one)) =
          let long : length (below limit struck old all (place + 1)).records ≡ length s.records + 1 = ap length grown
          ∙ length-append s.records _ ∙ ap (λ (l : List Record). length s.records + length l) one in
          let told : (said_at limit place s (Puts r) (struck place)).0 ≡ Told (Stored v bytes) = ap (λ (x : Ask). (said_at limit place s x (struck place)).0) (sym is) ∙ said in
          let version = put_version limit place r s (struck place) v bytes told in
          subst (λ (l : List Record). StoredFrom (length s.records + 1) (l ++ rest)) (sym one) (
            record {
              place = place;
              here = e ∙ ap Some is;
              told = told ∙ ap Told version;
            },
            subst (λ m. StoredFrom (m + 1) rest) long h,
          )

  abbrev pub StandFrom : ℕ → List Ask → Type 0
  StandFrom place asks = (i : ℕ) (a : Ask) → slice_get asks i ≡ Some a → slice_get all (place + i) ≡ Some a

  stored_as_told : (place : ℕ) (s : Standing) (asks : List Ask) → s ≡ below limit struck old all place
      → StandFrom place asks → StoredFrom (length s.records + 1) (stored_from limit struck place s asks)
  stored_as_told place s [] is stand = tt
  stored_as_told place s (a ∷ asks) is stand =
      let zero_more : place + 0 ≡ place = omega arith in
      let here : slice_get all place ≡ Some a = ap (slice_get all) (sym zero_more) ∙ stand 0 a refl in
      let next : (said_at limit place s a (struck place)).1 ≡ below limit struck old all (place + 1) = ap (λ (x : Standing). (said_at limit place x a (struck place)).1) is ∙ sym (below_next limit struck old all place a here) in
      let rest = stored_as_told (place + 1) (said_at limit place s a (struck place)).1 asks next (λ i x e. (let n : place + 1 + i ≡ place + suc i = omega arith in ap (slice_get all) n ∙ stand (suc i) x e)) in
      let first = first_stored place a (stored_from limit struck (place + 1) (said_at limit place s a (struck place)).1 asks) here
      (subst (λ (x : Standing). StoredFrom (length x.records + 1) (stored_from limit struck (place + 1) (said_at limit place s a (struck place)).1 asks)) next rest) in
      subst (λ (x : Standing). StoredFrom (length x.records + 1) (added_by a (said_at limit place x a (struck place)).0 ++ stored_from limit struck (place + 1) (said_at limit place s a (struck place)).1 asks)) (sym is) first

  pub all_stored : StoredFrom (length old + 1) (stored_from limit struck 0 (opened old) all)
  all_stored = stored_as_told 0 (opened old) all refl (λ i a e. (let n : 0 + i ≡ i = omega arith in ap (slice_get all) n ∙ e))
