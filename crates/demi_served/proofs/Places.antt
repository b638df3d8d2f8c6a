-- What the store says at the places of one history.
use Rattle.std.proofs.Common.{◌≡◌, ℕ, ◌+◌, ◌≤◌, ◌<◌, Bool, true, false, List, [], ◌∷◌, ◌++◌, length, take, drop, Option, None, Some, refl, arith, ◌∙◌, ap, sym, subst, cond, length-append, append_assoc, append-nil}
use Rattle.std.specs.Prelude.{nat_le, slice_get, IfSome, IsTrue}
use Rattle.std.proofs.lemmas.List.{take-append-drop, take-take, take_all}
use Rattle.demi_spec.specs.Request.{Put, Get, End}
use Rattle.demi_spec.specs.Input.{Asked, Request_of, Refused_end}
use Rattle.demi_spec.specs.Reply.{Answer}
use Rattle.demi_spec.specs.Record.{Record}
use Rattle.demi_spec.specs.Store.{answer, added}
use Rattle.demi_store.specs.History.{Told, Fault, NoMemory, Standing, answered, put_open, opened}
use Rattle.demi_store.specs.declared.told.StoreTold.{StoreTold}
use Rattle.demi_store.specs.declared.told.StoreTold.TheVariants.{ByDisk, ByMemory}
use Rattle.demi_served.specs.Talks.{Run}
use Rattle.demi_served.specs.Answers.{Answers, version_of, is_stored}
use Rattle.demi_served.specs.Asking.{Ask, Puts, Gets, ask_of}
use Rattle.demi_served.proofs.Lists.{parted, some_is}
use Rattle.demi_served.proofs.Folds.{said_open, said_by, said_at, standing_from, storeresult, Grows, history_grows, history_join}
use Rattle.demi_served.proofs.Answering.{Named, named, answers_there}

-- What is told to a request is the answer of the store on one thread on the records below, and adds its record.
abbrev pub IsStep : Standing → ℕ → ℕ → ℕ → Asked → Answer → Standing → Type 0
IsStep s limit link index q a next = (a ≡ answer s.records limit q) × (next.records ≡ s.records ++ added s.records limit link index q)

told_is : {x y : Answer} → Told x ≡ Told y → x ≡ y
told_is e = cc

put_step : (limit place link index : ℕ) (s : Standing) (q : Asked) (k : Option StoreTold) (a : Answer)
    → (put_open limit place link index s q k).0 ≡ Told a
    → IsStep s limit link index q a (put_open limit place link index s q k).1
put_step limit place link index s q None a h = (sym (told_is h), refl)
put_step limit place link index s q (Some ByDisk) a h = go (nat_le limit (length s.records)) h
  where
    go : (b : Bool) → (cond b (answered limit link index s q) (Fault, record s { fault = Some place })).0 ≡ Told a
        → IsStep s limit link index q a (cond b (answered limit link index s q) (Fault, record s { fault = Some place })).1
    go true h = (sym (told_is h), refl)
    go false h = absurd (cc)
put_step limit place link index s q (Some ByMemory) a h = go (nat_le limit (length s.records)) h
  where
    go : (b : Bool) → (cond b (answered limit link index s q) (NoMemory, s)).0 ≡ Told a
        → IsStep s limit link index q a (cond b (answered limit link index s q) (NoMemory, s)).1
    go true h = (sym (told_is h), refl)
    go false h = absurd (cc)

open_step : (limit place link index : ℕ) (s : Standing) (q : Asked) (ask : Ask) (k : Option StoreTold)
    (fault : Option ℕ) (a : Answer) → ask_of link index q ≡ Some ask
    → (said_open limit place s ask k fault).0 ≡ Told a
    → IsStep s limit link index q a (said_open limit place s ask k fault).1
open_step limit place link index s (Request_of (Put key value)) ask k fault a is h =
    subst (λ (x : Ask). (said_open limit place s x k fault).0 ≡ Told a → IsStep s limit link index (Request_of (Put key value)) a (said_open limit place s x k fault).1) (some_is is) (go fault) h
  where
    r : Record
    r = record { link = link; index = index; key = key; value = value }

    go : (f : Option ℕ) → (said_open limit place s (Puts r) k f).0 ≡ Told a
        → IsStep s limit link index (Request_of (Put key value)) a (said_open limit place s (Puts r) k f).1
    go None h = put_step limit place link index s (Request_of (Put key value)) k a h
    go (Some at) h = absurd (cc)
open_step limit place link index s (Request_of (Get key)) ask k fault a is h =
    subst (λ (x : Ask). (said_open limit place s x k fault).0 ≡ Told a → IsStep s limit link index (Request_of (Get key)) a (said_open limit place s x k fault).1) (some_is is) (go fault k) h
  where
    go : (f : Option ℕ) (k : Option StoreTold) → (said_open limit place s (Gets key) k f).0 ≡ Told a
        → IsStep s limit link index (Request_of (Get key)) a (said_open limit place s (Gets key) k f).1
    go (Some at) k h = absurd (cc)
    go None None h = (sym (told_is h), sym (append-nil s.records))
    go None (Some ByDisk) h = absurd (cc)
    go None (Some ByMemory) h = (sym (told_is h), sym (append-nil s.records))
open_step limit place link index s (Request_of End) ask k fault a is h = absurd (cc)
open_step limit place link index s (Refused_end code) ask k fault a is h = absurd (cc)

pub told_step : (limit place link index : ℕ) (s : Standing) (q : Asked) (ask : Ask) (k : Option StoreTold)
    (a : Answer) → ask_of link index q ≡ Some ask → (said_at limit place s ask k).0 ≡ Told a
    → IsStep s limit link index q a (said_at limit place s ask k).1
told_step limit place link index s q ask k a is h = go s.stop h
  where
    go : (stop : Option ℕ) → (said_by limit place s ask k stop).0 ≡ Told a
        → IsStep s limit link index q a (said_by limit place s ask k stop).1
    go None h = open_step limit place link index s q ask k s.fault a is h
    go (Some at) h = absurd (cc)

module _ (limit : ℕ) (struck : ℕ → Option StoreTold) (old : List Record) (asks : List Ask) where
  -- what stands below a place
  abbrev pub below : ℕ → Standing
  below p = standing_from limit struck 0 (opened old) (take p asks)

  pub below_next : (p : ℕ) (ask : Ask) → slice_get asks p ≡ Some ask
      → below (p + 1) ≡ (said_at limit p (below p) ask (struck p)).1
  below_next p ask e =
      let t = parted asks p ask e in
      let n : 0 + length (take p asks) ≡ p = omega (arith, t.long) in
      ap (standing_from limit struck 0 (opened old)) t.next
      ∙ history_join limit struck 0 (opened old) (take p asks) (ask ∷ [])
      ∙ ap (λ (m : ℕ). (said_at limit m (below p) ask (struck m)).1) n

  pub below_grows : (p q : ℕ) → p ≤ q → Grows (below p).records (below q).records
  below_grows p q le =
      let whole : take q asks ≡ take p asks ++ drop p (take q asks) = sym (take-append-drop p (take q asks))
      ∙ ap (λ (l : List Ask). l ++ drop p (take q asks)) (take-take p q asks le) in
      let g = history_grows limit struck (0 + length (take p asks)) (below p) (drop p (take q asks)) in
      (g.0, ap (λ (x : Standing). x.records) (ap (standing_from limit struck 0 (opened old)) whole ∙ history_join limit struck 0 (opened old) (take p asks) (drop p (take q asks))) ∙ g.1)

  -- a place at which a request of a link was told an answer
  pub record Telling (p link index : ℕ) (q : Asked) (a : Answer) : Type 0 where
    pub ask : Ask
    pub of : ask_of link index q ≡ Some ask
    pub asked : slice_get asks p ≡ Some ask
    pub said : storeresult limit old struck asks p ask ≡ Told a

  pub step_at : (p link index : ℕ) (q : Asked) (a : Answer) → Telling p link index q a
      → IsStep (below p) limit link index q a (below (p + 1))
  step_at p link index q a t =
      subst (IsStep (below p) limit link index q a) (sym (below_next p t.ask t.asked)) (told_step limit p link index (below p) q t.ask (struck p) a t.of t.said)

  pub named_at : (p link index : ℕ) (q : Asked) (a : Answer) → Telling p link index q a
      → Named (below p).records (below (p + 1)).records a
  named_at p link index q a t =
      let s = step_at p link index q a t in
      subst (λ (l : List Record). Named (below p).records l a) (sym s.1) (subst (Named (below p).records ((below p).records ++ added (below p).records limit link index q)) (sym s.0) (named (below p).records limit link index q t.ask t.of))

  -- the version of a later place is not below that of an earlier one, and above it where it is of a stored put
  pub versions_by_place : (p q : ℕ) (l i m j : ℕ) (x y : Asked) (a b : Answer) → p < q → Telling p l i x a
      → Telling q m j y b
      → IfSome (version_of a) (λ v. IfSome (version_of b) (λ w. (v ≤ w) × (IsTrue (is_stored b) → v < w)))
  versions_by_place p q l i m j x y a b less h k =
      let n = named_at p l i x a h in
      let o = named_at q m j y b k in
      let g = below_grows (p + 1) q (omega arith) in
      let long : length (below q).records ≡ length (below (p + 1)).records + length g.0 = ap length g.1
      ∙ length-append (below (p + 1)).records g.0 in
      meet (is_stored b) (version_of a) (version_of b) (length (below (p + 1)).records) (length (below q).records) (length (below (q + 1)).records) n.most (omega arith) o.least o.above
    where
      meet : (strict : Bool) (o p : Option ℕ) (n m e : ℕ) → IfSome o (λ v. v ≤ n) → n ≤ m → IfSome p (λ w. m ≤ w)
          → (IsTrue strict → IfSome p (λ w. (m < w) × (w ≡ e)))
          → IfSome o (λ v. IfSome p (λ w. (v ≤ w) × (IsTrue strict → v < w)))
      meet strict None p n m e a b c d = tt
      meet strict (Some v) None n m e a b c d = tt
      meet strict (Some v) (Some w) n m e a b c d = (omega arith, λ t. (let k = (d t).0 in omega arith))

  -- the answer told at a place stands on the records of the closed history
  pub answers_by_place : (run : Run) (extra : List Record) (p link index : ℕ) (q : Asked) (a : Answer)
      → length old ≡ run.old → limit ≡ run.limit
      → run.records ≡ (standing_from limit struck 0 (opened old) asks).records ++ extra → Telling p link index q a
      → Answers run link index q a
  answers_by_place run extra p link index q a is_old is_limit all t =
      let s = step_at p link index q a t in
      let base = history_grows limit struck 0 (opened old) (take p asks) in
      let long : length (below p).records ≡ length old + length base.0 = ap length base.1
      ∙ length-append old base.0 in
      let grown = below_grows (p + 1) (length asks + (p + 1)) (omega arith) in
      let whole : take (length asks + (p + 1)) asks ≡ asks = take_all (length asks + (p + 1)) asks (omega arith) in
      let now : List Record = (below p).records ++ added (below p).records limit link index q in
      let records : run.records ≡ now ++ (grown.0 ++ extra) =
      all ∙ ap (λ (l : List Record). l ++ extra) (ap (λ (l : List Ask). (standing_from limit struck 0 (opened old) l).records) (sym whole) ∙ grown.1 ∙ ap (λ (l : List Record). l ++ grown.0) s.1)
      ∙ append_assoc now grown.0 extra in
      subst (Answers run link index q) (sym s.0) (answers_there run (below p).records (grown.0 ++ extra) limit link index q t.ask t.of is_limit (omega (arith, is_old, long)) records)
