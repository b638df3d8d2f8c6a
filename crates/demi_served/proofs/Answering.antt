-- What the store on one thread answers on some records stands as the answer on all records that begin with them.
use Rattle.std.proofs.Common.{◌≡◌, ℕ, ◌+◌, ◌-◌, ◌≤◌, ◌<◌, Bool, true, false, List, [], ◌∷◌, ◌++◌, length, take, Option, None, Some, arith, ◌∙◌, ap, sym, cond, length-append, append_assoc}
use Rattle.std.specs.Prelude.{nat_le, IfSome, IsTrue}
use Rattle.std.proofs.Math.Seq.{take-append_seam}
use Rattle.demi_spec.specs.Request.{Put, Get, End}
use Rattle.demi_spec.specs.Input.{Asked, Request_of, Refused_end}
use Rattle.demi_spec.specs.Reply.{Answer, Stored, Full}
use Rattle.demi_spec.specs.Record.{Record}
use Rattle.demi_spec.specs.Store.{answer, added, found}
use Rattle.demi_spec.specs.Store as store
use Rattle.demi_served.specs.Talks.{Run}
use Rattle.demi_served.specs.Answers.{Answers, looked_at, version_of, is_stored}
use Rattle.demi_served.specs.Asking.{Ask, ask_of}

pub some_more : {P Q : ℕ → Type 0} (o : Option ℕ) → ((v : ℕ) → P v → Q v) → IfSome o P → IfSome o Q
some_more None f h = tt
some_more (Some v) f h = f v h

-- A version is between the records that were looked at and those that stand then; a stored put's is just these.
pub record Named (before now : List Record) (a : Answer) : Type 0 where
  pub least : IfSome (version_of a) (λ v. length before ≤ v)
  pub most : IfSome (version_of a) (λ v. v ≤ length now)
  pub above : IsTrue (is_stored a) → IfSome (version_of a) (λ v. (length before < v) × (v ≡ length now))

found_named : (records : List Record) (o : Option (List ℕ)) → Named records (records ++ []) (found (length records) o)
found_named records None = record { least = omega arith; most = let l = length-append records [] in omega arith; above = λ e. absurd (cc) }
found_named records (Some value) = record { least = omega arith; most = let l = length-append records [] in omega arith; above = λ e. absurd (cc) }

pub named : (records : List Record) (limit link index : ℕ) (q : Asked) (ask : Ask) → ask_of link index q ≡ Some ask
    → Named records (records ++ added records limit link index q) (answer records limit q)
named records limit link index (Request_of (Put key value)) ask e = go (nat_le limit (length records))
  where
    r : Record
    r = record { link = link; index = index; key = key; value = value }

    go : (b : Bool) → Named records (records ++ cond b [] (r ∷ []))
        (cond b (Full (length records)) (Stored (length records + 1) value))
    go true = record { least = omega arith; most = let l = length-append records [] in omega arith; above = λ e. absurd (cc) }
    go false = let l = length-append records (r ∷ []) in record { least = omega arith; most = omega arith; above = λ e. (omega arith, omega arith) }
named records limit link index (Request_of (Get key)) ask e = found_named records (store.map records key)
named records limit link index (Request_of End) ask e = absurd (cc)
named records limit link index (Refused_end code) ask e = absurd (cc)

module _ (all records rest : List Record) (whole : all ≡ records ++ rest) where
  front : take (length records) all ≡ records
  front = ap (take (length records)) whole ∙ take-append_seam records rest

  -- the records that were looked at are found again
  looks : (limit link index : ℕ) (q : Asked) (ask : Ask) → ask_of link index q ≡ Some ask
      → looked_at all (answer records limit q) ≡ records
  looks limit link index (Request_of (Put key value)) ask e = go (nat_le limit (length records))
    where
      go : (b : Bool) → looked_at all (cond b (Full (length records)) (Stored (length records + 1) value)) ≡ records
      go true = front
      go false = let n : length records + 1 - 1 ≡ length records = omega arith in ap (λ m. take m all) n ∙ front
  looks limit link index (Request_of (Get key)) ask e = go (store.map records key)
    where
      go : (o : Option (List ℕ)) → looked_at all (found (length records) o) ≡ records
      go None = front
      go (Some value) = front
  looks limit link index (Request_of End) ask e = absurd (cc)
  looks limit link index (Refused_end code) ask e = absurd (cc)

pub answers_there : (run : Run) (records rest : List Record) (limit link index : ℕ) (q : Asked) (ask : Ask)
    → ask_of link index q ≡ Some ask → limit ≡ run.limit → run.old ≤ length records
    → run.records ≡ (records ++ added records limit link index q) ++ rest
    → Answers run link index q (answer records limit q)
answers_there run records rest limit link index q ask e same_limit old all =
    let new : List Record = added records limit link index q in
    let now : List Record = records ++ new in
    let a : Answer = answer records limit q in
    let looked : looked_at run.records a ≡ records = looks run.records records (new ++ rest) (all ∙ append_assoc records new rest) limit link index q ask e in
    let n = named records limit link index q ask e in
    let long : length run.records ≡ length now + length rest = ap length all ∙ length-append now rest in
    let adds : looked_at run.records a ++ added (looked_at run.records a) run.limit link index q ≡ now =
    ap (λ (l : List Record). l ++ added l run.limit link index q) looked
    ∙ ap (λ m. records ++ added records m link index q) (sym same_limit) in
    record {
      said = ap (λ (l : List Record). answer l run.limit q) looked ∙ ap (λ m. answer records m q) (sym same_limit);
      names = both (version_of a) n.least n.most (λ v low high. (let x = old in (omega arith, omega (arith, long))));
      stores = λ t. some_more (version_of a) (λ v h. (
          let low = h.0 in (omega arith, ap (λ m. take m run.records) h.1 ∙ ap (take (length now)) all ∙ take-append_seam now rest ∙ sym adds))) (n.above t);
    }
  where
    both : {P Q R : ℕ → Type 0} (o : Option ℕ) → IfSome o P → IfSome o Q → ((v : ℕ) → P v → Q v → R v) → IfSome o R
    both None p q f = tt
    both (Some v) p q f = f v p q
