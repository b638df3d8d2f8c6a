-- Passes of which the first have learnt, each of the one at its place.
use Rattle.std.proofs.Common.{◌≡◌, ℕ, zero, suc, ◌<◌, List, [], ◌∷◌, length, get_or, set, map, refl, ap, ◌∙◌, arith}
use Rattle.demi_port.specs.Seen.{PassValue}
use Rattle.demi_port.specs.Seen.{PortId}
use Rattle.demi_pdpix.specs.Notes.{all_learnt, all_noted, each_learnt, learnt, noted}
use Rattle.demi_pdpix.specs.Seen.{AreAt, CallerValue, DemiId, IsOf, LogPass, MemPass, RxPass, TxPass}

-- the first k of them have learnt
abbrev pub learnt_to : {D T B : Type 0} → ℕ → List (PassValue D T B) → List (PassValue D T B) → List (PassValue D T B)
learnt_to zero ps qs = ps
learnt_to (suc k) [] qs = []
learnt_to (suc k) (p ∷ ps) [] = p ∷ ps
learnt_to (suc k) (p ∷ ps) (q ∷ qs) = learnt p q ∷ learnt_to k ps qs

-- the first k of them have made a note
abbrev pub noted_to : {D T B : Type 0} → ℕ → List (PassValue D T B) → List (PassValue D T B)
noted_to zero qs = qs
noted_to (suc k) [] = []
noted_to (suc k) (q ∷ qs) = noted q ∷ noted_to k qs

pub learnt_at : {D T B : Type 0} (k : ℕ) (ps qs : List (PassValue D T B)) (d : PassValue D T B) → get_or (learnt_to k ps qs) k d ≡ get_or ps k d
learnt_at zero ps qs d = refl
learnt_at (suc k) [] qs d = refl
learnt_at (suc k) (p ∷ ps) [] d = refl
learnt_at (suc k) (p ∷ ps) (q ∷ qs) d = learnt_at k ps qs d

pub noted_at : {D T B : Type 0} (k : ℕ) (qs : List (PassValue D T B)) (d : PassValue D T B) → get_or (noted_to k qs) k d ≡ get_or qs k d
noted_at zero qs d = refl
noted_at (suc k) [] d = refl
noted_at (suc k) (q ∷ qs) d = noted_at k qs d

pub learnt_many : {D T B : Type 0} (k : ℕ) (ps qs : List (PassValue D T B)) → length (learnt_to k ps qs) ≡ length ps
learnt_many zero ps qs = refl
learnt_many (suc k) [] qs = refl
learnt_many (suc k) (p ∷ ps) [] = refl
learnt_many (suc k) (p ∷ ps) (q ∷ qs) = ap suc (learnt_many k ps qs)

pub noted_many : {D T B : Type 0} (k : ℕ) (qs : List (PassValue D T B)) → length (noted_to k qs) ≡ length qs
noted_many zero qs = refl
noted_many (suc k) [] = refl
noted_many (suc k) (q ∷ qs) = ap suc (noted_many k qs)

pub learnt_next : {D T B : Type 0} (k : ℕ) (ps qs : List (PassValue D T B)) (p q : PassValue D T B) → k < length ps → k < length qs → p ≡ get_or ps k p → q ≡ get_or qs k q
    → set (learnt_to k ps qs) k (learnt p q) ≡ learnt_to (suc k) ps qs
learnt_next k [] qs p q low down at there = absurd (omega (arith, low))
learnt_next k (x ∷ ps) [] p q low down at there = absurd (omega (arith, down))
learnt_next zero (x ∷ ps) (y ∷ qs) p q low down at there = λ i. learnt (at i) (there i) ∷ ps
learnt_next (suc k) (x ∷ ps) (y ∷ qs) p q low down at there = ap (λ l. learnt x y ∷ l) (learnt_next k ps qs p q (omega (arith, low)) (omega (arith, down)) at there)

pub noted_next : {D T B : Type 0} (k : ℕ) (qs : List (PassValue D T B)) (q : PassValue D T B) → k < length qs → q ≡ get_or qs k q → set (noted_to k qs) k (noted q) ≡ noted_to (suc k) qs
noted_next k [] q low at = absurd (omega (arith, low))
noted_next zero (y ∷ qs) q low at = λ i. noted (at i) ∷ qs
noted_next (suc k) (y ∷ qs) q low at = ap (λ l. noted y ∷ l) (noted_next k qs q (omega (arith, low)) at)

pub learnt_all : {D T B : Type 0} (ps qs : List (PassValue D T B)) → learnt_to (length ps) ps qs ≡ each_learnt ps qs
learnt_all [] qs = refl
learnt_all (p ∷ ps) [] = refl
learnt_all (p ∷ ps) (q ∷ qs) = ap (λ l. learnt p q ∷ l) (learnt_all ps qs)

pub noted_all : {D T B : Type 0} (qs : List (PassValue D T B)) → noted_to (length qs) qs ≡ map noted qs
noted_all [] = refl
noted_all (q ∷ qs) = ap (λ l. noted q ∷ l) (noted_all qs)

learnt_are : {D T B : Type 0} (ps qs : List (PassValue D T B)) (xs : List (PortId B)) → AreAt ps xs → AreAt (each_learnt ps qs) xs
learnt_are [] qs xs are = are
learnt_are (p ∷ ps) [] xs are = are
learnt_are (p ∷ ps) (q ∷ qs) [] are = absurd are
learnt_are (p ∷ ps) (q ∷ qs) (x ∷ xs) are = (are.0, learnt_are ps qs xs are.1)

noted_are : {D T B : Type 0} (ps : List (PassValue D T B)) (xs : List (PortId B)) → AreAt ps xs → AreAt (map noted ps) xs
noted_are [] xs are = are
noted_are (p ∷ ps) [] are = absurd are
noted_are (p ∷ ps) (x ∷ xs) are = (are.0, noted_are ps xs are.1)

pub learnt_of : {D T B : Type 0} (d : DemiId B) (c e : CallerValue D T B) → IsOf d c → IsOf d (all_learnt c e)
learnt_of d c e is = record {
  heap = is.heap;
  memory = is.memory;
  service = is.service;
  journal = learnt_are c.journal e.journal d.journal is.journal;
  rx = learnt_are c.rx e.rx d.rx is.rx;
  tx = learnt_are c.tx e.tx d.tx is.tx;
}

pub noted_of : {D T B : Type 0} (d : DemiId B) (c : CallerValue D T B) → IsOf d c → IsOf d (all_noted c)
noted_of d c is = record {
  heap = is.heap;
  memory = is.memory;
  service = is.service;
  journal = noted_are c.journal d.journal is.journal;
  rx = noted_are c.rx d.rx is.rx;
  tx = noted_are c.tx d.tx is.tx;
}

-- an opened caller each of whose passes has learnt
pub whole_learnt : {D T B : Type 0} (x c y e : CallerValue D T B) (memory : MemPass) (service : PassValue D T B) (journal : List LogPass) (rx : List RxPass) (tx : List TxPass) → x ≡ c → y ≡ e
    → memory ≡ learnt x.memory y.memory → service ≡ learnt x.service y.service → journal ≡ each_learnt x.journal y.journal → rx ≡ each_learnt x.rx y.rx → tx ≡ each_learnt x.tx y.tx
    → record x { memory = memory; service = service; journal = journal; rx = rx; tx = tx } ≡ all_learnt c e
whole_learnt x c y e memory service journal rx tx same there m s j r t =
    let first : record x { memory = memory; service = service; journal = journal; rx = rx; tx = tx } ≡ all_learnt x y =
    (λ i. record { heap = x.heap; memory = m i; service = s i; journal = j i; rx = r i; tx = t i }) in
    first ∙ (λ i. all_learnt (same i) (there i))

-- one each of whose passes has made a note
pub whole_noted : {D T B : Type 0} (x c : CallerValue D T B) (memory : MemPass) (service : PassValue D T B) (journal : List LogPass) (rx : List RxPass) (tx : List TxPass) → x ≡ c
    → memory ≡ noted x.memory → service ≡ noted x.service → journal ≡ map noted x.journal → rx ≡ map noted x.rx → tx ≡ map noted x.tx
    → record x { memory = memory; service = service; journal = journal; rx = rx; tx = tx } ≡ all_noted c
whole_noted x c memory service journal rx tx same m s j r t =
    let first : record x { memory = memory; service = service; journal = journal; rx = rx; tx = tx } ≡ all_noted x =
    (λ i. record { heap = x.heap; memory = m i; service = s i; journal = j i; rx = r i; tx = t i }) in
    first ∙ (λ i. all_noted (same i))
