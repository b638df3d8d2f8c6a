-- Seats with their passes.
use Rattle.std.proofs.Common.{◌≡◌, ℕ, zero, suc, List, [], ◌∷◌, ◌++◌, All, map, reverse, ap, sym, subst, ◌∙◌, append_assoc, arith}
use Rattle.std.proofs.lemmas.List.{reverse-append}
use Rattle.demi_heap.specs.Seen.{HeapId}
use Rattle.demi_heap.specs.Seen.{new_pass}
use Rattle.demi_port.specs.Seen.{DeviceValue}
use Rattle.demi_pdpix.specs.Lanes.{AreNewLanes, HasLeft, LaneValue, port_of}
use Rattle.demi_pdpix.specs.Making.{seat_of}
use Rattle.demi_pdpix.specs.Seen.{AreNewPairs, Pair}

pub all_cons : {A : Type 0} (P : A → Type 0) (x : A) (xs : List A) → P x → All P xs → All P (x ∷ xs)
all_cons P x xs p all zero d low = p
all_cons P x xs p all (suc k) d low = all k d (omega (arith, low))

pub all_none : {A : Type 0} (P : A → Type 0) → All P []
all_none P k d low = absurd (omega (arith, low))

pub all_map : {A B : Type 0} (P : B → Type 0) (f : A → B) (xs : List A) → All (λ x. P (f x)) xs → All P (map f xs)
all_map P f [] all k d low = absurd (omega (arith, low))
all_map P f (x ∷ xs) all zero d low = all 0 x (omega arith)
all_map P f (x ∷ xs) all (suc k) d low = all_map P f xs (λ j e small. all (suc j) e (omega (arith, small))) k d (omega (arith, low))

pub next_pair : {D T B : Type 0} (all alone new : List (DeviceValue D T B)) (pairs after : List (Pair D T B)) (s : Pair D T B)
    → all ≡ alone ++ map seat_of (reverse pairs) → alone ≡ new ++ s.0 ∷ [] → after ≡ pairs ++ s ∷ [] → all ≡ new ++ map seat_of (reverse after)
next_pair all alone new pairs after s is pops adds =
    is ∙ ap (λ l. l ++ map seat_of (reverse pairs)) pops ∙ append_assoc new (s.0 ∷ []) (map seat_of (reverse pairs)) ∙ ap (λ l. new ++ map seat_of l) (sym (reverse-append pairs (s ∷ [])) ∙ ap reverse (sym adds))

pub next_paired : {D T B : Type 0} (h : HeapId) (pairs after : List (Pair D T B)) (s : Pair D T B)
    → All (λ (x : Pair D T B). x.1 ≡ new_pass h) (reverse pairs) → s.1 ≡ new_pass h → after ≡ pairs ++ s ∷ [] → All (λ (x : Pair D T B). x.1 ≡ new_pass h) (reverse after)
next_paired {D = D} {T = T} {B = B} h pairs after s all is adds =
    subst (All (λ (x : Pair D T B). x.1 ≡ new_pass h)) (sym (reverse-append pairs (s ∷ [])) ∙ ap reverse (sym adds)) (all_cons (λ (x : Pair D T B). x.1 ≡ new_pass h) s (reverse pairs) is all)

-- what is known of each of some new lanes
pub record Fresh {D T B : Type 0} (base : B) (tokens callers : ℕ) (l : LaneValue D T B) : Type 0 where
  pub base_is : l.port.key.base ≡ base
  pub tokens_are : l.port.tokens.slots ≡ tokens
  pub callers_are : l.callers ≡ callers
  pub left : HasLeft callers l

pub each_fresh : {D T B : Type 0} (base : B) (tokens callers : ℕ) (ls : List (LaneValue D T B)) (ss : List (DeviceValue D T B)) → AreNewLanes base tokens callers ls ss → All (Fresh base tokens callers) ls
each_fresh base tokens callers [] ss are k d low = absurd (omega (arith, low))
each_fresh base tokens callers (l ∷ ls) [] are k d low = absurd are
each_fresh base tokens callers (l ∷ ls) (s ∷ ss) are zero d low = record { base_is = are.0.0; tokens_are = are.0.1; callers_are = are.0.2; left = are.0.3 }
each_fresh base tokens callers (l ∷ ls) (s ∷ ss) are (suc k) d low = each_fresh base tokens callers ls ss are.1 k d (omega (arith, low))

pub pairs_new : {D T B : Type 0} (h : HeapId) (base : B) (tokens callers : ℕ) (ls : List (LaneValue D T B)) (ps : List (Pair D T B))
    → AreNewLanes base tokens callers ls (map seat_of ps) → All (λ (s : Pair D T B). s.1 ≡ new_pass h) ps → AreNewPairs h callers (map port_of ls) ps
pairs_new h base tokens callers [] [] are all = tt
pairs_new h base tokens callers [] (p ∷ ps) are all = absurd are
pairs_new h base tokens callers (l ∷ ls) [] are all = absurd are
pairs_new h base tokens callers (l ∷ ls) (p ∷ ps) are all = ((are.0.4, all 0 p (omega arith)), pairs_new h base tokens callers ls ps are.1 (λ k d low. all (suc k) d (omega (arith, low))))
