-- New ports whose passes were dealt are those of a whole.
use Rattle.std.proofs.Common.{◌≡◌, ℕ, ◌+◌, ◌≤◌, List, [], ◌∷◌, suc, refl, All, length, map, get_or, ap, sym, subst, ◌∙◌, arith}
use Rattle.demi_heap.specs.Seen.{HeapId}
use Rattle.demi_heap.specs.Seen.{new_pass}
use Rattle.demi_logq.specs.Answers.{LogBasis}
use Rattle.demi_port.specs.Seen.{DeviceValue, IsNewSeat, PortId}
use Rattle.demi_pdpix.specs.declared.ports.Ports.{Ports}
use Rattle.demi_pdpix.specs.declared.ports.PortSeats.{PortSeats}
use Rattle.demi_pdpix.specs.Lanes.{AreNewLanes, HasLeft, IsEmpty, IsNewLane, LaneValue, port_of}
use Rattle.demi_pdpix.specs.Making.{AreAsMany, AreDealt, AreNewPorts, AreSamePorts, HaveLeft, log_on, outline, seat_of}
use Rattle.demi_pdpix.specs.Seen.{AreNewPairs, IsNewPair, Pair}
use Rattle.demi_pdpix.proofs.Dealt.{same_many, same_ports}
use Rattle.demi_pdpix.proofs.MadePairs.{all_map, each_fresh, pairs_new}
use Rattle.demi_pdpix.proofs.SamePorts.{outline_at}
use Rattle.demi_pdpix.proofs.Untouched.{no_items}

-- what stays of a new lane
pub record Based {D T B : Type 0} (base : B) (tokens callers : ℕ) (l : LaneValue D T B) : Type 0 where
  pub base_is : l.port.key.base ≡ base
  pub tokens_are : l.port.tokens.slots ≡ tokens
  pub callers_are : l.callers ≡ callers

pub one_based : {D T B : Type 0} (base : B) (tokens callers : ℕ) (l m : LaneValue D T B) (s : DeviceValue D T B) → IsNewLane base tokens callers l s → outline m ≡ outline l → Based base tokens callers m
one_based base tokens callers l m s is same = record {
  base_is = ap (λ (x : LaneValue _ _ _). x.port.key.base) same ∙ is.0;
  tokens_are = ap (λ (x : LaneValue _ _ _). x.port.tokens.slots) same ∙ is.1;
  callers_are = ap (λ (x : LaneValue _ _ _). x.callers) same ∙ is.2;
}

pub all_based : {D T B : Type 0} (base : B) (tokens callers : ℕ) (ls now : List (LaneValue D T B)) (ss : List (DeviceValue D T B)) → AreNewLanes base tokens callers ls ss → map outline now ≡ map outline ls → All (Based base tokens callers) now
all_based base tokens callers ls now ss are same k d low =
    let many = same_many now ls same in let f = each_fresh base tokens callers ls ss are k d (omega (arith, low, many)) in let o = outline_at now ls same k d in record {
      base_is = ap (λ (x : LaneValue _ _ _). x.port.key.base) o ∙ f.base_is;
      tokens_are = ap (λ (x : LaneValue _ _ _). x.port.tokens.slots) o ∙ f.tokens_are;
      callers_are = ap (λ (x : LaneValue _ _ _). x.callers) o ∙ f.callers_are;
    }

empties : {D T B : Type 0} (base : B) (tokens callers : ℕ) (now : List (LaneValue D T B)) → All (Based base tokens callers) now → All (HasLeft 0) now → All (IsEmpty callers) now
empties base tokens callers now based left k d low = (no_items (get_or now k d).home (left k d low).0, (based k d low).callers_are)

pub dealt_all : {L P O S T B : Type 0} (heap : HeapId) (b : B) (log : LogBasis) (tokens callers journals links : ℕ) (p q : Ports L P O S T B) (s : PortSeats L P O S T B)
    → AreNewPorts heap b log tokens callers p s → AreAsMany journals links p → AreSamePorts p q → HaveLeft 0 q → journals ≤ 1 → heap.shape.passes ≡ callers + 2 + journals + links + links → AreDealt heap callers q
dealt_all heap b log tokens callers journals links p q s new many same left few passes =
    let m = one_based heap tokens callers p.memory q.memory s.memory new.memory same.memory in
    let v = one_based b tokens callers p.service q.service s.service new.service same.service in
    let j = all_based (log_on log heap) tokens callers p.journal.items q.journal.items s.journal.items new.journal same.journal in
    let r = all_based heap tokens callers p.rx.items q.rx.items s.rx.items new.rx same.rx in
    let t = all_based heap tokens callers p.tx.items q.tx.items s.tx.items new.tx same.tx in
    let nj : length q.journal.items ≡ journals = same_many q.journal.items p.journal.items same.journal ∙ many.journal in
    let nr : length q.rx.items ≡ links = same_many q.rx.items p.rx.items same.rx ∙ many.rx in
    let nt : length q.tx.items ≡ links = same_many q.tx.items p.tx.items same.tx ∙ many.tx in record {
      memory = (no_items q.memory.home left.memory.0, m.callers_are);
      service = (no_items q.service.home left.service.0, v.callers_are);
      journal = empties (log_on log heap) tokens callers q.journal.items j left.journal;
      rx = empties heap tokens callers q.rx.items r left.rx;
      tx = empties heap tokens callers q.tx.items t left.tx;
      memory_base = m.base_is;
      journal_base = λ k d low. ap (λ (x : LogBasis). x.heap) (j k d low).base_is;
      rx_base = λ k d low. (r k d low).base_is;
      tx_base = λ k d low. (t k d low).base_is;
      few = omega (arith, few, nj);
      even = nt ∙ sym nr;
      passes = omega (arith, passes, nj, nr, nt);
    }

pub bases : {D T B : Type 0} (base : B) (tokens callers : ℕ) (ls now : List (LaneValue D T B)) (ss : List (DeviceValue D T B)) → AreNewLanes base tokens callers ls ss → map outline now ≡ map outline ls → All (λ (x : PortId B). x.key.base ≡ base) (map port_of now)
bases {B = B} base tokens callers ls now ss are same = all_map (λ (x : PortId B). x.key.base ≡ base) port_of now (λ k d low. (all_based base tokens callers ls now ss are same k d low).base_is)

pub token_counts : {D T B : Type 0} (base : B) (tokens callers : ℕ) (ls now : List (LaneValue D T B)) (ss : List (DeviceValue D T B)) → AreNewLanes base tokens callers ls ss → map outline now ≡ map outline ls → All (λ (x : PortId B). x.tokens.slots ≡ tokens) (map port_of now)
token_counts {B = B} base tokens callers ls now ss are same = all_map (λ (x : PortId B). x.tokens.slots ≡ tokens) port_of now (λ k d low. (all_based base tokens callers ls now ss are same k d low).tokens_are)

-- the seats of ports that have dealt their passes
pub seats_of : {D T B : Type 0} (h : HeapId) (base : B) (tokens callers : ℕ) (ls now : List (LaneValue D T B)) (ss : List (DeviceValue D T B)) (ps : List (Pair D T B))
    → AreNewLanes base tokens callers ls ss → map outline now ≡ map outline ls → map seat_of ps ≡ ss → All (λ (s : Pair D T B). s.1 ≡ new_pass h) ps → AreNewPairs h callers (map port_of now) ps
seats_of h base tokens callers ls now ss ps are same seats new =
    subst (λ xs. AreNewPairs h callers xs ps) (sym (same_ports now ls same)) (pairs_new h base tokens callers ls ps (subst (AreNewLanes base tokens callers ls) (sym seats) are) new)

pub seat_one : {D T B : Type 0} (h : HeapId) (base : B) (tokens callers : ℕ) (l m : LaneValue D T B) (s : DeviceValue D T B) (p : Pair D T B) → IsNewLane base tokens callers l s → outline m ≡ outline l → p.0 ≡ s → p.1 ≡ new_pass h → IsNewPair h callers m.port p
seat_one h base tokens callers l m s p is same seat new =
    (subst (λ x. IsNewSeat x callers p.0) (sym (ap (λ (x : LaneValue _ _ _). x.port) same)) (subst (IsNewSeat l.port callers) (sym seat) is.4), new)

pub new_left : {L P O S T B : Type 0} (heap : HeapId) (b : B) (log : LogBasis) (tokens callers : ℕ) (p : Ports L P O S T B) (s : PortSeats L P O S T B) → AreNewPorts heap b log tokens callers p s → HaveLeft callers p
new_left heap b log tokens callers p s new = record {
  memory = new.memory.3;
  service = new.service.3;
  journal = λ k d low. (each_fresh (log_on log heap) tokens callers p.journal.items s.journal.items new.journal k d low).left;
  rx = λ k d low. (each_fresh heap tokens callers p.rx.items s.rx.items new.rx k d low).left;
  tx = λ k d low. (each_fresh heap tokens callers p.tx.items s.tx.items new.tx k d low).left;
}

map_wide : {A B : Type 0} (f : A → B) (xs : List A) → length (map f xs) ≡ length xs
map_wide f [] = refl
map_wide f (x ∷ xs) = ap suc (map_wide f xs)

-- how many lanes there are, as ports
pub as_wide : {D T B : Type 0} (n : ℕ) (ls now : List (LaneValue D T B)) → length ls ≡ n → map outline now ≡ map outline ls → length (map port_of now) ≡ n
as_wide n ls now long same = map_wide port_of now ∙ same_many now ls same ∙ long
