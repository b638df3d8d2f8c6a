-- Ports that have dealt passes, or taken them back, are the same ports.
use Rattle.std.proofs.Common.{◌≡◌, ℕ, List, length, map, get_or, ap, sym, subst, ◌∙◌}
use Rattle.std.proofs.Math.ListN.{get_or-map}
use Rattle.demi_heap.specs.Seen.{HeapId, new_pass}
use Rattle.demi_pdpix.specs.declared.dealing.Room.{Room}
use Rattle.demi_pdpix.specs.declared.ports.Ports.{Ports}
use Rattle.demi_pdpix.specs.Lanes.{LaneValue}
use Rattle.demi_pdpix.specs.Making.{AreNewPasses, AreSamePorts, IsRoom, outline, whole_of}
use Rattle.demi_pdpix.specs.Seen.{CallerValue, DemiId, IsNewCaller}
use Rattle.demi_pdpix.proofs.Dealt.{same_many, same_ports}

pub outline_at : {D T B : Type 0} (xs ys : List (LaneValue D T B)) → map outline xs ≡ map outline ys → (k : ℕ) (d : LaneValue D T B) → outline (get_or xs k d) ≡ outline (get_or ys k d)
outline_at xs ys e k d = sym (get_or-map outline xs k d) ∙ ap (λ l. get_or l k (outline d)) e ∙ get_or-map outline ys k d

pub same_on : {L P O S T B : Type 0} (p q r : Ports L P O S T B) → AreSamePorts p q → AreSamePorts q r → AreSamePorts p r
same_on p q r a b = record {
  memory = b.memory ∙ a.memory;
  service = b.service ∙ a.service;
  journal = b.journal ∙ a.journal;
  rx = b.rx ∙ a.rx;
  tx = b.tx ∙ a.tx;
}

-- the room for the passes of the old ports is one for those of the new
pub still_room : {L P O S T B : Type 0} (p q : Ports L P O S T B) (r : Room) → AreSamePorts p q → length p.tx.items ≡ length p.rx.items → IsRoom (length p.journal.items) (length p.rx.items) r
    → (length q.tx.items ≡ length q.rx.items) × IsRoom (length q.journal.items) (length q.rx.items) r
still_room p q r same even room =
    let rx = same_many q.rx.items p.rx.items same.rx in let tx = same_many q.tx.items p.tx.items same.tx in let journal = same_many q.journal.items p.journal.items same.journal in
    (tx ∙ even ∙ sym rx, subst (λ n. IsRoom n (length q.rx.items) r) (sym journal) (subst (λ n. IsRoom (length p.journal.items) n r) (sym rx) room))

pub whole_same : {L P O S T B : Type 0} (h : HeapId) (p q : Ports L P O S T B) (n : ℕ) → AreSamePorts p q → whole_of h p n ≡ whole_of h q n
whole_same h p q n same = λ i. record {
  heap = h;
  memory = sym (ap (λ (l : LaneValue _ _ _). l.port) same.memory) i;
  service = sym (ap (λ (l : LaneValue _ _ _). l.port) same.service) i;
  journal = sym (same_ports q.journal.items p.journal.items same.journal) i;
  rx = sym (same_ports q.rx.items p.rx.items same.rx) i;
  tx = sym (same_ports q.tx.items p.tx.items same.tx) i;
  callers = n;
}

-- a caller with new passes of the ports is a new caller of the whole
pub new_of : {L P O S T B : Type 0} (h : HeapId) (p q : Ports L P O S T B) (many n : ℕ) (c : CallerValue S T B) → AreSamePorts p q → c.heap ≡ new_pass h → AreNewPasses q n c → IsNewCaller (whole_of h p many) n c
new_of h p q many n c same heap new = subst (λ (d : DemiId _). IsNewCaller d n c) (sym (whole_same h p q many same)) record {
  heap = heap;
  memory = new.memory;
  service = new.service;
  journal = new.journal;
  rx = new.rx;
  tx = new.tx;
}
