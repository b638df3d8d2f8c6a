-- What scans and notes tell.
use Rattle.std.specs.Prelude.{◌≡◌, ℕ, ◌+◌, ◌≤◌, List, [], ◌∷◌, ◌++◌, map, max, replicate, bit_and, bit_or, slice_index_or}
use Rattle.demi_port_core.specs.Words.{wakers_word}
use Rattle.demi_port.specs.Seen.{PassValue}
use Rattle.demi_pdpix.specs.declared.kind.PortKind.{PortKind}
use Rattle.demi_pdpix.specs.declared.kind.PortKind.TheVariants.{Memory, Service, Journal, Receiving, Sending, Nowhere}
use Rattle.demi_pdpix.specs.Calls.{Changed, OnJournal, OnMemory, OnRx, OnService, OnTx}
use Rattle.demi_pdpix.specs.Seen.{CallerValue}

-- the pass p found these waker bits of the mask set, cleared them, and became q, which owes a look at each
abbrev pub Scanned : {D T B : Type 0} → List ℕ → List ℕ → PassValue D T B → PassValue D T B → Type 0
Scanned mask bits p q = (t : ℕ) × (n : ℕ) × (p.clock ≤ t) × (bits ≡ bit_and n (slice_index_or mask 0 0) ∷ replicate 15 0)
    × (q ≡ record p { clock = t + 1; looks = p.looks ++ (t, (wakers_word, n)) ∷ []; owes = bit_or p.owes (bit_and n (slice_index_or mask 0 0)) })

-- what one scan of a port of this kind tells, of that port's pass alone
abbrev pub ScannedAt : {D T B : Type 0} → PortKind → List ℕ → List ℕ → CallerValue D T B → CallerValue D T B → Type 0
ScannedAt Memory mask bits c e = OnMemory c e × Scanned mask bits c.memory e.memory
ScannedAt Service mask bits c e = OnService c e × Scanned mask bits c.service e.service
ScannedAt Journal mask bits c e = OnJournal c e × Changed 0 c.journal e.journal (Scanned mask bits)
ScannedAt (Receiving k) mask bits c e = OnRx c e × Changed k c.rx e.rx (Scanned mask bits)
ScannedAt (Sending k) mask bits c e = OnTx c e × Changed k c.tx e.tx (Scanned mask bits)
ScannedAt Nowhere mask bits c e = ⊥

-- the pass once it has made a note
abbrev pub noted : {D T B : Type 0} → PassValue D T B → PassValue D T B
noted p = record p { notes = p.notes + 1 }

-- the pass p once it has learnt what q has seen
abbrev pub learnt : {D T B : Type 0} → PassValue D T B → PassValue D T B → PassValue D T B
learnt p q = record p { seen = max p.seen q.seen; learnt = p.learnt + 1 }

-- the same of each pass, each of the one at its place
abbrev pub each_learnt : {D T B : Type 0} → List (PassValue D T B) → List (PassValue D T B) → List (PassValue D T B)
each_learnt [] qs = []
each_learnt (p ∷ ps) [] = p ∷ ps
each_learnt (p ∷ ps) (q ∷ qs) = learnt p q ∷ each_learnt ps qs

-- the caller once it has made a note on each port
abbrev pub all_noted : {D T B : Type 0} → CallerValue D T B → CallerValue D T B
all_noted c = record c { memory = noted c.memory; service = noted c.service; journal = map noted c.journal; rx = map noted c.rx; tx = map noted c.tx }

-- the caller once it has learnt on each port what another has seen there
abbrev pub all_learnt : {D T B : Type 0} → CallerValue D T B → CallerValue D T B → CallerValue D T B
all_learnt c e = record c { memory = learnt c.memory e.memory; service = learnt c.service e.service; journal = each_learnt c.journal e.journal; rx = each_learnt c.rx e.rx; tx = each_learnt c.tx e.tx }
