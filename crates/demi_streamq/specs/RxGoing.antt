-- What a receiving engine becomes by calls.
use Rattle.std.specs.Prelude.{◌≡◌, ℕ, ◌+◌, ◌≤◌, List, [], ◌∷◌, ◌++◌, length, Option, Some, None, Bool, true, false, ◌⊎◌, refl}
use Rattle.std.proofs.Common.{sym, ap, ◌∙◌, arith, subst, append_assoc, length-append, inl, inr}
use Rattle.std.specs.Io.KnownBytes.{prepend_known}
use Rattle.demi_core.specs.Outside.{Rose}
use Rattle.demi_buf.specs.declared.class.Class.TheVariants.{Page}
use Rattle.demi_heap.specs.Rule.{first_of, end_of}
use Rattle.demi_heap.specs.Seen.{PassValue, SawOwned, looked_as, one_claimed, one_ended}
use Rattle.demi_streamq.specs.declared.rx_op.RxOp.{RxOp}
use Rattle.demi_streamq.specs.declared.rx_out.RxOut.{RxOut}
use Rattle.demi_streamq.specs.declared.rx_out.RxOut.TheVariants.{Piece, End, Fault, Broken, NoSlot, Stopped, Halted}
use Rattle.demi_streamq.specs.RxKept.{bytes_of, all_bytes, all_pieces, ended_after, ended_in, HasEnd, HasFault, InOrder, NoneLeft}
use Rattle.demi_streamq.specs.RxSteady.{append_none}

-- what a contract sees of a receiving engine: its source, its heap pass, what it was served and what it finished
pub record RxValue (S : Type 0) : Type 0 where
  pub source : S
  pub pass : PassValue
  pub served : List RxOp
  pub finished : List (ℕ × RxOut)

-- the pass claimed one slot that is given
abbrev pub TookOne : PassValue → PassValue → Type 0
TookOne p p' = p' ≡ one_claimed (looked_as p p')

-- the pass claimed one slot and freed it
abbrev pub TriedOne : PassValue → PassValue → Type 0
TriedOne p p' = p' ≡ one_ended (one_claimed (looked_as p p'))

-- each page had an owner at a step of its own, after those that the pass knew of
abbrev pub FoundNone : PassValue → PassValue → Type 0
FoundNone p p' = SawOwned p p' (first_of p.heap.shape Page) (end_of p.heap.shape Page) × (p' ≡ looked_as p p')

-- a read of this source gave this
abbrev pub ReadOnce : {S : Type 0} → (S → ℕ → Option (List ℕ) → S → Type 0) → S → Option (List ℕ) → S → Type 0
ReadOnce reads s gave s' = (max : ℕ) × reads s max gave s'

-- an end: the first by a read that gave nothing, and each later one by none
abbrev pub EndDid : {S : Type 0} → (S → ℕ → Option (List ℕ) → S → Type 0) → Bool → S → PassValue → S → PassValue → Type 0
EndDid reads true s p s' p' = (s' ≡ s) × (p' ≡ p)
EndDid reads false s p s' p' = ReadOnce reads s (Some []) s' × TriedOne p p'

-- What one outcome did with the source and the pass, where an end was told before or not. A fault is told only where the source's
-- own count rose in that very read.
abbrev pub RxDid : {S : Type 0} → (S → ℕ) → (S → ℕ → Option (List ℕ) → S → Type 0) → Bool → S → PassValue → RxOut → S → PassValue → Type 0
RxDid faults reads ended s p (Piece v) s' p' = ReadOnce reads s (Some v.bytes) s' × TookOne p p'
RxDid faults reads ended s p End s' p' = EndDid reads ended s p s' p'
RxDid faults reads ended s p (Fault k) s' p' = ReadOnce reads s None s' × Rose (faults s) (faults s') × TriedOne p p'
RxDid faults reads ended s p NoSlot s' p' = (s' ≡ s) × FoundNone p p'
RxDid faults reads ended s p (Broken q) s' p' = (s' ≡ s) × (p' ≡ p)
RxDid faults reads ended s p (Stopped q) s' p' = (s' ≡ s) × (p' ≡ p)
RxDid faults reads ended s p Halted s' p' = (s' ≡ s) × (p' ≡ p)

-- the outcomes did so one after another
abbrev pub RxRun : {S : Type 0} → (S → ℕ) → (S → ℕ → Option (List ℕ) → S → Type 0) → Bool → S → PassValue → List (ℕ × RxOut) → S → PassValue → Type 0
RxRun faults reads ended s p [] s' p' = (s' ≡ s) × (p' ≡ p)
RxRun {S} faults reads ended s p (o ∷ os) s' p' = (t : S) × (q : PassValue) × RxDid faults reads ended s p o.1 t q × RxRun faults reads (ended_after ended o.1) t q os s' p'

-- Over some calls: operations were served and outcomes were added, one for each, by rising places. Their bytes are those that the source gave, its count of faults
-- rose where one is a fault, nothing is left where one is an end, and each did with the source and the pass what it says, one after
-- another. The pass has claimed as many slots more than it ended as there are pieces, and lent and returned none.
pub record RxGoes {S : Type 0} (taken : S → ℕ) (left : S → Option (List ℕ)) (faults : S → ℕ) (reads : S → ℕ → Option (List ℕ) → S → Type 0) (a b : RxValue S) : Type 0 where
  pub more : List RxOp
  pub added : List (ℕ × RxOut)
  pub served : b.served ≡ a.served ++ more
  pub finished : b.finished ≡ a.finished ++ added
  pub even : length added ≡ length more
  pub order : InOrder (length a.served) added
  pub taken_is : taken b.source ≡ taken a.source + length (all_bytes added)
  pub left_is : left a.source ≡ prepend_known (all_bytes added) (left b.source)
  pub later : faults a.source ≤ faults b.source
  pub rose : HasFault added → Rose (faults a.source) (faults b.source)
  pub ended : HasEnd added → NoneLeft (left b.source)
  pub run : RxRun faults reads (ended_in false a.finished) a.source a.pass added b.source b.pass
  pub pass : b.pass ≡ record a.pass { claimed = b.pass.claimed; ended = b.pass.ended; clock = b.pass.clock; missed = b.pass.missed }
  pub numbers : b.pass.claimed + a.pass.ended ≡ a.pass.claimed + b.pass.ended + all_pieces added

pub all_append : (a b : List (ℕ × RxOut)) → all_bytes (a ++ b) ≡ all_bytes a ++ all_bytes b
all_append [] b = refl
all_append (o ∷ os) b = ap (λ l. bytes_of o.1 ++ l) (all_append os b) ∙ sym (append_assoc (bytes_of o.1) (all_bytes os) (all_bytes b))

pub pieces_append : (a b : List (ℕ × RxOut)) → all_pieces (a ++ b) ≡ all_pieces a + all_pieces b
pieces_append [] b = omega arith
pieces_append (o ∷ os) b = let e = pieces_append os b in omega arith

-- outcomes by rising places, and then more of them
pub order_append : {U : Type 0} (k n : ℕ) (a b : List (ℕ × U)) → InOrder k a → InOrder n b → n ≡ k + length a → InOrder k (a ++ b)
order_append k n [] b x y e = let same : n ≡ k = omega arith in subst (λ (m : ℕ). InOrder m b) same y
order_append k n (o ∷ os) b x y e = (x.0, order_append (k + 1) n os b x.1 y (omega arith))

known_none : (k : Option (List ℕ)) → k ≡ prepend_known [] k
known_none None = refl
known_none (Some l) = refl

known_twice : (a b : List ℕ) (k : Option (List ℕ)) → prepend_known a (prepend_known b k) ≡ prepend_known (a ++ b) k
known_twice a b None = refl
known_twice a b (Some l) = ap Some (sym (append_assoc a b l))

fault_in : (a b : List (ℕ × RxOut)) → HasFault (a ++ b) → HasFault a ⊎ HasFault b
fault_in [] b f = inr f
fault_in (o ∷ os) b f = elim f [ inl x ↦ inl (inl x) | inr y ↦ elim (fault_in os b y) [ inl u ↦ inl (inr u) | inr v ↦ inr v ] ]

end_in : (a b : List (ℕ × RxOut)) → HasEnd (a ++ b) → HasEnd a ⊎ HasEnd b
end_in [] b f = inr f
end_in (o ∷ os) b f = elim f [ inl x ↦ inl (inl x) | inr y ↦ elim (end_in os b y) [ inl u ↦ inl (inr u) | inr v ↦ inr v ] ]

pub ended_append : (e : Bool) (a b : List (ℕ × RxOut)) → ended_in e (a ++ b) ≡ ended_in (ended_in e a) b
ended_append e [] b = refl
ended_append e (o ∷ os) b = ended_append (ended_after e o.1) os b

no_tail : (a l : List ℕ) → a ++ l ≡ [] → l ≡ []
no_tail [] l e = e
no_tail (x ∷ xs) l e = absurd (cc)

-- nothing is left later either
none_later : (a : List ℕ) (k : Option (List ℕ)) → NoneLeft (prepend_known a k) → NoneLeft k
none_later a None n = n
none_later a (Some l) n = no_tail a l n

module _ {S : Type 0} (taken : S → ℕ) (left : S → Option (List ℕ)) (faults : S → ℕ) (reads : S → ℕ → Option (List ℕ) → S → Type 0) where
  run_on : (e : Bool) (a b : List (ℕ × RxOut)) (s t u : S) (p q r : PassValue) → RxRun faults reads e s p a t q → RxRun faults reads (ended_in e a) t q b u r → RxRun faults reads e s p (a ++ b) u r
  run_on e [] b s t u p q r x y = subst (λ (m : S). RxRun faults reads e m p b u r) x.0 (subst (λ (n : PassValue). RxRun faults reads e t n b u r) x.1 y)
  run_on e (o ∷ os) b s t u p q r x y = (x.0, x.1, x.2, run_on (ended_after e o.1) os b x.0 t u x.1 q r x.3 y)

  pub rx_goes_self : (e : RxValue S) → RxGoes taken left faults reads e e
  rx_goes_self e =
      record {
        more = [];
        added = [];
        served = sym (append_none e.served);
        finished = sym (append_none e.finished);
        even = refl;
        order = tt;
        taken_is = omega arith;
        left_is = known_none (left e.source);
        later = omega arith;
        rose = λ f. absurd f;
        ended = λ f. absurd f;
        run = (refl, refl);
        pass = refl;
        numbers = omega arith;
      }

  pub rx_goes_on : (a b c : RxValue S) → RxGoes taken left faults reads a b → RxGoes taken left faults reads b c → RxGoes taken left faults reads a c
  rx_goes_on a b c p q =
      record {
        more = p.more ++ q.more;
        added = p.added ++ q.added;
        served = q.served ∙ ap (λ l. l ++ q.more) p.served ∙ append_assoc a.served p.more q.more;
        finished = q.finished ∙ ap (λ l. l ++ q.added) p.finished ∙ append_assoc a.finished p.added q.added;
        even = let x = p.even in let y = q.even in let l = length-append p.added q.added in let k = length-append p.more q.more in omega arith;
        order = let x = p.even in let l = ap length p.served in let k = length-append a.served p.more in order_append (length a.served) (length b.served) p.added q.added p.order q.order (omega arith);
        taken_is = let x = p.taken_is in let y = q.taken_is in let l = ap length (all_append p.added q.added) in let k = length-append (all_bytes p.added) (all_bytes q.added) in omega arith;
        left_is = p.left_is ∙ ap (prepend_known (all_bytes p.added)) q.left_is ∙ known_twice (all_bytes p.added) (all_bytes q.added) (left c.source) ∙ ap (λ l. prepend_known l (left c.source)) (sym (all_append p.added q.added));
        later = let x = p.later in let y = q.later in omega arith;
        rose = λ f. elim (fault_in p.added q.added f) [ inl u ↦ let r = p.rose u in let y = q.later in omega arith | inr v ↦ let r = q.rose v in let x = p.later in omega arith ];
        ended = λ f. elim (end_in p.added q.added f) [ inl u ↦ none_later (all_bytes q.added) (left c.source) (subst NoneLeft q.left_is (p.ended u)) | inr v ↦ q.ended v ];
        run = run_on (ended_in false a.finished) p.added q.added a.source b.source c.source a.pass b.pass c.pass p.run (subst (λ e. RxRun faults reads e b.source b.pass q.added c.source c.pass) (ap (ended_in false) p.finished ∙ ended_append false a.finished p.added) q.run);
        pass = q.pass ∙ ap (λ (v : PassValue). record v { claimed = c.pass.claimed; ended = c.pass.ended; clock = c.pass.clock; missed = c.pass.missed }) p.pass;
        numbers = let x = p.numbers in let y = q.numbers in let l = pieces_append p.added q.added in omega arith;
      }
