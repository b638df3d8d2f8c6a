-- What a sending engine becomes by calls.
use Rattle.std.specs.Prelude.{◌≡◌, ℕ, ◌+◌, ◌≤◌, List, [], ◌∷◌, ◌++◌, length, take, Option, Some, None, ◌⊎◌, refl}
use Rattle.std.proofs.Common.{sym, ap, ◌∙◌, subst, arith, append_assoc, length-append, inl, inr}
use Rattle.std.specs.Io.KnownBytes.{append_known}
use Rattle.demi_core.specs.Outside.{Rose}
use Rattle.demi_heap.specs.Seen.{PassValue}
use Rattle.demi_streamq.specs.declared.tx_op.TxOp.{TxOp}
use Rattle.demi_streamq.specs.declared.tx_out.TxOut.{TxOut}
use Rattle.demi_streamq.specs.declared.tx_out.TxOut.TheVariants.{Pushed, Fault, Broken, Shut, Closed, Stopped, Halted}
use Rattle.demi_streamq.specs.RxGoing.{order_append}
use Rattle.demi_streamq.specs.RxKept.{InOrder}
use Rattle.demi_streamq.specs.RxSteady.{append_none}
use Rattle.demi_streamq.specs.TxKept.{all_segments, all_written, bytes_of, HasFault, written_of}

-- what a contract sees of a sending engine: its sink, its heap pass, what it was served and what it finished
pub record TxValue (S : Type 0) : Type 0 where
  pub sink : S
  pub pass : PassValue
  pub served : List TxOp
  pub finished : List (ℕ × TxOut)

-- the sink took these bytes, and its count of faults did not fall
abbrev pub Wrote : {S : Type 0} → (S → Option (List ℕ)) → (S → ℕ) → S → List ℕ → S → Type 0
Wrote written faults s bytes s' = (written s' ≡ append_known (written s) bytes) × (faults s ≤ faults s')

-- What one outcome of an operation with these bytes did with the sink. A fault is told only where the sink's own count rose in that
-- very operation, and what is not written does not touch the sink.
abbrev pub TxDid : {S : Type 0} → (S → Option (List ℕ)) → (S → ℕ) → S → List ℕ → TxOut → S → Type 0
TxDid written faults s bytes Pushed s' = Wrote written faults s bytes s'
TxDid written faults s bytes (Fault k) s' = Wrote written faults s (take k bytes) s' × Rose (faults s) (faults s')
TxDid written faults s bytes (Broken q) s' = s' ≡ s
TxDid written faults s bytes Shut s' = s' ≡ s
TxDid written faults s bytes Closed s' = s' ≡ s
TxDid written faults s bytes (Stopped q) s' = s' ≡ s
TxDid written faults s bytes Halted s' = s' ≡ s

-- the operations did so one after another, each with its outcome
abbrev pub TxRun : {S : Type 0} → (S → Option (List ℕ)) → (S → ℕ) → S → List TxOp → List (ℕ × TxOut) → S → Type 0
TxRun written faults s [] [] s' = s' ≡ s
TxRun written faults s [] (o ∷ os) s' = ⊥
TxRun written faults s (op ∷ ops) [] s' = ⊥
TxRun {S} written faults s (op ∷ ops) (o ∷ os) s' = (t : S) × TxDid written faults s (bytes_of op) o.1 t × TxRun written faults t ops os s'

-- Over some calls: operations were served, and each has its outcome, by rising places. Their bytes, as far as the outcomes say, were written in
-- their order, the sink's count of faults rose where one is a fault, and each did with the sink what it says. The pass has ended the device half of each segment that was
-- pushed, and done nothing else.
pub record TxGoes {S : Type 0} (written : S → Option (List ℕ)) (faults : S → ℕ) (a b : TxValue S) : Type 0 where
  pub more : List TxOp
  pub added : List (ℕ × TxOut)
  pub served : b.served ≡ a.served ++ more
  pub finished : b.finished ≡ a.finished ++ added
  pub even : length added ≡ length more
  pub order : InOrder (length a.served) added
  pub written_is : written b.sink ≡ append_known (written a.sink) (all_written more added)
  pub later : faults a.sink ≤ faults b.sink
  pub rose : HasFault added → Rose (faults a.sink) (faults b.sink)
  pub run : TxRun written faults a.sink more added b.sink
  pub pass : b.pass ≡ record a.pass { returned = b.pass.returned }
  pub numbers : b.pass.returned ≡ a.pass.returned + all_segments more

pub written_append : (m n : List TxOp) (a b : List (ℕ × TxOut)) → length a ≡ length m → all_written (m ++ n) (a ++ b) ≡ all_written m a ++ all_written n b
written_append [] n [] b e = refl
written_append [] n (o ∷ os) b e = absurd (omega arith)
written_append (op ∷ ops) n [] b e = absurd (omega arith)
written_append (op ∷ ops) n (o ∷ os) b e =
    ap (λ l. written_of (bytes_of op) o.1 ++ l) (written_append ops n os b (omega arith)) ∙ sym (append_assoc (written_of (bytes_of op) o.1) (all_written ops os) (all_written n b))

pub segments_append : (m n : List TxOp) → all_segments (m ++ n) ≡ all_segments m + all_segments n
segments_append [] n = omega arith
segments_append (op ∷ ops) n = let e = segments_append ops n in omega arith

fault_in : (a b : List (ℕ × TxOut)) → HasFault (a ++ b) → HasFault a ⊎ HasFault b
fault_in [] b f = inr f
fault_in (o ∷ os) b f = elim f [ inl x ↦ inl (inl x) | inr y ↦ elim (fault_in os b y) [ inl u ↦ inl (inr u) | inr v ↦ inr v ] ]

known_none : (k : Option (List ℕ)) → k ≡ append_known k []
known_none None = refl
known_none (Some l) = ap Some (sym (append_none l))

pub known_twice : (k : Option (List ℕ)) (a b : List ℕ) → append_known (append_known k a) b ≡ append_known k (a ++ b)
known_twice None a b = refl
known_twice (Some l) a b = ap Some (append_assoc l a b)

module _ {S : Type 0} (written : S → Option (List ℕ)) (faults : S → ℕ) where
  tx_run_on : (m n : List TxOp) (a b : List (ℕ × TxOut)) (s t u : S) → TxRun written faults s m a t → TxRun written faults t n b u → TxRun written faults s (m ++ n) (a ++ b) u
  tx_run_on [] n [] b s t u x y = subst (λ (v : S). TxRun written faults v n b u) x y
  tx_run_on [] n (o ∷ os) b s t u x y = absurd x
  tx_run_on (op ∷ ops) n [] b s t u x y = absurd x
  tx_run_on (op ∷ ops) n (o ∷ os) b s t u x y = (x.0, x.1, tx_run_on ops n os b x.0 t u x.2 y)

  pub tx_goes_self : (e : TxValue S) → TxGoes written faults e e
  tx_goes_self e =
      record {
        more = [];
        added = [];
        served = sym (append_none e.served);
        finished = sym (append_none e.finished);
        even = refl;
        order = tt;
        written_is = known_none (written e.sink);
        later = omega arith;
        rose = λ f. absurd f;
        run = refl;
        pass = refl;
        numbers = omega arith;
      }

  pub tx_goes_on : (a b c : TxValue S) → TxGoes written faults a b → TxGoes written faults b c → TxGoes written faults a c
  tx_goes_on a b c p q =
      record {
        more = p.more ++ q.more;
        added = p.added ++ q.added;
        served = q.served ∙ ap (λ l. l ++ q.more) p.served ∙ append_assoc a.served p.more q.more;
        finished = q.finished ∙ ap (λ l. l ++ q.added) p.finished ∙ append_assoc a.finished p.added q.added;
        even = let x = p.even in let y = q.even in let l = length-append p.added q.added in let k = length-append p.more q.more in omega arith;
        order = let x = p.even in let l = ap length p.served in let k = length-append a.served p.more in order_append (length a.served) (length b.served) p.added q.added p.order q.order (omega arith);
        written_is =
            q.written_is ∙ ap (λ k. append_known k (all_written q.more q.added)) p.written_is ∙ known_twice (written a.sink) (all_written p.more p.added) (all_written q.more q.added)
            ∙ ap (append_known (written a.sink)) (sym (written_append p.more q.more p.added q.added p.even));
        later = let x = p.later in let y = q.later in omega arith;
        rose = λ f. elim (fault_in p.added q.added f) [ inl u ↦ let r = p.rose u in let y = q.later in omega arith | inr v ↦ let r = q.rose v in let x = p.later in omega arith ];
        run = tx_run_on p.more q.more p.added q.added a.sink b.sink c.sink p.run q.run;
        pass = q.pass ∙ ap (λ (v : PassValue). record v { returned = c.pass.returned }) p.pass;
        numbers = let x = p.numbers in let y = q.numbers in let l = segments_append p.more q.more in omega arith;
      }
