-- Histories and places, one operation further.
use Rattle.std.proofs.Common.{◌≡◌, ◌≢◌, ℕ, zero, suc, ◌+◌, ◌<◌, ◌≤◌, List, [], ◌∷◌, ◌++◌, length, take, Option, Some, None, Bool, true, cond, refl, sym, ap, ◌∙◌, arith, subst, length-append, append_assoc, ◌⊎◌, inl, inr}
use Rattle.std.specs.Prelude.{◌==◌, ltb, slice_get}
use Rattle.std.proofs.Math.Seq.{take-append_seam}
use Rattle.std.proofs.lemmas.Bool.{ne_eqb}
use Rattle.demi_port_core.specs.History.{Each}
use Rattle.demi_device.specs.Serving.{Comes, AllCome, places}
use Rattle.demi_memq.specs.declared.op.MemOp.{MemOp}
use Rattle.demi_memq.specs.declared.op.MemOp.TheVariants.{Queue, Push, Pop, Close, Stop}
use Rattle.demi_memq.specs.Counting.{beside, Counts, none_yet, popped, counted, accept, counts, gets, answer_unless, result_at}
use Rattle.demi_memq.specs.Steady.{append_none, got_append, take_got, from_append, on_cond}
use Rattle.demi_memq.specs.Rooms.{rest, on, Once, Pends, IsPop, AllPops}
use Rattle.demi_memq.proofs.Lists.{self_test, by_number, beside_same, beside_other, on_more, on_rest, no_outcome, get_last}

abbrev one : ℕ → ℕ → ℕ
one p j = cond (p == j) 1 0

one_here : (p : ℕ) → one p p ≡ 1
one_here p = ap (λ (b : Bool). let x : ℕ = cond b 1 0 in x) (self_test p)

none_there : (p j : ℕ) → p ≢ j → one p j ≡ 0
none_there p j ne = ap (λ (b : Bool). let x : ℕ = cond b 1 0 in x) (ne_eqb p j ne)

last_or : (l : List ℕ) (x k p : ℕ) → slice_get (l ++ x ∷ []) k ≡ Some p → (slice_get l k ≡ Some p) ⊎ ((k ≡ length l) × (x ≡ p))
last_or [] x zero p e = inr (refl, cc)
last_or [] x (suc k) p e = absurd (cc)
last_or (y ∷ ys) x zero p e = inl e
last_or (y ∷ ys) x (suc k) p e = elim (last_or ys x k p e) [ inl a ↦ inl a | inr b ↦ inr (ap suc b.0, b.1) ]

module _ {U : Type 0} where
  pub counted_more : (p j : ℕ) (o : U) (f : List (ℕ × U)) → length (beside j (f ++ (p, o) ∷ [])) ≡ length (beside j f) + cond (p == j) 1 0
  counted_more p j o f =
      by_number (λ j. length (beside j (f ++ (p, o) ∷ [])) ≡ length (beside j f) + cond (p == j) 1 0) p j
      (let a = ap length (beside_same p o f) in let b = length-append (beside p f) (o ∷ []) in let c = one_here p in omega arith)
      (λ ne. let a = ap length (beside_other p j o f ne) in let c = none_there p j ne in omega arith)

  pub once_new : (m : ℕ) (o : U) (f : List (ℕ × U)) (n : List (ℕ × ℕ)) → Once m f n → Once (m + 1) (f ++ (m, o) ∷ []) n
  once_new m o f n s =
      record {
        below = λ j lt. by_number (λ j. j < m + 1 → length (beside j (f ++ (m, o) ∷ [])) + on j n ≡ 1) m j (λ _. let a = s.above m (omega arith) in let b = counted_more m m o f in let c = one_here m in omega arith) (λ ne lt. let a = s.below j (let ne' : j ≢ m = λ e. ne (sym e) in omega arith) in let b = counted_more m j o f in let c = none_there m j ne in omega arith) lt;
        above = λ j le. let ne : m ≢ j = omega arith in let a = s.above j (omega arith) in let b = counted_more m j o f in let c = none_there m j ne in omega arith;
      }

  pub once_ask : (m q : ℕ) (f : List (ℕ × U)) (n : List (ℕ × ℕ)) → Once m f n → Once (m + 1) f (n ++ (q, m) ∷ [])
  once_ask m q f n s =
      record {
        below = λ j lt. by_number (λ j. j < m + 1 → length (beside j f) + on j (n ++ (q, m) ∷ []) ≡ 1) m j (λ _. let a = s.above m (omega arith) in let b = on_more m q m n in let c = one_here m in omega arith) (λ ne lt. let a = s.below j (let ne' : j ≢ m = λ e. ne (sym e) in omega arith) in let b = on_more j q m n in let c = none_there m j ne in omega arith) lt;
        above = λ j le. let ne : m ≢ j = omega arith in let a = s.above j (omega arith) in let b = on_more j q m n in let c = none_there m j ne in omega arith;
      }

  pub once_done : (m q p : ℕ) (r : List ℕ) (o : U) (f : List (ℕ × U)) (n : List (ℕ × ℕ)) → beside q n ≡ p ∷ r → Once m f n → Once m (f ++ (p, o) ∷ []) (rest q n)
  once_done m q p r o f n e s =
      record {
        below = λ j lt. let a = s.below j lt in let b = counted_more p j o f in let c = on_rest j q p r n e in omega arith;
        above = λ j le. let a = s.above j le in let b = counted_more p j o f in let c = on_rest j q p r n e in omega arith;
      }

  pub once_place : (m p : ℕ) (f : List (ℕ × U)) (n : List (ℕ × ℕ)) → Once m f n → 1 ≤ on p n → (p < m) × Pends p f
  once_place m p f n s some =
      elim (below_or m p) [
        | inl lt ↦ let a = s.below p lt in (lt, no_outcome p f (omega arith))
        | inr le ↦ let a = s.above p le in absurd (omega arith)
      ]
    where
      below_or : (m p : ℕ) → (p < m) ⊎ (m ≤ p)
      below_or m p = grind arith

  module _ (m : ℕ) (admits : ℕ → U → Type 0) where
    abbrev Right : List (ℕ × Unit {0}) → List ℕ → ℕ × U → Type 0
    Right t before o = Comes {T = Unit {0}} m (λ _. None) (λ _. admits) t before o

    abbrev AllRight : List (ℕ × Unit {0}) → List ℕ → List (ℕ × U) → Type 0
    AllRight t before added = AllCome {T = Unit {0}} m (λ _. None) (λ _. admits) t before added

    -- nothing is told
    untold : (t t' : List (ℕ × Unit {0})) (before : List ℕ) (o : ℕ × U) → Right t before o → Right t' before o
    untold t t' before o c = record { served = c.served; open_yet = c.open_yet; may_tell = tt; admitted = c.admitted }

    -- of what each outcome alone has
    pub come_with : (F : U → Type 0) (t t' : List (ℕ × Unit {0})) (before : List ℕ) (added : List (ℕ × U)) → AllRight t before added → Each (λ (o : ℕ × U). F o.1) added
        → AllCome {T = Unit {0}} m (λ _. None) (λ _ p o. admits p o × F o) t' before added
    come_with F t t' before [] all each = tt
    come_with F t t' before (o ∷ os) all each =
        (record { served = all.0.served; open_yet = all.0.open_yet; may_tell = tt; admitted = (all.0.admitted, each.0) }, come_with F (t ++ []) (t' ++ []) (before ++ o.0 ∷ []) os all.1 each.1)

    pub come_more : (t : List (ℕ × Unit {0})) (before : List ℕ) (added : List (ℕ × U)) (o : ℕ × U) → AllRight t before added → Right t (before ++ places added) o → AllRight t before (added ++ o ∷ [])
    come_more t before [] o all here = (subst (λ l. Right t l o) (append_none before) here, tt)
    come_more t before (a ∷ more) o all here =
        (all.0, come_more (t ++ []) (before ++ a.0 ∷ []) more o all.1 (untold t (t ++ []) _ o (subst (λ l. Right t l o) (sym (append_assoc before (a.0 ∷ []) (places more))) here)))

pub after : (m : ℕ) (h : List MemOp) (op : MemOp) → counts m (h ++ op ∷ []) ≡ counted m (length h) op (counts m h) (counts m h).stop
after m h op = from_append m 0 (length h) none_yet h (op ∷ []) (omega arith)

pub own_result : (m : ℕ) (h : List MemOp) (op : MemOp) → result_at m (h ++ op ∷ []) (length h) ≡ answer_unless (counts m h).stop m op (counts m h) (counts m (h ++ op ∷ []))
own_result m h op = rw (get_last h op, take-append_seam h (op ∷ [])) refl

pub pop_grows : (m : ℕ) (h more : List MemOp) (q k p : ℕ) → IsPop m h q k p → IsPop m (h ++ more) q k p
pop_grows m h more q k p s =
    let same : take p (h ++ more) ≡ take p h = take_got h more p (Pop q) s.here in
    record {
      here = got_append h more p (Pop q) s.here;
      calm = ap (λ l. (counts m l).stop) same ∙ s.calm;
      made = ap (λ l. ltb q (counts m l).made) same ∙ s.made;
      kth = ap (λ l. popped q (counts m l)) same ∙ s.kth;
    }

pub pop_result : (m : ℕ) (h : List MemOp) (q k p : ℕ) → IsPop m h q k p → result_at m h p ≡ gets q k (counts m h)
pop_result m h q k p s = rw (s.here, s.calm, s.made, s.kth) refl

-- the pops of these counts, where the last operation of the history may be one
abbrev Pops : ℕ → List MemOp → Counts → Type 0
Pops m h t = (q k p : ℕ) → slice_get (beside q t.pops) k ≡ Some p → IsPop m h q k p

pop_here : (m : ℕ) (h : List MemOp) (j : ℕ) → (counts m h).stop ≡ None → ltb j (counts m h).made ≡ true → AllPops m h → Pops m (h ++ Pop j ∷ []) (record (counts m h) { pops = (counts m h).pops ++ (j, length h) ∷ [] })
pop_here m h j calm made all q k p =
    by_number (λ q. slice_get (beside q ((counts m h).pops ++ (j, length h) ∷ [])) k ≡ Some p → IsPop m (h ++ Pop j ∷ []) q k p) j q
    (λ e. elim (last_or (beside j (counts m h).pops) (length h) k p (subst (λ l. slice_get l k ≡ Some p) (beside_same j (length h) (counts m h).pops) e)) [
      | inl a ↦ pop_grows m h (Pop j ∷ []) j k p (all j k p a)
      | inr b ↦ let full : take p (h ++ Pop j ∷ []) ≡ h = ap (λ i. take i (h ++ Pop j ∷ [])) (sym b.1) ∙ take-append_seam h (Pop j ∷ []) in
          record {
            here = ap (λ i. slice_get (h ++ Pop j ∷ []) i) (sym b.1) ∙ get_last h (Pop j);
            calm = ap (λ l. (counts m l).stop) full ∙ calm;
            made = ap (λ l. ltb j (counts m l).made) full ∙ made;
            kth = ap (λ l. popped j (counts m l)) full ∙ sym b.0;
          }
    ])
    (λ ne e. pop_grows m h (Pop j ∷ []) q k p (all q k p (subst (λ l. slice_get l k ≡ Some p) (beside_other j q (length h) (counts m h).pops ne) e)))

pops_accept : (m : ℕ) (h : List MemOp) (op : MemOp) → (counts m h).stop ≡ None → AllPops m h → Pops m (h ++ op ∷ []) (accept m (length h) op (counts m h))
pops_accept m h Queue calm all = on_cond (Pops m (h ++ Queue ∷ [])) _ _ _ (λ _ q k p e. pop_grows m h (Queue ∷ []) q k p (all q k p e)) (λ q k p e. pop_grows m h (Queue ∷ []) q k p (all q k p e))
pops_accept m h (Push j x) calm all = on_cond (Pops m (h ++ Push j x ∷ [])) _ _ _ (λ _ q k p e. pop_grows m h (Push j x ∷ []) q k p (all q k p e)) (λ q k p e. pop_grows m h (Push j x ∷ []) q k p (all q k p e))
pops_accept m h (Pop j) calm all = on_cond (Pops m (h ++ Pop j ∷ [])) (ltb j (counts m h).made) _ _ (λ made. pop_here m h j calm made all) (λ q k p e. pop_grows m h (Pop j ∷ []) q k p (all q k p e))
pops_accept m h (Close j) calm all = on_cond (Pops m (h ++ Close j ∷ [])) _ _ _ (λ _ q k p e. pop_grows m h (Close j ∷ []) q k p (all q k p e)) (λ q k p e. pop_grows m h (Close j ∷ []) q k p (all q k p e))
pops_accept m h Stop calm all = λ q k p e. pop_grows m h (Stop ∷ []) q k p (all q k p e)

pops_counted : (m : ℕ) (h : List MemOp) (op : MemOp) (s : Option ℕ) → (counts m h).stop ≡ s → AllPops m h → Pops m (h ++ op ∷ []) (counted m (length h) op (counts m h) s)
pops_counted m h op None e all = pops_accept m h op e all
pops_counted m h op (Some s) e all = λ q k p e'. pop_grows m h (op ∷ []) q k p (all q k p e')

pub pops_more : (m : ℕ) (h : List MemOp) (op : MemOp) → AllPops m h → AllPops m (h ++ op ∷ [])
pops_more m h op all = subst (Pops m (h ++ op ∷ [])) (sym (after m h op)) (pops_counted m h op (counts m h).stop refl all)
