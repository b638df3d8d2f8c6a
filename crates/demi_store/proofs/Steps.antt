-- One operation further.
use Rattle.std.proofs.Common.{◌≡◌, ◌≢◌, ℕ, ◌+◌, ◌<◌, ◌≤◌, List, [], ◌∷◌, ◌++◌, length, take, cond, ap, sym, ◌∙◌, subst, arith, refl, length-append}
use Rattle.std.specs.Prelude.{Option, Some, None, slice_get, ◌==◌}
use Rattle.std.proofs.lemmas.List.{take-append-le}
use Rattle.std.proofs.Common.{take_all, append_assoc}
use Rattle.demi_port_core.specs.History.{Each}
use Rattle.demi_port_core.specs.Trails.{MayTell, told_at}
use Rattle.demi_device.specs.Serving.{AllCome, NonePends, above, places, trail}
use Rattle.demi_store.specs.declared.ask.StoreAsk.{StoreAsk}
use Rattle.demi_store.specs.declared.out.StoreOut.{StoreOut}
use Rattle.demi_store.specs.declared.told.StoreTold.{StoreTold}
use Rattle.demi_store.specs.History.{Said, Standing, said_at, standing, standing_from, opened, struck_at}
use Rattle.demi_store.specs.Laws.{StoreBasis, Admits, SaysTo, said_to, told_of}
use Rattle.demi_store.specs.Steady.{standing_same}
use Rattle.demi_store.specs.Engine.{InOrder, stood}
use Rattle.demi_logq.proofs.Saying.{other_is, same_is}

-- what is said, and what stands then, with what stood last
abbrev pub said_on : ℕ → ℕ → StoreAsk → Option StoreTold → Standing → Said × Standing
said_on limit p ask struck s = said_at limit p s ask struck

append_none : {A : Type 0} (l : List A) → l ++ [] ≡ l
append_none [] = refl
append_none (x ∷ l) = λ i. x ∷ append_none l i

-- one more operation
standing_on : (limit : ℕ) (s : ℕ → Option StoreTold) (p n : ℕ) (st : Standing) (h : List StoreAsk) (op : StoreAsk) → p + length h ≡ n → standing_from limit s p st (h ++ op ∷ []) ≡ (said_on limit n op (s n) (standing_from limit s p st h)).1
standing_on limit s p n st [] op e = let same : p ≡ n = omega arith in ap (λ (k : ℕ). (said_on limit k op (s k) st).1) same
standing_on limit s p n st (o ∷ h) op e = standing_on limit s (p + 1) n (said_on limit p o (s p) st).1 h op (omega arith)

-- one more outcome
trail_on : (f : List (ℕ × StoreOut)) (p : ℕ) (o : StoreOut) → trail told_of (f ++ (p, o) ∷ []) ≡ trail told_of f ++ told_at p (told_of o)
trail_on [] p o = append_none (told_at p (told_of o))
trail_on (x ∷ f) p o = ap (λ (l : List (ℕ × StoreTold)). told_at x.0 (told_of x.1) ++ l) (trail_on f p o) ∙ sym (append_assoc (told_at x.0 (told_of x.1)) (trail told_of f) (told_at p (told_of o)))

-- what one outcome tells of its place, and of another
struck_here : (p : ℕ) (t : Option StoreTold) → struck_at (told_at p t) p ≡ t
struck_here p None = refl
struck_here p (Some t) = ap (λ b. cond b (Some t) None) (same_is p p refl)

struck_there : (p q : ℕ) (t : Option StoreTold) (rest : List (ℕ × StoreTold)) → p ≢ q → struck_at (told_at p t ++ rest) q ≡ struck_at rest q
struck_there p q None rest ne = refl
struck_there p q (Some t) rest ne = ap (λ b. cond b (Some t) (struck_at rest q)) (other_is p q ne)

-- of places in order from i on the one behind them
struck_next : (i n : ℕ) (f : List (ℕ × StoreOut)) (t : Option StoreTold) → InOrder i f → i + length f ≡ n → struck_at (trail told_of f ++ told_at n t) n ≡ t
struck_next i n [] t o e = struck_here n t
struck_next i n (x ∷ f) t o e =
    let at = o.0 in
    ap (λ (l : List (ℕ × StoreTold)). struck_at l n) (append_assoc (told_at x.0 (told_of x.1)) (trail told_of f) (told_at n t))
    ∙ struck_there x.0 n (told_of x.1) (trail told_of f ++ told_at n t) (λ z. omega arith)
    ∙ struck_next (i + 1) n f t o.1 (omega arith)

-- and of those before it what was told of them
struck_last : (p q : ℕ) (t : Option StoreTold) → p ≢ q → struck_at (told_at p t) q ≡ None
struck_last p q None ne = refl
struck_last p q (Some t) ne = ap (λ b. cond b (Some t) None) (other_is p q ne)

struck_before : (t : List (ℕ × StoreTold)) (n q : ℕ) (s : Option StoreTold) → n ≢ q → struck_at (t ++ told_at n s) q ≡ struck_at t q
struck_before [] n q s ne = struck_last n q s ne
struck_before (x ∷ t) n q s ne = ap (λ (o : Option StoreTold). cond (x.0 == q) (Some x.1) o) (struck_before t n q s ne)

places_other : (i n : ℕ) (f : List (ℕ × StoreOut)) → InOrder i f → i + length f ≤ n → Each (λ (q : ℕ). q ≢ n) (places f)
places_other i n [] o le = tt
places_other i n (x ∷ f) o le = ((λ e. let a = o.0 in omega arith), places_other (i + 1) n f o.1 (omega arith))

above_is : (i n : ℕ) (f : List (ℕ × StoreOut)) → InOrder i f → i + length f ≤ n → above (places f) ≤ n
above_is i n [] o le = omega arith
above_is i n (x ∷ f) o le = let r = above_is (i + 1) n f o.1 (omega arith) in let a = o.0 in omega arith

order_on : (i n : ℕ) (f : List (ℕ × StoreOut)) (o : StoreOut) → InOrder i f → i + length f ≡ n → InOrder i (f ++ (n, o) ∷ [])
order_on i n [] o r e = ((let z : n ≡ i = omega arith in z), tt)
order_on i n (x ∷ f) o r e = (r.0, order_on (i + 1) n f o r.1 (omega arith))

may_tell : (floor p : ℕ) (t : Option StoreTold) → floor ≤ p → MayTell floor p t
may_tell floor p None le = tt
may_tell floor p (Some t) le = le

got_last : (h : List StoreAsk) (op : StoreAsk) → slice_get (h ++ op ∷ []) (length h) ≡ Some op
got_last [] op = refl
got_last (x ∷ h) op = got_last h op

take_last : (h more : List StoreAsk) → take (length h) (h ++ more) ≡ h
take_last h more = take-append-le (length h) h more (omega arith) ∙ take_all (length h) h (omega arith)

module _ (b : StoreBasis) (h : List StoreAsk) (f : List (ℕ × StoreOut)) (order : InOrder 0 f) (count : length f ≡ length h) (op : StoreAsk) (o : StoreOut) where
  -- what stands behind the operations of which the outcomes tell no more
  same_stands : standing b.limit b.records (struck_at (trail told_of f ++ told_at (length h) (told_of o))) h ≡ stood b h f
  same_stands = standing_same b.limit (struck_at (trail told_of f)) (struck_at (trail told_of f ++ told_at (length h) (told_of o))) 0 (opened b.records) h (λ q less. struck_before (trail told_of f) (length h) q (told_of o) (λ e. omega arith))

  here : struck_at (trail told_of f ++ told_at (length h) (told_of o)) (length h) ≡ told_of o
  here = struck_next 0 (length h) f (told_of o) order (omega arith)

  pub stood_on : stood b (h ++ op ∷ []) (f ++ (length h, o) ∷ []) ≡ (said_on b.limit (length h) op (told_of o) (stood b h f)).1
  stood_on =
      ap (λ (t : List (ℕ × StoreTold)). standing b.limit b.records (struck_at t) (h ++ op ∷ [])) (trail_on f (length h) o)
      ∙ standing_on b.limit (struck_at (trail told_of f ++ told_at (length h) (told_of o))) 0 (length h) (opened b.records) h op (omega arith)
      ∙ ap (λ (s : Option StoreTold). (said_on b.limit (length h) op s (standing b.limit b.records (struck_at (trail told_of f ++ told_at (length h) (told_of o))) h)).1) here
      ∙ ap (λ (st : Standing). (said_on b.limit (length h) op (told_of o) st).1) same_stands

  said_here : said_to b (h ++ op ∷ []) (trail told_of f ++ told_at (length h) (told_of o)) (length h) op ≡ (said_on b.limit (length h) op (told_of o) (stood b h f)).0
  said_here =
      ap (λ (l : List StoreAsk). (said_on b.limit (length h) op (struck_at (trail told_of f ++ told_at (length h) (told_of o)) (length h)) (standing b.limit b.records (struck_at (trail told_of f ++ told_at (length h) (told_of o))) l)).0) (take_last h (op ∷ []))
      ∙ ap (λ (s : Option StoreTold). (said_on b.limit (length h) op s (standing b.limit b.records (struck_at (trail told_of f ++ told_at (length h) (told_of o))) h)).0) here
      ∙ ap (λ (st : Standing). (said_on b.limit (length h) op (told_of o) st).0) same_stands

  pub comes : SaysTo b.told op.op (said_on b.limit (length h) op (told_of o) (stood b h f)).0 o → AllCome (length (h ++ op ∷ [])) told_of (Admits b (h ++ op ∷ [])) (trail told_of f) (places f) ((length h, o) ∷ [])
  comes is = let n = length-append h (op ∷ []) in (
    record {
      served = omega arith;
      open_yet = places_other 0 (length h) f order (omega arith);
      may_tell = may_tell (above (places f)) (length h) (told_of o) (above_is 0 (length h) f order (omega arith));
      admitted = (op, got_last h op, subst (λ (a : Said). SaysTo b.told op.op a o) (sym said_here) is);
    },
    tt,
  )

  pub order_next : InOrder 0 (f ++ (length h, o) ∷ [])
  order_next = order_on 0 (length h) f o order (omega arith)

  pub count_next : length (f ++ (length h, o) ∷ []) ≡ length (h ++ op ∷ [])
  count_next = let a = length-append f ((length h, o) ∷ []) in let c = length-append h (op ∷ []) in omega arith

-- each place has its outcome
all_there : (i p : ℕ) (f : List (ℕ × StoreOut)) → InOrder i f → i ≤ p → p < i + length f → Each (λ (q : ℕ). q ≢ p) (places f) → ⊥
all_there i p [] o low high e = omega arith
all_there i p (x ∷ f) o low high e = all_there (i + 1) p f o.1 (let ne = e.0 in let a = o.0 in omega arith) (omega arith) e.1

pub none_pends : (h : List StoreAsk) (f : List (ℕ × StoreOut)) → InOrder 0 f → length f ≡ length h → NonePends (length h) (places f)
none_pends h f order count p less e = all_there 0 p f order (omega arith) (omega arith) e
