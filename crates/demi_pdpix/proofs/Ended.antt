-- Ports that end, each with its seat.
use Rattle.std.proofs.Common.{◌≡◌, ℕ, zero, suc, ◌+◌, ◌<◌, inl, inr, List, [], ◌∷◌, ◌++◌, All, length, length-append, get_or, map, refl, reverse, ap, sym, subst, ◌∙◌, append_assoc, arith}
use Rattle.std.proofs.Math.ListN.{get_or-map}
use Rattle.demi_heap.specs.Seen.{HeapId}
use Rattle.demi_heap.specs.Seen.{PassValue as HeapPassValue}
use Rattle.demi_port_core.specs.History.{AnyOf, Each, total}
use Rattle.demi_port.specs.Seen.{DeviceValue, EndValue, PassValue, PortId}
use Rattle.demi_pdpix.specs.Closing.{AllBack, AllBackAt, AllEnds, AreEndsOf, AreReady, IsReady, beside, heap_passes}
use Rattle.demi_pdpix.specs.Lanes.{IsEndOf, LaneValue, port_of, with_home}
use Rattle.demi_pdpix.specs.Returning.{HasReturned}
use Rattle.demi_pdpix.specs.Seen.{AreAt, CallerValue, LogPair, Pair, RxPair, TxPair, heap_of}
use Rattle.demi_pdpix.proofs.Untouched.{no_items}
use Rattle.demi_pdpix.proofs.Returned.{fewer, next_at, some_pass, total_map}

pub one_end : {D T B : Type 0} (ls : List (LaneValue D T B)) (ss : List (Pair D T B)) (es : List (EndValue D T B)) (l : LaneValue D T B) (s : Pair D T B) (e : EndValue D T B)
    → AllEnds ls ss es → IsEndOf l.port s.0 l.home e → AllEnds (ls ++ l ∷ []) (ss ++ s ∷ []) (es ++ e ∷ [])
one_end [] [] [] l s e all is = (is, tt)
one_end [] [] (x ∷ es) l s e all is = absurd all
one_end [] (x ∷ ss) es l s e all is = absurd all
one_end (x ∷ ls) [] es l s e all is = absurd all
one_end (x ∷ ls) (y ∷ ss) [] l s e all is = absurd all
one_end (x ∷ ls) (y ∷ ss) (z ∷ es) l s e all is = (all.0, one_end ls ss es l s e all.1 is)

pub ended_lens : {D T B : Type 0} (ls : List (LaneValue D T B)) (ss : List (Pair D T B)) (es : List (EndValue D T B)) → AllEnds ls ss es → (length es ≡ length ls) × (length ss ≡ length ls)
ended_lens [] [] [] all = (refl, refl)
ended_lens [] [] (x ∷ es) all = absurd all
ended_lens [] (x ∷ ss) es all = absurd all
ended_lens (x ∷ ls) [] es all = absurd all
ended_lens (x ∷ ls) (y ∷ ss) [] all = absurd all
ended_lens (x ∷ ls) (y ∷ ss) (z ∷ es) all = let r = ended_lens ls ss es all.1 in (ap suc r.0, ap suc r.1)

pub end_at : {D T B : Type 0} (ls : List (LaneValue D T B)) (ss : List (Pair D T B)) (es : List (EndValue D T B)) (k : ℕ) (l : LaneValue D T B) (s : Pair D T B) (e : EndValue D T B)
    → AllEnds ls ss es → k < length ls → IsEndOf (get_or ls k l).port (get_or ss k s).0 (get_or ls k l).home (get_or es k e)
end_at [] ss es k l s e all low = absurd (omega (arith, low))
end_at (x ∷ ls) [] es k l s e all low = absurd all
end_at (x ∷ ls) (y ∷ ss) [] k l s e all low = absurd all
end_at (x ∷ ls) (y ∷ ss) (z ∷ es) zero l s e all low = all.0
end_at (x ∷ ls) (y ∷ ss) (z ∷ es) (suc k) l s e all low = end_at ls ss es k l s e all.1 (omega (arith, low))

each_map : {A B : Type 0} (P : B → Type 0) (f : A → B) (xs : List A) → Each (λ x. P (f x)) xs → Each P (map f xs)
each_map P f [] e = tt
each_map P f (x ∷ xs) e = (e.0, each_map P f xs e.1)

any_map : {A B : Type 0} (P : B → Type 0) (f : A → B) (xs : List A) → AnyOf (λ x. P (f x)) xs → AnyOf P (map f xs)
any_map P f [] e = absurd e
any_map P f (x ∷ xs) (inl e) = inl e
any_map P f (x ∷ xs) (inr e) = inr (any_map P f xs e)

pub each_to : {A : Type 0} (P Q : A → Type 0) (xs : List A) → ((x : A) → P x → Q x) → Each P xs → Each Q xs
each_to P Q [] f e = tt
each_to P Q (x ∷ xs) f e = (f x e.0, each_to P Q xs f e.1)

-- a lane to which the callers' passes have come back can be closed
pub ready : {A D T B : Type 0} (f : A → PassValue D T B) (callers : List A) (l : LaneValue D T B) (s : DeviceValue D T B)
    → Each (λ (c : A). (f c).port ≡ l.port) callers → AllBack f callers l.port s → l.home ≡ map f callers → IsReady l s
ready {D = D} {T = T} {B = B} f callers l s of back home = record {
  port = (back.seat, subst (Each (λ (p : PassValue D T B). p.port ≡ l.port)) (sym home) (each_map (λ (p : PassValue D T B). p.port ≡ l.port) f callers of));
  all = λ n low. subst (AnyOf (λ (p : PassValue D T B). p.number ≡ n)) (sym home) (any_map (λ (p : PassValue D T B). p.number ≡ n) f callers (back.all n low));
  even = subst (λ (h : List (PassValue D T B)). total (λ p. length p.submitted) h ≡ total (λ p. length p.redeemed) h) (sym home)
      (total_map (λ (p : PassValue D T B). length p.submitted) f callers ∙ back.even ∙ sym (total_map (λ (p : PassValue D T B). length p.redeemed) f callers));
}

-- a pass of a list is of the port at its place
pub pass_at : {D T B : Type 0} (ps : List (PassValue D T B)) (xs : List (PortId B)) (k : ℕ) (p : PassValue D T B) (x : PortId B) → AreAt ps xs → k < length xs → (get_or ps k p).port ≡ get_or xs k x
pass_at [] [] k p x are low = absurd (omega (arith, low))
pass_at [] (y ∷ xs) k p x are low = absurd are
pass_at (q ∷ ps) [] k p x are low = absurd (omega (arith, low))
pass_at (q ∷ ps) (y ∷ xs) zero p x are low = are.0
pass_at (q ∷ ps) (y ∷ xs) (suc k) p x are low = pass_at ps xs k p x are.1 (omega (arith, low))

pub many_at : {D T B : Type 0} (ps : List (PassValue D T B)) (xs : List (PortId B)) → AreAt ps xs → length ps ≡ length xs
many_at [] [] are = refl
many_at [] (x ∷ xs) are = absurd are
many_at (q ∷ ps) [] are = absurd are
many_at (q ∷ ps) (x ∷ xs) are = ap suc (many_at ps xs are.1)

pub map_len : {A B : Type 0} (f : A → B) (xs : List A) → length (map f xs) ≡ length xs
map_len f [] = refl
map_len f (x ∷ xs) = ap suc (map_len f xs)

-- the lane and the seat that come next can be closed
pub ready_next : {D T B : Type 0} (lanes : List (LaneValue D T B)) (seats : List (Pair D T B)) (ends : List (EndValue D T B)) (gone left new : List (LaneValue D T B)) (done more rest : List (Pair D T B)) (l : LaneValue D T B) (s : Pair D T B)
    → ((k : ℕ) (l : LaneValue D T B) (s : Pair D T B) → k < length lanes → IsReady (get_or lanes k l) (get_or seats k s).0)
    → lanes ≡ gone ++ reverse left → left ≡ new ++ l ∷ [] → seats ≡ done ++ reverse more → more ≡ rest ++ s ∷ [] → AllEnds gone done ends → IsReady l s.0
ready_next lanes seats ends gone left new done more rest l s each is pops are takes all =
    let n = ended_lens gone done ends all in
    subst (λ m. IsReady m s.0) (next_at lanes gone left new l l is pops)
    (subst (λ z. IsReady (get_or lanes (length gone) l) z.0) (ap (λ k. get_or seats k s) (sym n.1) ∙ next_at seats done more rest s s are takes)
    (each (length gone) l s (fewer lanes gone left new l is pops)))

came_home : {D T B : Type 0} (l m : LaneValue D T B) (ps : List (PassValue D T B)) → l ≡ with_home m ps → m.home ≡ [] → (l.port ≡ m.port) × (l.home ≡ ps)
came_home l m ps is none = (ap (λ (z : LaneValue _ _ _). z.port) is, ap (λ (z : LaneValue _ _ _). z.home) is ∙ ap (λ h. h ++ ps) none)

-- the same, of a lane that was empty
pub ready_lane : {A D T B : Type 0} (f : A → PassValue D T B) (callers : List A) (l m : LaneValue D T B) (port : PortId B) (s : DeviceValue D T B)
    → l ≡ with_home m (map f callers) → m.home ≡ [] → m.port ≡ port → Each (λ (c : A). (f c).port ≡ port) callers → AllBack f callers port s → IsReady l s
ready_lane {A = A} f callers l m port s is none at of back =
    let h = came_home l m (map f callers) is none in let q : port ≡ l.port = sym at ∙ sym h.0 in
    ready f callers l s (subst (λ x. Each (λ (c : A). (f c).port ≡ x) callers) q of) (subst (λ x. AllBack f callers x s) q back) h.1

pub ended_lane : {A D T B : Type 0} (f : A → PassValue D T B) (callers : List A) (l m : LaneValue D T B) (port : PortId B) (s : DeviceValue D T B) (e : EndValue D T B)
    → l ≡ with_home m (map f callers) → m.home ≡ [] → m.port ≡ port → IsEndOf l.port s l.home e → IsEndOf port s (map f callers) e
ended_lane f callers l m port s e is none at ends =
    let h = came_home l m (map f callers) is none in
    subst (λ x. IsEndOf x s (map f callers) e) (h.0 ∙ at) (subst (λ ps. IsEndOf l.port s ps e) h.1 ends)

-- each caller's pass of the port k is of that port
pub ports_at : {A D T B : Type 0} (f : A → List (PassValue D T B)) (ports : List (PortId B)) (callers : List A) (k : ℕ) (p : PassValue D T B) (x : PortId B) → Each (λ (c : A). AreAt (f c) ports) callers → k < length ports → Each (λ (c : A). (get_or (f c) k p).port ≡ get_or ports k x) callers
ports_at {A = A} f ports callers k p x of low = each_to (λ (c : A). AreAt (f c) ports) (λ (c : A). (get_or (f c) k p).port ≡ get_or ports k x) callers (λ c is. pass_at (f c) ports k p x is low) of

-- lanes that were empty, to which the callers' passes have come back, can be closed
pub ready_lanes : {A D T B : Type 0} (f : A → List (PassValue D T B)) (callers : List A) (ports : List (PortId B)) (old now : List (LaneValue D T B)) (seats : List (Pair D T B))
    → map port_of old ≡ ports → All (λ (l : LaneValue D T B). l.home ≡ []) old → length now ≡ length old → HasReturned (λ k p c. get_or (f c) k p) old callers now
    → Each (λ (c : A). AreAt (f c) ports) callers → AllBackAt (λ k p c. get_or (f c) k p) callers ports seats → AreReady now seats
ready_lanes f callers ports old now seats same empty many has of back k l s low =
    let low-old : k < length old = omega (arith, low, many) in
    let wide : length ports ≡ length old = ap length (sym same) ∙ map_len port_of old in let low-port : k < length ports = omega (arith, low-old, wide) in
    ready_lane (λ c. get_or (f c) k (some_pass l)) callers (get_or now k l) (get_or old k l) (get_or ports k (port_of l)) (get_or seats k s).0
    (has k l (some_pass l) low-old) (empty k l low-old) (sym (get_or-map port_of old k l) ∙ ap (λ xs. get_or xs k (port_of l)) same)
    (ports_at f ports callers k (some_pass l) (port_of l) of low-port) (back k (some_pass l) (port_of l) s low-port)

pub ended_lanes : {A D T B : Type 0} (f : A → List (PassValue D T B)) (callers : List A) (ports : List (PortId B)) (old now : List (LaneValue D T B)) (seats : List (Pair D T B)) (ends : List (EndValue D T B))
    → map port_of old ≡ ports → All (λ (l : LaneValue D T B). l.home ≡ []) old → length now ≡ length old → HasReturned (λ k p c. get_or (f c) k p) old callers now
    → AllEnds now seats ends → AreEndsOf (λ k p c. get_or (f c) k p) callers ports seats ends
ended_lanes f callers ports old now seats ends same empty many has all =
    let wide : length ports ≡ length old = ap length (sym same) ∙ map_len port_of old in record {
      many = (ended_lens now seats ends all).0 ∙ many ∙ sym wide;
      each = λ k p x s e low. let low-old : k < length old = omega (arith, low, wide) in let l : LaneValue _ _ _ = record { port = x; home = []; callers = 0 } in
          ended_lane (λ c. get_or (f c) k p) callers (get_or now k l) (get_or old k l) (get_or ports k x) (get_or seats k s).0 (get_or ends k e)
          (has k l p low-old) (empty k l low-old) (sym (get_or-map port_of old k l) ∙ ap (λ xs. get_or xs k x) same)
          (end_at now seats ends k l s e all (omega (arith, low-old, many)));
    }

each_append : {A : Type 0} (P : A → Type 0) (xs ys : List A) → Each P xs → Each P ys → Each P (xs ++ ys)
each_append P [] ys a b = b
each_append P (x ∷ xs) ys a b = (a.0, each_append P xs ys a.1 b)

pub all_of_each : {A : Type 0} (P : A → Type 0) (xs : List A) → Each P xs → All P xs
all_of_each P [] e k d low = absurd (omega (arith, low))
all_of_each P (x ∷ xs) e zero d low = e.0
all_of_each P (x ∷ xs) e (suc k) d low = all_of_each P xs e.1 k d (omega (arith, low))

pub each_beside : {D T B : Type 0} (h : HeapId) (ps : List (Pair D T B)) → Each (λ (s : Pair D T B). s.1.heap ≡ h) ps → Each (λ (p : HeapPassValue). p.heap ≡ h) (map beside ps)
each_beside {D = D} {T = T} {B = B} h ps each = each_map (λ (p : HeapPassValue). p.heap ≡ h) (beside {D = D} {T = T} {B = B}) ps each

pub all_of_heap : {E U C : Type 0} (h : HeapId) (callers : List (CallerValue E U C)) (memory service : HeapPassValue) (journal : List LogPair) (rx : List RxPair) (tx : List TxPair)
    → Each (λ (c : CallerValue E U C). c.heap.heap ≡ h) callers → memory.heap ≡ h → service.heap ≡ h
    → Each (λ (s : LogPair). s.1.heap ≡ h) journal → Each (λ (s : RxPair). s.1.heap ≡ h) rx → Each (λ (s : TxPair). s.1.heap ≡ h) tx
    → All (λ (p : HeapPassValue). p.heap ≡ h) (heap_passes callers memory service journal rx tx)
all_of_heap {E = E} {U = U} {C = C} h callers memory service journal rx tx a b c d e f =
    let P = λ (p : HeapPassValue). p.heap ≡ h in
    all_of_each P (heap_passes callers memory service journal rx tx)
    (each_append P (map heap_of callers ++ memory ∷ service ∷ map beside journal ++ map beside rx) (map beside tx)
    (each_append P (map heap_of callers ++ memory ∷ service ∷ map beside journal) (map beside rx)
    (each_append P (map heap_of callers) (memory ∷ service ∷ map beside journal) (each_map P (heap_of {D = E} {T = U} {B = C}) callers a) (b, (c, each_beside h journal d)))
    (each_beside h rx e)) (each_beside h tx f))

pub gathered : {E U C : Type 0} (callers : List (CallerValue E U C)) (memory service : HeapPassValue) (journal : List LogPair) (rx : List RxPair) (tx : List TxPair) (one two three four five six : List HeapPassValue)
    → one ≡ map heap_of callers → two ≡ one ++ memory ∷ [] → three ≡ two ++ service ∷ [] → four ≡ three ++ map beside journal → five ≡ four ++ map beside rx → six ≡ five ++ map beside tx
    → six ≡ heap_passes callers memory service journal rx tx
gathered callers memory service journal rx tx one two three four five six a b c d e f =
    f ∙ ap (λ l. l ++ map beside tx) (e ∙ ap (λ l. l ++ map beside rx) (d ∙ ap (λ l. l ++ map beside journal) (c ∙ ap (λ l. l ++ service ∷ []) (b ∙ ap (λ l. l ++ memory ∷ []) a))
    ∙ append_assoc (map heap_of callers ++ memory ∷ []) (service ∷ []) (map beside journal) ∙ append_assoc (map heap_of callers) (memory ∷ []) (service ∷ map beside journal)))

pub many_passes : {E U C : Type 0} (callers : List (CallerValue E U C)) (memory service : HeapPassValue) (journal : List LogPair) (rx : List RxPair) (tx : List TxPair)
    → length (heap_passes callers memory service journal rx tx) ≡ length callers + 2 + length journal + length rx + length tx
many_passes callers memory service journal rx tx =
    let a = length-append (map heap_of callers ++ memory ∷ service ∷ map beside journal ++ map beside rx) (map beside tx) in
    let b = length-append (map heap_of callers ++ memory ∷ service ∷ map beside journal) (map beside rx) in
    let c = length-append (map heap_of callers) (memory ∷ service ∷ map beside journal) in
    let d = map_len heap_of callers in let e = map_len beside journal in let f = map_len beside rx in let g = map_len beside tx in omega (arith, a, b, c, d, e, f, g)

-- the one lane that there is, and its seat
pub ready_only : {D T B : Type 0} (lanes left : List (LaneValue D T B)) (l : LaneValue D T B) (seats : List (Pair D T B)) (s : Pair D T B)
    → AreReady lanes seats → seats ≡ s ∷ [] → length seats ≡ length lanes → lanes ≡ left ++ l ∷ [] → IsReady l s.0
ready_only lanes left l seats s ready one many is =
    let a = ap length one in let b = ap length is in let c = length-append left (l ∷ []) in
    let none : left ≡ [] = no_items left (omega (arith, a, b, c, many)) in
    subst (λ ss. IsReady l (get_or ss 0 s).0) one
    (subst (λ m. IsReady m (get_or seats 0 s).0) (ap (λ ls. get_or ls 0 l) (is ∙ ap (λ ls. ls ++ l ∷ []) none)) (ready 0 l s (omega (arith, b, c))))
