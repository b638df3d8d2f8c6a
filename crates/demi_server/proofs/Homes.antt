-- Links that leave home one by one, the last first, and come home again.
use Rattle.std.proofs.Common.{rules, ◌≡◌, ◌∙◌, ℕ, suc, ◌+◌, ◌≤◌, List, [], ◌∷◌, ◌++◌, All, Some, length, map, reverse, slice_index_or, sym, ap, subst, arith, append_assoc, length-append}
use Rattle.std.proofs.lemmas.List.{get_or_append_left, reverse-append}
use Rattle.std.proofs.lemmas.List.Elements.{All-pop, All-push}
use Rattle.std.proofs.Math.Seq.{get_or-append_seam}
use Rattle.demi_heap.specs.Seen.{HeapId}
use Rattle.demi_port.specs.Seen.{PortId}
use Rattle.demi_pdpix.specs.Seen.{Pair}
use Rattle.demi_server.specs.Building.{AreSeated, HasRoom, IsAsRoomy, IsEven, IsSeated}
use Rattle.demi_server.specs.declared.home.Home.{Home}

-- what is made of the last one comes next
one_home : {A X : Type 0} (f : A → X) (home : List X) (left : List A) (d : A) → (home ++ f d ∷ []) ++ map f (reverse left) ≡ home ++ map f (reverse (left ++ d ∷ []))
one_home f home left d = append_assoc home (f d ∷ []) (map f (reverse left)) ∙ ap (λ l. home ++ map f l) (sym (reverse-append left (d ∷ [])))

-- the last of those that are away came home
pub came : {A X : Type 0} (f : A → X) (home home' : List X) (away left : List A) (d : A) (x : X) → away ≡ left ++ d ∷ [] → home' ≡ home ++ x ∷ [] → x ≡ f d → home' ++ map f (reverse left) ≡ home ++ map f (reverse away)
came f home home' away left d x pops gives is =
    ap (λ l. l ++ map f (reverse left)) (gives ∙ ap (λ y. home ++ y ∷ []) is)
    ∙ one_home f home left d
    ∙ ap (λ l. home ++ map f (reverse l)) (sym pops)

-- the last of those at home left, and something was made of it
pub went : {A X : Type 0} (f : A → X) (home left : List X) (away away' : List A) (d : A) (x : X) → home ≡ left ++ x ∷ [] → away' ≡ away ++ d ∷ [] → f d ≡ x → left ++ map f (reverse away') ≡ home ++ map f (reverse away)
went f home left away away' d x pops adds is =
    ap (λ l. left ++ map f (reverse l)) adds
    ∙ sym (one_home f left away d)
    ∙ ap (λ y. (left ++ y ∷ []) ++ map f (reverse away)) is
    ∙ ap (λ l. l ++ map f (reverse away)) (sym pops)

-- a list that lost one and got it back
pub back : {X : Type 0} (home left again : List X) (x y : X) → home ≡ left ++ x ∷ [] → again ≡ left ++ y ∷ [] → y ≡ x → again ≡ home
back home left again x y pops gives is = gives ∙ ap (λ z. left ++ z ∷ []) is ∙ sym pops

-- there is one less
pub one_less : {X : Type 0} (home left : List X) (x : X) → home ≡ left ++ x ∷ [] → length home ≡ length left + 1
one_less home left x pops = ap length pops ∙ length-append left (x ∷ [])

-- what holds of all holds of the first ones and of the last
pub all_but_last : {A : Type 0} (P : A → Type 0) (all left : List A) (d : A) → all ≡ left ++ d ∷ [] → All P all → All P left × P d
all_but_last P all left d e h = All-pop P all left (Some d) e h

-- it holds of one more
pub all_and_one : {A : Type 0} (P : A → Type 0) (some more : List A) (d : A) → more ≡ some ++ d ∷ [] → All P some → P d → All P more
all_and_one P some more d e h p = subst (All P) (sym e) (All-push P some d h p)

-- the last seat is that of the port at its place, and the others are as before
pub last_seated : {D T : Type 0} (heap : HeapId) (ports : List (PortId HeapId)) (tokens : ℕ) (seats left : List (Pair D T HeapId)) (s : Pair D T HeapId)
    → seats ≡ left ++ s ∷ [] → AreSeated heap ports tokens seats
    → ((x : PortId HeapId) → IsSeated heap (slice_index_or ports (length left) x) tokens s) × AreSeated heap ports tokens left
last_seated {D} {T} heap ports tokens seats left s pops are =
    let n = one_less seats left s pops in (
      (λ x. subst (IsSeated heap (slice_index_or ports (length left) x) tokens) (ap (λ l. slice_index_or l (length left) s) pops ∙ get_or-append_seam left s [] s) (are (length left) x s (omega (arith, n)))),
      (λ k x d low. subst (IsSeated heap (slice_index_or ports k x) tokens) (ap (λ l. slice_index_or l k d) pops ∙ get_or_append_left left (s ∷ []) d k low) (are k x d (omega (arith, n, low)))),
    )

-- what holds of all holds of all from behind
pub all_reversed : {A : Type 0} (P : A → Type 0) (xs : List A) → All P xs → All P (reverse xs)
all_reversed P [] all = all
all_reversed P (x ∷ xs) all = subst (All P) (sym (reverse-append (x ∷ []) xs)) (All-push P (reverse xs) x (all_reversed P xs (λ k d low. all (suc k) d (omega (arith, low)))) (all 0 x (omega arith)))

-- none is away any more
pub all_home : {A X : Type 0} (f : A → X) (home start : List X) (away : List A) → away ≡ [] → home ++ map f (reverse away) ≡ start → home ≡ start
all_home f home start away none is = let z : home ≡ home ++ [] = search rules in z ∙ ap (λ l. home ++ map f (reverse l)) (sym none) ∙ is

-- none is at home any more
pub none_home : {A X : Type 0} (f : A → X) (home start : List X) (away : List A) → home ≡ [] → home ++ map f (reverse away) ≡ start → map f (reverse away) ≡ start
none_home f home start away none is = ap (λ l. l ++ map f (reverse away)) (sym none) ∙ is

-- there is room for those that are at home
pub room_here : {I O : Type 0} (h : Home I O) → IsEven h → HasRoom (length h.links.items) h
room_here h even = let a = h.links.ok in let b = h.rx.ok in let c = h.tx.ok in let e = even.rx in let f = even.tx in
    let a0 = a.0 in let a1 = a.1 in let b0 = b.0 in let b1 = b.1 in let c0 = c.0 in let c1 = c.1 in
    record { links = omega (arith, a0, a1); rx = omega (arith, b0, b1, e); tx = omega (arith, c0, c1, f) }

-- there is as much room for less
pub room_on : {I O : Type 0} (n m : ℕ) (h h' : Home I O) → m ≤ n → IsAsRoomy h h' → HasRoom n h → HasRoom m h'
room_on n m h h' low same room = let a = room.links in let b = room.rx in let c = room.tx in let d = same.links in let e = same.rx in let f = same.tx in
    record { links = omega (arith, low, a, d); rx = omega (arith, low, b, e); tx = omega (arith, low, c, f) }

-- the room is as it was at first
pub roomy_on : {I O : Type 0} (a b c : Home I O) → IsAsRoomy a b → IsAsRoomy b c → IsAsRoomy a c
roomy_on a b c p q = record { links = q.links ∙ p.links; rx = q.rx ∙ p.rx; tx = q.tx ∙ p.tx }

-- the seat that left last is that of the port with its number
pub seated_here : {D T : Type 0} (heap : HeapId) (ports : List (PortId HeapId)) (tokens k : ℕ) (seats left : List (Pair D T HeapId)) (s : Pair D T HeapId) (port : PortId HeapId)
    → seats ≡ left ++ s ∷ [] → AreSeated heap ports tokens seats → k ≡ length left → port ≡ slice_index_or ports k port → IsSeated heap port tokens s
seated_here heap ports tokens k seats left s port pops are is at =
    subst (λ p. IsSeated heap p tokens s) (ap (λ n. slice_index_or ports n port) (sym is) ∙ sym at) ((last_seated heap ports tokens seats left s pops are).0 port)

-- where none is away
pub none_away : {A X : Type 0} (f : A → X) (home : List X) (away : List A) → away ≡ [] → home ++ map f (reverse away) ≡ home
none_away f home away none = let z : home ++ [] ≡ home = search rules in ap (λ l. home ++ map f (reverse l)) none ∙ z
