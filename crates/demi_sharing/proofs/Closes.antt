-- The closed port of the memory queues says who has which link.
use Rattle.std.proofs.Common.{◌≡◌, ℕ, zero, suc, ◌+◌, ◌<◌, List, [], ◌∷◌, length, Some, refl, arith, ◌∙◌, ap, sym, subst}
use Rattle.std.specs.Prelude.{slice_get}
use Rattle.demi_heap.specs.Seen.{HalfValue, HeapId}
use Rattle.demi_memq.specs.declared.op.MemOp.{MemOp}
use Rattle.demi_memq.specs.declared.op.MemOp.TheVariants.{Push, Pop, Stop}
use Rattle.demi_memq.specs.declared.out.MemOut.{MemOut}
use Rattle.demi_memq.specs.declared.out.MemOut.TheVariants.{Closed, Item, Pushed}
use Rattle.demi_pdpix.specs.Seen.{MemPass}
use Rattle.demi_port.specs.Seen.{DeviceValue, EndValue, PortId, known_at, known_by}
use Rattle.demi_port_core.specs.History.{Among, of_pass}
use Rattle.demi_port_core.specs.Trails.{Behind}
use Rattle.demi_served.proofs.Entries.{get_elem}
use Rattle.demi_served.specs.Sharing.{Got, Shared, number_of}
use Rattle.demi_sharing.proofs.Deeds.{Notes}
use Rattle.demi_sharing.proofs.Lists.{all_at, each_at, get_some, some_is}
use Rattle.demi_sharing.proofs.Ran.{deed_at, did_at}
use Rattle.demi_sharing.proofs.Worked.{Worked, first_worked, other_worked}
use Rattle.demi_sharing.specs.Closing.{AllTook, ClosedShares, FirstTook, OthersTook, OtherTook, SharedOut}

others_long : (links n : ℕ) (taken : List (List ℕ)) (passes : List MemPass) → OthersTook links n taken passes → length taken ≡ length passes
others_long links n [] [] h = refl
others_long links n [] (p ∷ ps) h = absurd h
others_long links n (x ∷ taken) [] h = absurd h
others_long links n (x ∷ taken) (p ∷ ps) h = let e = others_long links (n + 1) taken ps h.1 in omega (arith, e)

all_long : (links : ℕ) (taken : List (List ℕ)) (passes : List MemPass) → AllTook links taken passes → length taken ≡ length passes
all_long links [] passes h = absurd h
all_long links (x ∷ taken) [] h = absurd h
all_long links (x ∷ taken) (p ∷ ps) h = let e = others_long links 1 taken ps h.1 in omega (arith, e)

some_worker : (links : ℕ) (taken : List (List ℕ)) (passes : List MemPass) → AllTook links taken passes → 0 < length taken
some_worker links [] passes h = absurd h
some_worker links (x ∷ taken) passes h = omega arith

others_at : (links n : ℕ) (taken : List (List ℕ)) (passes : List MemPass) (i : ℕ) (numbers : List ℕ) → OthersTook links n taken passes
    → slice_get taken i ≡ Some numbers → (p : MemPass) × (slice_get passes i ≡ Some p) × OtherTook links (n + i) numbers p
others_at links n [] passes i numbers h e = absurd (cc)
others_at links n (x ∷ taken) [] i numbers h e = absurd h
others_at links n (x ∷ taken) (p ∷ ps) zero numbers h e =
    let m : n ≡ n + 0 = omega arith in
    (p, refl, subst (λ (k : ℕ). OtherTook links k numbers p) m (subst (λ (l : List ℕ). OtherTook links n l p) (some_is e) h.0))
others_at links n (x ∷ taken) (p ∷ ps) (suc i) numbers h e =
    let k = others_at links (n + 1) taken ps i numbers h.1 e in
    let m : n + 1 + i ≡ n + suc i = omega arith in
    (k.0, k.1, subst (λ (j : ℕ). OtherTook links j numbers k.0) m k.2)

module _ (links : ℕ) (taken : List (List ℕ)) (id : PortId HeapId) (seat : DeviceValue MemOp (Unit {0}) HeapId) (passes : List MemPass)
    (end : EndValue MemOp (Unit {0}) HeapId) (closed : ClosedShares links taken id seat passes end) where
  own : (i : ℕ) (p : MemPass) → slice_get passes i ≡ Some p → p.submitted ≡ of_pass p.number 0 end.history
  own i p at = each_at (λ (x : MemPass). x.submitted ≡ of_pass x.number 0 end.history) passes i p closed.ends.passes_of at

  behind : (i : ℕ) (p : MemPass) → slice_get passes i ≡ Some p → Behind (known_at end) (known_by p)
  behind i p at = each_at (λ (x : MemPass). Behind (known_at end) (known_by x)) passes i p closed.ends.behind at

  worked_in : (ts : List (List ℕ)) (ps : List MemPass) (i : ℕ) (numbers : List ℕ) → AllTook links ts ps
      → ((i : ℕ) (p : MemPass) → slice_get ps i ≡ Some p → slice_get passes i ≡ Some p)
      → slice_get ts i ≡ Some numbers → Worked links end i numbers
  worked_in [] ps i numbers h f e = absurd (cc)
  worked_in (x ∷ ts) [] i numbers h f e = absurd h
  worked_in (x ∷ ts) (p ∷ ps) zero numbers h f e =
      first_worked links end numbers p (subst (λ (l : List ℕ). FirstTook links l p) (some_is e) h.0) (own 0 p (f 0 p refl)) (behind 0 p (f 0 p refl)) closed.ends.heard
  worked_in (x ∷ ts) (p ∷ ps) (suc j) numbers h f e =
      let k = others_at links 1 ts ps j numbers h.1 e in
      let m : 1 + j ≡ suc j = omega arith in
      other_worked links end j numbers k.0 (subst (λ (n : ℕ). OtherTook links n numbers k.0) m k.2) (own (suc j) k.0 (f (suc j) k.0 k.1)) (behind (suc j) k.0 (f (suc j) k.0 k.1)) closed.ends.heard

  worked : (n : ℕ) (numbers : List ℕ) → slice_get taken n ≡ Some numbers → Worked links end n numbers
  worked n numbers at = worked_in taken passes n numbers closed.took (λ i p e. e) at

  many : length taken ≡ seat.passes
  many = all_long links taken passes closed.took ∙ sym closed.workers

  numbers_at : (n : ℕ) → n < seat.passes → (numbers : List ℕ) × Worked links end n numbers
  numbers_at n less =
      let m = many in
      let k = get_some taken n (omega arith) in
      (k.0, worked n k.0 k.1)

  of_worker : (p n t : ℕ) (op : MemOp) → slice_get end.history p ≡ Some (n, (t, op)) → (numbers : List ℕ) × Worked links end n numbers
  of_worker p n t op at = numbers_at n (closed.ends.entries p (n, (t, op)) (get_elem end.history p (n, (t, op)) at))

  push_goes_on : (sga : List HalfValue) → Push 0 sga ≡ Stop → ⊥
  push_goes_on sga e = cc

  pop_goes_on : Pop 0 ≡ Stop → ⊥
  pop_goes_on e = cc

  -- a push is the first worker's, and stands among its deeds where its number says
  record PushIs (p n : ℕ) (t : ℕ) (sga : List HalfValue) : Type 0 where
    first : n ≡ 0
    below : number_of sga < links
    here : slice_get (of_pass n 0 end.history) (suc (number_of sga)) ≡ Some (p, (t, Push 0 sga))

  push_is : (p n t : ℕ) (sga : List HalfValue) → slice_get end.history p ≡ Some (n, (t, Push 0 sga)) → PushIs p n t sga
  push_is p n t sga at =
      let w = of_worker p n t (Push 0 sga) at in
      let d = deed_at end.history p n t (Push 0 sga) w.1.deeds w.1.ran (push_goes_on sga) at in
      let k = w.1.are.pushes d.index sga d.out d.done in
      record {
        first = k.0;
        below = k.2;
        here = ap (λ (i : ℕ). slice_get (of_pass n 0 end.history) i) (sym k.1) ∙ d.own;
      }

  shared : Shared links seat.passes end.history
  shared = record {
    each = λ l less. (
        let m = many in
        let some = some_worker links taken passes closed.took in
        let w = numbers_at 0 (omega arith) in
        let k = w.1.are.dealt refl l less in
        let d = did_at end.history 0 k.0 w.1.deeds (Push 0 k.1, Pushed) w.1.ran k.2 in
        (d.0, 0, k.1, d.1, k.3));
    none_else = λ p n t sga at. (push_is p n t sga at).below;
    once = λ p q n m t u sga next at to same. (
        let a = push_is p n t sga at in
        let b = push_is q m u next to in
        let one = sym a.here ∙ ap (λ (k : ℕ). slice_get (of_pass k 0 end.history) (suc (number_of sga))) (a.first ∙ sym b.first)
        ∙ ap (λ (k : ℕ). slice_get (of_pass m 0 end.history) (suc k)) same ∙ b.here in
        ap (λ (z : ℕ × (ℕ × MemOp)). z.0) (some_is one));
    closed = λ n less. (
        let w = numbers_at n less in
        let k = w.1.are.closed in
        did_at end.history n k.0 w.1.deeds (Pop 0, Closed) w.1.ran k.1);
  }

  got : (n l : ℕ) (numbers : List ℕ) → slice_get taken n ≡ Some numbers → Among l numbers → Got end.history l n
  got n l numbers at a =
      let w = worked n numbers at in
      let k = w.are.got l a in
      let d = did_at end.history n k.0 w.deeds (Pop 0, Item k.1) w.ran k.2 in
      record { place = d.0; item = k.1; done = d.1; number = k.3 }

  noted : (n l : ℕ) (numbers : List ℕ) → slice_get taken n ≡ Some numbers → Got end.history l n → Among l numbers
  noted n l numbers at g =
      let w = worked n numbers at in
      let d = deed_at end.history g.place n g.done.token (Pop 0) w.deeds w.ran pop_goes_on g.done.here in
      let out : d.out ≡ Item g.item = some_is (sym d.told ∙ g.done.told) in
      let among = all_at (Notes numbers) w.deeds d.index (Pop 0, d.out) w.are.noted d.done g.item (ap (λ (o : MemOut). (Pop 0, o)) out) in
      subst (λ (k : ℕ). Among k numbers) g.number among

  taken_by : (l n : ℕ) → Got end.history l n → (numbers : List ℕ) × (slice_get taken n ≡ Some numbers)
  taken_by l n g =
      let less : n < seat.passes = closed.ends.entries g.place (n, (g.done.token, Pop 0)) (get_elem end.history g.place (n, (g.done.token, Pop 0)) g.done.here) in
      let m = many in
      get_some taken n (omega arith)

  -- given that each link has one worker by the numbers that passed
  pub shared_out : ((l : ℕ) → 0 < seat.passes → l < links → (n : ℕ) × Got end.history l n)
      → ((l n m : ℕ) → Got end.history l n → Got end.history l m → n ≡ m)
      → ((l n : ℕ) → Got end.history l n → l < links) → SharedOut links seat.passes taken end.history
  shared_out some one below = record {
    shared = shared;
    each = many;
    got = got;
    noted = noted;
    some = λ l less. (
        let m = many in
        let there = some_worker links taken passes closed.took in
        let g = some l (omega arith) less in
        let k = taken_by l g.0 g.1 in
        (g.0, k.0, k.1, noted g.0 l k.0 k.1 g.1));
    one = λ l n m numbers others at to a b. one l n m (got n l numbers at a) (got m l others to b);
    below = λ l n numbers at a. below l n (got n l numbers at a);
  }

  pub are_shared : Shared links seat.passes end.history
  are_shared = shared
