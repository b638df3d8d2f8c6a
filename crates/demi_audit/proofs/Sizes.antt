-- How long random inputs are at most.
use Rattle.std.proofs.Common.{◌≡◌, ℕ, zero, suc, ◌+◌, ◌*◌, ◌≤◌, ◌<◌, ◌^◌, Bool, true, false, List, [], ◌∷◌, length, get_or, map, flat_map, subst, refl, ap, sym, ◌%◌, arith, length-append, cond}
use Rattle.std.specs.Prelude.{◌==◌, All, replicate}
use Rattle.std.specs.List.{range_with_len}
use Rattle.std.proofs.lemmas.List.{length-replicate}
use Rattle.std.specs.declared.vec.Vec.{Vec}
use Rattle.demi_spec.specs.Request.{Request, Put, Get, End, spelling}
use Rattle.demi_audit.specs.Generator.{after_request, dealt, input_of, inputs, key_numbered, request_by, request_from, requests_from}

request_small : (k kind n : ℕ) → n < 64 → length (spelling (request_by k kind n)) ≤ 72
request_small k kind n less = by (kind == 0)
  where
    by : (b : Bool) → length (spelling (cond b (Get (key_numbered k)) (Put (key_numbered k) (replicate n (97 + k % 26))))) ≤ 72
    by true = omega arith
    by false = omega (arith, length-replicate n (97 + k % 26))

one_dealt : (b : Bool) (r : Request) (rest : List Request) (n : ℕ) → length (spelling r) ≤ 72 → length (flat_map spelling rest) ≤ 72 * n → length (flat_map spelling (cond b (r ∷ rest) rest)) ≤ 72 * suc n
one_dealt true r rest n one few = omega (arith, length-append (spelling r) (flat_map spelling rest))
one_dealt false r rest n one few = omega arith

dealt_small : (links link n i state : ℕ) → length (flat_map spelling (dealt links link i (requests_from n state))) ≤ 72 * n
dealt_small links link zero i state = omega arith
dealt_small links link (suc n) i state =
    one_dealt (i % links == link) (request_from state) (dealt links link (i + 1) (requests_from n (after_request state))) n (request_small _ _ _ (omega arith)) (dealt_small links link n (i + 1) (after_request state))

input_small : (seed links count link : ℕ) → length (input_of seed links count link) ≤ 72 * count + 6
unfolding input_of
input_small seed links count link =
    omega (arith, length-append (flat_map spelling (dealt links link 0 (requests_from count seed))) (spelling End), dealt_small links link count 0 seed)

each_small : (f : ℕ → List ℕ) (most : ℕ) (xs : List ℕ) → ((x : ℕ) → length (f x) ≤ most) → (k : ℕ) → length (get_or (map f xs) k []) ≤ most
each_small f most [] small k = omega arith
each_small f most (x ∷ xs) small zero = small x
each_small f most (x ∷ xs) small (suc k) = each_small f most xs small k

item_at : {Y : Type 0} (vs : List (Vec ℕ Y)) (k : ℕ) (d : Vec ℕ Y) → k < length vs → get_or (map (λ (v : Vec ℕ Y). v.items) vs) k [] ≡ (get_or vs k d).items
item_at [] k d less = absurd (omega arith)
item_at (v ∷ vs) zero d less = refl
item_at (v ∷ vs) (suc k) d less = item_at vs k d (omega arith)

-- each has at most 72 bytes a request, and six more
pub inputs_small : {Y : Type 0} (seed links count : ℕ) (vs : List (Vec ℕ Y)) → count ≤ 1000000 → map (λ (v : Vec ℕ Y). v.items) vs ≡ inputs seed links count → All (λ (v : Vec ℕ Y). length v.items ≤ 2 ^ 34) vs
inputs_small {Y} seed links count vs few is = λ k d less.
    let small : length (get_or (inputs seed links count) k []) ≤ 72 * count + 6 = each_small (input_of seed links count) (72 * count + 6) (range_with_len 0 links) (input_small seed links count) k in
    let here : length (get_or (map (λ (v : Vec ℕ Y). v.items) vs) k []) ≤ 72 * count + 6 = subst (λ (l : List (List ℕ)). length (get_or l k []) ≤ 72 * count + 6) (sym is) small in
    omega (arith, here, ap length (item_at vs k d less))
