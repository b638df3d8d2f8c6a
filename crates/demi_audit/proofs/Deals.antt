-- One request more is drawn and dealt.
use Rattle.std.proofs.Common.{◌≡◌, ℕ, zero, suc, ◌+◌, ◌-◌, ◌%◌, ◌<◌, ◌≤◌, ◌≢◌, Bool, true, false, List, [], ◌∷◌, ◌++◌, map, flat_map, refl, ap, sym, ◌∙◌, arith, append_assoc, cond}
use Rattle.std.specs.Prelude.{◌==◌}
use Rattle.std.proofs.lemmas.Bool.Decides.{nat_tests}
use Rattle.std.proofs.lemmas.List.{append-nil, map-append}
use Rattle.std.proofs.lemmas.List.FromFn.{map-range_with_len_more}
use Rattle.std.specs.List.{range_with_len}
use Rattle.std.specs.declared.vec.Vec.{Vec}
use Rattle.demi_spec.specs.Request.{Request, End, spelling}
use Rattle.demi_audit.specs.Generator.{after_draw, drawn, dealt, input_of, requests_from, request_by, request_from, after_request}

drawn_next : (n m state : ℕ) → m + 1 ≡ n → requests_from n state ≡ request_from state ∷ requests_from m (after_request state)
drawn_next zero m state e = absurd (omega arith)
drawn_next (suc n) m state e = let is : n ≡ m = omega arith in ap (λ k. request_from state ∷ requests_from k (after_request state)) is

here : (b : Bool) (r : Request) (rest : List Request) → flat_map spelling (cond b (r ∷ rest) rest) ≡ cond b (spelling r ++ flat_map spelling rest) (flat_map spelling rest)
here true r rest = refl
here false r rest = refl

deal : (links link i n m state : ℕ) → m + 1 ≡ n
    → flat_map spelling (dealt links link i (requests_from n state))
    ≡ cond (i % links == link) (spelling (request_from state) ++ flat_map spelling (dealt links link (i + 1) (requests_from m (after_request state))))
    (flat_map spelling (dealt links link (i + 1) (requests_from m (after_request state))))
deal links link i n m state e =
    ap (λ (l : List Request). flat_map spelling (dealt links link i l)) (drawn_next n m state e)
    ∙ here (i % links == link) (request_from state) (dealt links link (i + 1) (requests_from m (after_request state)))

-- it goes to this link, or to another
pub deal_here : (links link i n m state : ℕ) (out : List ℕ) → m + 1 ≡ n → (i % links == link) ≡ true
    → (out ++ spelling (request_from state)) ++ flat_map spelling (dealt links link (i + 1) (requests_from m (after_request state)))
    ≡ out ++ flat_map spelling (dealt links link i (requests_from n state))
deal_here links link i n m state out e is =
    let rest : List ℕ = flat_map spelling (dealt links link (i + 1) (requests_from m (after_request state))) in
    append_assoc out (spelling (request_from state)) rest
    ∙ ap (λ (l : List ℕ). out ++ l) (sym (deal links link i n m state e ∙ ap (λ (b : Bool). cond b (spelling (request_from state) ++ rest) rest) is))

pub deal_there : (links link i n m state : ℕ) (out : List ℕ) → m + 1 ≡ n → (i % links == link) ≡ false
    → out ++ flat_map spelling (dealt links link (i + 1) (requests_from m (after_request state)))
    ≡ out ++ flat_map spelling (dealt links link i (requests_from n state))
deal_there links link i n m state out e is =
    let rest : List ℕ = flat_map spelling (dealt links link (i + 1) (requests_from m (after_request state))) in
    ap (λ (l : List ℕ). out ++ l) (sym (deal links link i n m state e ∙ ap (λ (b : Bool). cond b (spelling (request_from state) ++ rest) rest) is))

-- three draws give a request, and the state behind it
pub request_is : (state s1 s2 number kind count : ℕ) → s1 ≡ after_draw state → s2 ≡ after_draw s1 → number ≡ drawn state % 64 → kind ≡ drawn s1 % 4 → count ≡ drawn s2 % 64
    → request_by number kind count ≡ request_from state
request_is state s1 s2 number kind count one two n k l =
    let kind_is : kind ≡ drawn (after_draw state) % 4 = k ∙ ap (λ s. drawn s % 4) one in
    let count_is : count ≡ drawn (after_draw (after_draw state)) % 64 = l ∙ ap (λ s. drawn s % 64) (two ∙ ap after_draw one) in
    ap (λ x. request_by x kind count) n ∙ ap (λ x. request_by (drawn state % 64) x count) kind_is
    ∙ ap (λ x. request_by (drawn state % 64) (drawn (after_draw state) % 4) x) count_is

pub state_is : (state s1 s2 s3 : ℕ) → s1 ≡ after_draw state → s2 ≡ after_draw s1 → s3 ≡ after_draw s2 → s3 ≡ after_request state
state_is state s1 s2 s3 one two three = three ∙ ap after_draw (two ∙ ap after_draw one)

-- one step of the loop over all requests
pub one_here : (links link i n state next : ℕ) (q : Request) (out out' all : List ℕ) → i < n → i % links ≡ link → next ≡ after_request state → q ≡ request_from state → out' ≡ out ++ spelling q
    → out ++ flat_map spelling (dealt links link i (requests_from (n - i) state)) ≡ all
    → out' ++ flat_map spelling (dealt links link (i + 1) (requests_from (n - (i + 1)) next)) ≡ all
one_here links link i n state next q out out' all less same after is grown so =
    let m : ℕ = n - (i + 1) in
    let t : (i % links == link) ≡ true = grind (arith, nat_tests) in
    ap (λ (l : List ℕ). l ++ flat_map spelling (dealt links link (i + 1) (requests_from m next))) (grown ∙ ap (λ (r : Request). out ++ spelling r) is)
    ∙ ap (λ s. (out ++ spelling (request_from state)) ++ flat_map spelling (dealt links link (i + 1) (requests_from m s))) after
    ∙ deal_here links link i (n - i) m state out (omega arith) t ∙ so

pub one_there : (links link i n state next : ℕ) (out out' all : List ℕ) → i < n → i % links ≢ link → next ≡ after_request state → out' ≡ out
    → out ++ flat_map spelling (dealt links link i (requests_from (n - i) state)) ≡ all
    → out' ++ flat_map spelling (dealt links link (i + 1) (requests_from (n - (i + 1)) next)) ≡ all
one_there links link i n state next out out' all less other after same so =
    let m : ℕ = n - (i + 1) in
    let t : (i % links == link) ≡ false = grind (arith, nat_tests) in
    ap (λ (l : List ℕ). l ++ flat_map spelling (dealt links link (i + 1) (requests_from m next))) same
    ∙ ap (λ s. out ++ flat_map spelling (dealt links link (i + 1) (requests_from m s))) after
    ∙ deal_there links link i (n - i) m state out (omega arith) t ∙ so

-- all were drawn, and the end frame follows
pub all_dealt : (seed links count link i state : ℕ) (out out' : List ℕ) → count ≤ i
    → out ++ flat_map spelling (dealt links link i (requests_from (count - i) state)) ≡ flat_map spelling (dealt links link 0 (requests_from count seed))
    → out' ≡ out ++ spelling End → out' ≡ input_of seed links count link
unfolding input_of
all_dealt seed links count link i state out out' end so grown =
    let none : 0 ≡ count - i = omega arith in
    let is : out ≡ flat_map spelling (dealt links link 0 (requests_from count seed)) =
    sym (append-nil out) ∙ ap (λ k. out ++ flat_map spelling (dealt links link i (requests_from k state))) none ∙ so in
    grown ∙ ap (λ (l : List ℕ). l ++ spelling End) is

-- the bytes of a vector that is another
pub bytes_of : {Y : Type 0} (v w : Vec ℕ Y) (l : List ℕ) → v ≡ w → w.items ≡ l → v.items ≡ l
bytes_of {Y} v w l same is = ap (λ (x : Vec ℕ Y). x.items) same ∙ is

-- one link's input more
pub one_input : {Y : Type 0} (f : ℕ → List ℕ) (before after : List (Vec ℕ Y)) (v : Vec ℕ Y) (k : ℕ) → map (λ (w : Vec ℕ Y). w.items) before ≡ map f (range_with_len 0 k) → v.items ≡ f k
    → after ≡ before ++ v ∷ [] → map (λ (w : Vec ℕ Y). w.items) after ≡ map f (range_with_len 0 (k + 1))
one_input {Y} f before after v k so is grown =
    let e : 0 + k ≡ k = omega arith in
    ap (map (λ (w : Vec ℕ Y). w.items)) grown ∙ map-append (λ (w : Vec ℕ Y). w.items) before (v ∷ [])
    ∙ ap (λ (l : List (List ℕ)). l ++ v.items ∷ []) so
    ∙ ap (λ (l : List ℕ). map f (range_with_len 0 k) ++ l ∷ []) is
    ∙ sym (map-range_with_len_more f 0 k k e)
