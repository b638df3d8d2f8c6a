-- What stands at the front of an input is asked first.
use Rattle.std.proofs.Common.{◌≡◌, ℕ, ◌+◌, ◌≤◌, ◌<◌, true, List, [], ◌∷◌, length, take, drop, None, Some, refl, arith, ◌∙◌, ap, sym, subst, length-drop}
use Rattle.std.proofs.lemmas.Bool.Decides.{nat_tests}
use Rattle.std.proofs.lemmas.List.{nil_from_length}
use Rattle.demi_spec.specs.Request as request
use Rattle.demi_spec.specs.Request.{IsBytes, Request}
use Rattle.demi_spec.specs.Input.{Asked, Request_of, Refused_end, asked, asked_of, Parsed, Ends, Clean, EndFrame, Refused, Whole, front, front_of_content, code_of_head, head_kind, head_key, head_value, request_of}
use Rattle.demi_spec.proofs.Fronts.{Allowed, put, get, stop, allowed, front_takes}
use Rattle.demi_spec.proofs.Parsing.{asked_is, parse_on}
use Rattle.demi_frame.proofs.Fronts.{at_head}
use Rattle.demi_audit.specs.declared.ask.Ask.{Ask}
use Rattle.demi_audit.specs.Asking.{ask_by, asks, rest_of, size_of}

-- nothing is asked by nothing
none_asked : asked [] true ≡ []
unfolding front
none_asked = asked_is [] Clean true [] refl

pub no_ask : (bytes : List ℕ) → length bytes ≡ 0 → asked bytes true ≡ []
no_ask bytes none = ap (λ (l : List ℕ). asked l true) (nil_from_length bytes none) ∙ none_asked

pub refused_ask : (bytes : List ℕ) (code : ℕ) → front true bytes ≡ Ends (Refused code) → asked bytes true ≡ Refused_end code ∷ asked [] true
refused_ask bytes code is = asked_is [] (Refused code) true bytes is ∙ ap (λ (l : List Asked). Refused_end code ∷ l) (sym none_asked)

few : (bytes : List ℕ) → 0 < length bytes → length bytes < 6 → front true bytes ≡ Ends (Refused 5)
unfolding front
few bytes some less = grind (arith, nat_tests)

pub short_ask : (bytes : List ℕ) → 0 < length bytes → length bytes < 6 → asked bytes true ≡ Refused_end 5 ∷ asked [] true
short_ask bytes some less = refused_ask bytes 5 (few bytes some less)

pub head_refused : (bytes : List ℕ) (kind key value code : ℕ) → 6 ≤ length bytes → kind ≡ head_kind bytes → key ≡ head_key bytes → value ≡ head_value bytes → Some code ≡ code_of_head kind key value
    → asked bytes true ≡ Refused_end code ∷ asked [] true
head_refused bytes kind key value code long a b c is = refused_ask bytes code (at_head true bytes kind key value (Some code) long a b c is)

pub cut_ask : (bytes : List ℕ) (kind key value : ℕ) → 6 ≤ length bytes → kind ≡ head_kind bytes → key ≡ head_key bytes → value ≡ head_value bytes → None ≡ code_of_head kind key value
    → length (drop 6 bytes) < key + value → asked bytes true ≡ Refused_end 5 ∷ asked [] true
cut_ask bytes kind key value long a b c is less = refused_ask bytes 5 (at_head true bytes kind key value None long a b c is ∙ within)
  where
    within : front_of_content true kind key value (drop 6 bytes) None ≡ Ends (Refused 5)
    within = grind (arith, nat_tests)

-- a request that others may follow
asked_on : (bytes : List ℕ) (q : Request) (rest : List ℕ) → IsBytes bytes → front true bytes ≡ Whole q rest → (more : (q ≡ request.End → ⊥)) → asked bytes true ≡ Request_of q ∷ asked rest true
asked_on bytes (request.Put k v) rest fits is more =
    let t = front_takes true bytes (request.Put k v) rest fits is in
    ap (λ (l : List ℕ). asked l true) t.text ∙ ap (λ (p : Parsed). asked_of p.requests p.how) (parse_on (request.Put k v) true rest t.fits)
asked_on bytes (request.Get k) rest fits is more =
    let t = front_takes true bytes (request.Get k) rest fits is in
    ap (λ (l : List ℕ). asked l true) t.text ∙ ap (λ (p : Parsed). asked_of p.requests p.how) (parse_on (request.Get k) true rest t.fits)
asked_on bytes request.End rest fits is more = absurd (more refl)

end_ask : (bytes rest : List ℕ) → IsBytes bytes → front true bytes ≡ Whole request.End rest → asked bytes true ≡ Request_of request.End ∷ asked [] true
end_ask bytes rest fits is =
    let t = front_takes true bytes request.End rest fits is in
    asked_is (request.End ∷ []) EndFrame true bytes (refl, refl, (rest, t.text)) ∙ ap (λ (l : List Asked). Request_of request.End ∷ l) (sym none_asked)

-- a request at the front, and that it stands inside
abbrev pub AsksFirst : List ℕ → Ask → Type 0
AsksFirst bytes x = (asked bytes true ≡ asks x bytes ∷ asked (rest_of x bytes) true) × (size_of x ≤ length bytes)

-- a whole frame
pub whole_ask : (bytes : List ℕ) (kind key value : ℕ) → IsBytes bytes → 6 ≤ length bytes → kind ≡ head_kind bytes → key ≡ head_key bytes → value ≡ head_value bytes → None ≡ code_of_head kind key value
    → key + value ≤ length (drop 6 bytes) → AsksFirst bytes (ask_by kind key value)
whole_ask bytes kind key value fits long a b c is enough = go (allowed kind key value (sym is))
  where
    room : 6 + (key + value) ≤ length bytes
    room = omega (arith, length-drop 6 bytes)

    whole : front true bytes ≡ Whole (request_of kind (take key (drop 6 bytes)) (take value (drop key (drop 6 bytes)))) (drop (key + value) (drop 6 bytes))
    whole =
        let e : front_of_content true kind key value (drop 6 bytes) None ≡ Whole (request_of kind (take key (drop 6 bytes)) (take value (drop key (drop 6 bytes)))) (drop (key + value) (drop 6 bytes)) = grind (arith, nat_tests) in
        at_head true bytes kind key value None long a b c is ∙ e

    go : Allowed kind key value → AsksFirst bytes (ask_by kind key value)
    go (put one some most) =
        let k : List ℕ = take key (drop 6 bytes) in
        let v : List ℕ = take value (drop key (drop 6 bytes)) in
        let at : front true bytes ≡ Whole (request.Put k v) (drop (key + value) (drop 6 bytes)) = whole ∙ ap (λ (n : ℕ). Whole (request_of n k v) (drop (key + value) (drop 6 bytes))) one in
        subst (λ (n : ℕ). AsksFirst bytes (ask_by n key value)) (sym one) (asked_on bytes (request.Put k v) (drop (key + value) (drop 6 bytes)) fits at (λ e. cc), room)
    go (get two some none) =
        let k : List ℕ = take key (drop 6 bytes) in
        let v : List ℕ = take value (drop key (drop 6 bytes)) in
        let n : key + value ≡ key = omega arith in
        let at : front true bytes ≡ Whole (request.Get k) (drop key (drop 6 bytes)) = whole ∙ ap (λ (n : ℕ). Whole (request_of n k v) (drop (key + value) (drop 6 bytes))) two ∙ ap (λ (n : ℕ). Whole (request.Get k) (drop n (drop 6 bytes))) n in
        subst (λ (n : ℕ). AsksFirst bytes (ask_by n key value)) (sym two) (asked_on bytes (request.Get k) (drop key (drop 6 bytes)) fits at (λ e. cc), omega (arith, room))
    go (stop three no_key none) =
        let k : List ℕ = take key (drop 6 bytes) in
        let v : List ℕ = take value (drop key (drop 6 bytes)) in
        let at : front true bytes ≡ Whole request.End (drop (key + value) (drop 6 bytes)) = whole ∙ ap (λ (n : ℕ). Whole (request_of n k v) (drop (key + value) (drop 6 bytes))) three in
        subst (λ (n : ℕ). AsksFirst bytes (ask_by n key value)) (sym three) (end_ask bytes (drop (key + value) (drop 6 bytes)) fits at, omega arith)

pub asks_as : (bytes : List ℕ) (x y : Ask) → x ≡ y → AsksFirst bytes y → AsksFirst bytes x
asks_as bytes x y is h = subst (AsksFirst bytes) (sym is) h
