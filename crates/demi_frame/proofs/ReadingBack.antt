-- What a reply that was read says, and why none was.
use Rattle.std.proofs.Common.{◌≡◌, ℕ, ◌+◌, ◌≤◌, ◌<◌, false, true, List, [], ◌∷◌, ◌++◌, length, take, drop, get_or, refl, arith, ◌∙◌, ap, sym, subst, length-drop, length-take, inl, inr}
use Rattle.std.specs.Prelude.{slice_index}
use Rattle.std.specs.Int.{w32, w64, to_be_bytes, from_be_bytes}
use Rattle.std.proofs.lemmas.Bool.Decides.{nat_tests}
use Rattle.std.proofs.lemmas.Bool.{cases_lt, cases_eq}
use Rattle.std.proofs.lemmas.List.{take-append-drop, drop-drop, get_or-take, get_or-drop, get_or_past}
use Rattle.std.proofs.lemmas.Nat.{be_bytes_4, be_bytes_8}
use Rattle.demi_spec.specs.Request.{IsBytes}
use Rattle.demi_spec.specs.Reply.{Answer, Reply, Stored, Found, Missing, Refused, Bye, Full, frame, spelling, spelling_of, IsReply, IsAnswer, word_max}
use Rattle.demi_frame.specs.Heads.{head_version, head_size, head_fits, code_is_bad}
use Rattle.demi_frame.specs.ReadBack.{kind_of, version_in, bytes_in}

part_fits : (b : List ℕ) (n m i : ℕ) → IsBytes b → get_or (take n (drop m b)) i 0 < 256
part_fits b n m i fits = elim (cases_lt i n) [
  | inl less ↦ rw (get_or-take, get_or-drop) (fits (m + i))
  | inr more ↦ let out : length (take n (drop m b)) ≤ i = omega (arith, length-take n (drop m b)) in rw (get_or_past (take n (drop m b)) i 0 out) (omega arith)
]

most_word : (l : List ℕ) → ((i : ℕ) → get_or l i 0 < 256) → from_be_bytes w64 l ≤ word_max
most_word l fits = omega (arith, fits 0, fits 1, fits 2, fits 3, fits 4, fits 5, fits 6, fits 7)

-- a head of 22 bytes, field by field
cells : (b : List ℕ) → 22 ≤ length b → b ≡ slice_index b 0 ∷ slice_index b 1 ∷ take 8 (drop 2 b) ++ (take 8 (drop 10 b) ++ (take 4 (drop 18 b) ++ drop 22 b))
cells [] h = absurd (omega arith)
cells (x ∷ []) h = absurd (omega arith)
cells (x ∷ y ∷ c) h =
    ap (λ (l : List ℕ). x ∷ y ∷ l)
    (sym (take-append-drop 8 c)
    ∙ ap (λ (l : List ℕ). take 8 c ++ l)
    (sym (take-append-drop 8 (drop 8 c)) ∙ ap (λ (l : List ℕ). take 8 (drop 8 c) ++ l)
    (drop-drop 8 8 c ∙ sym (take-append-drop 4 (drop 16 c)) ∙ ap (λ (l : List ℕ). take 4 (drop 16 c) ++ l) (drop-drop 4 16 c))))

fields : (b : List ℕ) → 22 ≤ length b → IsBytes b
    → b ≡ slice_index b 0 ∷ slice_index b 1 ∷ to_be_bytes w64 (from_be_bytes w64 (take 8 (drop 2 b))) ++ (to_be_bytes w64 (head_version b) ++ (to_be_bytes w32 (head_size b) ++ drop 22 b))
fields b long fits =
    let l1 : length (take 8 (drop 2 b)) ≡ 8 = omega (arith, length-take 8 (drop 2 b), length-drop 2 b) in
    let l2 : length (take 8 (drop 10 b)) ≡ 8 = omega (arith, length-take 8 (drop 10 b), length-drop 10 b) in
    let l3 : length (take 4 (drop 18 b)) ≡ 4 = omega (arith, length-take 4 (drop 18 b), length-drop 18 b) in
    let e1 = be_bytes_8 (take 8 (drop 2 b)) (from_be_bytes w64 (take 8 (drop 2 b))) l1 (λ i. part_fits b 8 2 i fits) refl in
    let e2 = be_bytes_8 (take 8 (drop 10 b)) (head_version b) l2 (λ i. part_fits b 8 10 i fits) refl in
    let e3 = be_bytes_4 (take 4 (drop 18 b)) (head_size b) l3 (λ i. part_fits b 4 18 i fits) refl in
    cells b long
    ∙ ap (λ (l : List ℕ). slice_index b 0 ∷ slice_index b 1 ∷ l ++ (take 8 (drop 10 b) ++ (take 4 (drop 18 b) ++ drop 22 b))) (sym e1)
    ∙ ap (λ (l : List ℕ). slice_index b 0 ∷ slice_index b 1 ∷ to_be_bytes w64 (from_be_bytes w64 (take 8 (drop 2 b))) ++ (l ++ (take 4 (drop 18 b) ++ drop 22 b))) (sym e2)
    ∙ ap (λ (l : List ℕ). slice_index b 0 ∷ slice_index b 1 ∷ to_be_bytes w64 (from_be_bytes w64 (take 8 (drop 2 b))) ++ (to_be_bytes w64 (head_version b) ++ (l ++ drop 22 b))) (sym e3)

-- an answer whose frame has this kind, this version and these bytes
pub record Says (kind version : ℕ) (bytes : List ℕ) : Type 0 where
  pub answer : Answer
  pub kind_is : kind ≡ kind_of answer
  pub version_is : version ≡ version_in answer
  pub bytes_are : bytes ≡ bytes_in answer
  pub fits : IsAnswer answer

code_fits : (c : ℕ) (rest : List ℕ) → code_is_bad 0x84 (c ∷ rest) ≡ false → (1 ≤ c) × (c ≤ 5)
code_fits c rest h = (grind (arith, nat_tests), grind (arith, nat_tests))

one_code : (content : List ℕ) → 1 ≤ length content → code_is_bad 0x84 content ≡ false → Says 0x84 0 (take 1 content)
one_code [] long fine = absurd (omega arith)
one_code (c ∷ content) long fine = record { answer = Refused c; kind_is = refl; version_is = refl; bytes_are = refl; fits = code_fits c content fine }

-- heads that begin a reply
says : (kind version size : ℕ) (content : List ℕ) → head_fits kind version size ≡ true → version ≤ word_max → size ≤ length content → code_is_bad kind content ≡ false → Says kind version (take size content)
says kind version size content ok word long fine = elim (cases_eq kind 0x81) [
  | inl is ↦ record { answer = Stored version (take size content); kind_is = is; version_is = refl; bytes_are = refl; fits = (word, most (grind (arith, nat_tests))) }
  | inr n1 ↦ elim (cases_eq kind 0x82) [
    | inl is ↦ record { answer = Found version (take size content); kind_is = is; version_is = refl; bytes_are = refl; fits = (word, most (grind (arith, nat_tests))) }
    | inr n2 ↦ elim (cases_eq kind 0x83) [
      | inl is ↦ record { answer = Missing version; kind_is = is; version_is = refl; bytes_are = none (grind (arith, nat_tests)); fits = word }
      | inr n3 ↦ elim (cases_eq kind 0x84) [
        | inl is ↦ refusal is (grind (arith, nat_tests)) (grind (arith, nat_tests))
        | inr n4 ↦ elim (cases_eq kind 0x85) [
          | inl is ↦ record { answer = Bye; kind_is = is; version_is = grind (arith, nat_tests); bytes_are = none (grind (arith, nat_tests)); fits = tt }
          | inr n5 ↦ record { answer = Full version; kind_is = grind (arith, nat_tests); version_is = refl; bytes_are = none (grind (arith, nat_tests)); fits = word }
        ]
      ]
    ]
  ]
]
  where
    most : size ≤ 65536 → length (take size content) ≤ 65536
    most h = omega (arith, length-take size content)

    none : size ≡ 0 → take size content ≡ []
    none h = ap (λ n. take n content) h

    refusal : kind ≡ 0x84 → version ≡ 0 → size ≡ 1 → Says kind version (take size content)
    refusal is zero_version one =
        let fine' = subst (λ k. code_is_bad k content ≡ false) is fine in
        subst (λ k. Says k version (take size content)) (sym is)
        (subst (λ v. Says 0x84 v (take size content)) (sym zero_version) (subst (λ n. Says 0x84 0 (take n content)) (sym one) (one_code content (omega arith) fine')))

pub framed : (w s : ℕ) (a : Answer) → spelling_of w s a ≡ frame (kind_of a) w s (version_in a) (bytes_in a)
framed w s (Stored version value) = refl
framed w s (Found version value) = refl
framed w s (Missing version) = refl
framed w s (Refused code) = refl
framed w s Bye = refl
framed w s (Full version) = refl

-- a text that begins with a reply, by the fields of its head
pub record Begins (t : List ℕ) : Type 0 where
  pub reply : Reply
  pub text : t ≡ spelling reply ++ drop (head_size t) (drop 22 t)
  pub fits : IsReply reply
  pub kind : slice_index t 0 ≡ kind_of reply.answer
  pub worker : slice_index t 1 ≡ reply.worker
  pub sequence : from_be_bytes w64 (take 8 (drop 2 t)) ≡ reply.sequence
  pub version : head_version t ≡ version_in reply.answer
  pub value : take (head_size t) (drop 22 t) ≡ bytes_in reply.answer
  pub size : head_size t ≡ length (bytes_in reply.answer)

pub begins : (t : List ℕ) → IsBytes t → 22 ≤ length t → head_fits (slice_index t 0) (head_version t) (head_size t) ≡ true → head_size t ≤ length (drop 22 t) → code_is_bad (slice_index t 0) (drop 22 t) ≡ false → Begins t
begins t fits long ok enough fine =
    let kind : ℕ = slice_index t 0 in
    let w : ℕ = slice_index t 1 in
    let s : ℕ = from_be_bytes w64 (take 8 (drop 2 t)) in
    let v : ℕ = head_version t in
    let n : ℕ = head_size t in
    let content : List ℕ = drop 22 t in
    let v_fits : v ≤ word_max = most_word (take 8 (drop 10 t)) (λ i. part_fits t 8 10 i fits) in
    let s_fits : s ≤ word_max = most_word (take 8 (drop 2 t)) (λ i. part_fits t 8 2 i fits) in
    let w_fits : w ≤ 255 = omega (arith, fits 1) in
    let a = says kind v n content ok v_fits enough fine in
    let l : n ≡ length (take n content) = omega (arith, length-take n content) in
    let apart : t ≡ frame kind w s v (take n content) ++ drop n content =
    fields t long fits ∙ ap (λ (x : List ℕ). kind ∷ w ∷ to_be_bytes w64 s ++ (to_be_bytes w64 v ++ (to_be_bytes w32 n ++ x))) (sym (take-append-drop n content))
    ∙ ap (λ m. kind ∷ w ∷ to_be_bytes w64 s ++ (to_be_bytes w64 v ++ (to_be_bytes w32 m ++ (take n content ++ drop n content)))) l in
    let same : frame kind w s v (take n content) ≡ spelling_of w s a.answer = (λ i. frame (a.kind_is i) w s (a.version_is i) (a.bytes_are i)) ∙ sym (framed w s a.answer) in
    record {
      reply = record { worker = w; sequence = s; answer = a.answer };
      text = apart ∙ ap (λ (x : List ℕ). x ++ drop n content) same;
      fits = record { worker = w_fits; sequence = s_fits; answer = a.fits };
      kind = a.kind_is;
      worker = refl;
      sequence = refl;
      version = a.version_is;
      value = a.bytes_are;
      size = l ∙ ap length a.bytes_are;
    }

pub fits_in : (a : Answer) → IsAnswer a → (version_in a ≤ word_max) × (length (bytes_in a) ≤ 65536)
fits_in (Stored version value) h = h
fits_in (Found version value) h = h
fits_in (Missing version) h = (h, omega arith)
fits_in (Refused code) h = (omega arith, omega arith)
fits_in Bye h = (omega arith, omega arith)
fits_in (Full version) h = (h, omega arith)
