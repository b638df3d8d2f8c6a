-- A reply that stands at the front of the bytes, or begins with them, passes each test.
use Rattle.std.proofs.Common.{◌≡◌, ℕ, ◌+◌, ◌-◌, ◌≤◌, ◌<◌, false, true, List, [], ◌∷◌, ◌++◌, length, take, drop, get_or, refl, arith, ◌∙◌, ap, sym, subst, inl, inr}
use Rattle.std.specs.Prelude.{slice_index, replicate}
use Rattle.std.specs.Int.{w32, w64, from_be_bytes}
use Rattle.std.proofs.lemmas.Bool.Decides.{nat_tests}
use Rattle.std.proofs.lemmas.Bool.{cases_lt, cases_eq}
use Rattle.std.proofs.lemmas.List.{append-nil, take-append-le, take-take, drop-append-le, get_or-take, get_or-drop, get_or_past, get_or_append_left, get_or-append_right, length-replicate, get_or-replicate}
use Rattle.std.proofs.lemmas.Nat.{from_be_bytes-to_be_bytes_4, from_be_bytes-to_be_bytes_8}
use Rattle.demi_spec.specs.Reply.{Answer, Reply, Stored, Found, Missing, Refused, Bye, Full, frame, spelling, spelling_of, IsReply, IsAnswer, word_max}
use Rattle.demi_frame.specs.declared.reply.Reply.{Reply as Fields}
use Rattle.demi_frame.specs.Heads.{least_head, head_version, head_size, head_fits, code_is_bad, FieldsOf}
use Rattle.demi_frame.specs.ReadBack.{kind_of, version_in, bytes_in, IsNoReply}
use Rattle.demi_frame.proofs.ReadingBack.{framed, fits_in}
use Rattle.demi_frame.proofs.Refusals.{same_head, long_least, few_least, least, last_byte}

-- the fields of a spelling
record Spelled (t : List ℕ) (r : Reply) : Type 0 where
  kind : slice_index t 0 ≡ kind_of r.answer
  version : head_version t ≡ version_in r.answer
  size : head_size t ≡ length (bytes_in r.answer)
  content : (more : List ℕ) × (drop 22 t ≡ bytes_in r.answer ++ more)

spelled_frame : (k w s v : ℕ) (b more : List ℕ) → v ≤ word_max → length b ≤ 65536 → (head_version (frame k w s v b ++ more) ≡ v) × (head_size (frame k w s v b ++ more) ≡ length b)
spelled_frame k w s v b more v_fits b_fits = (from_be_bytes-to_be_bytes_8 v (omega arith), from_be_bytes-to_be_bytes_4 (length b) (omega arith))

spelled : (r : Reply) (more : List ℕ) → IsReply r → Spelled (spelling r ++ more) r
spelled r more fits =
    let a = r.answer in
    let f = fits_in a fits.answer in
    let e : spelling r ≡ frame (kind_of a) r.worker r.sequence (version_in a) (bytes_in a) = framed r.worker r.sequence a in
    let p = spelled_frame (kind_of a) r.worker r.sequence (version_in a) (bytes_in a) more f.0 f.1 in
    subst (λ (t : List ℕ). Spelled (t ++ more) r) (sym e) (record { kind = refl; version = p.0; size = p.1; content = (more, refl) })

-- smaller bytes make a smaller number
less_word : (a b : List ℕ) → ((i : ℕ) → i < 8 → get_or a i 0 ≤ get_or b i 0) → from_be_bytes w64 a ≤ from_be_bytes w64 b
less_word a b h = omega (arith, h 0 (omega arith), h 1 (omega arith), h 2 (omega arith), h 3 (omega arith), h 4 (omega arith), h 5 (omega arith), h 6 (omega arith), h 7 (omega arith))

less_half : (a b : List ℕ) → ((i : ℕ) → i < 4 → get_or a i 0 ≤ get_or b i 0) → from_be_bytes w32 a ≤ from_be_bytes w32 b
less_half a b h = omega (arith, h 0 (omega arith), h 1 (omega arith), h 2 (omega arith), h 3 (omega arith))

part_at : (l : List ℕ) (n m i : ℕ) → i < n → get_or (take n (drop m l)) i 0 ≡ get_or l (m + i) 0
part_at l n m i less = get_or-take n (drop m l) i 0 less ∙ get_or-drop m l i 0

less_part : (a b : List ℕ) (n m : ℕ) → ((i : ℕ) → 1 ≤ i → get_or a i 0 ≤ get_or b i 0) → 1 ≤ m → (i : ℕ) → i < n → get_or (take n (drop m a)) i 0 ≤ get_or (take n (drop m b)) i 0
less_part a b n m h some i less = rw (part_at a n m i less, part_at b n m i less) (h (m + i) (omega arith))

-- a least head has no greater byte, if what stands for the missing bytes has none
less_least : (bytes more pad : List ℕ) → ((i : ℕ) → 1 ≤ i → get_or pad i 0 ≤ get_or (bytes ++ more) i 0) → (i : ℕ) → 1 ≤ i → get_or (bytes ++ drop (length bytes) pad) i 0 ≤ get_or (bytes ++ more) i 0
less_least bytes more pad h i some = elim (cases_lt i (length bytes)) [
  | inl less ↦ rw (get_or_append_left bytes (drop (length bytes) pad) 0 i less, get_or_append_left bytes more 0 i less) (omega arith)
  | inr past ↦
      let e : get_or (bytes ++ drop (length bytes) pad) i 0 ≡ get_or pad i 0 =
      get_or-append_right bytes (drop (length bytes) pad) (length bytes) i 0 refl past ∙ get_or-drop (length bytes) pad (i - length bytes) 0 ∙ ap (λ n. get_or pad n 0) (omega arith) in
      rw e (h i some)
]

zeros : (n i : ℕ) → get_or {A = ℕ} (replicate n 0) i 0 ≡ 0
zeros n i = elim (cases_lt i n) [
  | inl less ↦ get_or-replicate n i 0 0 less
  | inr past ↦ get_or_past (replicate n 0) i 0 (omega (arith, length-replicate {A = ℕ} n 0))
]

-- the last byte alone may be more than 0
less_pad : (kind : ℕ) (t : List ℕ) → last_byte kind ≤ get_or t 21 0 → (i : ℕ) → get_or (least kind) i 0 ≤ get_or t i 0
less_pad kind t last i = elim (cases_lt i 21) [
  | inl less ↦
      let e : get_or (least kind) i 0 ≡ 0 = get_or_append_left (replicate 21 0) (last_byte kind ∷ []) 0 i less ∙ zeros 21 i in
      rw e (omega arith)
  | inr past ↦ elim (cases_eq i 21) [
    | inl is ↦ subst (λ n. get_or (least kind) n 0 ≤ get_or t n 0) (sym is) last
    | inr other ↦ let e : get_or (least kind) i 0 ≡ 0 = get_or_past (least kind) i 0 (omega arith) in rw e (omega arith)
  ]
]

-- the last byte of the head of a refused reply
last_of : (w s : ℕ) (a : Answer) (more : List ℕ) → last_byte (kind_of a) ≤ get_or (spelling_of w s a ++ more) 21 0
last_of w s (Stored version value) more = omega arith
last_of w s (Found version value) more = omega arith
last_of w s (Missing version) more = omega arith
last_of w s (Refused code) more = omega arith
last_of w s Bye more = omega arith
last_of w s (Full version) more = omega arith

-- the fields of the least head, beside those of a whole one
record Below (head : List ℕ) (a : Answer) : Type 0 where
  kind : slice_index head 0 ≡ kind_of a
  version : head_version head ≤ version_in a
  size : head_size head ≤ length (bytes_in a)
  code : last_byte (kind_of a) ≤ head_size head

size_at_least : (head : List ℕ) (n : ℕ) → n ≤ get_or head 21 0 → n ≤ head_size head
size_at_least head n h = let e = part_at head 4 18 3 (omega arith) in omega arith

first_of : (bytes more : List ℕ) → 0 < length bytes → slice_index bytes 0 ≡ slice_index (bytes ++ more) 0
first_of [] more some = absurd (omega arith)
first_of (b ∷ bytes) more some = refl

below_few : (bytes more1 more2 : List ℕ) (r : Reply) → IsReply r → 0 < length bytes → length bytes < 22 → bytes ++ more1 ≡ spelling r ++ more2 → Below (least_head bytes) r.answer
below_few bytes more1 more2 r fits some few same =
    let t : List ℕ = bytes ++ more1 in
    let p = subst (λ (x : List ℕ). Spelled x r) (sym same) (spelled r more2 fits) in
    let kind : slice_index bytes 0 ≡ kind_of r.answer = first_of bytes more1 some ∙ p.kind in
    let last : last_byte (kind_of r.answer) ≤ get_or t 21 0 = subst (λ (x : List ℕ). last_byte (kind_of r.answer) ≤ get_or x 21 0) (sym same) (last_of r.worker r.sequence r.answer more2) in
    let pad = less_pad (kind_of r.answer) t last in
    let head : least_head bytes ≡ bytes ++ drop (length bytes) (least (kind_of r.answer)) = few_least bytes few ∙ ap (λ k. bytes ++ drop (length bytes) (least k)) kind in
    let less = less_least bytes more1 (least (kind_of r.answer)) (λ i h. pad i) in
    let h : List ℕ = bytes ++ drop (length bytes) (least (kind_of r.answer)) in
    let version : head_version h ≤ head_version t = less_word (take 8 (drop 10 h)) (take 8 (drop 10 t)) (less_part h t 8 10 less (omega arith)) in
    let size : head_size h ≤ head_size t = less_half (take 4 (drop 18 h)) (take 4 (drop 18 t)) (less_part h t 4 18 less (omega arith)) in
    let place : length bytes + (21 - length bytes) ≡ 21 = omega arith in
    let seam : get_or (least (kind_of r.answer)) 21 0 ≡ last_byte (kind_of r.answer) = refl in
    let end : get_or h 21 0 ≡ last_byte (kind_of r.answer) =
    get_or-append_right bytes (drop (length bytes) (least (kind_of r.answer))) (length bytes) 21 0 refl (omega arith) ∙ get_or-drop (length bytes) (least (kind_of r.answer)) (21 - length bytes) 0
    ∙ ap (λ n. get_or (least (kind_of r.answer)) n 0) place ∙ seam in
    let b : Below h r.answer = record {
      kind = sym (first_of bytes (drop (length bytes) (least (kind_of r.answer))) some) ∙ kind;
      version = subst (λ n. head_version h ≤ n) p.version version;
      size = subst (λ n. head_size h ≤ n) p.size size;
      code = size_at_least h (last_byte (kind_of r.answer)) (omega arith);
    } in
    subst (λ (x : List ℕ). Below x r.answer) (sym head) b

last_size : (a : Answer) → last_byte (kind_of a) ≤ length (bytes_in a)
last_size (Stored version value) = omega arith
last_size (Found version value) = omega arith
last_size (Missing version) = omega arith
last_size (Refused code) = omega arith
last_size Bye = omega arith
last_size (Full version) = omega arith

below_long : (bytes more1 more2 : List ℕ) (r : Reply) → IsReply r → 22 ≤ length bytes → bytes ++ more1 ≡ spelling r ++ more2 → Below (least_head bytes) r.answer
below_long bytes more1 more2 r fits long same =
    let t : List ℕ = bytes ++ more1 in
    let p = subst (λ (x : List ℕ). Spelled x r) (sym same) (spelled r more2 fits) in
    let h = same_head bytes t (sym (take-append-le 22 bytes more1 long)) in
    let g = same_head (least_head bytes) bytes (ap (take 22) (long_least bytes long) ∙ take-take 22 22 bytes (omega arith)) in
    let version : head_version (least_head bytes) ≡ version_in r.answer = ap (from_be_bytes w64) (g.version ∙ h.version) ∙ p.version in
    let size : head_size (least_head bytes) ≡ length (bytes_in r.answer) = ap (from_be_bytes w32) (g.size ∙ h.size) ∙ p.size in
    record {
      kind = g.kind ∙ h.kind ∙ p.kind;
      version = omega arith;
      size = omega arith;
      code = subst (λ n. last_byte (kind_of r.answer) ≤ n) (sym size) (last_size r.answer);
    }

-- such a head fits
fits_below : (a : Answer) (version size : ℕ) → IsAnswer a → version ≤ version_in a → size ≤ length (bytes_in a) → last_byte (kind_of a) ≤ size → head_fits (kind_of a) version size ≡ true
fits_below (Stored v value) version size fits v_less s_less code = grind (arith, nat_tests)
fits_below (Found v value) version size fits v_less s_less code = grind (arith, nat_tests)
fits_below (Missing v) version size fits v_less s_less code = grind (arith, nat_tests)
fits_below (Refused c) version size fits v_less s_less code = grind (arith, nat_tests)
fits_below Bye version size fits v_less s_less code = grind (arith, nat_tests)
fits_below (Full v) version size fits v_less s_less code = grind (arith, nat_tests)

below_fits : (head : List ℕ) (r : Fields) (a : Answer) → FieldsOf head r → IsAnswer a → Below head a → head_fits r.kind r.version r.length ≡ true
below_fits head r a f fits b =
    let kind : r.kind ≡ kind_of a = f.kind ∙ b.kind in
    (λ i. head_fits (kind i) (f.version i) (f.size i)) ∙ fits_below a (head_version head) (head_size head) fits b.version b.size b.code

head_ok : (bytes more1 more2 : List ℕ) (r : Reply) (f : Fields) → IsReply r → 0 < length bytes → FieldsOf (least_head bytes) f → bytes ++ more1 ≡ spelling r ++ more2 → head_fits f.kind f.version f.length ≡ true
head_ok bytes more1 more2 r f fits some of same = elim (cases_lt (length bytes) 22) [
  | inl few ↦ below_fits (least_head bytes) f r.answer of fits.answer (below_few bytes more1 more2 r fits some few same)
  | inr long ↦ below_fits (least_head bytes) f r.answer of fits.answer (below_long bytes more1 more2 r fits long same)
]

-- the code of a refusal
code_of : (kind : ℕ) (content more1 more2 : List ℕ) (a : Answer) → IsAnswer a → kind ≡ kind_of a → content ++ more1 ≡ bytes_in a ++ more2 → code_is_bad kind content ≡ false
code_of kind [] more1 more2 a fits is same = refl
code_of kind (c ∷ content) more1 more2 (Stored v value) fits is same = subst (λ k. code_is_bad k (c ∷ content) ≡ false) (sym is) refl
code_of kind (c ∷ content) more1 more2 (Found v value) fits is same = subst (λ k. code_is_bad k (c ∷ content) ≡ false) (sym is) refl
code_of kind (c ∷ content) more1 more2 (Missing v) fits is same = subst (λ k. code_is_bad k (c ∷ content) ≡ false) (sym is) refl
code_of kind (c ∷ content) more1 more2 (Refused code) fits is same =
    let e : c ≡ code = ap (λ (l : List ℕ). get_or l 0 0) same in
    grind (arith, nat_tests)
code_of kind (c ∷ content) more1 more2 Bye fits is same = subst (λ k. code_is_bad k (c ∷ content) ≡ false) (sym is) refl
code_of kind (c ∷ content) more1 more2 (Full v) fits is same = subst (λ k. code_is_bad k (c ∷ content) ≡ false) (sym is) refl

code_ok : (bytes more1 more2 : List ℕ) (r : Reply) (f : Fields) → IsReply r → 22 ≤ length bytes → FieldsOf (least_head bytes) f → bytes ++ more1 ≡ spelling r ++ more2 → code_is_bad f.kind (drop 22 bytes) ≡ false
code_ok bytes more1 more2 r f fits long of same =
    let b = below_long bytes more1 more2 r fits long same in
    let p = spelled r more2 fits in
    code_of f.kind (drop 22 bytes) more1 p.content.0 r.answer fits.answer (of.kind ∙ b.kind) (sym (drop-append-le 22 bytes more1 long) ∙ ap (drop 22) same ∙ p.content.1)

-- So where a test fails there is no such reply.
pub bad_head : (bytes : List ℕ) (f : Fields) → 0 < length bytes → FieldsOf (least_head bytes) f → head_fits f.kind f.version f.length ≡ false → IsNoReply bytes
bad_head bytes f some of bad = record {
  whole = λ r rest fits e. (let h = head_ok bytes [] rest r f fits some of (append-nil bytes ∙ e) in cc);
  begun = λ r more fits e. (let h = head_ok bytes more [] r f fits some of (sym e ∙ sym (append-nil (spelling r))) in cc);
}

pub bad_code : (bytes : List ℕ) (f : Fields) → 22 ≤ length bytes → FieldsOf (least_head bytes) f → code_is_bad f.kind (drop 22 bytes) ≡ true → IsNoReply bytes
bad_code bytes f long of bad = record {
  whole = λ r rest fits e. (let h = code_ok bytes [] rest r f fits long of (append-nil bytes ∙ e) in cc);
  begun = λ r more fits e. (let h = code_ok bytes more [] r f fits long of (sym e ∙ sym (append-nil (spelling r))) in cc);
}
