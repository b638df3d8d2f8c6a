-- What stands at the front of a text of replies, by the least head that begins so.
use Rattle.std.proofs.Common.{◌≡◌, ℕ, zero, suc, ◌+◌, ◌-◌, ◌≤◌, ◌<◌, Bool, false, true, ◌&&◌, List, [], ◌∷◌, ◌++◌, length, take, drop, refl, arith, ◌∙◌, ap, sym, subst, cond, append_assoc, length-append, length-drop, if◌then◌else◌, inl, inr}
use Rattle.std.specs.Prelude.{◌==◌, min, slice_index, replicate}
use Rattle.std.specs.Int.{w32, w64, from_be_bytes}
use Rattle.std.proofs.lemmas.Bool.{cases_lt}
use Rattle.std.proofs.lemmas.List.{append-nil, take-append-le, drop-append-le, drop_all, take_all, drop_at, drop-take, take-take, get_or-take, get_or-drop, get_or_past, get_or_append_left, get_or-append_right, length-replicate, get_or-replicate}
use Rattle.demi_spec.specs.Request.{IsBytes}
use Rattle.demi_spec.specs.Reply.{Bye, spelling}
use Rattle.demi_frame.specs.declared.reply.Reply.{Reply as Fields}
use Rattle.demi_frame.specs.Heads.{least_head, head_version, head_size, head_fits, code_is_bad, FieldsOf}
use Rattle.demi_frame.specs.ReadBack.{ReadsBack, BeginsReply}
use Rattle.demi_frame.proofs.ReadingBack.{begins}

-- heads that are the same
pub record SameHead (a b : List ℕ) : Type 0 where
  pub kind : slice_index a 0 ≡ slice_index b 0
  pub worker : slice_index a 1 ≡ slice_index b 1
  pub sequence : take 8 (drop 2 a) ≡ take 8 (drop 2 b)
  pub version : take 8 (drop 10 a) ≡ take 8 (drop 10 b)
  pub size : take 4 (drop 18 a) ≡ take 4 (drop 18 b)

by_head : (a : List ℕ) → SameHead (take 22 a) a
by_head a = record {
  kind = get_or-take 22 a 0 0 (omega arith);
  worker = get_or-take 22 a 1 0 (omega arith);
  sequence = ap (take 8) (drop-take 2 20 a) ∙ take-take 8 20 (drop 2 a) (omega arith);
  version = ap (take 8) (drop-take 10 12 a) ∙ take-take 8 12 (drop 10 a) (omega arith);
  size = ap (take 4) (drop-take 18 4 a) ∙ take-take 4 4 (drop 18 a) (omega arith);
}

pub same_head : (a b : List ℕ) → take 22 a ≡ take 22 b → SameHead a b
same_head a b e =
    let p = by_head a in
    let q = subst (λ (h : List ℕ). SameHead h b) (sym e) (by_head b) in
    record {
      kind = sym p.kind ∙ q.kind;
      worker = sym p.worker ∙ q.worker;
      sequence = sym p.sequence ∙ q.sequence;
      version = sym p.version ∙ q.version;
      size = sym p.size ∙ q.size;
    }

-- the last byte of the least head
abbrev pub last_byte : ℕ → ℕ
last_byte kind = if kind == 0x84 then 1 else 0

abbrev pub least : ℕ → List ℕ
least kind = replicate 21 0 ++ last_byte kind ∷ []

pub long_least : (bytes : List ℕ) → 22 ≤ length bytes → least_head bytes ≡ take 22 bytes
long_least bytes long =
    let e : min (length bytes) 22 ≡ 22 = omega arith in
    ap (λ n. take n bytes ++ drop n (least (slice_index bytes 0))) e ∙ append-nil (take 22 bytes)

pub few_least : (bytes : List ℕ) → length bytes < 22 → least_head bytes ≡ bytes ++ drop (length bytes) (least (slice_index bytes 0))
few_least bytes few =
    let e : min (length bytes) 22 ≡ length bytes = omega arith in
    ap (λ n. take n bytes ++ drop n (least (slice_index bytes 0))) e ∙ ap (λ (l : List ℕ). l ++ drop (length bytes) (least (slice_index bytes 0))) (take_all (length bytes) bytes (omega arith))

long_head : (bytes : List ℕ) → 22 ≤ length bytes → SameHead (least_head bytes) bytes
long_head bytes long = same_head (least_head bytes) bytes (ap (take 22) (long_least bytes long) ∙ take-take 22 22 bytes (omega arith))

-- bytes behind bytes
append_bytes : (a b : List ℕ) → IsBytes a → IsBytes b → IsBytes (a ++ b)
append_bytes a b p q i = elim (cases_lt i (length a)) [
  | inl less ↦ rw (get_or_append_left a b 0 i less) (p i)
  | inr more ↦ rw (get_or-append_right a b (length a) i 0 refl more) (q (i - length a))
]

replicate_bytes : (n x : ℕ) → x < 256 → IsBytes (replicate n x)
replicate_bytes n x small i = elim (cases_lt i n) [
  | inl less ↦ rw (get_or-replicate n i x 0 less) small
  | inr more ↦ let out : length (replicate n x) ≤ i = omega (arith, length-replicate n x) in rw (get_or_past (replicate n x) i 0 out) (omega arith)
]

last_fits : (t : Bool) → cond t 1 0 < 256
last_fits true = omega arith
last_fits false = omega arith

least_bytes : (kind : ℕ) → IsBytes (least kind)
least_bytes kind = append_bytes (replicate 21 0) (replicate 1 (last_byte kind)) (replicate_bytes 21 0 (omega arith)) (replicate_bytes 1 (last_byte kind) (last_fits (kind == 0x84)))

drop_bytes : (b : List ℕ) (m : ℕ) → IsBytes b → IsBytes (drop m b)
drop_bytes b m fits i = rw get_or-drop (fits (m + i))

-- ones stand for what has to come
both_false : (t : Bool) → (t && false) ≡ false
both_false true = refl
both_false false = refl

ones_fine : (kind n : ℕ) → code_is_bad kind (replicate n 1) ≡ false
ones_fine kind zero = refl
ones_fine kind (suc n) = both_false (kind == 0x84)

fine_more : (kind n : ℕ) (content : List ℕ) → code_is_bad kind content ≡ false → code_is_bad kind (content ++ replicate n 1) ≡ false
fine_more kind n [] fine = ones_fine kind n
fine_more kind n (c ∷ content) fine = fine

-- The reply is whole.
pub read_whole : (bytes : List ℕ) (r : Fields) → IsBytes bytes → 22 ≤ length bytes → FieldsOf (least_head bytes) r → head_fits r.kind r.version r.length ≡ true → r.length ≤ length (drop 22 bytes)
    → code_is_bad r.kind (drop 22 bytes) ≡ false → ReadsBack bytes r (22 + r.length)
read_whole bytes r fits long f ok enough fine =
    let h = long_head bytes long in
    let kind : r.kind ≡ slice_index bytes 0 = f.kind ∙ h.kind in
    let version : r.version ≡ head_version bytes = f.version ∙ ap (from_be_bytes w64) h.version in
    let size : r.length ≡ head_size bytes = f.size ∙ ap (from_be_bytes w32) h.size in
    let ok' : head_fits (slice_index bytes 0) (head_version bytes) (head_size bytes) ≡ true = sym (λ i. head_fits (kind i) (version i) (size i)) ∙ ok in
    let b = begins bytes fits long ok' (subst (λ n. n ≤ length (drop 22 bytes)) size enough) (subst (λ k. code_is_bad k (drop 22 bytes) ≡ false) kind fine) in
    record {
      reply = b.reply;
      rest = drop (head_size bytes) (drop 22 bytes);
      text = b.text;
      fits = b.fits;
      kind = kind ∙ b.kind;
      worker = f.worker ∙ h.worker ∙ b.worker;
      sequence = f.sequence ∙ ap (from_be_bytes w64) h.sequence ∙ b.sequence;
      version = version ∙ b.version;
      value = (λ i. take (size i) (drop (f.place i) bytes)) ∙ b.value;
      size = size ∙ b.size;
      place = f.place;
      count = refl;
    }

-- A reply begins so, if what has to come makes it whole.
short_by : (bytes more : List ℕ) → IsBytes (bytes ++ more) → 22 ≤ length (bytes ++ more) → head_fits (slice_index (bytes ++ more) 0) (head_version (bytes ++ more)) (head_size (bytes ++ more)) ≡ true
    → head_size (bytes ++ more) ≡ length (drop 22 (bytes ++ more)) → code_is_bad (slice_index (bytes ++ more) 0) (drop 22 (bytes ++ more)) ≡ false → 0 < length more → BeginsReply bytes
short_by bytes more fits long ok all fine some =
    let t : List ℕ = bytes ++ more in
    let b = begins t fits long ok (omega arith) fine in
    let nothing : drop (head_size t) (drop 22 t) ≡ [] = drop_all (head_size t) (drop 22 t) (omega arith) in
    record {
      reply = b.reply;
      more = more;
      text = sym (b.text ∙ ap (λ (l : List ℕ). spelling b.reply ++ l) nothing ∙ append-nil (spelling b.reply));
      fits = b.fits;
      some = some;
    }

-- the same by the fields of a head that it has
short_as : (bytes more : List ℕ) (r : Fields) (head : List ℕ) → FieldsOf head r → SameHead head (bytes ++ more) → IsBytes (bytes ++ more) → 22 ≤ length (bytes ++ more) → head_fits r.kind r.version r.length ≡ true
    → r.length ≡ length (drop 22 (bytes ++ more)) → code_is_bad r.kind (drop 22 (bytes ++ more)) ≡ false → 0 < length more → BeginsReply bytes
short_as bytes more r head f h fits long ok all fine some =
    let t : List ℕ = bytes ++ more in
    let kind : r.kind ≡ slice_index t 0 = f.kind ∙ h.kind in
    let version : r.version ≡ head_version t = f.version ∙ ap (from_be_bytes w64) h.version in
    let size : r.length ≡ head_size t = f.size ∙ ap (from_be_bytes w32) h.size in
    short_by bytes more fits long (sym (λ i. head_fits (kind i) (version i) (size i)) ∙ ok) (sym size ∙ all) (subst (λ k. code_is_bad k (drop 22 t) ≡ false) kind fine) some

-- a part of a head
pub short_head : (bytes : List ℕ) (r : Fields) → IsBytes bytes → length bytes < 22 → FieldsOf (least_head bytes) r → head_fits r.kind r.version r.length ≡ true → BeginsReply bytes
short_head bytes r fits few f ok =
    let pad : List ℕ = drop (length bytes) (least (slice_index bytes 0)) in
    let ones : List ℕ = replicate r.length 1 in
    let pad_long : length pad ≡ 22 - length bytes = length-drop (length bytes) (least (slice_index bytes 0)) in
    let ones_long : length ones ≡ r.length = length-replicate r.length 1 in
    let head : least_head bytes ≡ bytes ++ pad = few_least bytes few in
    let apart : (bytes ++ pad) ++ ones ≡ bytes ++ (pad ++ ones) = append_assoc bytes pad ones in
    let head_long : length (bytes ++ pad) ≡ 22 = omega (arith, length-append bytes pad) in
    let fronts : take 22 (least_head bytes) ≡ take 22 (bytes ++ (pad ++ ones)) = ap (take 22) head ∙ sym (take-append-le 22 (bytes ++ pad) ones (omega arith)) ∙ ap (take 22) apart in
    let behind : drop 22 (bytes ++ (pad ++ ones)) ≡ ones = ap (drop 22) (sym apart) ∙ drop_at (bytes ++ pad) ones 22 head_long in
    let all_fit : IsBytes (bytes ++ (pad ++ ones)) = append_bytes bytes (pad ++ ones) fits (append_bytes pad ones (drop_bytes (least (slice_index bytes 0)) (length bytes) (least_bytes (slice_index bytes 0))) (replicate_bytes r.length 1 (omega arith))) in
    short_as bytes (pad ++ ones) r (least_head bytes) f (same_head (least_head bytes) (bytes ++ (pad ++ ones)) fronts) all_fit (omega (arith, ap length apart, length-append (bytes ++ pad) ones))
    ok (sym ones_long ∙ sym (ap length behind)) (ap (code_is_bad r.kind) behind ∙ ones_fine r.kind r.length) (omega (arith, length-append pad ones))

-- a head and a part of its bytes
pub short_content : (bytes : List ℕ) (r : Fields) → IsBytes bytes → 22 ≤ length bytes → FieldsOf (least_head bytes) r → head_fits r.kind r.version r.length ≡ true → length (drop 22 bytes) < r.length
    → code_is_bad r.kind (drop 22 bytes) ≡ false → BeginsReply bytes
short_content bytes r fits long f ok less fine =
    let count : ℕ = r.length - length (drop 22 bytes) in
    let ones : List ℕ = replicate count 1 in
    let ones_long : length ones ≡ count = length-replicate count 1 in
    let behind : drop 22 (bytes ++ ones) ≡ drop 22 bytes ++ ones = drop-append-le 22 bytes ones long in
    let fronts : take 22 (least_head bytes) ≡ take 22 (bytes ++ ones) = ap (take 22) (long_least bytes long) ∙ take-take 22 22 bytes (omega arith) ∙ sym (take-append-le 22 bytes ones long) in
    short_as bytes ones r (least_head bytes) f (same_head (least_head bytes) (bytes ++ ones) fronts) (append_bytes bytes ones fits (replicate_bytes count 1 (omega arith))) (omega (arith, length-append bytes ones))
    ok (omega (arith, ap length behind, length-append (drop 22 bytes) ones)) (ap (code_is_bad r.kind) behind ∙ fine_more r.kind count (drop 22 bytes) fine) (omega arith)

-- nothing at all
pub short_none : (bytes : List ℕ) → length bytes ≡ 0 → BeginsReply bytes
short_none [] none = record { reply = record { worker = 0; sequence = 0; answer = Bye }; more = spelling (record { worker = 0; sequence = 0; answer = Bye }); text = refl; fits = record { worker = omega arith; sequence = omega arith; answer = tt }; some = omega arith }
short_none (b ∷ bytes) none = absurd (omega arith)
