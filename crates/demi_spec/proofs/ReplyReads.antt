-- No reply begins another: equal spellings have equal parts.
use Rattle.std.proofs.Common.{◌≡◌, ℕ, ◌≤◌, List, [], ◌∷◌, ◌++◌, length, take, drop, get_or, refl, arith, ◌∙◌, ap, sym, length-append, if◌then◌else◌}
use Rattle.std.specs.Prelude.{◌==◌}
use Rattle.std.specs.Int.{w32, w64, from_be_bytes}
use Rattle.std.proofs.lemmas.List.{append-nil, nil_from_length}
use Rattle.std.proofs.lemmas.Nat.{from_be_bytes-to_be_bytes_4, from_be_bytes-to_be_bytes_8}
use Rattle.demi_spec.specs.Reply.{Answer, Reply, Stored, Found, Missing, Refused, Bye, Full, frame, spelling, spelling_of, IsReply, IsAnswer, word_max}

-- the kind of an answer, and the version and the bytes in its frame
abbrev kind_of : Answer → ℕ
kind_of (Stored version value) = 0x81
kind_of (Found version value) = 0x82
kind_of (Missing version) = 0x83
kind_of (Refused code) = 0x84
kind_of Bye = 0x85
kind_of (Full version) = 0x86

abbrev version_in : Answer → ℕ
version_in (Stored version value) = version
version_in (Found version value) = version
version_in (Missing version) = version
version_in (Refused code) = 0
version_in Bye = 0
version_in (Full version) = version

abbrev bytes_in : Answer → List ℕ
bytes_in (Stored version value) = value
bytes_in (Found version value) = value
bytes_in (Missing version) = []
bytes_in (Refused code) = code ∷ []
bytes_in Bye = []
bytes_in (Full version) = []

framed : (w s : ℕ) (a : Answer) → spelling_of w s a ≡ frame (kind_of a) w s (version_in a) (bytes_in a)
framed w s (Stored version value) = refl
framed w s (Found version value) = refl
framed w s (Missing version) = refl
framed w s (Refused code) = refl
framed w s Bye = refl
framed w s (Full version) = refl

fits_in : (a : Answer) → IsAnswer a → (version_in a ≤ word_max) × (length (bytes_in a) ≤ 65536)
fits_in (Stored version value) h = h
fits_in (Found version value) h = h
fits_in (Missing version) h = (h, omega arith)
fits_in (Refused code) h = (omega arith, omega arith)
fits_in Bye h = (omega arith, omega arith)
fits_in (Full version) h = (h, omega arith)

-- the answer with these parts
abbrev answer_from : ℕ → ℕ → List ℕ → Answer
answer_from kind version bytes =
    if kind == 0x81 then Stored version bytes
    else if kind == 0x82 then Found version bytes
    else if kind == 0x83 then Missing version
    else if kind == 0x84 then Refused (get_or bytes 0 0)
    else if kind == 0x85 then Bye
    else Full version

from_parts : (a : Answer) → answer_from (kind_of a) (version_in a) (bytes_in a) ≡ a
from_parts (Stored version value) = refl
from_parts (Found version value) = refl
from_parts (Missing version) = refl
from_parts (Refused code) = refl
from_parts Bye = refl
from_parts (Full version) = refl

-- equal frames have equal parts
pub record SameParts (k k' w w' s s' v v' : ℕ) (b b' more : List ℕ) : Type 0 where
  pub kind : k ≡ k'
  pub worker : w ≡ w'
  pub sequence : s ≡ s'
  pub version : v ≡ v'
  pub bytes : b ≡ b'
  pub none : more ≡ []

frames : (k k' w w' s s' v v' : ℕ) (b b' more : List ℕ) → s ≤ word_max → s' ≤ word_max → v ≤ word_max → v' ≤ word_max → length b ≤ 65536 → length b' ≤ 65536
    → frame k w s v b ≡ frame k' w' s' v' b' ++ more → SameParts k k' w w' s s' v v' b b' more
frames k k' w w' s s' v v' b b' more s_fits s_fits' v_fits v_fits' b_fits b_fits' e =
    let e_s = ap (λ (l : List ℕ). from_be_bytes w64 (take 8 (drop 2 l))) e in
    let e_v = ap (λ (l : List ℕ). from_be_bytes w64 (take 8 (drop 10 l))) e in
    let e_n = ap (λ (l : List ℕ). from_be_bytes w32 (take 4 (drop 18 l))) e in
    let same : b ≡ b' ++ more = ap (drop 22) e in
    let long : length b ≡ length b' = sym (from_be_bytes-to_be_bytes_4 (length b) (omega arith)) ∙ e_n ∙ from_be_bytes-to_be_bytes_4 (length b') (omega arith) in
    let nothing : more ≡ [] = nil_from_length more (omega (arith, ap length same, length-append b' more)) in
    record {
      kind = ap (λ (l : List ℕ). get_or l 0 0) e;
      worker = ap (λ (l : List ℕ). get_or l 1 0) e;
      sequence = sym (from_be_bytes-to_be_bytes_8 s (omega arith)) ∙ e_s ∙ from_be_bytes-to_be_bytes_8 s' (omega arith);
      version = sym (from_be_bytes-to_be_bytes_8 v (omega arith)) ∙ e_v ∙ from_be_bytes-to_be_bytes_8 v' (omega arith);
      bytes = same ∙ ap (λ (l : List ℕ). b' ++ l) nothing ∙ append-nil b';
      none = nothing;
    }

pub replies_apart : (q r : Reply) (more : List ℕ) → IsReply q → IsReply r → spelling q ≡ spelling r ++ more → (q ≡ r) × (more ≡ [])
replies_apart q r more q_fits r_fits e =
    let a = q.answer in let b = r.answer in let f = fits_in a q_fits.answer in let g = fits_in b r_fits.answer in
    let p = frames (kind_of a) (kind_of b) q.worker r.worker q.sequence r.sequence (version_in a) (version_in b) (bytes_in a) (bytes_in b) more
    q_fits.sequence r_fits.sequence f.0 g.0 f.1 g.1 (sym (framed q.worker q.sequence a) ∙ e ∙ ap (λ (l : List ℕ). l ++ more) (framed r.worker r.sequence b)) in
    let same : a ≡ b = sym (from_parts a) ∙ (λ i. answer_from (p.kind i) (p.version i) (p.bytes i)) ∙ from_parts b in
    ((λ i. record { worker = p.worker i; sequence = p.sequence i; answer = same i }), p.none)
