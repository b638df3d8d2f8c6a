-- What was heard of a link's output is determined by it.
use Rattle.std.proofs.Common.{◌≡◌, ℕ, ◌≤◌, List, [], ◌∷◌, ◌++◌, length, take, drop, flat_map, refl, arith, ◌∙◌, ap, sym, append_assoc, length-append, inl, inr}
use Rattle.std.specs.List.{AllByRecursion}
use Rattle.std.proofs.lemmas.Bool.{cases_lt}
use Rattle.std.proofs.lemmas.List.{take-append-drop, take-append-le}
use Rattle.std.proofs.Math.Seq.{take-append_seam, drop-append_seam}
use Rattle.demi_spec.specs.Input.{Asked}
use Rattle.demi_spec.specs.Reply.{Answer, Reply, Stored, Found, Missing, Refused, Bye, Full, IsReply, spelling, spelling_of}
use Rattle.demi_spec.proofs.ReplyReads.{replies_apart}
use Rattle.demi_served.specs.Talks.{LinkRun, Talk}
use Rattle.demi_served.specs.Served.{WholeTalk}
use Rattle.demi_audit.specs.Verdict.{Heard, HeardOf, NoReply}

pub length-spelling : (r : Reply) → 22 ≤ length (spelling r)
length-spelling r = go r.answer
  where
    go : (a : Answer) → 22 ≤ length (spelling_of r.worker r.sequence a)
    go (Stored v value) = omega arith
    go (Found v value) = omega arith
    go (Missing v) = omega arith
    go (Refused code) = omega arith
    go Bye = omega arith
    go (Full v) = omega arith

-- of two fronts of one text the longer begins with the shorter
fronts : (a b x y : List ℕ) → a ++ x ≡ b ++ y → length a ≤ length b → b ≡ a ++ drop (length a) b
fronts a b x y e less =
    let same : take (length a) b ≡ a = sym (take-append-le (length a) b y less) ∙ ap (take (length a)) (sym e) ∙ take-append_seam a x in
    sym (take-append-drop (length a) b) ∙ ap (λ (l : List ℕ). l ++ drop (length a) b) same

-- two replies at the front of one text are one
pub same_front : (q r : Reply) (x y : List ℕ) → IsReply q → IsReply r → spelling q ++ x ≡ spelling r ++ y → (q ≡ r) × (x ≡ y)
same_front q r x y q_fits r_fits e = elim (cases_lt (length (spelling r)) (length (spelling q))) [
  | inl less ↦
      let is : q ≡ r = (replies_apart q r (drop (length (spelling r)) (spelling q)) q_fits r_fits (fronts (spelling r) (spelling q) y x (sym e) (omega arith))).0 in
      (is, rest is)
  | inr more ↦
      let is : q ≡ r = sym (replies_apart r q (drop (length (spelling q)) (spelling r)) r_fits q_fits (fronts (spelling q) (spelling r) x y e (omega arith))).0 in
      (is, rest is)
]
  where
    rest : q ≡ r → x ≡ y
    rest is =
        let f : spelling q ++ x ≡ spelling q ++ y = e ∙ ap (λ (p : Reply). spelling p ++ y) (sym is) in
        sym (drop-append_seam (spelling q) x) ∙ ap (drop (length (spelling q))) f ∙ drop-append_seam (spelling q) y

-- all replies of a text, and none behind them
pub all_heard : (rs qs : List Reply) (rest : List ℕ) → AllByRecursion IsReply rs → AllByRecursion IsReply qs → NoReply rest
    → flat_map spelling rs ≡ flat_map spelling qs ++ rest → (qs ≡ rs) × (rest ≡ [])
all_heard [] [] rest a b none e = (refl, sym e)
all_heard [] (q ∷ qs) rest a b none e =
    absurd (let n : 0 ≡ length ((spelling q ++ flat_map spelling qs) ++ rest) = ap length e in
    omega (arith, length-spelling q, length-append (spelling q ++ flat_map spelling qs) rest, length-append (spelling q) (flat_map spelling qs)))
all_heard (r ∷ rs) [] rest a b none e = absurd (none r (flat_map spelling rs) a.0 (sym e))
all_heard (r ∷ rs) (q ∷ qs) rest a b none e =
    let f = same_front r q (flat_map spelling rs) (flat_map spelling qs ++ rest) a.0 b.0 (e ∙ append_assoc (spelling q) (flat_map spelling qs) rest) in
    let k = all_heard rs qs rest a.1 b.1 none f.1 in
    (ap (λ (x : Reply). x ∷ qs) (sym f.0) ∙ ap (λ (l : List Reply). r ∷ l) k.0, k.1)

-- what was heard of a link whose replies were all written
pub one_hearing : (l : LinkRun) (t : Talk) (h : Heard) → WholeTalk l t → HeardOf l h → h ≡ record { talk = t; rest = [] }
one_hearing l t h w heard =
    let k = all_heard t.replies h.talk.replies h.rest w.fits heard.fits heard.none (sym w.written ∙ heard.text) in
    ap (λ (rest : List ℕ). record { talk = h.talk; rest = rest }) k.1
    ∙ ap (λ (replies : List Reply). record { talk = record { asks = h.talk.asks; replies = replies }; rest = [] }) k.0
    ∙ ap (λ (asks : List Asked). record { talk = record { asks = asks; replies = t.replies }; rest = [] }) (heard.asks ∙ sym w.asks)
