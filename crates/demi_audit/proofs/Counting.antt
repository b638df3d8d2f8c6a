-- Requests that are counted by their kinds.
use Rattle.std.proofs.Common.{◌≡◌, ℕ, ◌+◌, Bool, true, List, [], ◌∷◌, ◌++◌, length, flat_map, refl, ap, sym, ◌∙◌, subst, arith, append_assoc, cond}
use Rattle.std.specs.Prelude.{codes}
use Rattle.std.specs.Fmt.{decimal}
use Rattle.std.specs.List.{count_by}
use Rattle.std.proofs.lemmas.List.{append-nil}
use Rattle.std.proofs.lemmas.List.Sums.{sum_by-append}
use Rattle.std.proofs.lemmas.Grind.{flat_map-append}
use Rattle.demi_spec.specs.Request.{Request, Put, Get, End, GoesOn, spelling}
use Rattle.demi_spec.specs.Input.{Ending, EndFrame, Ends, Parses, Parsed, Takes, front}
use Rattle.demi_spec.proofs.Parsing.{AllGoOn-push, parsed, read_on}
use Rattle.demi_audit.specs.declared.summing.Tally.{Tally}
use Rattle.demi_audit.specs.Summary.{CountedTo, Tallies, is_put, is_get, is_end, line_of, requests_of, requests_of_all, summary_line}

pub count_by-append : {X : Type 0} (p : X → Bool) (xs ys : List X) → count_by p (xs ++ ys) ≡ count_by p xs + count_by p ys
count_by-append p xs ys = sum_by-append (λ x. cond (p x) 1 0) xs ys

-- one more, of some kind
counted_more : (p : Request → Bool) (rs : List Request) (q : Request) (n n' : ℕ) → n ≡ count_by p rs → n' ≡ n + cond (p q) 1 0 → n' ≡ count_by p (rs ++ q ∷ [])
counted_more p rs q n n' before more = omega (arith, before, more, count_by-append p rs (q ∷ []))

-- a count has one of this kind more
pub record Gains (t t' : Tally) (q : Request) : Type 0 where
  pub puts : t'.puts ≡ t.puts + cond (is_put q) 1 0
  pub gets : t'.gets ≡ t.gets + cond (is_get q) 1 0
  pub ends : t'.ends ≡ t.ends + cond (is_end q) 1 0

tallies_more : (rs : List Request) (q : Request) (t t' : Tally) → Tallies rs t → Gains t t' q → Tallies (rs ++ q ∷ []) t'
tallies_more rs q t t' before gains = record {
  puts = counted_more is_put rs q t.puts t'.puts before.puts gains.puts;
  gets = counted_more is_get rs q t.gets t'.gets before.gets gains.gets;
  ends = counted_more is_end rs q t.ends t'.ends before.ends gains.ends;
}

pub counted_next : (input left after : List ℕ) (t t' : Tally) (q : Request) → CountedTo input left t → Takes left q after → GoesOn q → Gains t t' q → CountedTo input after t'
counted_next input left after t t' q so takes on gains =
    let rs : List Request = so.requests in
    let text : List ℕ = flat_map spelling rs in
    let spelled : flat_map spelling (rs ++ q ∷ []) ≡ text ++ spelling q = flat_map-append spelling rs (q ∷ []) ∙ ap (λ (l : List ℕ). text ++ l) (append-nil (spelling q)) in
    record {
      requests = rs ++ q ∷ [];
      text = so.text ∙ ap (λ (l : List ℕ). text ++ l) takes.text ∙ sym (append_assoc text (spelling q) after) ∙ ap (λ (l : List ℕ). l ++ after) (sym spelled);
      go_on = AllGoOn-push rs q so.go_on on;
      tallies = tallies_more rs q t t' so.tallies gains;
    }

-- the requests of a text, by the relation
requests_are : (input : List ℕ) (rs : List Request) (how : Ending) → Parses rs how true input → rs ≡ requests_of input
requests_are input rs how p = sym (ap (λ (x : Parsed). x.requests) (parsed rs how true input p))

-- nothing that stands next is a request
pub counted_all : (input left : List ℕ) (t : Tally) (how : Ending) → CountedTo input left t → front true left ≡ Ends how → Tallies (requests_of input) t
counted_all input left t how so ends =
    let p : Parses (so.requests ++ []) how true (flat_map spelling so.requests ++ left) = read_on so.requests [] how true left so.go_on ends in
    let all : so.requests ++ [] ≡ requests_of input = requests_are input (so.requests ++ []) how (subst (Parses (so.requests ++ []) how true) (sym so.text) p) in
    subst (λ (rs : List Request). Tallies rs t) (sym (append-nil so.requests) ∙ all) so.tallies

-- the end frame stands next
pub counted_end : (input left after : List ℕ) (t t' : Tally) → CountedTo input left t → Takes left End after → Gains t t' End → Tallies (requests_of input) t'
counted_end input left after t t' so takes gains =
    let rs : List Request = so.requests ++ End ∷ [] in
    let p : Parses rs EndFrame true (flat_map spelling so.requests ++ left) = read_on so.requests (End ∷ []) EndFrame true left so.go_on (refl, refl, (after, takes.text)) in
    subst (λ (l : List Request). Tallies l t') (requests_are input rs EndFrame (subst (Parses rs EndFrame true) (sym so.text) p)) (tallies_more so.requests End t t' so.tallies gains)

counted_first : (p : Request → Bool) (q : Request) (rs : List Request) → count_by p (q ∷ rs) ≡ cond (p q) 1 0 + count_by p rs
counted_first p q rs = omega (arith, count_by-append p (q ∷ []) rs)

-- each request has one kind
one_kind : (q : Request) → cond (is_put q) 1 0 + cond (is_get q) 1 0 + cond (is_end q) 1 0 ≡ 1
one_kind (Put key value) = refl
one_kind (Get key) = refl
one_kind End = refl

pub all_kinds : (rs : List Request) → length rs ≡ count_by is_put rs + count_by is_get rs + count_by is_end rs
all_kinds [] = refl
all_kinds (q ∷ rs) = omega (arith, all_kinds rs, counted_first is_put q rs, counted_first is_get q rs, counted_first is_end q rs, one_kind q)

-- a line that was written in parts
pub line_written : (b0 b1 b2 b3 b4 b5 b6 b7 b8 : List ℕ) (l r p g e n s : ℕ) → b0 ≡ [] → b1 ≡ b0 ++ codes "links " ++ decimal l → b2 ≡ b1 ++ codes " requests " ++ decimal r → b3 ≡ b2 ++ codes " puts " ++ decimal p
    → b4 ≡ b3 ++ codes " gets " ++ decimal g → b5 ≡ b4 ++ codes " ends " ++ decimal e → b6 ≡ b5 ++ codes " records " ++ decimal n → b7 ≡ b6 ++ codes " log " ++ decimal s → b8 ≡ b7 ++ codes "\n" → b8 ≡ line_of l r p g e n s
line_written b0 b1 b2 b3 b4 b5 b6 b7 b8 l r p g e n s e0 e1 e2 e3 e4 e5 e6 e7 e8 =
    rw (e8, e7, e6, e5, e4, e3, e2, e1, e0) (simp append_assoc)

-- the line by the numbers that were counted
pub summary_is : (bytes : List ℕ) (inputs : List (List ℕ)) (t : Tally) (links records n size : ℕ) → bytes ≡ line_of links (t.puts + t.gets + t.ends) t.puts t.gets t.ends records size → links ≡ length inputs
    → Tallies (requests_of_all inputs) t → records ≡ n → bytes ≡ summary_line inputs n size
summary_is bytes inputs t links records n size written links_are counts records_are =
    let all : List Request = requests_of_all inputs in
    let sum : t.puts + t.gets + t.ends ≡ length all = omega (arith, all_kinds all, counts.puts, counts.gets, counts.ends) in
    written
    ∙ (λ i. line_of (links_are i) (sum i) (counts.puts i) (counts.gets i) (counts.ends i) (records_are i) size)
