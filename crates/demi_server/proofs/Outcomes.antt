-- The outcome of links that end one after another.
use Rattle.std.proofs.Common.{◌≡◌, ◌∙◌, ℕ, ◌+◌, ◌<◌, ◌≤◌, get_or, take, List, [], ◌∷◌, ◌++◌, Option, Some, None, cond, length, nat_lt, refl, sym, ap, arith, option_map}
use Rattle.std.proofs.lemmas.List.{length-take-le, take_more}
use Rattle.std.specs.Option.{option_or}
use Rattle.demi_link.specs.declared.phase.Cause.{Cause}
use Rattle.demi_link.specs.declared.phase.Cause.TheVariants as ended
use Rattle.demi_server.specs.declared.outcome.Outcome.{Outcome}
use Rattle.demi_server.specs.Outcomes.{first_kind, log_fault, lowest, no_memory, outcome_by, rank_of, read_fault, refusal, told_of, write_fault}

or_none : {A : Type 0} (a : Option A) → option_or a None ≡ a
or_none None = refl
or_none (Some x) = refl

or_assoc : {A : Type 0} (a b c : Option A) → option_or a (option_or b c) ≡ option_or (option_or a b) c
or_assoc None b c = refl
or_assoc (Some x) b c = refl

-- one more link is looked at last
lowest_snoc : {A B : Type 0} (f : A → Option B) (n : ℕ) (xs : List A) (x : A) → lowest f n (xs ++ x ∷ []) ≡ option_or (lowest f n xs) (option_map (λ b. (n + length xs, b)) (f x))
lowest_snoc f n [] x = let e : n ≡ n + 0 = omega arith in or_none (option_map (λ b. (n, b)) (f x)) ∙ ap (λ m. option_map (λ b. (m, b)) (f x)) e
lowest_snoc f n (y ∷ ys) x =
    let e : n + 1 + length ys ≡ n + length (y ∷ ys) = omega arith in
    ap (option_or (option_map (λ b. (n, b)) (f y))) (lowest_snoc f (n + 1) ys x ∙ ap (λ m. option_or (lowest f (n + 1) ys) (option_map (λ b. (m, b)) (f x))) e)
    ∙ or_assoc (option_map (λ b. (n, b)) (f y)) (lowest f (n + 1) ys) (option_map (λ b. (n + length (y ∷ ys), b)) (f x))

-- the same from the first place on
snoc_first : {A B : Type 0} (f : A → Option B) (xs : List A) (x : A) → lowest f 0 (xs ++ x ∷ []) ≡ option_or (lowest f 0 xs) (option_map (λ b. (length xs, b)) (f x))
snoc_first f xs x = let e : 0 + length xs ≡ length xs = omega arith in lowest_snoc f 0 xs x ∙ ap (λ m. option_or (lowest f 0 xs) (option_map (λ b. (m, b)) (f x))) e

-- the one of the lower kind, and of one kind the first
abbrev lower_of : Outcome → Outcome → Outcome
lower_of first second = cond (nat_lt (rank_of second) (rank_of first)) second first

next_kind : (k : ℕ) (c : Cause) (a b d e : Option (ℕ × Unit {0})) (f : Option (ℕ × ℕ))
    → lower_of (first_kind a b d e f) (told_of k c)
    ≡ first_kind (option_or a (option_map (λ u. (k, u)) (no_memory c))) (option_or b (option_map (λ u. (k, u)) (log_fault c))) (option_or d (option_map (λ u. (k, u)) (read_fault c))) (option_or e (option_map (λ u. (k, u)) (write_fault c))) (option_or f (option_map (λ u. (k, u)) (refusal c)))
next_kind k ended.Clean (Some x) b d e f = refl
next_kind k ended.Clean None (Some x) d e f = refl
next_kind k ended.Clean None None (Some x) e f = refl
next_kind k ended.Clean None None None (Some x) f = refl
next_kind k ended.Clean None None None None (Some x) = refl
next_kind k ended.Clean None None None None None = refl
next_kind k ended.Bye (Some x) b d e f = refl
next_kind k ended.Bye None (Some x) d e f = refl
next_kind k ended.Bye None None (Some x) e f = refl
next_kind k ended.Bye None None None (Some x) f = refl
next_kind k ended.Bye None None None None (Some x) = refl
next_kind k ended.Bye None None None None None = refl
next_kind k (ended.Refused code) (Some x) b d e f = refl
next_kind k (ended.Refused code) None (Some x) d e f = refl
next_kind k (ended.Refused code) None None (Some x) e f = refl
next_kind k (ended.Refused code) None None None (Some x) f = refl
next_kind k (ended.Refused code) None None None None (Some x) = refl
next_kind k (ended.Refused code) None None None None None = refl
next_kind k ended.ReadFault (Some x) b d e f = refl
next_kind k ended.ReadFault None (Some x) d e f = refl
next_kind k ended.ReadFault None None (Some x) e f = refl
next_kind k ended.ReadFault None None None (Some x) f = refl
next_kind k ended.ReadFault None None None None (Some x) = refl
next_kind k ended.ReadFault None None None None None = refl
next_kind k ended.WriteFault (Some x) b d e f = refl
next_kind k ended.WriteFault None (Some x) d e f = refl
next_kind k ended.WriteFault None None (Some x) e f = refl
next_kind k ended.WriteFault None None None (Some x) f = refl
next_kind k ended.WriteFault None None None None (Some x) = refl
next_kind k ended.WriteFault None None None None None = refl
next_kind k ended.LogFault (Some x) b d e f = refl
next_kind k ended.LogFault None (Some x) d e f = refl
next_kind k ended.LogFault None None (Some x) e f = refl
next_kind k ended.LogFault None None None (Some x) f = refl
next_kind k ended.LogFault None None None None (Some x) = refl
next_kind k ended.LogFault None None None None None = refl
next_kind k ended.NoMemory (Some x) b d e f = refl
next_kind k ended.NoMemory None (Some x) d e f = refl
next_kind k ended.NoMemory None None (Some x) e f = refl
next_kind k ended.NoMemory None None None (Some x) f = refl
next_kind k ended.NoMemory None None None None (Some x) = refl
next_kind k ended.NoMemory None None None None None = refl
next_kind k ended.Lost (Some x) b d e f = refl
next_kind k ended.Lost None (Some x) d e f = refl
next_kind k ended.Lost None None (Some x) e f = refl
next_kind k ended.Lost None None None (Some x) f = refl
next_kind k ended.Lost None None None None (Some x) = refl
next_kind k ended.Lost None None None None None = refl

-- the outcome of these links and one more
pub one_more : (cs : List Cause) (c : Cause) → outcome_by (cs ++ c ∷ []) ≡ cond (nat_lt (rank_of (told_of (length cs) c)) (rank_of (outcome_by cs))) (told_of (length cs) c) (outcome_by cs)
one_more cs c =
    ap (λ a. first_kind a (lowest log_fault 0 (cs ++ c ∷ [])) (lowest read_fault 0 (cs ++ c ∷ [])) (lowest write_fault 0 (cs ++ c ∷ [])) (lowest refusal 0 (cs ++ c ∷ []))) (snoc_first no_memory cs c)
    ∙ ap (λ b. first_kind (option_or (lowest no_memory 0 cs) (option_map (λ u. (length cs, u)) (no_memory c))) b (lowest read_fault 0 (cs ++ c ∷ [])) (lowest write_fault 0 (cs ++ c ∷ [])) (lowest refusal 0 (cs ++ c ∷ []))) (snoc_first log_fault cs c)
    ∙ ap (λ d. first_kind (option_or (lowest no_memory 0 cs) (option_map (λ u. (length cs, u)) (no_memory c))) (option_or (lowest log_fault 0 cs) (option_map (λ u. (length cs, u)) (log_fault c))) d (lowest write_fault 0 (cs ++ c ∷ [])) (lowest refusal 0 (cs ++ c ∷ []))) (snoc_first read_fault cs c)
    ∙ ap (λ e. first_kind (option_or (lowest no_memory 0 cs) (option_map (λ u. (length cs, u)) (no_memory c))) (option_or (lowest log_fault 0 cs) (option_map (λ u. (length cs, u)) (log_fault c))) (option_or (lowest read_fault 0 cs) (option_map (λ u. (length cs, u)) (read_fault c))) e (lowest refusal 0 (cs ++ c ∷ []))) (snoc_first write_fault cs c)
    ∙ ap (first_kind (option_or (lowest no_memory 0 cs) (option_map (λ u. (length cs, u)) (no_memory c))) (option_or (lowest log_fault 0 cs) (option_map (λ u. (length cs, u)) (log_fault c))) (option_or (lowest read_fault 0 cs) (option_map (λ u. (length cs, u)) (read_fault c))) (option_or (lowest write_fault 0 cs) (option_map (λ u. (length cs, u)) (write_fault c)))) (snoc_first refusal cs c)
    ∙ sym (next_kind (length cs) c (lowest no_memory 0 cs) (lowest log_fault 0 cs) (lowest read_fault 0 cs) (lowest write_fault 0 cs) (lowest refusal 0 cs))

-- one more link was looked at
pub next_outcome : (causes : List Cause) (k : ℕ) (d : Cause) (o told next : Outcome) → k < length causes → o ≡ outcome_by (take k causes) → told ≡ told_of k (get_or causes k d) → next ≡ cond (nat_lt (rank_of told) (rank_of o)) told o → next ≡ outcome_by (take (k + 1) causes)
next_outcome causes k d o told next low is says picks =
    let cs = take k causes in let c = get_or causes k d in let some : k ≤ length causes = omega (arith, low) in
    picks
    ∙ ap (λ t. cond (nat_lt (rank_of t) (rank_of o)) t o) says
    ∙ ap (λ p. cond (nat_lt (rank_of (told_of k c)) (rank_of p)) (told_of k c) p) is
    ∙ ap (λ n. lower_of (outcome_by cs) (told_of n c)) (sym (length-take-le k causes some))
    ∙ sym (one_more cs c)
    ∙ ap outcome_by (sym (take_more causes k d low))
