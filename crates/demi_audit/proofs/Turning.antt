-- The auditor's rules on numbers, by tables.
use Rattle.std.proofs.Common.{◌≡◌, ℕ, zero, suc, ◌+◌, ◌≤◌, ◌<◌, Bool, true, false, not, cond, List, [], ◌∷◌, ◌++◌, length, take, drop, get_or, set, map, refl, ap, sym, ◌∙◌, subst, arith, inl, inr, ◌⊎◌, Option, Some, None}
use Rattle.std.specs.Prelude.{◌==◌, ◌&&◌, ◌||◌, max, nat_lt, nat_le, count_by}
use Rattle.std.specs.List.{list_any}
use Rattle.std.proofs.lemmas.Bool.{cases_eq, cases_lt, cases_order, lt-ltb, le-ltb, or_right}
use Rattle.std.proofs.lemmas.Bool.Decides.{nat_tests}
use Rattle.std.proofs.lemmas.List.{length_push, get_or_push, get_or_default, get_or_append_left}
use Rattle.std.proofs.lemmas.List.Folds.{fold-map, list_any-append}
use Rattle.demi_spec.specs.Reply.{Reply}
use Rattle.demi_served.specs.Answers.{version_of}
use Rattle.demi_served.specs.Served.{same_worker}
use Rattle.demi_audit.specs.Verdict.{falls_by, lags, repeats}
use Rattle.demi_audit.specs.declared.heard.AnswerKind.{AnswerKind}
use Rattle.demi_audit.specs.declared.heard.AnswerKind.TheVariants as kind
use Rattle.demi_audit.specs.declared.heard.HeardReply.{HeardReply}
use Rattle.demi_audit.specs.declared.places.Places.{Places}
use Rattle.demi_audit.specs.Hearing.{answer_by, height, reply_by, replies_by}
use Rattle.demi_audit.specs.Turns.{IsPlacing, IsTable, count_of, greatest_at, greatest_below, HasPlace, height_at, is_in_turn, is_late, is_number, most_before, place_at, turn_of, was_given}
use Rattle.demi_audit.proofs.Placing.{written}
use Rattle.demi_audit.proofs.Raising.{not_number, its_number}

pub any_map : {X Y : Type 0} (p : Y → Bool) (f : X → Y) (xs : List X) → list_any p (map f xs) ≡ list_any (λ x. p (f x)) xs
any_map p f [] = refl
any_map p f (x ∷ xs) = ap (λ (b : Bool). p (f x) || b) (any_map p f xs)

pub any_same : {X : Type 0} (p q : X → Bool) (xs : List X) → ((x : X) → p x ≡ q x) → list_any p xs ≡ list_any q xs
any_same p q [] same = refl
any_same p q (x ∷ xs) same = (λ i. same x i || any_same p q xs same i)

pub any_false : {X : Type 0} (p : X → Bool) (xs : List X) → ((x : X) → p x ≡ false) → list_any p xs ≡ false
any_false p [] none = refl
any_false p (x ∷ xs) none = (λ i. none x i || any_false p xs none i)

pub counted_as : (text : List ℕ) (heard : List HeardReply) (r : HeardReply) → count_by (same_worker (reply_by text r)) (replies_by text heard) ≡ count_of r.worker heard
counted_as text heard r = fold-map (λ (n : ℕ) (x : Reply). n + cond (same_worker (reply_by text r) x) 1 0) (reply_by text) 0 heard

pub given_as : (text : List ℕ) (before : List HeardReply) (r : HeardReply) → list_any (repeats (reply_by text r)) (replies_by text before) ≡ was_given before r.worker r.sequence
given_as text before r = any_map (repeats (reply_by text r)) (reply_by text) before

or_false : (b : Bool) → (b || false) ≡ b
or_false true = refl
or_false false = refl

and_false : (b : Bool) → (b && false) ≡ false
and_false true = refl
and_false false = refl

none_below : (n : ℕ) → nat_lt n 0 ≡ false
none_below n = grind (arith, nat_tests)

pub falls_to : (k : AnswerKind) (u v : ℕ) (bytes : List ℕ) → falls_by false (version_of (answer_by k u bytes)) (Some v) ≡ nat_lt v (height k u)
falls_to kind.Stored u v bytes = or_false (nat_lt v u)
falls_to kind.Found u v bytes = or_false (nat_lt v u)
falls_to kind.Missing u v bytes = or_false (nat_lt v u)
falls_to kind.Full u v bytes = or_false (nat_lt v u)
falls_to (kind.Refused code) u v bytes = sym (none_below v)
falls_to kind.Bye u v bytes = sym (none_below v)

falls_none : (o : Option ℕ) → falls_by false o None ≡ false
falls_none None = refl
falls_none (Some v) = refl

most_zero : (n : ℕ) → most_before (λ s. 0) n ≡ 0
most_zero zero = refl
most_zero (suc n) = omega (arith, most_zero n)

most_max : (f g : ℕ → ℕ) (n : ℕ) → most_before (λ j. max (f j) (g j)) n ≡ max (most_before f n) (most_before g n)
most_max f g zero = refl
most_max f g (suc n) = omega (arith, most_max f g n)

one_step : (b : Bool) (q s h : ℕ) → max (cond (b && nat_lt q s) h 0) (cond (b && (q == s)) h 0) ≡ cond (b && nat_lt q (suc s)) h 0
one_step false q s h = refl
one_step true q s h = go (cases_order q s)
  where
    go : (q ≡ s) ⊎ ((q < s) ⊎ (s < q)) → max (cond (nat_lt q s) h 0) (cond (q == s) h 0) ≡ cond (nat_lt q (suc s)) h 0
    go (inl e) = let a : nat_lt q s ≡ false = grind (arith, nat_tests) in let b : (q == s) ≡ true = grind (arith, nat_tests) in let c : nat_lt q (suc s) ≡ true = grind (arith, nat_tests) in rw (a, b, c) (omega arith)
    go (inr (inl e)) = let a : nat_lt q s ≡ true = grind (arith, nat_tests) in let b : (q == s) ≡ false = grind (arith, nat_tests) in let c : nat_lt q (suc s) ≡ true = grind (arith, nat_tests) in rw (a, b, c) (omega arith)
    go (inr (inr e)) = let a : nat_lt q s ≡ false = grind (arith, nat_tests) in let b : (q == s) ≡ false = grind (arith, nat_tests) in let c : nat_lt q (suc s) ≡ false = grind (arith, nat_tests) in rw (a, b, c) (omega arith)

-- a reply's version, where its number is below another
most_one : (w s : ℕ) (r : HeardReply) → most_before (λ j. height_at w j r) s ≡ cond ((r.worker == w) && nat_lt r.sequence s) (height r.kind r.version) 0
most_one w zero r = ap (λ (b : Bool). cond b (height r.kind r.version) 0) (sym (ap (λ (b : Bool). (r.worker == w) && b) (none_below r.sequence) ∙ and_false (r.worker == w)))
most_one w (suc s) r = ap (λ (n : ℕ). max n (height_at w s r)) (most_one w s r) ∙ one_step (r.worker == w) r.sequence s (height r.kind r.version)

max_under : (v a b : ℕ) → nat_lt v (max a b) ≡ (nat_lt v a || nat_lt v b)
max_under v a b = go (cases_lt v a) (cases_lt v b)
  where
    go : (v < a) ⊎ (a ≤ v) → (v < b) ⊎ (b ≤ v) → nat_lt v (max a b) ≡ (nat_lt v a || nat_lt v b)
    go (inl x) y = let m : nat_lt v (max a b) ≡ true = lt-ltb v (max a b) (omega arith) in let p : nat_lt v a ≡ true = lt-ltb v a x in rw (m, p) refl
    go (inr x) (inl y) = let m : nat_lt v (max a b) ≡ true = lt-ltb v (max a b) (omega arith) in let p : nat_lt v a ≡ false = le-ltb v a x in let q : nat_lt v b ≡ true = lt-ltb v b y in rw (m, p, q) refl
    go (inr x) (inr y) = let m : nat_lt v (max a b) ≡ false = le-ltb v (max a b) (omega arith) in let p : nat_lt v a ≡ false = le-ltb v a x in let q : nat_lt v b ≡ false = le-ltb v b y in rw (m, p, q) refl

cond_under : (v h : ℕ) (b : Bool) → nat_lt v (cond b h 0) ≡ (b && nat_lt v h)
cond_under v h true = refl
cond_under v h false = none_below v

and_both : (a b c : Bool) → ((a && b) && c) ≡ (a && (b && c))
and_both true b c = refl
and_both false b c = refl

-- one of them has a lower number and a greater version exactly where the greatest version below the number is greater
pub late_any : (w s v : ℕ) (heard : List HeardReply) → list_any (λ o. (o.worker == w) && (nat_lt o.sequence s && nat_lt v (height o.kind o.version))) heard ≡ nat_lt v (greatest_below heard w s)
late_any w s v [] = sym (ap (nat_lt v) (most_zero s) ∙ none_below v)
late_any w s v (o ∷ heard) =
    let h : ℕ = height o.kind o.version in
    let one : nat_lt v (most_before (λ j. height_at w j o) s) ≡ ((o.worker == w) && (nat_lt o.sequence s && nat_lt v h)) =
    ap (nat_lt v) (most_one w s o) ∙ cond_under v h ((o.worker == w) && nat_lt o.sequence s) ∙ and_both (o.worker == w) (nat_lt o.sequence s) (nat_lt v h) in
    let on = late_any w s v heard in
    let all : nat_lt v (greatest_below (o ∷ heard) w s) ≡ (nat_lt v (most_before (λ j. height_at w j o) s) || nat_lt v (greatest_below heard w s)) =
    ap (nat_lt v) (most_max (λ j. height_at w j o) (λ j. greatest_at w j heard) s) ∙ max_under v (most_before (λ j. height_at w j o) s) (greatest_below heard w s) in
    (λ i. sym one i || on i) ∙ sym all

-- whether a reply of this worker with a lower number has a greater version
abbrev is_over : List ℕ → ℕ → ℕ → Option ℕ → HeardReply → Bool
is_over text w s v o = (o.worker == w) && (nat_lt o.sequence s && falls_by false (version_of (reply_by text o).answer) v)

over_named : (text : List ℕ) (w s u : ℕ) (heard : List HeardReply) → list_any (is_over text w s (Some u)) heard ≡ nat_lt u (greatest_below heard w s)
over_named text w s u heard =
    any_same (is_over text w s (Some u)) (λ o. (o.worker == w) && (nat_lt o.sequence s && nat_lt u (height o.kind o.version))) heard
    (λ o. ap (λ (b : Bool). (o.worker == w) && (nat_lt o.sequence s && b)) (falls_to o.kind o.version u (take o.length (drop o.from text))))
    ∙ late_any w s u heard

over_unnamed : (text : List ℕ) (w s : ℕ) (heard : List HeardReply) → list_any (is_over text w s None) heard ≡ false
over_unnamed text w s heard =
    any_false (is_over text w s None) heard
    (λ o. ap (λ (b : Bool). (o.worker == w) && (nat_lt o.sequence s && b)) (falls_none (version_of (reply_by text o).answer))
    ∙ ap (λ (b : Bool). (o.worker == w) && b) (and_false (nat_lt o.sequence s)) ∙ and_false (o.worker == w))

late_by : (k : AnswerKind) (u w s : ℕ) (bytes text : List ℕ) (heard : List HeardReply) → list_any (is_over text w s (version_of (answer_by k u bytes))) heard ≡ is_late k u (greatest_below heard w s)
late_by kind.Stored u w s bytes text heard = over_named text w s u heard
late_by kind.Found u w s bytes text heard = over_named text w s u heard
late_by kind.Missing u w s bytes text heard = over_named text w s u heard
late_by kind.Full u w s bytes text heard = over_named text w s u heard
late_by (kind.Refused code) u w s bytes text heard = over_unnamed text w s heard
late_by kind.Bye u w s bytes text heard = over_unnamed text w s heard

pub late_as : (text : List ℕ) (heard : List HeardReply) (r : HeardReply) → list_any (lags (reply_by text r)) (replies_by text heard) ≡ is_late r.kind r.version (greatest_below heard r.worker r.sequence)
late_as text heard r = any_map (lags (reply_by text r)) (reply_by text) heard ∙ late_by r.kind r.version r.worker r.sequence (take r.length (drop r.from text)) text heard

-- the number of a reply is right as the auditor's rules say
pub turn_as : (text : List ℕ) (heard before : List HeardReply) (r : HeardReply) → turn_of heard before r ≡ is_in_turn (replies_by text heard) (replies_by text before) (reply_by text r)
turn_as text heard before r =
    let a = sym (counted_as text heard r) in
    let b = sym (given_as text before r) in
    let c = sym (late_as text heard r) in
    (λ i. nat_lt 0 r.sequence && (nat_le r.sequence (a i) && (not (b i) && not (c i))))

-- one more number is marked
pub marked : (p : Places) (heard before : List HeardReply) (table : List Bool) (r : HeardReply) (at : ℕ) → IsPlacing p heard → HasPlace p r.worker r.sequence → at ≡ place_at p r.worker r.sequence → at < length table
    → IsTable p (was_given before) table → IsTable p (was_given (before ++ r ∷ [])) (set table at true)
marked p heard before table r at h there is within tabled =
    subst (λ (j : ℕ). IsTable p (was_given (before ++ r ∷ [])) (set table j true)) (sym is)
    (written p heard (was_given before) (was_given (before ++ r ∷ [])) table r.worker r.sequence true h there (omega (arith, is, within)) tabled here others)
  where
    here : true ≡ was_given (before ++ r ∷ []) r.worker r.sequence
    here =
        let e : (is_number r.worker r.sequence r || false) ≡ true = or_false (is_number r.worker r.sequence r) ∙ its_number r in
        sym (list_any-append (is_number r.worker r.sequence) before (r ∷ []) ∙ or_right (was_given before r.worker r.sequence) _ e)

    others : (v t : ℕ) → ((v ≡ r.worker) × (t ≡ r.sequence) → ⊥) → was_given before v t ≡ was_given (before ++ r ∷ []) v t
    others v t other =
        let e : (is_number v t r || false) ≡ false = or_false (is_number v t r) ∙ not_number v t r other in
        sym (list_any-append (is_number v t) before (r ∷ []) ∙ ap (λ (b : Bool). was_given before v t || b) e ∙ or_false (was_given before v t))

-- the numbers of the first replies, each by those before it
pub record TurnsTo (heard : List HeardReply) (turns : List Bool) (n : ℕ) : Type 0 where
  pub count : length turns ≡ n
  pub each : (i : ℕ) (d : HeardReply) → i < n → get_or turns i false ≡ turn_of heard (take i heard) (get_or heard i d)

pub turn_more : (heard : List HeardReply) (turns : List Bool) (n : ℕ) (x : Bool) (d : HeardReply) → n < length heard → TurnsTo heard turns n → x ≡ turn_of heard (take n heard) (get_or heard n d) → TurnsTo heard (turns ++ x ∷ []) (n + 1)
turn_more heard turns n x d less t is =
    record {
      count = length_push turns x ∙ ap (λ (k : ℕ). k + 1) t.count;
      each = λ i e low. go i e low (cases_eq i n);
    }
  where
    go : (i : ℕ) (e : HeardReply) → i < n + 1 → (i ≡ n) ⊎ (i ≡ n → ⊥) → get_or (turns ++ x ∷ []) i false ≡ turn_of heard (take i heard) (get_or heard i e)
    go i e low (inl same) =
        get_or_push turns x false i (t.count ∙ sym same) ∙ is
        ∙ ap (turn_of heard (take n heard)) (get_or_default heard n d e less)
        ∙ ap (λ (k : ℕ). turn_of heard (take k heard) (get_or heard k e)) (sym same)
    go i e low (inr other) = get_or_append_left turns (x ∷ []) false i (omega (arith, t.count)) ∙ t.each i e (omega arith)
