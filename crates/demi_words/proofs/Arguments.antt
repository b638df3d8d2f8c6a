-- What a parse has of each argument of a plain description.
use Rattle.std.proofs.Common.{◌≡◌, ◌∙◌, ◌<◌, ◌&&◌, ◌||◌, ap, arith, codes, ℕ, Bool, true, false, true≢false, not, zero, suc}
use Rattle.std.proofs.Common.{List, [], ◌∷◌, length, map, is_some, Option, Some, None, option_map, refl, sym, subst, inl, inr}
use Rattle.std.specs.Prelude.{pos, slice_get}
use Rattle.std.specs.List.{list_all, list_any, slice_index_or}
use Rattle.std.specs.Str.{bytes_eq}
use Rattle.std.proofs.lemmas.Bool.{eqb-true}
use Rattle.std.proofs.lemmas.Slice.Eq.{bytes_eq-Decides}
use Rattle.clap.proofs.CallerLemmas.{required_has_value}
use Rattle.clap.proofs.TakesLemmas.{each_rule}
use Rattle.clap.proofs.WalkLemmas.{both, one_text-rows}
use Rattle.clap.specs.Built.{IsAuto, IsPlain, IsPlainArg, IsParsedFrom}
use Rattle.clap.specs.Facts.{args_of, groups_of, least_values, unwrap_or_range}
use Rattle.clap.specs.Lexer.{without_minus}
use Rattle.clap.specs.Matches.{first_value, found_of, matched_of, one_text}
use Rattle.clap.specs.Simple.{App, Shape, app_of, shape_of}
use Rattle.clap.specs.Values.{Accepts, read_as, reading_of}
use Rattle.clap.specs.Walk.{Rule, Text, is_empty, is_free_arg, is_simple_arg, one_of, rows_of, rule_of}
use Rattle.clap.specs.declared.builder.action.ArgAction.TheVariants.{Set}
use Rattle.clap.specs.declared.builder.arg.Arg.{Arg}
use Rattle.clap.specs.declared.builder.command.Command.{Command}
use Rattle.clap.specs.declared.builder.command.Command.TheViews.{out-Command}
use Rattle.clap.specs.declared.builder.value_parser.ValueParser.{ValueParser}
use Rattle.clap.specs.declared.builder.value_parser.ValueParser.TheVariants as vp
use Rattle.clap.specs.declared.parser.matches.ArgMatches.{ArgMatches}
use Rattle.clap.specs.declared.parser.matches.Found.{Found}
use Rattle.clap.specs.declared.parser.matches.MatchedArg.{MatchedArg}
use Rattle.demi_words.specs.Numbers.{IsNumberIn}
use Rattle.demi_words.proofs.Given.{given_reads}
use Rattle.demi_words.proofs.Numbers.{signed_number, unsigned_number}

empty_list : {X : Type 0} (xs : List X) → is_empty xs ≡ true → xs ≡ []
empty_list [] e = refl
empty_list (x ∷ xs) e =
    let none : length (x ∷ xs) ≡ 0 = eqb-true _ _ e in
    absurd (omega arith)

not_true : (b : Bool) → not b ≡ true → b ≡ false
not_true true e = absurd (true≢false (sym e))
not_true false e = refl

not_some : {X : Type 0} (o : Option X) → not (is_some o) ≡ true → o ≡ None
not_some (Some x) e = absurd (true≢false (sym e))
not_some None e = refl

-- an argument that is simple and free excludes nothing, and its values are not cut
plain_arg : (a : Arg) → is_simple_arg a ≡ true → is_free_arg a ≡ true → IsPlainArg a
plain_arg a s f =
    let s₀ = both _ _ s in
    let s₁ = both _ _ s₀.1 in
    let s₂ = both _ _ s₁.1 in
    let f₀ = both _ _ f in
    let f₁ = both _ _ f₀.1 in
    (not_true a.exclusive f₀.0, empty_list a.conflicts.items f₁.0, empty_list a.overrides.items s₀.0, empty_list a.groups.items s₂.0)

uncut_arg : (a : Arg) → is_simple_arg a ≡ true → a.val_delim ≡ None
uncut_arg a s =
    let s₀ = both (is_empty a.overrides.items) _ s in
    let s₁ = both (is_empty a.default_vals_ifs.items) _ s₀.1 in
    let s₂ = both (is_empty a.groups.items) _ s₁.1 in
    not_some a.val_delim (both (not (is_some a.val_delim)) _ s₂.1).0

-- a description excludes nothing
abbrev pub is_tame : Shape → Bool
is_tame s = not s.subcommand_negates_reqs && (s.is_plain && (list_all (λ r. r.is_simple) s.rules && list_all (λ r. r.is_free) s.rules))

-- no other argument than the one at this place has the name
abbrev pub is_alone : Text → ℕ → List Rule → Bool
is_alone name k [] = true
is_alone name zero (r ∷ rules) = not (list_any (λ s. bytes_eq s.id name) rules)
is_alone name (suc k) (r ∷ rules) = not (bytes_eq r.id name) && is_alone name k rules

-- the name is not empty, and none that `clap` adds by itself
abbrev pub is_own : Text → Bool
is_own name = not (is_empty name) && (not (bytes_eq name (codes "help")) && not (bytes_eq name (codes "version")))

-- an argument of this kind stands at this place of a description
pub record IsAt (app : App) (k : ℕ) (rule : Rule) : Type 0 where
  pub inside : k < length app.top.rules
  pub is : (r : Rule) → slice_index_or app.top.rules k r ≡ rule
  pub alone : is_alone rule.id k app.top.rules ≡ true
  pub own : is_own rule.id ≡ true

none_named : (name : Text) (rules : List Rule) → list_any (λ s. bytes_eq s.id name) rules ≡ false
    → (j : ℕ) (r : Rule) → j < length rules → bytes_eq (slice_index_or rules j r).id name ≡ true → ⊥
none_named name [] none j r lt same = absurd (omega arith)
none_named name (x ∷ rules) none zero r lt same =
    let here : true ≡ false = rw same at none in
    true≢false here
none_named name (x ∷ rules) none (suc j) r lt same = none_named name rules (later (bytes_eq x.id name) none) j r (omega arith) same
  where
    later : (b : Bool) → (b || list_any (λ s. bytes_eq s.id name) rules) ≡ false → list_any (λ s. bytes_eq s.id name) rules ≡ false
    later true e = absurd (true≢false e)
    later false e = e

alone_at : (name : Text) (k : ℕ) (rules : List Rule) → is_alone name k rules ≡ true
    → (j : ℕ) (r : Rule) → j < length rules → bytes_eq (slice_index_or rules j r).id name ≡ true → j ≡ k
alone_at name k [] alone j r lt same = absurd (omega arith)
alone_at name zero (x ∷ rules) alone zero r lt same = refl
alone_at name zero (x ∷ rules) alone (suc j) r lt same = absurd (none_named name rules (not_true _ alone) j r (omega arith) same)
alone_at name (suc k) (x ∷ rules) alone zero r lt same =
    let other : bytes_eq x.id name ≡ false = not_true _ (both _ _ alone).0 in
    absurd (true≢false (sym same ∙ other))
alone_at name (suc k) (x ∷ rules) alone (suc j) r lt same = ap suc (alone_at name k rules (both _ _ alone).1 j r (omega arith) same)

rule_at : (xs : List Arg) (k : ℕ) (d : Arg) (r : Rule) → k < length xs → rule_of (slice_index_or xs k d) ≡ slice_index_or (map rule_of xs) k r
rule_at [] k d r lt = absurd (omega arith)
rule_at (x ∷ xs) zero d r lt = refl
rule_at (x ∷ xs) (suc k) d r lt = rule_at xs k d r (omega arith)

map_length : (xs : List Arg) (rules : List Rule) → map rule_of xs ≡ rules → length rules ≡ length xs
map_length xs rules e = ap length (sym e) ∙ count xs
  where
    count : (ys : List Arg) → length (map rule_of ys) ≡ length ys
    count [] = refl
    count (y ∷ ys) = ap suc (count ys)

some_arg : (xs : List Arg) (k : ℕ) → k < length xs → Arg
some_arg [] k lt = absurd (omega arith)
some_arg (x ∷ xs) k lt = x

-- a text that is read is a first value
first_is : (f : Found) (id t : Text) → one_text f id ≡ Some t → is_some (first_value f id) ≡ true
first_is f id t e = go (matched_of f id) refl e
  where
    inner : (a : MatchedArg) (o : Option _) → slice_get a.vals.items 0 ≡ o → option_map (λ s. read_as a.reading s.now) (slice_get a.vals.items 0) ≡ Some t
        → is_some (option_map (λ s. s.now) (slice_get a.vals.items 0)) ≡ true
    inner a None n h = let bad : None ≡ Some t = rw n at h in cc
    inner a (Some s) n h = rw n refl

    go : (o : Option MatchedArg) → matched_of f id ≡ o → one_text f id ≡ Some t → is_some (first_value f id) ≡ true
    go None m h = let bad : None ≡ Some t = rw m at h in cc
    go (Some a) m h =
        let h' : option_map (λ s. read_as a.reading s.now) (slice_get a.vals.items 0) ≡ Some t = rw m at h in
        rw m (inner a (slice_get a.vals.items 0) refl h')

module _ (app : App) (c : Command) (m : ArgMatches) (same : app_of c ≡ app) (tame : is_tame app.top ≡ true) (p : IsParsedFrom c m) where
  abbrev args : List Arg
  args = args_of c

  rules_are : map rule_of args ≡ app.top.rules
  rules_are = ap (λ (a : App). a.top.rules) same

  tame_here : is_tame (shape_of c) ≡ true
  tame_here = ap (λ (a : App). is_tame a.top) same ∙ tame

  negates : (out-Command c).subcommand_negates_reqs ≡ false
  negates = not_true _ (both _ _ tame_here).0

  is_plain : (shape_of c).is_plain ≡ true
  is_plain =
      let later = both _ _ tame_here in
      (both _ _ later.1).0

  all_simple : (k : ℕ) (d : Arg) → k < length args → is_simple_arg (slice_index_or args k d) ≡ true
  all_simple =
      let later = both _ _ tame_here in
      let rules = both _ _ later.1 in
      each_rule (λ r. r.is_simple) args (both _ _ rules.1).0

  all_free : (k : ℕ) (d : Arg) → k < length args → is_free_arg (slice_index_or args k d) ≡ true
  all_free =
      let later = both (not (shape_of c).subcommand_negates_reqs) _ tame_here in
      let rules = both (shape_of c).is_plain _ later.1 in
      each_rule (λ r. r.is_free) args (both (list_all (λ r. r.is_simple) (shape_of c).rules) _ rules.1).1

  plain : IsPlain c
  plain = ((λ k d lt. plain_arg (slice_index_or args k d) (all_simple k d lt) (all_free k d lt)), empty_list (groups_of c) (both _ _ is_plain).0)

  globals : (out-Command c).has_globals ≡ false
  globals =
      let h₀ = both (is_empty (out-Command c).groups.items) _ is_plain in
      let h₁ = both (not (out-Command c).allow_external_subcommands) _ h₀.1 in
      not_true _ (both (not (out-Command c).has_globals) _ h₁.1).0

  module _ (k : ℕ) (rule : Rule) (there : IsAt app k rule) where
    inside : k < length args
    inside = omega (arith, there.inside, map_length args app.top.rules rules_are)

    abbrev arg : Arg
    arg = slice_index_or args k (some_arg args k inside)

    is : rule_of arg ≡ rule
    is = rule_at args k (some_arg args k inside) rule inside ∙ ap (λ l. slice_index_or l k rule) rules_are ∙ there.is rule

    name : arg.id.now ≡ rule.id
    name = ap (λ (r : Rule). r.id) is

    unique : (j : ℕ) (e : Arg) → j < length args → bytes_eq (slice_index_or args j e).id.now arg.id.now ≡ true → j ≡ k
    unique j e lt equal =
        let theirs : (slice_index_or args j e).id.now ≡ (slice_index_or app.top.rules j rule).id =
        ap (λ (r : Rule). r.id) (rule_at args j e rule lt ∙ ap (λ l. slice_index_or l j rule) rules_are) in
        let here : bytes_eq (slice_index_or app.top.rules j rule).id rule.id ≡ true = rw (theirs, name) at equal in
        alone_at rule.id k app.top.rules there.alone j rule (omega (arith, map_length args app.top.rules rules_are)) here

    named : arg.id.now ≡ [] → ⊥
    named none =
        let full : is_empty rule.id ≡ false = not_true _ (both _ _ there.own).0 in
        true≢false (ap is_empty (sym none ∙ name) ∙ full)

    not_added : IsAuto arg → ⊥
    not_added auto =
        let own = both (not (is_empty rule.id)) _ there.own in
        let differ = both _ _ own.1 in
        elim auto [
          | inl help ↦ true≢false (sym ((bytes_eq-Decides rule.id (codes "help")).1 (sym name ∙ help)) ∙ not_true _ differ.0)
          | inr version ↦ true≢false (sym ((bytes_eq-Decides rule.id (codes "version")).1 (sym name ∙ version)) ∙ not_true _ differ.1)
        ]

    -- what is found of it passed its parser
    given : (q : ValueParser) → rule.parser ≡ Some q → is_some (first_value (found_of m) rule.id) ≡ true
        → (t : Text) × (one_text (found_of m) rule.id ≡ Some (read_as (reading_of q) t)) × Accepts arg.ignore_case q t
    given q parser has =
        let got = given_reads c m p plain globals k (some_arg args k inside) inside unique named not_added q (ap (λ (r : Rule). r.parser) is ∙ parser)
        (subst (λ w. is_some (first_value (found_of m) w) ≡ true) (sym name) has) in
        (got.0, subst (λ w. one_text (found_of m) w ≡ Some (read_as (reading_of q) got.0)) name got.1, got.2)

    -- a number that is found of it is in its range
    pub signed : (low high : ℕ) → rule.parser ≡ Some (vp.Signed (pos low) (pos high))
        → (t : Text) → one_of rule.id (rows_of (found_of m)) ≡ Some t → IsNumberIn low high t
    signed low high parser t e =
        let read : one_text (found_of m) rule.id ≡ Some t = one_text-rows (found_of m) rule.id ∙ e in
        let got = given (vp.Signed (pos low) (pos high)) parser (first_is (found_of m) rule.id t read) in
        let both_read : Some (without_minus got.0) ≡ Some t = sym got.1 ∙ read in
        let t_is : without_minus got.0 ≡ t = cc in
        subst (IsNumberIn low high) t_is (signed_number low high got.0 got.2)

    pub unsigned : (low high : ℕ) → rule.parser ≡ Some (vp.Unsigned low high)
        → (t : Text) → one_of rule.id (rows_of (found_of m)) ≡ Some t → IsNumberIn low high t
    unsigned low high parser t e =
        let read : one_text (found_of m) rule.id ≡ Some t = one_text-rows (found_of m) rule.id ∙ e in
        let got = given (vp.Unsigned low high) parser (first_is (found_of m) rule.id t read) in
        let both_read : Some got.0 ≡ Some t = sym got.1 ∙ read in
        let t_is : got.0 ≡ t = cc in
        subst (IsNumberIn low high) t_is (unsigned_number low high got.0 got.2)

    -- something was found of it, where it is required
    pub found : (q : ValueParser) → rule.parser ≡ Some q → rule.required ≡ true → rule.action ≡ Some Set → rule.range ≡ None
        → is_some (one_of rule.id (rows_of (found_of m))) ≡ true
    found q parser required action range =
        let one : least_values arg ≡ 1 = ap (λ (r : Rule). (unwrap_or_range r.range).start_inclusive) is ∙ ap (λ o. (unwrap_or_range o).start_inclusive) range in
        let has = required_has_value c m p plain globals negates k (some_arg args k inside) inside (ap (λ (r : Rule). r.required) is ∙ required)
        (ap (λ (r : Rule). r.action) is ∙ action) (uncut_arg arg (all_simple k (some_arg args k inside) inside)) (omega (arith, one)) unique named not_added in
        let got = given q parser (subst (λ w. is_some (first_value (found_of m) w) ≡ true) name has) in
        ap is_some (sym (one_text-rows (found_of m) rule.id) ∙ got.1)
