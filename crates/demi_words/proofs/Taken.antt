-- Where a description takes the words, and where it does not.
use Rattle.std.proofs.Common.{◌≡◌, ◌∙◌, ap, refl, subst, sym, true, false, List, Some, None, Result, Ok, Err, IsErrAnd, IsErrOf}
use Rattle.clap.specs.Walk.{is_empty}
use Rattle.clap.specs.Words.{App, Row, Text, fault_of, matches_of}
use Rattle.demi_words.specs.Commands.{Command, command_by}
use Rattle.demi_words.specs.declared.command.WordsRefusal.{WordsRefusal}
use Rattle.demi_words.specs.declared.command.WordsRefusal.TheVariants.{Usage}

-- what is found then gives the command
pub taken_as : (app other : App) (by : List Row → Command) (rest : List Text) (rows : List Row) (asked : Command) → other ≡ app
    → is_empty (fault_of other rest) ≡ true → rows ≡ matches_of other rest → by rows ≡ asked → command_by app by rest ≡ Some asked
unfolding command_by
taken_as app other by rest rows asked same takes found is =
    let here : is_empty (fault_of app rest) ≡ true = subst (λ (a : App). is_empty (fault_of a rest) ≡ true) same takes in
    let rows_are : matches_of app rest ≡ rows = sym (found ∙ ap (λ (a : App). matches_of a rest) same) in
    rw here (ap Some (ap by rows_are ∙ is))

pub not_taken : (app other : App) (by : List Row → Command) (rest : List Text) → other ≡ app → is_empty (fault_of other rest) ≡ false
    → command_by app by rest ≡ None
unfolding command_by
not_taken app other by rest same refused =
    let here : is_empty (fault_of app rest) ≡ false = subst (λ (a : App). is_empty (fault_of a rest) ≡ false) same refused in
    rw here refl

-- a refusal that `?` passes up is the one that it was
pub passed_up : {T : Type 0} (r : Result T WordsRefusal) (e : WordsRefusal) (P : Type 0) → IsErrAnd r (λ y. y ≡ e)
    → (e ≡ Usage → P) → IsErrOf r Usage → P
passed_up (Ok x) e P is h of = absurd is
passed_up (Err y) e P is h of =
    let usage : e ≡ Usage = cc in
    h usage
