-- Records that stored replies name.
use Rattle.std.proofs.Common.{◌≡◌, ℕ, ◌+◌, ◌≤◌, ◌<◌, Bool, true, false, cond, List, [], ◌∷◌, ◌++◌, length, take, drop, get_or, set, Some, None, refl, ap, sym, ◌∙◌, arith, inl, inr, ◌⊎◌}
use Rattle.std.specs.Prelude.{◌==◌, ◌||◌}
use Rattle.std.specs.List.{list_any}
use Rattle.std.proofs.lemmas.Bool.{cases_eq, or_right}
use Rattle.std.proofs.lemmas.Bool.Decides.{nat_tests}
use Rattle.std.proofs.lemmas.List.{drop_more, drop_all, get_or-set_same, get_or-set_other, length-set, map-append}
use Rattle.std.proofs.lemmas.List.Folds.{list_any-append}
use Rattle.demi_spec.specs.Record.{Record}
use Rattle.demi_spec.specs.Reply.{Answer, Reply, Stored, Found, Missing, Refused, Bye, Full}
use Rattle.demi_served.specs.Answers.{is_stored}
use Rattle.demi_served.specs.Served.{stored_as, stores_as}
use Rattle.demi_audit.specs.declared.heard.HeardReply.{HeardReply}
use Rattle.demi_audit.specs.declared.heard.AnswerKind.{AnswerKind}
use Rattle.demi_audit.specs.declared.heard.AnswerKind.TheVariants as kind
use Rattle.demi_audit.specs.Checking.{MarksStored}
use Rattle.demi_audit.specs.Hearing.{answer_by, replies_by, reply_by}
use Rattle.demi_audit.specs.Past.{no_record}
use Rattle.demi_audit.specs.Verdict.{EntryAt, records_fault}

or_false : (b : Bool) → (b || false) ≡ b
or_false true = refl
or_false false = refl

not_stored : (v : ℕ) (a : Answer) → is_stored a ≡ false → stores_as v a ≡ false
not_stored v (Stored version bytes) h = absurd (cc)
not_stored v (Found version bytes) h = refl
not_stored v (Missing version) h = refl
not_stored v (Full version) h = refl
not_stored v (Refused code) h = refl
not_stored v Bye h = refl

stored_version : (v : ℕ) (k : AnswerKind) (version : ℕ) (bytes : List ℕ) → is_stored (answer_by k version bytes) ≡ true → stores_as v (answer_by k version bytes) ≡ (version == v)
stored_version v kind.Stored version bytes h = refl
stored_version v kind.Found version bytes h = absurd (cc)
stored_version v kind.Missing version bytes h = absurd (cc)
stored_version v kind.Full version bytes h = absurd (cc)
stored_version v (kind.Refused code) version bytes h = absurd (cc)
stored_version v kind.Bye version bytes h = absurd (cc)

one_more : (v : ℕ) (text : List ℕ) (before : List HeardReply) (r : HeardReply) → list_any (stored_as v) (replies_by text (before ++ r ∷ [])) ≡ (list_any (stored_as v) (replies_by text before) || stored_as v (reply_by text r))
one_more v text before r =
    ap (list_any (stored_as v)) (map-append (reply_by text) before (r ∷ [])) ∙ list_any-append (stored_as v) (replies_by text before) (reply_by text r ∷ [])
    ∙ ap (λ (b : Bool). list_any (stored_as v) (replies_by text before) || b) (or_false (stored_as v (reply_by text r)))

pub marks_same : (marks : List Bool) (text : List ℕ) (before : List HeardReply) (r : HeardReply) → ((v : ℕ) → v < length marks → stored_as v (reply_by text r) ≡ false) → MarksStored marks (replies_by text before)
    → MarksStored marks (replies_by text (before ++ r ∷ []))
marks_same marks text before r none m v less =
    m v less ∙ sym (one_more v text before r ∙ ap (λ (b : Bool). list_any (stored_as v) (replies_by text before) || b) (none v less) ∙ or_false (list_any (stored_as v) (replies_by text before)))

pub marks_plain : (marks : List Bool) (text : List ℕ) (before : List HeardReply) (r : HeardReply) → is_stored (reply_by text r).answer ≡ false → MarksStored marks (replies_by text before) → MarksStored marks (replies_by text (before ++ r ∷ []))
marks_plain marks text before r plain m = marks_same marks text before r (λ v less. not_stored v (reply_by text r).answer plain) m

pub marks_above : (marks : List Bool) (text : List ℕ) (before : List HeardReply) (r : HeardReply) → is_stored (reply_by text r).answer ≡ true → length marks ≤ r.version → MarksStored marks (replies_by text before) → MarksStored marks (replies_by text (before ++ r ∷ []))
marks_above marks text before r stored above m =
    marks_same marks text before r (λ v less. stored_version v r.kind r.version (take r.length (drop r.from text)) stored ∙ (let t : (r.version == v) ≡ false = grind (arith, nat_tests) in t)) m

pub marks_one : (marks : List Bool) (text : List ℕ) (before : List HeardReply) (r : HeardReply) → is_stored (reply_by text r).answer ≡ true → r.version < length marks → MarksStored marks (replies_by text before) → MarksStored (set marks r.version true) (replies_by text (before ++ r ∷ []))
marks_one marks text before r stored below m v less = go (cases_eq v r.version)
  where
    is : stored_as v (reply_by text r) ≡ (r.version == v)
    is = stored_version v r.kind r.version (take r.length (drop r.from text)) stored

    go : (v ≡ r.version) ⊎ (v ≡ r.version → ⊥) → get_or (set marks r.version true) v false ≡ list_any (stored_as v) (replies_by text (before ++ r ∷ []))
    go (inl same) =
        let t : (r.version == v) ≡ true = grind (arith, nat_tests) in
        ap (λ (n : ℕ). get_or (set marks r.version true) n false) same ∙ get_or-set_same marks r.version true false below
        ∙ sym (one_more v text before r ∙ or_right (list_any (stored_as v) (replies_by text before)) (stored_as v (reply_by text r)) (is ∙ t))
    go (inr other) =
        let t : (r.version == v) ≡ false = grind (arith, nat_tests) in
        get_or-set_other marks r.version v true false other ∙ m v (omega (arith, length-set marks r.version true))
        ∙ sym (one_more v text before r ∙ ap (λ (b : Bool). list_any (stored_as v) (replies_by text before) || b) (is ∙ t) ∙ or_false (list_any (stored_as v) (replies_by text before)))

-- the first record above so many
pub record_next : (replies : List Reply) (rs : List Record) (i : ℕ) (b : Bool) → i < length rs → b ≡ list_any (stored_as (i + 1)) replies
    → records_fault replies (i + 1) (drop i rs) ≡ cond b (records_fault replies (i + 1 + 1) (drop (i + 1) rs)) (Some (EntryAt (i + 1)))
record_next replies rs i b less is =
    ap (records_fault replies (i + 1)) (drop_more rs i no_record less)
    ∙ ap (λ (x : Bool). cond x (records_fault replies (i + 1 + 1) (drop (i + 1) rs)) (Some (EntryAt (i + 1)))) (sym is)

pub records_end : (replies : List Reply) (rs : List Record) (i v : ℕ) → length rs ≤ i → records_fault replies v (drop i rs) ≡ None
records_end replies rs i v most = ap (records_fault replies v) (drop_all i rs most)
