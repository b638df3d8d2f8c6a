-- Which answer stands for a request, case by case: what the auditor tests.
use Rattle.std.proofs.Common.{◌≡◌, ℕ, ◌-◌, ◌≤◌, ◌<◌, Bool, false, true, not, ◌&&◌, List, length, take, Option, None, Some, refl, arith, ◌∙◌, ap, sym}
use Rattle.std.specs.Prelude.{◌==◌, nat_lt, nat_le, bytes_eq, slice_get}
use Rattle.std.proofs.lemmas.Bool.Decides.{nat_tests}
use Rattle.std.proofs.lemmas.Slice.Eq.{bytes_eq-Decides}
use Rattle.demi_spec.specs.Request.{Put, Get, End}
use Rattle.demi_spec.specs.Reply as reply
use Rattle.demi_spec.specs.Reply.{Answer, Stored, Found, Missing, Bye, Full}
use Rattle.demi_spec.specs.Record.{Record}
use Rattle.demi_spec.specs.Input.{Asked, Request_of, Refused_end}
use Rattle.demi_spec.specs.Store as store
use Rattle.demi_served.specs.Talks.{Run}
use Rattle.demi_audit.specs.Verdict.{answers, is_record, is_value}

-- the same as what the auditor tests
abbrev pub Stands : Run → ℕ → ℕ → Asked → Answer → Type 0
Stands run link index (Request_of (Put key value)) (Stored v bytes) =
    (run.old < v) × (v ≤ length run.records) × (v ≤ run.limit) × (bytes ≡ value)
    × (slice_get run.records (v - 1) ≡ Some (record { link = link; index = index; key = key; value = value }))
Stands run link index (Request_of (Put key value)) (Full v) = (run.old ≤ v) × (run.limit ≤ v) × (v ≤ length run.records)
Stands run link index (Request_of (Get key)) (Found v bytes) = (run.old ≤ v) × (v ≤ length run.records) × (store.map (take v run.records) key ≡ Some bytes)
Stands run link index (Request_of (Get key)) (Missing v) = (run.old ≤ v) × (v ≤ length run.records) × (store.map (take v run.records) key ≡ None)
Stands run link index (Request_of End) Bye = Unit {0}
Stands run link index (Refused_end code) (reply.Refused said) = said ≡ code
Stands run link index q a = ⊥

-- a test of two tests
pub both : (a b : Bool) → (a && b) ≡ true → (a ≡ true) × (b ≡ true)
both true b h = (refl, h)
both false b h = absurd (cc)

pub is_false : (b : Bool) → not b ≡ true → b ≡ false
is_false true h = absurd (cc)
is_false false h = refl

pub same_number : (a b : ℕ) → (a == b) ≡ true → a ≡ b
same_number a b h = grind (arith, nat_tests)

pub below : (a b : ℕ) → nat_lt a b ≡ true → a < b
below a b h = grind (arith, nat_tests)

pub at_most : (a b : ℕ) → nat_le a b ≡ true → a ≤ b
at_most a b h = grind (arith, nat_tests)

same_bytes : (a b : List ℕ) → bytes_eq a b ≡ true → a ≡ b
same_bytes a b h = (bytes_eq-Decides a b).0 h

record_is : (o : Option Record) (link index : ℕ) (key value : List ℕ) → is_record o link index key value ≡ true → o ≡ Some (record { link = link; index = index; key = key; value = value })
record_is None link index key value h = absurd (cc)
record_is (Some r) link index key value h =
    let a = both (r.link == link) _ h in
    let b = both (r.index == index) _ a.1 in
    let c = both (bytes_eq r.key key) _ b.1 in
    let e1 = same_number r.link link a.0 in
    let e2 = same_number r.index index b.0 in
    let e3 = same_bytes r.key key c.0 in
    let e4 = same_bytes r.value value c.1 in
    ap (λ (n : ℕ). Some (record { link = n; index = r.index; key = r.key; value = r.value })) e1
    ∙ ap (λ (n : ℕ). Some (record { link = link; index = n; key = r.key; value = r.value })) e2
    ∙ ap (λ (l : List ℕ). Some (record { link = link; index = index; key = l; value = r.value })) e3
    ∙ ap (λ (l : List ℕ). Some (record { link = link; index = index; key = key; value = l })) e4

value_is : (a b : Option (List ℕ)) → is_value a b ≡ true → a ≡ b
value_is None None h = refl
value_is None (Some b) h = absurd (cc)
value_is (Some a) None h = absurd (cc)
value_is (Some a) (Some b) h = ap Some (same_bytes a b h)

pub test_stands : (run : Run) (link index : ℕ) (q : Asked) (a : Answer) → answers run link index q a ≡ true → Stands run link index q a
test_stands run link index (Request_of (Put key value)) (Stored v bytes) h =
    let a = both (nat_lt run.old v) _ h in
    let b = both (nat_le v (length run.records)) _ a.1 in
    let c = both (nat_le v run.limit) _ b.1 in
    let d = both (bytes_eq bytes value) _ c.1 in
    (below run.old v a.0, at_most v (length run.records) b.0, at_most v run.limit c.0, same_bytes bytes value d.0, record_is (slice_get run.records (v - 1)) link index key value d.1)
test_stands run link index (Request_of (Put key value)) (Full v) h =
    let a = both (nat_le run.old v) _ h in
    let b = both (nat_le run.limit v) _ a.1 in
    (at_most run.old v a.0, at_most run.limit v b.0, at_most v (length run.records) b.1)
test_stands run link index (Request_of (Put key value)) (Found v bytes) h = absurd (cc)
test_stands run link index (Request_of (Put key value)) (Missing v) h = absurd (cc)
test_stands run link index (Request_of (Put key value)) (reply.Refused code) h = absurd (cc)
test_stands run link index (Request_of (Put key value)) Bye h = absurd (cc)
test_stands run link index (Request_of (Get key)) (Found v bytes) h =
    let a = both (nat_le run.old v) _ h in
    let b = both (nat_le v (length run.records)) _ a.1 in
    (at_most run.old v a.0, at_most v (length run.records) b.0, value_is (store.map (take v run.records) key) (Some bytes) b.1)
test_stands run link index (Request_of (Get key)) (Missing v) h =
    let a = both (nat_le run.old v) _ h in
    let b = both (nat_le v (length run.records)) _ a.1 in
    (at_most run.old v a.0, at_most v (length run.records) b.0, value_is (store.map (take v run.records) key) None b.1)
test_stands run link index (Request_of (Get key)) (Stored v bytes) h = absurd (cc)
test_stands run link index (Request_of (Get key)) (Full v) h = absurd (cc)
test_stands run link index (Request_of (Get key)) (reply.Refused code) h = absurd (cc)
test_stands run link index (Request_of (Get key)) Bye h = absurd (cc)
test_stands run link index (Request_of End) Bye h = tt
test_stands run link index (Request_of End) (Stored v bytes) h = absurd (cc)
test_stands run link index (Request_of End) (Found v bytes) h = absurd (cc)
test_stands run link index (Request_of End) (Missing v) h = absurd (cc)
test_stands run link index (Request_of End) (reply.Refused code) h = absurd (cc)
test_stands run link index (Request_of End) (Full v) h = absurd (cc)
test_stands run link index (Refused_end code) (reply.Refused said) h = same_number said code h
test_stands run link index (Refused_end code) (Stored v bytes) h = absurd (cc)
test_stands run link index (Refused_end code) (Found v bytes) h = absurd (cc)
test_stands run link index (Refused_end code) (Missing v) h = absurd (cc)
test_stands run link index (Refused_end code) Bye h = absurd (cc)
test_stands run link index (Refused_end code) (Full v) h = absurd (cc)

pub and : (a b : Bool) → a ≡ true → b ≡ true → (a && b) ≡ true
and true b p q = q
and false b p q = p

pub is_under : (a b : ℕ) → a < b → nat_lt a b ≡ true
is_under a b h = grind (arith, nat_tests)

pub is_most : (a b : ℕ) → a ≤ b → nat_le a b ≡ true
is_most a b h = grind (arith, nat_tests)

is_same : (a : ℕ) → (a == a) ≡ true
is_same a = grind (arith, nat_tests)

bytes_same : (a b : List ℕ) → a ≡ b → bytes_eq a b ≡ true
bytes_same a b h = (bytes_eq-Decides a b).1 h

record_found : (o : Option Record) (link index : ℕ) (key value : List ℕ) → o ≡ Some (record { link = link; index = index; key = key; value = value }) → is_record o link index key value ≡ true
record_found o link index key value h =
    ap (λ x. is_record x link index key value) h
    ∙ and (link == link) _ (is_same link) (and (index == index) _ (is_same index) (and (bytes_eq key key) _ (bytes_same key key refl) (bytes_same value value refl)))

value_found : (a b : Option (List ℕ)) → a ≡ b → is_value a b ≡ true
value_found None None h = refl
value_found (Some a) (Some b) h = let e : a ≡ b = cc in bytes_same a b e
value_found None (Some b) h = absurd (cc)
value_found (Some a) None h = absurd (cc)

pub stands_test : (run : Run) (link index : ℕ) (q : Asked) (a : Answer) → Stands run link index q a → answers run link index q a ≡ true
stands_test run link index (Request_of (Put key value)) (Stored v bytes) h =
    and _ _ (is_under run.old v h.0) (and _ _ (is_most v (length run.records) h.1) (and _ _ (is_most v run.limit h.2) (and _ _ (bytes_same bytes value h.3) (record_found (slice_get run.records (v - 1)) link index key value h.4))))
stands_test run link index (Request_of (Put key value)) (Full v) h = and _ _ (is_most run.old v h.0) (and _ _ (is_most run.limit v h.1) (is_most v (length run.records) h.2))
stands_test run link index (Request_of (Put key value)) (Found v bytes) h = absurd h
stands_test run link index (Request_of (Put key value)) (Missing v) h = absurd h
stands_test run link index (Request_of (Put key value)) (reply.Refused code) h = absurd h
stands_test run link index (Request_of (Put key value)) Bye h = absurd h
stands_test run link index (Request_of (Get key)) (Found v bytes) h = and _ _ (is_most run.old v h.0) (and _ _ (is_most v (length run.records) h.1) (value_found (store.map (take v run.records) key) (Some bytes) h.2))
stands_test run link index (Request_of (Get key)) (Missing v) h = and _ _ (is_most run.old v h.0) (and _ _ (is_most v (length run.records) h.1) (value_found (store.map (take v run.records) key) None h.2))
stands_test run link index (Request_of (Get key)) (Stored v bytes) h = absurd h
stands_test run link index (Request_of (Get key)) (Full v) h = absurd h
stands_test run link index (Request_of (Get key)) (reply.Refused code) h = absurd h
stands_test run link index (Request_of (Get key)) Bye h = absurd h
stands_test run link index (Request_of End) Bye h = refl
stands_test run link index (Request_of End) (Stored v bytes) h = absurd h
stands_test run link index (Request_of End) (Found v bytes) h = absurd h
stands_test run link index (Request_of End) (Missing v) h = absurd h
stands_test run link index (Request_of End) (reply.Refused code) h = absurd h
stands_test run link index (Request_of End) (Full v) h = absurd h
stands_test run link index (Refused_end code) (reply.Refused said) h = ap (λ n. said == n) (sym h) ∙ is_same said
stands_test run link index (Refused_end code) (Stored v bytes) h = absurd h
stands_test run link index (Refused_end code) (Found v bytes) h = absurd h
stands_test run link index (Refused_end code) (Missing v) h = absurd h
stands_test run link index (Refused_end code) Bye h = absurd h
stands_test run link index (Refused_end code) (Full v) h = absurd h
