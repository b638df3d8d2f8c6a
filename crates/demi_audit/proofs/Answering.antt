-- An answer stands for a request exactly where the definitions say that it answers it.
use Rattle.std.proofs.Common.{◌≡◌, ℕ, ◌+◌, ◌-◌, ◌≤◌, ◌<◌, Bool, false, true, List, [], ◌∷◌, ◌++◌, length, take, Option, None, Some, refl, arith, ◌∙◌, ap, sym, cond, get_or}
use Rattle.std.specs.Prelude.{nat_le, slice_get}
use Rattle.std.proofs.lemmas.Bool.Decides.{nat_tests}
use Rattle.std.proofs.lemmas.List.{length-take, take_more, append_cancel_left}
use Rattle.std.proofs.lemmas.Option.{get_or_from_slice_get, slice_get-get_or}
use Rattle.demi_spec.specs.Request.{Put, Get, End}
use Rattle.demi_spec.specs.Reply as reply
use Rattle.demi_spec.specs.Reply.{Answer, Stored, Found, Missing, Bye, Full}
use Rattle.demi_spec.specs.Record.{Record}
use Rattle.demi_spec.specs.Input.{Asked, Request_of, Refused_end}
use Rattle.demi_spec.specs.Store as store
use Rattle.demi_served.specs.Talks.{Run}
use Rattle.demi_served.specs.Answers.{Answers}
use Rattle.demi_audit.specs.Verdict.{answers}
use Rattle.demi_audit.proofs.Standing.{Stands, test_stands, stands_test}

-- the record of a number stands behind those before it
one_behind : (records : List Record) (v : ℕ) (r : Record) → 0 < v → v ≤ length records → slice_get records (v - 1) ≡ Some r → take v records ≡ take (v - 1) records ++ r ∷ []
one_behind records v r some most is =
    let less : v - 1 < length records = omega arith in
    let next : v ≡ v - 1 + 1 = omega arith in
    ap (λ n. take n records) next ∙ take_more records (v - 1) r less ∙ ap (λ (x : Record). take (v - 1) records ++ x ∷ []) (get_or_from_slice_get records (v - 1) r r is)

-- the other way round
behind_one : (records : List Record) (v : ℕ) (r : Record) → 0 < v → v ≤ length records → take v records ≡ take (v - 1) records ++ r ∷ [] → slice_get records (v - 1) ≡ Some r
behind_one records v r some most e =
    let less : v - 1 < length records = omega arith in
    let next : v ≡ v - 1 + 1 = omega arith in
    let same : get_or records (v - 1) r ∷ [] ≡ r ∷ [] = append_cancel_left (take (v - 1) records) (get_or records (v - 1) r ∷ []) (r ∷ []) (sym (ap (λ n. take n records) next ∙ take_more records (v - 1) r less) ∙ e) in
    slice_get-get_or records (v - 1) r less ∙ ap (λ (l : List Record). slice_get l 0) same

-- so many records were looked at
looked : (records : List Record) (v : ℕ) → v ≤ length records → length (take v records) ≡ v
looked records v most = omega (arith, length-take v records)

full_or : (b : Bool) (n v : ℕ) (value bytes : List ℕ) → cond b (Full n) (Stored (n + 1) value) ≡ Stored v bytes → (b ≡ false) × (n + 1 ≡ v) × (value ≡ bytes)
full_or true n v value bytes h = absurd (cc)
full_or false n v value bytes h = (refl, cc, cc)

or_full : (b : Bool) (n v : ℕ) (value : List ℕ) → cond b (Full n) (Stored (n + 1) value) ≡ Full v → (b ≡ true) × (n ≡ v)
or_full true n v value h = (refl, cc)
or_full false n v value h = absurd (cc)

never_found : (b : Bool) (n : ℕ) (value : List ℕ) (a : Answer) → ((m : ℕ) → Full m ≡ a → ⊥) → ((m : ℕ) → Stored m value ≡ a → ⊥) → cond b (Full n) (Stored (n + 1) value) ≡ a → ⊥
never_found true n value a f g h = f n h
never_found false n value a f g h = g (n + 1) h

found_is : (n v : ℕ) (o : Option (List ℕ)) (bytes : List ℕ) → store.found n o ≡ Found v bytes → o ≡ Some bytes
found_is n v (Some value) bytes h = cc
found_is n v None bytes h = absurd (cc)

missing_is : (n v : ℕ) (o : Option (List ℕ)) → store.found n o ≡ Missing v → o ≡ None
missing_is n v (Some value) h = absurd (cc)
missing_is n v None h = refl

never_got : (n : ℕ) (o : Option (List ℕ)) (a : Answer) → ((bytes : List ℕ) → Found n bytes ≡ a → ⊥) → (Missing n ≡ a → ⊥) → store.found n o ≡ a → ⊥
never_got n (Some value) a f g h = f value h
never_got n None a f g h = g h

pub stands_right : (run : Run) (link index : ℕ) (q : Asked) (a : Answer) → Stands run link index q a → Answers run link index q a
stands_right run link index (Request_of (Put key value)) (Stored v bytes) h =
    let n : length (take (v - 1) run.records) ≡ v - 1 = looked run.records (v - 1) (omega (arith, h.1)) in
    let room : nat_le run.limit (length (take (v - 1) run.records)) ≡ false = let a = h.0 in let b = h.2 in grind (arith, nat_tests) in
    let one : length (take (v - 1) run.records) + 1 ≡ v = let a = h.0 in omega arith in
    record {
      said = ap (λ (b : Bool). cond b (Full (length (take (v - 1) run.records))) (Stored (length (take (v - 1) run.records) + 1) value)) room
          ∙ ap (λ m. Stored m value) one ∙ ap (Stored v) (sym h.3);
      names = (let a = h.0 in omega arith, h.1);
      stores = λ e. (
        h.0,
        one_behind run.records v (record { link = link; index = index; key = key; value = value }) (let a = h.0 in omega arith) h.1 h.4
            ∙ ap (λ (b : Bool). take (v - 1) run.records ++ cond b [] (record { link = link; index = index; key = key; value = value } ∷ [])) (sym room),
      );
    }
stands_right run link index (Request_of (Put key value)) (Full v) h =
    let n : length (take v run.records) ≡ v = looked run.records v h.2 in
    let room : nat_le run.limit (length (take v run.records)) ≡ true = let b = h.1 in grind (arith, nat_tests) in
    record {
      said = ap (λ (b : Bool). cond b (Full (length (take v run.records))) (Stored (length (take v run.records) + 1) value)) room ∙ ap Full n;
      names = (h.0, h.2);
      stores = λ e. absurd (cc);
    }
stands_right run link index (Request_of (Get key)) (Found v bytes) h =
    let n : length (take v run.records) ≡ v = looked run.records v h.1 in
    record { said = ap (store.found (length (take v run.records))) h.2 ∙ ap (λ m. Found m bytes) n; names = (h.0, h.1); stores = λ e. absurd (cc) }
stands_right run link index (Request_of (Get key)) (Missing v) h =
    let n : length (take v run.records) ≡ v = looked run.records v h.1 in
    record { said = ap (store.found (length (take v run.records))) h.2 ∙ ap Missing n; names = (h.0, h.1); stores = λ e. absurd (cc) }
stands_right run link index (Request_of End) Bye h = record { said = refl; names = tt; stores = λ e. absurd (cc) }
stands_right run link index (Refused_end code) (reply.Refused said) h = record { said = ap reply.Refused (sym h); names = tt; stores = λ e. absurd (cc) }
stands_right run link index (Request_of (Put key value)) (Found v bytes) h = absurd h
stands_right run link index (Request_of (Put key value)) (Missing v) h = absurd h
stands_right run link index (Request_of (Put key value)) (reply.Refused code) h = absurd h
stands_right run link index (Request_of (Put key value)) Bye h = absurd h
stands_right run link index (Request_of (Get key)) (Stored v bytes) h = absurd h
stands_right run link index (Request_of (Get key)) (Full v) h = absurd h
stands_right run link index (Request_of (Get key)) (reply.Refused code) h = absurd h
stands_right run link index (Request_of (Get key)) Bye h = absurd h
stands_right run link index (Request_of End) (Stored v bytes) h = absurd h
stands_right run link index (Request_of End) (Found v bytes) h = absurd h
stands_right run link index (Request_of End) (Missing v) h = absurd h
stands_right run link index (Request_of End) (reply.Refused code) h = absurd h
stands_right run link index (Request_of End) (Full v) h = absurd h
stands_right run link index (Refused_end code) (Stored v bytes) h = absurd h
stands_right run link index (Refused_end code) (Found v bytes) h = absurd h
stands_right run link index (Refused_end code) (Missing v) h = absurd h
stands_right run link index (Refused_end code) Bye h = absurd h
stands_right run link index (Refused_end code) (Full v) h = absurd h

pub right_stands : (run : Run) (link index : ℕ) (q : Asked) (a : Answer) → Answers run link index q a → Stands run link index q a
right_stands run link index (Request_of (Put key value)) (Stored v bytes) h =
    let n : length (take (v - 1) run.records) ≡ v - 1 = looked run.records (v - 1) (let m = h.names.1 in omega arith) in
    let f = full_or (nat_le run.limit (length (take (v - 1) run.records))) (length (take (v - 1) run.records)) v value bytes h.said in
    let s = h.stores refl in
    let less : v ≤ run.limit = let t = f.0 in let e = f.1 in let o = s.0 in grind (arith, nat_tests) in
    let put : Record = record { link = link; index = index; key = key; value = value } in (
      s.0,
      h.names.1,
      less,
      sym f.2,
      behind_one run.records v put (let o = s.0 in omega arith) h.names.1 (s.1 ∙ ap (λ (b : Bool). take (v - 1) run.records ++ cond b [] (put ∷ [])) f.0),
    )
right_stands run link index (Request_of (Put key value)) (Full v) h =
    let n : length (take v run.records) ≡ v = looked run.records v h.names.1 in
    let f = or_full (nat_le run.limit (length (take v run.records))) (length (take v run.records)) v value h.said in
    (h.names.0, (let t = f.0 in grind (arith, nat_tests)), h.names.1)
right_stands run link index (Request_of (Get key)) (Found v bytes) h =
    (h.names.0, h.names.1, found_is (length (take v run.records)) v (store.map (take v run.records) key) bytes h.said)
right_stands run link index (Request_of (Get key)) (Missing v) h =
    (h.names.0, h.names.1, missing_is (length (take v run.records)) v (store.map (take v run.records) key) h.said)
right_stands run link index (Request_of End) Bye h = tt
right_stands run link index (Refused_end code) (reply.Refused said) h = let e : reply.Refused code ≡ reply.Refused said = h.said in cc
right_stands run link index (Request_of (Put key value)) (Found v bytes) h =
    never_found (nat_le run.limit (length (take v run.records))) (length (take v run.records)) value (Found v bytes) (λ m e. cc) (λ m e. cc) h.said
right_stands run link index (Request_of (Put key value)) (Missing v) h =
    never_found (nat_le run.limit (length (take v run.records))) (length (take v run.records)) value (Missing v) (λ m e. cc) (λ m e. cc) h.said
right_stands run link index (Request_of (Put key value)) (reply.Refused code) h = never_found (nat_le run.limit 0) 0 value (reply.Refused code) (λ m e. cc) (λ m e. cc) h.said
right_stands run link index (Request_of (Put key value)) Bye h = never_found (nat_le run.limit 0) 0 value Bye (λ m e. cc) (λ m e. cc) h.said
right_stands run link index (Request_of (Get key)) (Stored v bytes) h =
    never_got (length (take (v - 1) run.records)) (store.map (take (v - 1) run.records) key) (Stored v bytes) (λ x e. cc) (λ e. cc) h.said
right_stands run link index (Request_of (Get key)) (Full v) h =
    never_got (length (take v run.records)) (store.map (take v run.records) key) (Full v) (λ x e. cc) (λ e. cc) h.said
right_stands run link index (Request_of (Get key)) (reply.Refused code) h = never_got 0 None (reply.Refused code) (λ x e. cc) (λ e. cc) h.said
right_stands run link index (Request_of (Get key)) Bye h = never_got 0 None Bye (λ x e. cc) (λ e. cc) h.said
right_stands run link index (Request_of End) (Stored v bytes) h = let e : Bye ≡ Stored v bytes = h.said in cc
right_stands run link index (Request_of End) (Found v bytes) h = let e : Bye ≡ Found v bytes = h.said in cc
right_stands run link index (Request_of End) (Missing v) h = let e : Bye ≡ Missing v = h.said in cc
right_stands run link index (Request_of End) (reply.Refused code) h = let e : Bye ≡ reply.Refused code = h.said in cc
right_stands run link index (Request_of End) (Full v) h = let e : Bye ≡ Full v = h.said in cc
right_stands run link index (Refused_end code) (Stored v bytes) h = let e : reply.Refused code ≡ Stored v bytes = h.said in cc
right_stands run link index (Refused_end code) (Found v bytes) h = let e : reply.Refused code ≡ Found v bytes = h.said in cc
right_stands run link index (Refused_end code) (Missing v) h = let e : reply.Refused code ≡ Missing v = h.said in cc
right_stands run link index (Refused_end code) Bye h = let e : reply.Refused code ≡ Bye = h.said in cc
right_stands run link index (Refused_end code) (Full v) h = let e : reply.Refused code ≡ Full v = h.said in cc

pub answers_right : (run : Run) (link index : ℕ) (q : Asked) (a : Answer) → answers run link index q a ≡ true → Answers run link index q a
answers_right run link index q a h = stands_right run link index q a (test_stands run link index q a h)

pub answers_hold : (run : Run) (link index : ℕ) (q : Asked) (a : Answer) → Answers run link index q a → answers run link index q a ≡ true
answers_hold run link index q a h = stands_test run link index q a (right_stands run link index q a h)
