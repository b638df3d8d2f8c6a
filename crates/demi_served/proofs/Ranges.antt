-- What a text asks is in range, and so is what is answered.
use Rattle.std.proofs.Common.{◌≡◌, ℕ, zero, suc, ◌+◌, ◌-◌, ◌≤◌, Bool, true, false, List, [], ◌∷◌, length, take, drop, Option, None, Some, refl, arith, ◌∙◌, sym, subst, cond}
use Rattle.std.specs.Prelude.{nat_le, nat_lt, ◌==◌, ◌&&◌, ◌||◌, if◌then◌else◌, bytes_eq}
use Rattle.std.specs.List.{AllByRecursion}
use Rattle.demi_spec.specs.Request.{IsBytes, value_max, Request, Put, Get, End}
use Rattle.demi_spec.specs.Input.{Asked, Request_of, Refused_end, Ending, EndFrame, Clean, Refused as refused_by, Open, Front, Whole, Ends, Parses, front, front_of_content, cut_short, code_of_head, head_kind, head_key, head_value, request_of, parse, asked, asked_of, refused_end}
use Rattle.demi_spec.specs.Record.{Record, IsRecord}
use Rattle.demi_spec.specs.Reply.{Answer, Stored, Found, Missing, Refused, Bye, Full, IsAnswer, word_max}
use Rattle.demi_spec.specs.Store.{answer, found, unless_later}
use Rattle.demi_spec.specs.Store as store
use Rattle.demi_spec.proofs.Parsing.{parse_parses}
use Rattle.demi_served.specs.Talks.{Run, Talk}
use Rattle.demi_served.specs.Answers.{Answers}
use Rattle.demi_served.specs.Ranges.{IsInRange}
use Rattle.demi_served.specs.Served.{IsAsked, Recorded}
use Rattle.demi_served.proofs.Lists.{all_at, all_by, get_within}

-- The codes of refusals.
abbrev HasRange : Front → Type 0
HasRange (Ends (refused_by code)) = (1 ≤ code) × (code ≤ 5)
HasRange other = Unit {0}

abbrev IsCode : Option ℕ → Type 0
IsCode None = Unit {0}
IsCode (Some code) = (1 ≤ code) × (code ≤ 5)

head_range : (kind key value : ℕ) → IsCode (code_of_head kind key value)
head_range kind key value = go (kind == 0 || nat_lt 3 kind) (nat_lt kind 3 && key == 0) (nat_lt kind 3 && nat_lt value_max value) ((kind == 2 && nat_lt 0 value) || (kind == 3 && nat_lt 0 (key + value)))
  where
    go : (a b c d : Bool) → IsCode (if a then Some 1 else if b then Some 2 else if c then Some 3 else if d then Some 4 else None)
    go true b c d = (omega arith, omega arith)
    go false true c d = (omega arith, omega arith)
    go false false true d = (omega arith, omega arith)
    go false false false true = (omega arith, omega arith)
    go false false false false = tt

cut_range : (ended : Bool) → HasRange (Ends (cut_short ended))
cut_range true = (omega arith, omega arith)
cut_range false = tt

content_range : (ended : Bool) (kind key value : ℕ) (content : List ℕ) (o : Option ℕ) → IsCode o
    → HasRange (front_of_content ended kind key value content o)
content_range ended kind key value content (Some code) h = h
content_range ended kind key value content None h = go (nat_lt (length content) (key + value))
  where
    go : (b : Bool) → HasRange (if b then Ends (cut_short ended) else Whole (request_of kind (take key content) (take value (drop key content))) (drop (key + value) content))
    go true = cut_range ended
    go false = tt

front_range : (ended : Bool) (bytes : List ℕ) → HasRange (front ended bytes)
unfolding front
front_range ended bytes = go (length bytes == 0) (nat_lt (length bytes) 6)
  where
    nothing : (e : Bool) → HasRange (Ends (if e then Clean else Open))
    nothing true = tt
    nothing false = tt

    go : (a b : Bool) → HasRange (if a then Ends (if ended then Clean else Open) else if b then Ends (cut_short ended) else front_of_content ended (head_kind bytes) (head_key bytes) (head_value bytes) (drop 6 bytes) (code_of_head (head_kind bytes) (head_key bytes) (head_value bytes)))
    go true b = nothing ended
    go false true = cut_range ended
    go false false = content_range ended (head_kind bytes) (head_key bytes) (head_value bytes) (drop 6 bytes) (code_of_head (head_kind bytes) (head_key bytes) (head_value bytes)) (head_range (head_kind bytes) (head_key bytes) (head_value bytes))

end_range : (how : Ending) → HasRange (Ends how) → AllByRecursion IsInRange (refused_end how)
end_range (refused_by code) h = (h, tt)
end_range EndFrame h = tt
end_range Clean h = tt
end_range Open h = tt

asks_range : (requests : List Request) (how : Ending) (ended : Bool) (bytes : List ℕ)
    → Parses requests how ended bytes → AllByRecursion IsInRange (asked_of requests how)
asks_range [] how ended bytes p = end_range how (subst HasRange p (front_range ended bytes))
asks_range (End ∷ requests) how ended bytes p = (tt, subst (λ (l : List Request). AllByRecursion IsInRange (asked_of l how)) (sym p.0) (subst (λ (h : Ending). AllByRecursion IsInRange (refused_end h)) (sym p.1) tt))
asks_range (Put k v ∷ requests) how ended bytes p = (p.0, asks_range requests how ended p.1.0 p.1.2)
asks_range (Get k ∷ requests) how ended bytes p = (p.0, asks_range requests how ended p.1.0 p.1.2)

pub text_range : (bytes : List ℕ) (ended : Bool) → IsBytes bytes → AllByRecursion IsInRange (asked bytes ended)
text_range bytes ended are = asks_range (parse bytes ended).requests (parse bytes ended).how ended bytes (parse_parses bytes ended are)

-- The values that are found.
some_list : {a c : List ℕ} → Some a ≡ Some c → a ≡ c
some_list e = cc

map_range : (records : List Record) (key x : List ℕ) → AllByRecursion IsRecord records
    → store.map records key ≡ Some x → length x ≤ value_max
map_range [] key x all e = absurd (cc)
map_range (r ∷ records) key x all e = go (λ f. map_range records key x all.1 f) (store.map records key) refl e
  where
    by : (b : Bool) → (if b then Some r.value else None) ≡ Some x → length x ≤ value_max
    by true e = subst (λ (l : List ℕ). length l ≤ value_max) (some_list e) all.0.value
    by false e = absurd (cc)

    go : (store.map records key ≡ Some x → length x ≤ value_max) → (o : Option (List ℕ)) → store.map records key ≡ o
        → unless_later r key o ≡ Some x → length x ≤ value_max
    go rest (Some y) f e = rest (f ∙ e)
    go rest None f e = by (bytes_eq r.key key) e

take_all_of : (n : ℕ) (records : List Record) → AllByRecursion IsRecord records
    → AllByRecursion IsRecord (take n records)
take_all_of zero records all = tt
take_all_of (suc n) [] all = tt
take_all_of (suc n) (r ∷ records) all = (all.0, take_all_of n records all.1)

module _ (run : Run) (all : AllByRecursion IsRecord run.records) (few : length run.records ≤ word_max) where
  no_put : (b : Bool) (n : ℕ) (value : List ℕ) (a : Answer) → ((m : ℕ) → Full m ≡ a → ⊥)
      → ((m : ℕ) → Stored m value ≡ a → ⊥) → cond b (Full n) (Stored (n + 1) value) ≡ a → ⊥
  no_put true n value a f g e = f n e
  no_put false n value a f g e = g (n + 1) e

  no_get : (o : Option (List ℕ)) (n : ℕ) (a : Answer) → ((m : ℕ) (x : List ℕ) → Found m x ≡ a → ⊥)
      → ((m : ℕ) → Missing m ≡ a → ⊥) → found n o ≡ a → ⊥
  no_get (Some x) n a f g e = f n x e
  no_get None n a f g e = g n e

  pub answer_range : (link index : ℕ) (q : Asked) (a : Answer) → IsInRange q → Answers run link index q a → IsAnswer a
  answer_range link index q (Missing v) fits h = let m = h.names.1 in omega arith
  answer_range link index q (Full v) fits h = let m = h.names.1 in omega arith
  answer_range link index q Bye fits h = tt
  answer_range link index (Request_of (Put key value)) (Stored v bytes) fits h = (let m = h.names.1 in omega arith, go (nat_le run.limit (length (take (v - 1) run.records))) h.said)
    where
      go : (b : Bool) → cond b (Full (length (take (v - 1) run.records)))
          (Stored (length (take (v - 1) run.records) + 1) value) ≡ Stored v bytes → length bytes ≤ value_max
      go true e = absurd (cc)
      go false e = subst (λ (l : List ℕ). length l ≤ value_max) (value_is e) fits.1
        where
          value_is : {m n : ℕ} {x y : List ℕ} → Stored m x ≡ Stored n y → x ≡ y
          value_is e = cc
  answer_range link index (Request_of (Get key)) (Stored v bytes) fits h = absurd (no_get (store.map (take (v - 1) run.records) key) _ (Stored v bytes) (λ m x e. absurd (cc)) (λ m e. absurd (cc)) h.said)
  answer_range link index (Request_of End) (Stored v bytes) fits h = absurd (let e = h.said in cc)
  answer_range link index (Refused_end code) (Stored v bytes) fits h = absurd (let e = h.said in cc)
  answer_range link index (Request_of (Put key value)) (Found v bytes) fits h = absurd (no_put (nat_le run.limit (length (take v run.records))) _ value (Found v bytes) (λ m e. absurd (cc)) (λ m e. absurd (cc)) h.said)
  answer_range link index (Request_of (Get key)) (Found v bytes) fits h = (let m = h.names.1 in omega arith, go (store.map (take v run.records) key) refl h.said)
    where
      go : (o : Option (List ℕ)) → store.map (take v run.records) key ≡ o
          → found (length (take v run.records)) o ≡ Found v bytes → length bytes ≤ value_max
      go None f e = absurd (cc)
      go (Some x) f e = subst (λ (l : List ℕ). length l ≤ value_max) (value_is e) (map_range (take v run.records) key x (take_all_of v run.records all) f)
        where
          value_is : {m n : ℕ} {x y : List ℕ} → Found m x ≡ Found n y → x ≡ y
          value_is e = cc
  answer_range link index (Request_of End) (Found v bytes) fits h = absurd (let e = h.said in cc)
  answer_range link index (Refused_end code) (Found v bytes) fits h = absurd (let e = h.said in cc)
  answer_range link index (Request_of (Put key value)) (Refused c) fits h = absurd (no_put (nat_le run.limit 0) 0 value (Refused c) (λ m e. absurd (cc)) (λ m e. absurd (cc)) h.said)
  answer_range link index (Request_of (Get key)) (Refused c) fits h = absurd (no_get (store.map [] key) 0 (Refused c) (λ m x e. absurd (cc)) (λ m e. absurd (cc)) h.said)
  answer_range link index (Request_of End) (Refused c) fits h = absurd (let e = h.said in cc)
  answer_range link index (Refused_end code) (Refused c) fits h = subst (λ m. (1 ≤ m) × (m ≤ 5)) (code_is h.said) fits
    where
      code_is : Refused code ≡ Refused c → code ≡ c
      code_is e = cc

-- The new records are those of requests in range.
record_range : (talks : List Talk) (r : Record) → length talks ≤ 65536
    → AllByRecursion (λ t. length t.asks ≤ 4294967296) talks
    → AllByRecursion (λ t. AllByRecursion IsInRange t.asks) talks → IsAsked talks r → IsRecord r
record_range talks r few short fits h =
    let t = h.0 in
    let inside = get_within talks r.link t h.1 in
    let within = get_within t.asks r.index (Request_of (Put r.key r.value)) h.2 in
    let long = all_at (λ t. length t.asks ≤ 4294967296) talks r.link t short h.1 in
    let request : IsInRange (Request_of (Put r.key r.value)) = all_at IsInRange t.asks r.index (Request_of (Put r.key r.value)) (all_at (λ t. AllByRecursion IsInRange t.asks) talks r.link t fits h.1) h.2 in
    record { link = omega arith; index = omega arith; key = request.0; value = request.1 }

pub records_range : (run : Run) (talks : List Talk) → Recorded run talks → length talks ≤ 65536
    → AllByRecursion (λ t. length t.asks ≤ 4294967296) talks
    → AllByRecursion (λ t. AllByRecursion IsInRange t.asks) talks → AllByRecursion IsRecord (drop run.old run.records)
records_range run talks h few short fits = go (drop run.old run.records) h.asked
  where
    go : (rs : List Record) → AllByRecursion (IsAsked talks) rs → AllByRecursion IsRecord rs
    go rs all = all_by IsRecord rs (λ i r e. record_range talks r few short fits (all_at (IsAsked talks) rs i r all e))
