-- The replies of a link, judged one after another.
use Rattle.std.proofs.Common.{◌≡◌, ℕ, zero, suc, ◌+◌, ◌-◌, ◌≤◌, ◌<◌, Bool, true, false, not, List, [], ◌∷◌, ◌++◌, length, take, drop, get_or, map, Option, Some, None, refl, ap, sym, ◌∙◌, arith, length-drop}
use Rattle.std.specs.Prelude.{◌&&◌, nat_lt}
use Rattle.std.specs.List.{AllByRecursion, list_any}
use Rattle.std.proofs.lemmas.Bool.{lt-ltb}
use Rattle.std.proofs.lemmas.List.{drop_more, drop_all, take_more, length-map, length-take, map-append, get_or-take, get_or-drop}
use Rattle.demi_spec.specs.Input.{Asked, asked}
use Rattle.demi_spec.specs.Reply.{Reply}
use Rattle.demi_served.specs.Talks.{Run}
use Rattle.demi_served.specs.Answers.{version_of}
use Rattle.demi_audit.specs.declared.ask.Ask.{Ask}
use Rattle.demi_audit.specs.declared.heard.HeardReply.{HeardReply}
use Rattle.demi_audit.specs.Asking.{asks, rest_of}
use Rattle.demi_audit.specs.Falling.{greatest_of, later_of}
use Rattle.demi_audit.specs.Hearing.{replies_by, reply_by}
use Rattle.demi_audit.specs.Hearing.{no_reply}
use Rattle.demi_audit.specs.Turns.{is_in_turn}
use Rattle.demi_audit.specs.Verdict.{Around, answers, falls, is_right, link_fault, next_to}
use Rattle.demi_audit.proofs.Falls.{greatest_push}

pub all_at : {X : Type 0} (P : X → Type 0) (xs : List X) (i : ℕ) (d : X) → AllByRecursion P xs → i < length xs → P (get_or xs i d)
all_at P [] i d all less = absurd (omega arith)
all_at P (x ∷ xs) zero d all less = all.0
all_at P (x ∷ xs) (suc i) d all less = all_at P xs i d all.1 (omega arith)

-- the bytes of a reply
pub bytes_are : (text : List ℕ) (r : HeardReply) → take (r.from + r.length - r.from) (drop r.from text) ≡ take r.length (drop r.from text)
bytes_are text r = let e : r.from + r.length - r.from ≡ r.length = omega arith in ap (λ (n : ℕ). take n (drop r.from text)) e

pub wrong_answer : (run : Run) (a : Around) (link index : ℕ) (q : Asked) (r : Reply) → answers run link index q r.answer ≡ false → is_right run a link index q r ≡ false
wrong_answer run a link index q r wrong = ap (λ (b : Bool). b && (not (list_any (falls r) a.mine) && is_in_turn a.all a.before r)) wrong

pub falls_here : (run : Run) (a : Around) (link index : ℕ) (q : Asked) (r : Reply) → answers run link index q r.answer ≡ true → list_any (falls r) a.mine ≡ true → is_right run a link index q r ≡ false
falls_here run a link index q r good falling =
    ap (λ (b : Bool). b && (not (list_any (falls r) a.mine) && is_in_turn a.all a.before r)) good ∙ ap (λ (b : Bool). not b && is_in_turn a.all a.before r) falling

pub turn_decides : (run : Run) (a : Around) (link index : ℕ) (q : Asked) (r : Reply) → answers run link index q r.answer ≡ true → list_any (falls r) a.mine ≡ false → is_right run a link index q r ≡ is_in_turn a.all a.before r
turn_decides run a link index q r good rising =
    ap (λ (b : Bool). b && (not (list_any (falls r) a.mine) && is_in_turn a.all a.before r)) good ∙ ap (λ (b : Bool). not b && is_in_turn a.all a.before r) rising

fault_right : (run : Run) (a : Around) (link index : ℕ) (rest : List ℕ) (q : Asked) (asks : List Asked) (r : Reply) (rs : List Reply) → is_right run a link index q r ≡ true
    → link_fault run a link index rest (q ∷ asks) (r ∷ rs) ≡ link_fault run (next_to a r) link (index + 1) rest asks rs
fault_right run a link index [] q asks r rs h = rw h refl
fault_right run a link index (b ∷ rest) q asks r rs h = rw h refl

fault_wrong : (run : Run) (a : Around) (link index : ℕ) (rest : List ℕ) (q : Asked) (asks : List Asked) (r : Reply) (rs : List Reply) → is_right run a link index q r ≡ false
    → link_fault run a link index rest (q ∷ asks) (r ∷ rs) ≡ Some index
fault_wrong run a link index [] q asks r rs h = rw h refl
fault_wrong run a link index (b ∷ rest) q asks r rs h = rw h refl

fault_surplus : (run : Run) (a : Around) (link index : ℕ) (rest : List ℕ) (r : Reply) (rs : List Reply) → link_fault run a link index rest [] (r ∷ rs) ≡ Some index
fault_surplus run a link index [] r rs = refl
fault_surplus run a link index (b ∷ rest) r rs = refl

fault_missing : (run : Run) (a : Around) (link index : ℕ) (rest : List ℕ) (q : Asked) (asks : List Asked) → link_fault run a link index rest (q ∷ asks) [] ≡ Some index
fault_missing run a link index [] q asks = refl
fault_missing run a link index (b ∷ rest) q asks = refl

fault_more : (run : Run) (a : Around) (link index : ℕ) (rest : List ℕ) (asks : List Asked) → nat_lt 0 (length rest) ≡ true → link_fault run a link index rest asks [] ≡ Some index
fault_more run a link index [] asks some = absurd (cc)
fault_more run a link index (b ∷ rest) [] some = refl
fault_more run a link index (b ∷ rest) (q ∷ asks) some = refl

fault_none : (run : Run) (a : Around) (link index : ℕ) (rest : List ℕ) → nat_lt 0 (length rest) ≡ false → link_fault run a link index rest [] [] ≡ None
fault_none run a link index [] none = refl
fault_none run a link index (b ∷ rest) none = absurd (let t : nat_lt 0 (suc (length rest)) ≡ true = lt-ltb 0 (suc (length rest)) (omega arith) in let e : true ≡ false = sym t ∙ none in cc)

-- what is looked at beside the reply at a place of a link, whose first one stands there
abbrev pub around : List ℕ → List HeardReply → ℕ → ℕ → Around
around text heard from i = record { all = replies_by text heard; before = replies_by text (take (from + i) heard); mine = replies_by text (take i (drop from heard)) }

abbrev pub of_link : List ℕ → List HeardReply → ℕ → ℕ → List Reply
of_link text heard from count = replies_by text (take count (drop from heard))

-- So many replies of a link were right, and the others decide.
pub record JudgesOn (run : Run) (text : List ℕ) (heard : List HeardReply) (link from count i : ℕ) (rest input left : List ℕ) (greatest : Option ℕ) : Type 0 where
  pub fault : link_fault run (record { all = replies_by text heard; before = replies_by text (take from heard); mine = [] }) link 0 rest (asked input true) (of_link text heard from count)
      ≡ link_fault run (around text heard from i) link i rest (asked left true) (drop i (of_link text heard from count))
  pub greatest_is : greatest ≡ greatest_of (replies_by text (take i (drop from heard)))

pub judges_first : (run : Run) (text : List ℕ) (heard : List HeardReply) (link from count : ℕ) (rest input : List ℕ) → JudgesOn run text heard link from count 0 rest input input None
judges_first run text heard link from count rest input =
    let e : from ≡ from + 0 = omega arith in
    record {
      fault = ap (λ (n : ℕ). link_fault run (record { all = replies_by text heard; before = replies_by text (take n heard); mine = [] }) link 0 rest (asked input true) (of_link text heard from count)) e;
      greatest_is = refl;
    }

got : (text : List ℕ) (xs : List HeardReply) (j : ℕ) → get_or (map (reply_by text) xs) j (reply_by text no_reply) ≡ reply_by text (get_or xs j no_reply)
got text [] j = refl
got text (x ∷ xs) zero = refl
got text (x ∷ xs) (suc j) = got text xs j

-- the reply at a place of a link
at_link : (text : List ℕ) (heard : List HeardReply) (from count i : ℕ) → i < count → from + count ≤ length heard
    → drop i (of_link text heard from count) ≡ reply_by text (get_or heard (from + i) no_reply) ∷ drop (i + 1) (of_link text heard from count)
at_link text heard from count i less within =
    let part : List HeardReply = take count (drop from heard) in
    let long : length part ≡ count = (let a = length-take count (drop from heard) in let b = length-drop from heard in omega arith) in
    let d : Reply = reply_by text no_reply in
    drop_more (of_link text heard from count) i d (omega (arith, long, length-map part (reply_by text)))
    ∙ ap (λ (r : Reply). r ∷ drop (i + 1) (of_link text heard from count)) (got text part i ∙ ap (reply_by text) (get_or-take count (drop from heard) i no_reply less ∙ get_or-drop from heard i no_reply))

mine_next : (text : List ℕ) (heard : List HeardReply) (from i : ℕ) → from + i < length heard
    → replies_by text (take i (drop from heard)) ++ reply_by text (get_or heard (from + i) no_reply) ∷ [] ≡ replies_by text (take (i + 1) (drop from heard))
mine_next text heard from i less =
    ap (λ (r : HeardReply). replies_by text (take i (drop from heard)) ++ reply_by text r ∷ []) (sym (get_or-drop from heard i no_reply))
    ∙ sym (map-append (reply_by text) (take i (drop from heard)) (get_or (drop from heard) i no_reply ∷ []))
    ∙ ap (replies_by text) (sym (take_more (drop from heard) i no_reply (omega (arith, length-drop from heard))))

around_next : (text : List ℕ) (heard : List HeardReply) (from i : ℕ) → from + i < length heard → next_to (around text heard from i) (reply_by text (get_or heard (from + i) no_reply)) ≡ around text heard from (i + 1)
around_next text heard from i less =
    let r : HeardReply = get_or heard (from + i) no_reply in
    let e : from + i + 1 ≡ from + (i + 1) = omega arith in
    let a : replies_by text (take (from + i) heard) ++ reply_by text r ∷ [] ≡ replies_by text (take (from + (i + 1)) heard) =
    sym (map-append (reply_by text) (take (from + i) heard) (r ∷ [])) ∙ ap (replies_by text) (sym (take_more heard (from + i) no_reply less)) ∙ ap (λ (n : ℕ). replies_by text (take n heard)) e in
    let b = mine_next text heard from i less in
    (λ j. record { all = replies_by text heard; before = a j; mine = b j })

pub judges_more : (run : Run) (text : List ℕ) (heard : List HeardReply) (link from count i : ℕ) (rest input left : List ℕ) (greatest : Option ℕ) (ask : Ask) → i < count → from + count ≤ length heard
    → asked left true ≡ asks ask left ∷ asked (rest_of ask left) true
    → is_right run (around text heard from i) link i (asks ask left) (reply_by text (get_or heard (from + i) no_reply)) ≡ true
    → JudgesOn run text heard link from count i rest input left greatest
    → JudgesOn run text heard link from count (i + 1) rest input (rest_of ask left) (later_of greatest (version_of (reply_by text (get_or heard (from + i) no_reply)).answer))
judges_more run text heard link from count i rest input left greatest ask less within is right j =
    let r : Reply = reply_by text (get_or heard (from + i) no_reply) in
    let rs : List Reply = drop (i + 1) (of_link text heard from count) in
    record {
      fault = j.fault ∙ (λ k. link_fault run (around text heard from i) link i rest (is k) (at_link text heard from count i less within k))
          ∙ fault_right run (around text heard from i) link i rest (asks ask left) (asked (rest_of ask left) true) r rs right
          ∙ ap (λ (a : Around). link_fault run a link (i + 1) rest (asked (rest_of ask left) true) rs) (around_next text heard from i (omega arith));
      greatest_is = ap (λ (o : Option ℕ). later_of o (version_of r.answer)) j.greatest_is ∙ sym (greatest_push (replies_by text (take i (drop from heard))) r) ∙ ap greatest_of (mine_next text heard from i (omega arith));
    }

pub judged_surplus : (run : Run) (text : List ℕ) (heard : List HeardReply) (link from count i : ℕ) (rest input left : List ℕ) (greatest : Option ℕ) → i < count → from + count ≤ length heard
    → asked left true ≡ [] → JudgesOn run text heard link from count i rest input left greatest
    → Some i ≡ link_fault run (record { all = replies_by text heard; before = replies_by text (take from heard); mine = [] }) link 0 rest (asked input true) (of_link text heard from count)
judged_surplus run text heard link from count i rest input left greatest less within none j =
    sym (j.fault ∙ (λ k. link_fault run (around text heard from i) link i rest (none k) (at_link text heard from count i less within k))
    ∙ fault_surplus run (around text heard from i) link i rest (reply_by text (get_or heard (from + i) no_reply)) (drop (i + 1) (of_link text heard from count)))

pub judged_wrong : (run : Run) (text : List ℕ) (heard : List HeardReply) (link from count i : ℕ) (rest input left : List ℕ) (greatest : Option ℕ) (ask : Ask) → i < count → from + count ≤ length heard
    → asked left true ≡ asks ask left ∷ asked (rest_of ask left) true
    → is_right run (around text heard from i) link i (asks ask left) (reply_by text (get_or heard (from + i) no_reply)) ≡ false → JudgesOn run text heard link from count i rest input left greatest
    → Some i ≡ link_fault run (record { all = replies_by text heard; before = replies_by text (take from heard); mine = [] }) link 0 rest (asked input true) (of_link text heard from count)
judged_wrong run text heard link from count i rest input left greatest ask less within is wrong j =
    sym (j.fault ∙ (λ k. link_fault run (around text heard from i) link i rest (is k) (at_link text heard from count i less within k))
    ∙ fault_wrong run (around text heard from i) link i rest (asks ask left) (asked (rest_of ask left) true) (reply_by text (get_or heard (from + i) no_reply)) (drop (i + 1) (of_link text heard from count)) wrong)

-- no reply is left
at_end : (text : List ℕ) (heard : List HeardReply) (from count i : ℕ) → count ≤ i → drop i (of_link text heard from count) ≡ []
at_end text heard from count i most =
    drop_all i (of_link text heard from count) (let a = length-take count (drop from heard) in omega (arith, a, length-map (take count (drop from heard)) (reply_by text)))

pub judged_more : (run : Run) (text : List ℕ) (heard : List HeardReply) (link from count i : ℕ) (rest input left : List ℕ) (greatest : Option ℕ) → i ≡ count → nat_lt 0 (length rest) ≡ true
    → JudgesOn run text heard link from count i rest input left greatest
    → Some count ≡ link_fault run (record { all = replies_by text heard; before = replies_by text (take from heard); mine = [] }) link 0 rest (asked input true) (of_link text heard from count)
judged_more run text heard link from count i rest input left greatest is some j =
    sym (j.fault ∙ ap (link_fault run (around text heard from i) link i rest (asked left true)) (at_end text heard from count i (omega arith))
    ∙ fault_more run (around text heard from i) link i rest (asked left true) some ∙ ap Some is)

pub judged_missing : (run : Run) (text : List ℕ) (heard : List HeardReply) (link from count i : ℕ) (rest input left : List ℕ) (greatest : Option ℕ) (q : Asked) (more : List Asked) → i ≡ count → asked left true ≡ q ∷ more
    → JudgesOn run text heard link from count i rest input left greatest
    → Some count ≡ link_fault run (record { all = replies_by text heard; before = replies_by text (take from heard); mine = [] }) link 0 rest (asked input true) (of_link text heard from count)
judged_missing run text heard link from count i rest input left greatest q more is some j =
    sym (j.fault ∙ (λ k. link_fault run (around text heard from i) link i rest (some k) (at_end text heard from count i (omega arith) k))
    ∙ fault_missing run (around text heard from i) link i rest q more ∙ ap Some is)

pub judged_right : (run : Run) (text : List ℕ) (heard : List HeardReply) (link from count i : ℕ) (rest input left : List ℕ) (greatest : Option ℕ) → i ≡ count → nat_lt 0 (length rest) ≡ false → asked left true ≡ []
    → JudgesOn run text heard link from count i rest input left greatest
    → None ≡ link_fault run (record { all = replies_by text heard; before = replies_by text (take from heard); mine = [] }) link 0 rest (asked input true) (of_link text heard from count)
judged_right run text heard link from count i rest input left greatest is none nothing j =
    sym (j.fault ∙ (λ k. link_fault run (around text heard from i) link i rest (nothing k) (at_end text heard from count i (omega arith) k))
    ∙ fault_none run (around text heard from i) link i rest none)
