-- An input is answered, one request after another.
use Rattle.std.proofs.Common.{◌≡◌, ℕ, ◌+◌, ◌≤◌, ◌<◌, true, false, List, [], ◌∷◌, ◌++◌, length, flat_map, refl, ap, sym, ◌∙◌, subst, arith, append_assoc, length-append}
use Rattle.std.specs.Prelude.{nat_le}
use Rattle.std.proofs.lemmas.Bool.Decides.{nat_tests}
use Rattle.std.proofs.lemmas.List.{append-nil, length-map, map-append}
use Rattle.std.proofs.lemmas.Grind.{flat_map-append}
use Rattle.demi_spec.specs.Request.{Request, Put, Get, End, GoesOn, AllGoOn}
use Rattle.demi_spec.specs.Request as request
use Rattle.demi_spec.specs.Input.{Asked, Request_of, Refused_end, EndFrame, Clean, Refused, Ends, Takes, asked, front}
use Rattle.demi_spec.specs.Reply as reply
use Rattle.demi_spec.specs.Reply.{Reply}
use Rattle.demi_spec.specs.Record.{Record}
use Rattle.demi_spec.specs.Store.{answer, added, serial, Effect}
use Rattle.demi_spec.proofs.Parsing.{AllGoOn-push, asked_is, asked_on, length-spelling}
use Rattle.demi_spec.proofs.Serial.{serial-push, with_one}
use Rattle.demi_audit.specs.declared.text_store.TextStore.{TextStore}
use Rattle.demi_audit.specs.TextStores.{AnswersAll, Answered, Keeps, SoFar, asks_of, reply_on}

-- one more was answered
pub all_answered : (old : List Record) (limit : ℕ) (asks : List Asked) (ask : Asked) (output output' : List ℕ) (s s' : TextStore) (count : ℕ) → count ≡ length asks → AnswersAll old limit asks output s
    → Answered (old ++ (serial old limit asks).records) limit count ask output output' s' → AnswersAll old limit (asks ++ ask ∷ []) output' s'
all_answered old limit asks ask output output' s s' count count_is all one =
    let before : Effect = serial old limit asks in
    let rs : List Record = old ++ before.records in
    let last : Reply = record { worker = 0; sequence = 0 + length asks + 1; answer = answer rs limit ask } in
    let push : serial old limit (asks ++ ask ∷ []) ≡ with_one 0 old limit before (length asks) ask = serial-push 0 old limit asks ask in
    let place : count + 1 ≡ 0 + length asks + 1 = omega arith in
    let here : count ≡ 0 + length asks = omega arith in
    record {
      says = one.says
          ∙ ap (λ (l : List ℕ). l ++ reply_on rs limit count ask) all.says
          ∙ ap (λ n. flat_map reply.spelling before.replies ++ reply.spelling_of 0 n (answer rs limit ask)) place
          ∙ ap (λ (l : List ℕ). flat_map reply.spelling before.replies ++ l) (sym (append-nil (reply.spelling last)))
          ∙ sym (flat_map-append reply.spelling before.replies (last ∷ []))
          ∙ ap (λ (e : Effect). flat_map reply.spelling e.replies) (sym push);
      keeps = subst (Keeps s')
          (ap (λ n. rs ++ added rs limit 0 n ask) here
          ∙ append_assoc old before.records (added rs limit 0 (0 + length asks) ask)
          ∙ ap (λ (e : Effect). old ++ e.records) (sym push)) one.keeps;
    }

pub count_asks : (n : ℕ) (rs : List Request) → n ≡ length rs → n ≡ length (asks_of rs)
count_asks n rs is = is ∙ sym (length-map rs Request_of)

-- a request was answered that stood at the front of what was left
pub so_answered : (old : List Record) (limit : ℕ) (input left after output output' : List ℕ) (s s' : TextStore) (count : ℕ) (q : Request) → (so : SoFar old limit input left output s count)
    → Takes left q after → GoesOn q → Answered (old ++ (serial old limit (asks_of so.requests)).records) limit count (Request_of q) output output' s' → SoFar old limit input after output' s' (count + 1)
so_answered old limit input left after output output' s s' count q so takes on one =
    let rs : List Request = so.requests in
    let text : List ℕ = flat_map request.spelling rs in
    let push : asks_of rs ++ Request_of q ∷ [] ≡ asks_of (rs ++ q ∷ []) = sym (map-append Request_of rs (q ∷ [])) in
    let spelled : flat_map request.spelling (rs ++ q ∷ []) ≡ text ++ request.spelling q = flat_map-append request.spelling rs (q ∷ []) ∙ ap (λ (l : List ℕ). text ++ l) (append-nil (request.spelling q)) in
    record {
      requests = rs ++ q ∷ [];
      text = so.text
          ∙ ap (λ (l : List ℕ). text ++ l) takes.text
          ∙ sym (append_assoc text (request.spelling q) after)
          ∙ ap (λ (l : List ℕ). l ++ after) (sym spelled);
      go_on = AllGoOn-push rs q so.go_on on;
      count_is = omega (arith, so.count_is, length-append rs (q ∷ []));
      answers = subst (λ (l : List Asked). AnswersAll old limit l output' s') push
          (all_answered old limit (asks_of rs) (Request_of q) output output' s s' count (count_asks count rs so.count_is) so.answers one);
    }

-- the same by what the code answered
pub so_next : (old : List Record) (limit : ℕ) (input left after output output' : List ℕ) (s s' : TextStore) (count : ℕ) (q asked_for : Request) → SoFar old limit input left output s count → Takes left q after → GoesOn q → asked_for ≡ q
    → ((rs : List Record) → Keeps s rs → Answered rs limit count (Request_of asked_for) output output' s') → SoFar old limit input after output' s' (count + 1)
so_next old limit input left after output output' s s' count q asked_for so takes on is answers =
    let rs : List Record = old ++ (serial old limit (asks_of so.requests)).records in
    so_answered old limit input left after output output' s s' count q so takes on
    (subst (λ (x : Request). Answered rs limit count (Request_of x) output output' s') is (answers rs so.answers.keeps))

pub left_shorter : (left after : List ℕ) (q : Request) → Takes left q after → 6 + length after ≤ length left
left_shorter left after q takes = omega (arith, ap length takes.text, length-append (request.spelling q) after, length-spelling q)

-- what is asked by what is left, where that is known, is all that was not answered
served_by : (old : List Record) (limit : ℕ) (input left output output' : List ℕ) (s s' : TextStore) (count : ℕ) (so : SoFar old limit input left output s count) (more : List Asked)
    → asked left true ≡ more → AnswersAll old limit (asks_of so.requests ++ more) output' s' → AnswersAll old limit (asked input true) output' s'
served_by old limit input left output output' s s' count so more is all =
    subst (λ (l : List Asked). AnswersAll old limit l output' s')
    (sym (ap (λ (t : List ℕ). asked t true) so.text ∙ asked_on so.requests true left so.go_on ∙ ap (λ (l : List Asked). asks_of so.requests ++ l) is)) all

-- the last one was answered, which adds no record and is answered alike on any records
last_answered : (old : List Record) (limit : ℕ) (input left output output' : List ℕ) (s : TextStore) (count : ℕ) (so : SoFar old limit input left output s count) (ask : Asked)
    → asked left true ≡ ask ∷ [] → ((rs : List Record) → added rs limit 0 count ask ≡ []) → ((rs : List Record) → output' ≡ output ++ reply_on rs limit count ask)
    → AnswersAll old limit (asked input true) output' s
last_answered old limit input left output output' s count so ask is none says =
    let asks : List Asked = asks_of so.requests in
    let rs : List Record = old ++ (serial old limit asks).records in
    let one : Answered rs limit count ask output output' s = record {
      says = says rs;
      keeps = subst (Keeps s) (sym (ap (λ (l : List Record). rs ++ l) (none rs) ∙ append-nil rs)) so.answers.keeps;
    } in
    served_by old limit input left output output' s s count so (ask ∷ []) is
    (all_answered old limit asks ask output output' s s count (count_asks count so.requests so.count_is) so.answers one)

-- an end frame was answered
pub served_end : (old : List Record) (limit : ℕ) (input left after output output' : List ℕ) (s : TextStore) (count : ℕ) → SoFar old limit input left output s count → Takes left End after
    → output' ≡ output ++ reply_on [] 0 count (Request_of End) → AnswersAll old limit (asked input true) output' s
served_end old limit input left after output output' s count so takes says =
    last_answered old limit input left output output' s count so (Request_of End) (asked_is (End ∷ []) EndFrame true left (refl, refl, (after, takes.text))) (λ rs. refl) (λ rs. says)

-- a refused end was answered
pub served_refused : (old : List Record) (limit : ℕ) (input left output output' : List ℕ) (s : TextStore) (count code : ℕ) → SoFar old limit input left output s count → front true left ≡ Ends (Refused code)
    → output' ≡ output ++ reply_on [] 0 count (Refused_end code) → AnswersAll old limit (asked input true) output' s
served_refused old limit input left output output' s count code so refused says =
    last_answered old limit input left output output' s count so (Refused_end code) (asked_is [] (Refused code) true left refused) (λ rs. refl) (λ rs. says)

-- the input ended behind a request, or has none
pub served_clean : (old : List Record) (limit : ℕ) (input left output : List ℕ) (s : TextStore) (count : ℕ) → SoFar old limit input left output s count → front true left ≡ Ends Clean → AnswersAll old limit (asked input true) output s
served_clean old limit input left output s count so clean =
    served_by old limit input left output output s s count so [] (asked_is [] Clean true left clean)
    (subst (λ (l : List Asked). AnswersAll old limit l output s) (sym (append-nil (asks_of so.requests))) so.answers)

pub put_stored : (rs : List Record) (limit index version : ℕ) (key value before after : List ℕ) (s s' : TextStore) → Keeps s rs → version ≡ s.count → version < limit
    → Keeps s' (rs ++ record { link = 0; index = index; key = key; value = value } ∷ []) → after ≡ before ++ reply.spelling_of 0 (index + 1) (reply.Stored (version + 1) value)
    → Answered rs limit index (Request_of (Put key value)) before after s'
put_stored rs limit index version key value before after s s' keeps version_is less more says =
    let long : version ≡ length rs = version_is ∙ keeps.count in
    let test : nat_le limit (length rs) ≡ false = grind (arith, nat_tests) in
    record {
      says = says ∙ ap (λ n. before ++ reply.spelling_of 0 (index + 1) (reply.Stored (n + 1) value)) long ∙ rw test refl;
      keeps = rw test more;
    }

-- a get adds no record
pub got : (rs : List Record) (limit index : ℕ) (key before after : List ℕ) (s : TextStore) → Keeps s rs → after ≡ before ++ reply_on rs limit index (Request_of (Get key)) → Answered rs limit index (Request_of (Get key)) before after s
got rs limit index key before after s keeps says = record {
  says = says;
  keeps = subst (Keeps s) (sym (append-nil rs)) keeps;
}
