-- All links, judged one after another.
use Rattle.std.proofs.Common.{◌≡◌, ℕ, suc, ◌+◌, ◌-◌, ◌≤◌, ◌<◌, false, true, List, [], ◌∷◌, ◌++◌, length, take, drop, get_or, map, Option, refl, ap, sym, ◌∙◌, subst, arith, length-drop}
use Rattle.std.specs.Prelude.{nat_lt}
use Rattle.std.proofs.Math.Seq.{take-add}
use Rattle.std.proofs.lemmas.List.{drop_more, drop-drop, map-append, take-append-drop, length-map}
use Rattle.demi_spec.specs.Input.{asked}
use Rattle.demi_spec.specs.Reply.{Reply}
use Rattle.demi_served.specs.Talks.{LinkRun, Run}
use Rattle.demi_audit.specs.declared.heard.HeardReply.{HeardReply}
use Rattle.demi_audit.specs.declared.hearing.LinkHeard.{LinkHeard}
use Rattle.demi_audit.specs.declared.transcript.LinkPlaces.{LinkPlaces}
use Rattle.demi_audit.specs.Hearing.{Follows, replies_by, reply_by}
use Rattle.demi_audit.specs.Reading.{link_by}
use Rattle.demi_audit.specs.Transcript.{part}
use Rattle.demi_audit.specs.Verdict.{Fault, Heard, HeardAll, at_link, link_fault, links_fault, said}
use Rattle.demi_audit.proofs.Hearings.{no_places}

-- all replies that were heard
pub said_are : (text : List ℕ) (heard : List HeardReply) (links : List LinkHeard) (all : List Heard) → Follows text heard links all → said all ≡ replies_by text heard
said_are text heard [] [] f = ap (replies_by text) (sym f)
said_are text heard [] (h ∷ all) f = absurd f
said_are text heard (l ∷ links) [] f = absurd f
said_are text heard (l ∷ links) (h ∷ all) f =
    (λ i. sym f.0 i ++ said_are text (drop l.count heard) links all f.3 i) ∙ sym (map-append (reply_by text) (take l.count heard) (drop l.count heard))
    ∙ ap (replies_by text) (take-append-drop l.count heard)

pub follows_count : (text : List ℕ) (heard : List HeardReply) (links : List LinkHeard) (all : List Heard) → Follows text heard links all → length links ≡ length all
follows_count text heard [] [] f = refl
follows_count text heard [] (h ∷ all) f = absurd f
follows_count text heard (l ∷ links) [] f = absurd f
follows_count text heard (l ∷ links) (h ∷ all) f = ap suc (follows_count text (drop l.count heard) links all f.3)

pub heard_count : (links : List LinkRun) (all : List Heard) → HeardAll links all → length links ≡ length all
heard_count [] [] h = refl
heard_count [] (x ∷ all) h = absurd h
heard_count (l ∷ links) [] h = absurd h
heard_count (l ∷ links) (x ∷ all) h = ap suc (heard_count links all h.1)

pub places_count : (text : List ℕ) (places : List LinkPlaces) (all : List Heard) → HeardAll (map (link_by text) places) all → length places ≡ length all
places_count text places all h = sym (length-map places (link_by text)) ∙ heard_count (map (link_by text) places) all h

-- a link where a list has none
abbrev pub no_link : LinkHeard
no_link = record { count = 0; more = false }

-- what follows the first so many links
pub record FollowsOn (text : List ℕ) (heard : List HeardReply) (places : List LinkPlaces) (links : List LinkHeard) (all : List Heard) (from n : ℕ) : Type 0 where
  pub within : from ≤ length heard
  pub follows : Follows text (drop from heard) (drop n links) (drop n all)
  pub of : HeardAll (map (link_by text) (drop n places)) (drop n all)

-- one link of them
pub record OneLink (text : List ℕ) (heard : List HeardReply) (p : LinkPlaces) (l : LinkHeard) (from : ℕ) (h : Heard) : Type 0 where
  pub asks : h.talk.asks ≡ asked (part text p.input p.input_size) true
  pub replies : replies_by text (take l.count (drop from heard)) ≡ h.talk.replies
  pub within : from + l.count ≤ length heard
  pub more : l.more ≡ nat_lt 0 (length h.rest)

pub record Peeled (text : List ℕ) (heard : List HeardReply) (places : List LinkPlaces) (links : List LinkHeard) (all : List Heard) (from n : ℕ) : Type 0 where
  pub first : Heard
  pub split : drop n all ≡ first ∷ drop (n + 1) all
  pub one : OneLink text heard (get_or places n no_places) (get_or links n no_link) from first
  pub next : FollowsOn text heard places links all (from + (get_or links n no_link).count) (n + 1)

abbrev no_talk : Heard
no_talk = record { talk = record { asks = []; replies = [] }; rest = [] }

pub peel : (text : List ℕ) (heard : List HeardReply) (places : List LinkPlaces) (links : List LinkHeard) (all : List Heard) (from n : ℕ) → n < length places → length places ≡ length all → length links ≡ length all
    → FollowsOn text heard places links all from n → Peeled text heard places links all from n
peel text heard places links all from n less a b f =
    let l : LinkHeard = get_or links n no_link in
    let h : Heard = get_or all n no_talk in
    let x : drop n all ≡ h ∷ drop (n + 1) all = drop_more all n no_talk (omega arith) in
    let y : drop n links ≡ l ∷ drop (n + 1) links = drop_more links n no_link (omega arith) in
    let z : drop n places ≡ get_or places n no_places ∷ drop (n + 1) places = drop_more places n no_places less in
    let g : Follows text (drop from heard) (l ∷ drop (n + 1) links) (h ∷ drop (n + 1) all) =
    subst (λ (k : List LinkHeard). Follows text (drop from heard) k (h ∷ drop (n + 1) all)) y (subst (λ (k : List Heard). Follows text (drop from heard) (drop n links) k) x f.follows) in
    let e : HeardAll (map (link_by text) (get_or places n no_places ∷ drop (n + 1) places)) (h ∷ drop (n + 1) all) =
    subst (λ (k : List LinkPlaces). HeardAll (map (link_by text) k) (h ∷ drop (n + 1) all)) z (subst (λ (k : List Heard). HeardAll (map (link_by text) (drop n places)) k) x f.of) in
    let within : from + l.count ≤ length heard = omega (arith, g.1, length-drop from heard, f.within) in
    record {
      first = h;
      split = x;
      one = record { asks = e.0.asks; replies = g.0; within = within; more = g.2 };
      next = record {
        within = within;
        follows = subst (λ (k : List HeardReply). Follows text k (drop (n + 1) links) (drop (n + 1) all)) (drop-drop l.count from heard) g.3;
        of = e.1;
      };
    }

-- the links up to one were right, and the others decide
abbrev pub DecidesOn : Run → List ℕ → List HeardReply → List Heard → ℕ → ℕ → Option Fault → Type 0
DecidesOn run text heard all from n later = links_fault run (said all) [] 0 all later ≡ links_fault run (said all) (replies_by text (take from heard)) n (drop n all) later

pub link_decides : (run : Run) (text : List ℕ) (heard : List HeardReply) (places : List LinkPlaces) (links : List LinkHeard) (all : List Heard) (from n : ℕ) (later : Option Fault) (found : Option ℕ)
    → said all ≡ replies_by text heard → (k : Peeled text heard places links all from n)
    → found ≡ link_fault run (record { all = replies_by text heard; before = replies_by text (take from heard); mine = [] }) n 0 k.first.rest (asked (part text (get_or places n no_places).input (get_or places n no_places).input_size) true) (replies_by text (take (get_or links n no_link).count (drop from heard)))
    → DecidesOn run text heard all from n later
    → links_fault run (said all) [] 0 all later ≡ at_link n found (links_fault run (said all) (replies_by text (take (from + (get_or links n no_link).count) heard)) (n + 1) (drop (n + 1) all) later)
link_decides run text heard places links all from n later found are k is d =
    let l : LinkHeard = get_or links n no_link in
    let h : Heard = k.first in
    let before : replies_by text (take from heard) ++ h.talk.replies ≡ replies_by text (take (from + l.count) heard) =
    ap (λ (x : List Reply). replies_by text (take from heard) ++ x) (sym k.one.replies) ∙ sym (map-append (reply_by text) (take from heard) (take l.count (drop from heard)))
    ∙ ap (replies_by text) (sym (take-add from l.count heard)) in
    let same : link_fault run (record { all = said all; before = replies_by text (take from heard); mine = [] }) n 0 h.rest h.talk.asks h.talk.replies ≡ found =
    (λ i. link_fault run (record { all = are i; before = replies_by text (take from heard); mine = [] }) n 0 h.rest (k.one.asks i) (sym k.one.replies i)) ∙ sym is in
    d ∙ ap (λ (x : List Heard). links_fault run (said all) (replies_by text (take from heard)) n x later) k.split
    ∙ (λ i. at_link n (same i) (links_fault run (said all) (before i) (n + 1) (drop (n + 1) all) later))

-- the input of a link is cut out of the text
pub cut_input : (run : Run) (text : List ℕ) (heard : List HeardReply) (from n : ℕ) (rest : List ℕ) (p : LinkPlaces) (replies : List Reply) (found : Option ℕ)
    → found ≡ link_fault run (record { all = replies_by text heard; before = replies_by text (take from heard); mine = [] }) n 0 rest (asked (take (p.input + p.input_size - p.input) (drop p.input text)) true) replies
    → found ≡ link_fault run (record { all = replies_by text heard; before = replies_by text (take from heard); mine = [] }) n 0 rest (asked (part text p.input p.input_size) true) replies
cut_input run text heard from n rest p replies found is =
    let e : p.input + p.input_size - p.input ≡ p.input_size = omega arith in
    is ∙ ap (λ (k : ℕ). link_fault run (record { all = replies_by text heard; before = replies_by text (take from heard); mine = [] }) n 0 rest (asked (take k (drop p.input text)) true) replies) e
