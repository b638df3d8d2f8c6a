-- Replies that are heard one after another.
use Rattle.std.proofs.Common.{◌≡◌, ℕ, ◌+◌, ◌-◌, ◌≤◌, ◌<◌, false, true, List, [], ◌∷◌, ◌++◌, length, take, drop, get_or, map, flat_map, refl, arith, ◌∙◌, ap, sym, subst, append_assoc, length-append, length-drop, nat_lt, inl, inr, ◌⊎◌}
use Rattle.std.specs.List.{AllByRecursion}
use Rattle.std.proofs.Math.Seq.{drop-append_seam}
use Rattle.std.proofs.lemmas.Bool.{cases_lt, lt-ltb, le-ltb}
use Rattle.std.proofs.lemmas.List.{append-nil, map-append, take-append-le, drop-append-le, take_all, drop_all, drop-drop, drop-take, take-take, length-take, take_more, take_rest}
use Rattle.demi_spec.specs.Input.{asked}
use Rattle.demi_spec.specs.Reply as spoken
use Rattle.demi_spec.specs.Reply.{Answer, Reply, IsReply, spelling}
use Rattle.demi_spec.proofs.ReplyReads.{replies_apart}
use Rattle.demi_frame.specs.ReadBack.{ReadsBack, BeginsReply, bytes_in}
use Rattle.demi_frame.specs.declared.reply.Reply.{Reply as Said}
use Rattle.demi_served.specs.Talks.{LinkRun}
use Rattle.demi_audit.specs.declared.heard.HeardReply.{HeardReply}
use Rattle.demi_audit.specs.declared.hearing.LinkHeard.{LinkHeard}
use Rattle.demi_audit.specs.declared.transcript.LinkPlaces.{LinkPlaces}
use Rattle.demi_audit.specs.Reading.{link_by}
use Rattle.demi_audit.specs.Transcript.{part}
use Rattle.demi_audit.specs.Verdict.{Heard, HeardAll, HeardOf, NoReply}
use Rattle.demi_audit.specs.Hearing.{Follows, Hears, StandsIn, replies_by, reply_by}

-- a text that begins a reply, and has not all of it, has none at its front
pub begun_none : (text : List ℕ) → BeginsReply text → NoReply text
begun_none text b r more fits is =
    let e : spelling b.reply ≡ spelling r ++ (more ++ b.more) = b.text ∙ ap (λ (l : List ℕ). l ++ b.more) is ∙ append_assoc (spelling r) more b.more in
    let none = (replies_apart b.reply r (more ++ b.more) b.fits fits e).1 in
    let long : length (more ++ b.more) ≡ 0 = ap length none in
    let some : 0 < length b.more = b.some in
    absurd (omega (arith, length-append more b.more, long, some))

-- replies that were heard up to a place of a link's output
pub record HeardUpTo (text output : List ℕ) (old new : List HeardReply) (at : ℕ) : Type 0 where
  pub more : List HeardReply
  pub all : new ≡ old ++ more
  pub fits : AllByRecursion IsReply (replies_by text more)
  pub inside : AllByRecursion (StandsIn (length text)) more
  pub text_is : output ≡ flat_map spelling (replies_by text more) ++ drop at output
  pub within : at ≤ length output

pub heard_none : (text output : List ℕ) (old : List HeardReply) → HeardUpTo text output old old 0
heard_none text output old = record { more = []; all = sym (append-nil old); fits = tt; inside = tt; text_is = refl; within = omega arith }

all_more : {X : Type 0} (P : X → Type 0) (rs : List X) (r : X) → AllByRecursion P rs → P r → AllByRecursion P (rs ++ r ∷ [])
all_more P [] r all one = (one, tt)
all_more P (q ∷ rs) r all one = (all.0, all_more P rs r all.1 one)

all_joined : {X : Type 0} (P : X → Type 0) (rs qs : List X) → AllByRecursion P rs → AllByRecursion P qs → AllByRecursion P (rs ++ qs)
all_joined P [] qs all more = more
all_joined P (r ∷ rs) qs all more = (all.0, all_joined P rs qs all.1 more)

spelled_more : (rs : List Reply) (r : Reply) (rest : List ℕ) → flat_map spelling rs ++ (spelling r ++ rest) ≡ flat_map spelling (rs ++ r ∷ []) ++ rest
spelled_more [] r rest = ap (λ (l : List ℕ). l ++ rest) (sym (append-nil (spelling r)))
spelled_more (q ∷ rs) r rest =
    append_assoc (spelling q) (flat_map spelling rs) (spelling r ++ rest) ∙ ap (λ (l : List ℕ). spelling q ++ l) (spelled_more rs r rest)
    ∙ sym (append_assoc (spelling q) (flat_map spelling (rs ++ r ∷ [])) rest)

length-spelling : (w s : ℕ) (a : Answer) → length (spoken.spelling_of w s a) ≡ 22 + length (bytes_in a)
length-spelling w s (spoken.Stored v bytes) = omega arith
length-spelling w s (spoken.Found v bytes) = omega arith
length-spelling w s (spoken.Missing v) = refl
length-spelling w s (spoken.Refused code) = refl
length-spelling w s spoken.Bye = refl
length-spelling w s (spoken.Full v) = refl

-- how many bytes a reply took
pub used_is : (front : List ℕ) (said : Said) (used : ℕ) → (read : ReadsBack front said used) → used ≡ length (spelling read.reply)
used_is front said used read = omega (arith, length-spelling read.reply.worker read.reply.sequence read.reply.answer, read.count, read.size)

pub used_within : (front : List ℕ) (said : Said) (used : ℕ) → (read : ReadsBack front said used) → used ≤ length front
used_within front said used read = omega (arith, used_is front said used read, ap length read.text, length-append (spelling read.reply) read.rest)

-- one reply more
pub heard_more : (text output : List ℕ) (old new : List HeardReply) (at used : ℕ) (said : Said) (r : HeardReply) → HeardUpTo text output old new at → (read : ReadsBack (drop at output) said used)
    → reply_by text r ≡ read.reply → StandsIn (length text) r → HeardUpTo text output old (new ++ r ∷ []) (at + used)
heard_more text output old new at used said r h read is stands =
    let rs : List Reply = replies_by text h.more in
    let same : replies_by text (h.more ++ r ∷ []) ≡ rs ++ read.reply ∷ [] = map-append (reply_by text) h.more (r ∷ []) ∙ ap (λ (x : Reply). rs ++ x ∷ []) is in
    let u = used_is (drop at output) said used read in
    let rest : drop (at + used) output ≡ read.rest = sym (drop-drop used at output) ∙ ap (drop used) read.text ∙ ap (λ (n : ℕ). drop n (spelling read.reply ++ read.rest)) u ∙ drop-append_seam (spelling read.reply) read.rest in
    record {
      more = h.more ++ r ∷ [];
      all = ap (λ (l : List HeardReply). l ++ r ∷ []) h.all ∙ append_assoc old h.more (r ∷ []);
      fits = subst (AllByRecursion IsReply) (sym same) (all_more IsReply rs read.reply h.fits read.fits);
      inside = all_more (StandsIn (length text)) h.more r h.inside stands;
      text_is = h.text_is ∙ ap (λ (l : List ℕ). flat_map spelling rs ++ l) read.text ∙ spelled_more rs read.reply read.rest
          ∙ ap (λ (l : List ℕ). flat_map spelling (rs ++ read.reply ∷ []) ++ l) (sym rest) ∙ ap (λ (l : List Reply). flat_map spelling l ++ drop (at + used) output) (sym same);
      within = omega (arith, used_within (drop at output) said used read, length-drop at output, h.within);
    }

-- the same bytes in the output and in the whole text
pub same_bytes : (text : List ℕ) (from size at n : ℕ) → at + 22 + n ≤ size → take n (drop (from + at + 22) text) ≡ take n (drop 22 (drop at (take size (drop from text))))
same_bytes text from size at n within =
    let k : ℕ = at + 22 in
    let m : ℕ = size - k in
    let e : size ≡ k + m = omega arith in
    let f : from + at + 22 ≡ from + k = omega arith in
    ap (λ (j : ℕ). take n (drop j text)) f ∙ ap (take n) (sym (drop-drop k from text)) ∙ sym (take-take n m (drop k (drop from text)) (omega arith))
    ∙ ap (take n) (sym (drop-take k m (drop from text))) ∙ ap (λ (j : ℕ). take n (drop k (take j (drop from text)))) (sym e)
    ∙ ap (take n) (sym (drop-drop 22 at (take size (drop from text))))

same_test : (a b c : ℕ) → c ≡ b - a → nat_lt a b ≡ nat_lt 0 c
same_test a b c e = go (cases_lt a b)
  where
    go : (a < b) ⊎ (b ≤ a) → nat_lt a b ≡ nat_lt 0 c
    go (inl less) = let x : nat_lt a b ≡ true = lt-ltb a b less in let y : nat_lt 0 c ≡ true = lt-ltb 0 c (omega arith) in x ∙ sym y
    go (inr most) = let x : nat_lt a b ≡ false = le-ltb a b most in let y : nat_lt 0 c ≡ false = le-ltb 0 c (omega arith) in x ∙ sym y

-- what was heard of one link in the end
pub hears : (text output : List ℕ) (old new : List HeardReply) (from size at : ℕ) (l : LinkHeard) → (h : HeardUpTo text output old new at) → output ≡ part text from size → from + size ≤ length text
    → NoReply (drop at output) → l.count ≡ length new - length old → l.more ≡ nat_lt at size → Hears text from size l h.more
hears text output old new from size at l h is fits none count more =
    let long : length output ≡ size = ap length is ∙ length-take size (drop from text) ∙ (let e = length-drop from text in omega arith) in
    record {
      rest = drop at output;
      count = omega (arith, count, ap length h.all, length-append old h.more);
      fits = h.fits;
      inside = h.inside;
      text_is = sym is ∙ h.text_is;
      none = none;
      more = more ∙ same_test at size (length (drop at output)) (omega (arith, length-drop at output, long));
    }

-- one link more
pub follows_more : (text : List ℕ) (heard more : List HeardReply) (links : List LinkHeard) (all : List Heard) (l : LinkHeard) (h : Heard) → Follows text heard links all → l.count ≡ length more
    → replies_by text more ≡ h.talk.replies → l.more ≡ nat_lt 0 (length h.rest) → Follows text (heard ++ more) (links ++ l ∷ []) (all ++ h ∷ [])
follows_more text heard more [] [] l h f count said rest =
    let e : heard ++ more ≡ more = ap (λ (x : List HeardReply). x ++ more) f in (
      ap (λ (x : List HeardReply). replies_by text (take l.count x)) e ∙ ap (replies_by text) (take_all l.count more (omega arith)) ∙ said,
      omega (arith, count, ap length e),
      rest,
      ap (drop l.count) e ∙ drop_all l.count more (omega arith),
    )
follows_more text heard more [] (x ∷ all) l h f count said rest = absurd f
follows_more text heard more (k ∷ links) [] l h f count said rest = absurd f
follows_more text heard more (k ∷ links) (x ∷ all) l h f count said rest = (
  ap (replies_by text) (take-append-le k.count heard more f.1) ∙ f.0,
  omega (arith, f.1, length-append heard more),
  f.2,
  subst (λ (y : List HeardReply). Follows text y (links ++ l ∷ []) (all ++ h ∷ [])) (sym (drop-append-le k.count heard more f.1)) (follows_more text (drop k.count heard) more links all l h f.3 count said rest),
)

pub heard_all_more : (links : List LinkRun) (all : List Heard) (l : LinkRun) (h : Heard) → HeardAll links all → HeardOf l h → HeardAll (links ++ l ∷ []) (all ++ h ∷ [])
heard_all_more [] [] l h a one = (one, tt)
heard_all_more [] (x ∷ all) l h a one = absurd a
heard_all_more (k ∷ links) [] l h a one = absurd a
heard_all_more (k ∷ links) (x ∷ all) l h a one = (a.0, heard_all_more links all l h a.1 one)

-- the hearing of a link
abbrev pub heard_of : List ℕ → LinkPlaces → List HeardReply → List ℕ → Heard
heard_of text p more rest = record { talk = record { asks = asked (part text p.input p.input_size) true; replies = replies_by text more }; rest = rest }

-- all links up to one more
pub record HeardLinks (text : List ℕ) (places : List LinkPlaces) (heard : List HeardReply) (links : List LinkHeard) : Type 0 where
  pub all : List Heard
  pub of : HeardAll (map (link_by text) places) all
  pub follows : Follows text heard links all
  pub inside : AllByRecursion (StandsIn (length text)) heard

pub link_more : (text : List ℕ) (places : List LinkPlaces) (n : ℕ) (d : LinkPlaces) (heard more new : List HeardReply) (links : List LinkHeard) (l : LinkHeard) → n < length places
    → HeardLinks text (take n places) heard links → new ≡ heard ++ more → Hears text (get_or places n d).output (get_or places n d).output_size l more → HeardLinks text (take (n + 1) places) new (links ++ l ∷ [])
link_more text places n d heard more new links l less h is one =
    let p : LinkPlaces = get_or places n d in
    let x : Heard = heard_of text p more one.rest in
    let each : HeardOf (link_by text p) x = record { asks = refl; fits = one.fits; text = one.text_is; none = one.none } in
    let grown : map (link_by text) (take (n + 1) places) ≡ map (link_by text) (take n places) ++ link_by text p ∷ [] =
    ap (map (link_by text)) (take_more places n d less) ∙ map-append (link_by text) (take n places) (p ∷ []) in
    record {
      all = h.all ++ x ∷ [];
      of = subst (λ (k : List LinkRun). HeardAll k (h.all ++ x ∷ [])) (sym grown) (heard_all_more (map (link_by text) (take n places)) h.all (link_by text p) x h.of each);
      follows = subst (λ (k : List HeardReply). Follows text k (links ++ l ∷ []) (h.all ++ x ∷ [])) (sym is) (follows_more text heard more links h.all l x h.follows one.count refl one.more);
      inside = subst (AllByRecursion (StandsIn (length text))) (sym is) (all_joined (StandsIn (length text)) heard more h.inside one.inside);
    }

-- places where a list has none
abbrev pub no_places : LinkPlaces
no_places = record { input = 0; input_size = 0; output = 0; output_size = 0 }

-- what a reply at the front of a text is, wherever it stands
abbrev StandsFor : ℕ → Said → HeardReply → List ℕ → Type 0
StandsFor place said r front = (used : ℕ) (read : ReadsBack front said used) (text : List ℕ) → take said.length (drop place text) ≡ take said.length (drop 22 front) → reply_by text r ≡ read.reply

pub next_heard : (text output : List ℕ) (old new : List HeardReply) (from size at used : ℕ) (said : Said) (r : HeardReply) → output ≡ take size (drop from text) → from + size ≤ length text → HeardUpTo text output old new at
    → ReadsBack (take (length output - at) (drop at output)) said used → r.from ≡ from + at + 22 → r.length ≡ said.length → StandsFor (from + at + 22) said r (take (length output - at) (drop at output)) → HeardUpTo text output old (new ++ r ∷ []) (at + used)
next_heard text output old new from size at used said r is fits h read place count stands =
    let e : take (length output - at) (drop at output) ≡ drop at output = take_rest output at in
    let there : ReadsBack (drop at output) said used = subst (λ (l : List ℕ). ReadsBack l said used) e read in
    let f : StandsFor (from + at + 22) said r (drop at output) = subst (StandsFor (from + at + 22) said r) e stands in
    let long : length output ≤ size = omega (arith, ap length is, length-take size (drop from text)) in
    let within : at + 22 + said.length ≤ size = omega (arith, there.count, used_within (drop at output) said used there, length-drop at output, h.within) in
    let same : take said.length (drop (from + at + 22) text) ≡ take said.length (drop 22 (drop at output)) =
    same_bytes text from size at said.length within ∙ ap (λ (l : List ℕ). take said.length (drop 22 (drop at l))) (sym is) in
    heard_more text output old new at used said r h there (f used there text same) (omega (arith, place, count, within))
