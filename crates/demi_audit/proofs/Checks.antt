-- What a check found is the first fault of the session.
use Rattle.std.proofs.Common.{◌≡◌, ℕ, ◌+◌, ◌-◌, List, [], ◌∷◌, ◌++◌, length, take, drop, map, flat_map, Option, Some, None, refl, ap, sym, ◌∙◌, subst, arith, append_assoc}
use Rattle.std.specs.Prelude.{Result, Ok, Err, IfErr, IfOk, IsOk}
use Rattle.std.specs.List.{AllByRecursion}
use Rattle.std.proofs.lemmas.List.{length-map}
use Rattle.demi_spec.specs.Record.{Record}
use Rattle.demi_spec.specs.Reply.{Reply, IsReply, spelling}
use Rattle.demi_served.specs.Talks.{LinkRun, Run}
use Rattle.demi_served.specs.Served.{Whole}
use Rattle.demi_audit.specs.declared.heard.HeardReply.{HeardReply}
use Rattle.demi_audit.specs.declared.hearing.LinkHeard.{LinkHeard}
use Rattle.demi_audit.specs.declared.checking.CheckEnd.{CheckEnd}
use Rattle.demi_audit.specs.declared.checking.CheckRefusal.{CheckRefusal}
use Rattle.demi_audit.specs.declared.checking.CheckRefusal.TheVariants as refusal
use Rattle.demi_audit.specs.declared.transcript.LinkPlaces.{LinkPlaces}
use Rattle.demi_audit.specs.Checking.{HasFault, Refuses, Says}
use Rattle.demi_audit.specs.Reading.{link_by}
use Rattle.demi_audit.specs.Hearing.{Follows, replies_by, reply_by}
use Rattle.demi_audit.specs.Entries.{Logs}
use Rattle.demi_audit.specs.Transcript.{part, transcript}
use Rattle.demi_audit.specs.Verdict.{EntryAt, Fault, Heard, HeardAll, HeardOf, NoReply, ReplyAt, first_fault, records_fault, said}
use Rattle.demi_audit.proofs.Audit.{yes_is_whole}
use Rattle.demi_audit.proofs.Complete.{whole_is_yes}
use Rattle.demi_audit.proofs.EachLink.{said_are}
use Rattle.demi_audit.proofs.OneHearing.{same_front}

-- two readings of the replies at the front of one text are one
one_reading : (rs qs : List Reply) (x y : List ℕ) → AllByRecursion IsReply rs → AllByRecursion IsReply qs → NoReply x → NoReply y → flat_map spelling rs ++ x ≡ flat_map spelling qs ++ y → (rs ≡ qs) × (x ≡ y)
one_reading [] [] x y a b none other e = (refl, e)
one_reading [] (q ∷ qs) x y a b none other e = absurd (none q (flat_map spelling qs ++ y) b.0 (e ∙ append_assoc (spelling q) (flat_map spelling qs) y))
one_reading (r ∷ rs) [] x y a b none other e = absurd (other r (flat_map spelling rs ++ x) a.0 (sym e ∙ append_assoc (spelling r) (flat_map spelling rs) x))
one_reading (r ∷ rs) (q ∷ qs) x y a b none other e =
    let f = same_front r q (flat_map spelling rs ++ x) (flat_map spelling qs ++ y) a.0 b.0 (sym (append_assoc (spelling r) (flat_map spelling rs) x) ∙ e ∙ append_assoc (spelling q) (flat_map spelling qs) y) in
    let k = one_reading rs qs x y a.1 b.1 none other f.1 in
    ((λ i. f.0 i ∷ k.0 i), k.1)

one_heard : (l : LinkRun) (h k : Heard) → HeardOf l h → HeardOf l k → h ≡ k
one_heard l h k a b =
    let r = one_reading h.talk.replies k.talk.replies h.rest k.rest a.fits b.fits a.none b.none (sym a.text ∙ b.text) in
    let q : h.talk.asks ≡ k.talk.asks = a.asks ∙ sym b.asks in
    (λ i. record { talk = record { asks = q i; replies = r.0 i }; rest = r.1 i })

-- what is heard is determined
pub all_one : (links : List LinkRun) (all other : List Heard) → HeardAll links all → HeardAll links other → other ≡ all
all_one [] [] [] a b = refl
all_one [] [] (y ∷ other) a b = absurd b
all_one [] (x ∷ all) other a b = absurd a
all_one (l ∷ links) [] other a b = absurd a
all_one (l ∷ links) (x ∷ all) [] a b = absurd b
all_one (l ∷ links) (x ∷ all) (y ∷ other) a b = (λ i. one_heard l y x b.0 a.0 i ∷ all_one links all other a.1 b.1 i)

pub has_fault : (text : List ℕ) (run : Run) (all : List Heard) (fault : Option Fault) → transcript text ≡ Ok run → HeardAll run.links all → first_fault run all ≡ fault → HasFault text fault
has_fault text run all fault read of is = record { run = run; read = read; heard = all; of = of; only = λ other h. all_one run.links all other of h; is = is }

pub said_count : (text : List ℕ) (heard : List HeardReply) (links : List LinkHeard) (all : List Heard) → Follows text heard links all → length (said all) ≡ length heard
said_count text heard links all f = ap length (said_are text heard links all f) ∙ length-map heard (reply_by text)

one_run : (text : List ℕ) (run other : Run) → transcript text ≡ Ok run → transcript text ≡ Ok other → run ≡ other
one_run text run other a b = let e = sym a ∙ b in cc

-- no fault, and the session was whole
pub no_fault_whole : (text : List ℕ) (run : Run) → transcript text ≡ Ok run → HasFault text None → Whole run
no_fault_whole text run read f = subst Whole (one_run text f.run run f.read read) (yes_is_whole f.run f.heard f.of f.is)

-- a fault, and it was not
pub fault_not_whole : (text : List ℕ) (run : Run) (fault : Fault) → transcript text ≡ Ok run → HasFault text (Some fault) → Whole run → ⊥
fault_not_whole text run fault read f whole =
    let w : Whole f.run = subst Whole (sym (one_run text f.run run f.read read)) whole in
    let e : Some fault ≡ None = sym f.is ∙ whole_is_yes f.run f.heard f.of w in
    absurd (cc)

-- what was heard, of lists that are the same
pub same_heard : (text text' : List ℕ) (places places' : List LinkPlaces) (all : List Heard) → text' ≡ text → places' ≡ places → HeardAll (map (link_by text) places) all → HeardAll (map (link_by text') places') all
same_heard text text' places places' all t p h =
    subst (λ (q : List LinkPlaces). HeardAll (map (link_by text') q) all) (sym p) (subst (λ (b : List ℕ). HeardAll (map (link_by b) places) all) (sym t) h)

pub same_follows : (text text' : List ℕ) (heard heard' : List HeardReply) (links links' : List LinkHeard) (all : List Heard) → text' ≡ text → heard' ≡ heard → links' ≡ links → Follows text heard links all → Follows text' heard' links' all
same_follows text text' heard heard' links links' all t r l f =
    subst (λ (k : List LinkHeard). Follows text' heard' k all) (sym l) (subst (λ (x : List HeardReply). Follows text' x links all) (sym r) (subst (λ (b : List ℕ). Follows b heard links all) (sym t) f))

-- the first fault behind the links
pub records_judged : (run : Run) (text : List ℕ) (heard : List HeardReply) (links : List LinkHeard) (all : List Heard) (old : ℕ) (found : Option Fault) → Follows text heard links all → run.old ≡ old
    → records_fault (replies_by text heard) (old + 1) (drop old run.records) ≡ found → records_fault (said all) (run.old + 1) (drop run.old run.records) ≡ found
records_judged run text heard links all old found f is e = (λ i. records_fault (said_are text heard links all f i) (is i + 1) (drop (is i) run.records)) ∙ e

pub says_refuses : (text : List ℕ) (run : Run) (all : List Heard) (e : CheckRefusal) → transcript text ≡ Ok run → HeardAll run.links all → Says e (first_fault run all) → Refuses text e
says_refuses text run all (refusal.BadTranscript at) read of says = absurd says
says_refuses text run all (refusal.Reply link index) read of says = has_fault text run all (Some (ReplyAt link index)) read of says
says_refuses text run all (refusal.Entry version) read of says = has_fault text run all (Some (EntryAt version)) read of says
says_refuses text run all refusal.NoMemory read of says = tt

pub ok_whole : (text : List ℕ) (run : Run) (r : Result CheckEnd CheckRefusal) → transcript text ≡ Ok run → IfOk r (λ _. HasFault text None) → IsOk r → Whole run
ok_whole text run (Ok end) read h ok = no_fault_whole text run read h
ok_whole text run (Err e) read h ok = absurd (cc)

pub only_memory : (text : List ℕ) (run : Run) (r : Result CheckEnd CheckRefusal) → transcript text ≡ Ok run → IfErr r (Refuses text) → Whole run → IfErr r (λ e. e ≡ refusal.NoMemory)
only_memory text run (Ok end) read h whole = tt
only_memory text run (Err (refusal.BadTranscript at)) read h whole = let e = sym read ∙ h in absurd (cc)
only_memory text run (Err (refusal.Reply link index)) read h whole = absurd (fault_not_whole text run (ReplyAt link index) read h whole)
only_memory text run (Err (refusal.Entry version)) read h whole = absurd (fault_not_whole text run (EntryAt version) read h whole)
only_memory text run (Err refusal.NoMemory) read h whole = refl

-- the log is cut out of the text
pub log_cut : (text ends : List ℕ) (rs : List Record) (n : ℕ) → Logs (part text 28 n) ends rs → Logs (take (28 + n - 28) (drop 28 text)) ends rs
log_cut text ends rs n l = let e : 28 + n - 28 ≡ n = omega arith in subst (λ (k : ℕ). Logs (take k (drop 28 text)) ends rs) (sym e) l

pub links_are : (text : List ℕ) (run : Run) (places given : List LinkPlaces) (all : List Heard) → run.links ≡ map (link_by text) places → given ≡ places → HeardAll (map (link_by text) given) all → HeardAll run.links all
links_are text run places given all links same h = subst (λ (l : List LinkRun). HeardAll l all) (sym links) (subst (λ (p : List LinkPlaces). HeardAll (map (link_by text) p) all) same h)
