-- What is said piece by piece, and the lines of records.
use Rattle.std.proofs.Common.{◌≡◌, ℕ, zero, suc, ◌+◌, ◌-◌, ◌<◌, ◌≤◌, List, [], ◌∷◌, ◌++◌, length, take, drop, get_or, map, refl, ap, sym, ◌∙◌, arith, append_assoc, length-append, take-append-drop}
use Rattle.std.specs.Prelude.{Result, Ok, Err, OnOk, OnErr}
use Rattle.std.proofs.lemmas.List.{append-nil, length-map, take_all}
use Rattle.std.proofs.Math.Seq.{take-append_seam, drop-append-add}
use Rattle.demi_core.specs.World.{WorldState, after_say}
use Rattle.demi_spec.specs.Record.{Record}
use Rattle.demi_cli.specs.declared.head.Head.{Head}
use Rattle.demi_cli.specs.declared.heads.Heads.{Heads}
use Rattle.demi_cli.specs.Heads.{HeadsOf, head_of, keys_of}
use Rattle.demi_cli.specs.Lines.{count_line, line, line_of, lines_from, log_lines}
use Rattle.demi_cli.specs.Saying.{SaidBut, SaidFront}
use Rattle.demi_server.proofs.Growth.{append-append, append-none}

-- a text and then another
after-after : (w : WorldState) (a b : List ℕ) → after_say (after_say w a) b ≡ after_say w (a ++ b)
after-after w a b = ap (λ o. record w { said = o }) (append-append w.said a b)

-- nothing was said yet
pub none_said : (text : List ℕ) (w : WorldState) → SaidBut text text w w
none_said text w = record { front = []; parts = refl; says = ap (λ o. record w { said = o }) (append-none w.said) }

-- all of it was said
pub all_said : (text : List ℕ) (a b : WorldState) → b ≡ after_say a text → SaidBut [] text a b
all_said text a b is = record { front = text; parts = sym (append-nil text); says = is }

-- so many bytes of it were
pub some_said : (text : List ℕ) (a b : WorldState) (k : ℕ) → b ≡ after_say a (take k text) → SaidFront text a b
some_said text a b k is = (drop k text, record { front = take k text; parts = sym (take-append-drop k text); says = is })

-- what waited, with more behind it, was said on
pub said_on : (rest more rest' text : List ℕ) (a b c : WorldState) → SaidBut rest text a b → SaidBut rest' (rest ++ more) b c → SaidBut rest' (text ++ more) a c
said_on rest more rest' text a b c p q = record {
  front = p.front ++ q.front;
  parts = ap (λ (l : List ℕ). l ++ more) p.parts ∙ append_assoc p.front rest more ∙ ap (λ (l : List ℕ). p.front ++ l) q.parts ∙ sym (append_assoc p.front q.front rest');
  says = q.says ∙ ap (λ (w : WorldState). after_say w q.front) p.says ∙ after-after a p.front q.front;
}

-- a front of it is a front of what follows on
pub front_longer : (text more : List ℕ) (a b : WorldState) → SaidFront text a b → SaidFront (text ++ more) a b
front_longer text more a b f =
    let p = f.1 in (f.0 ++ more, record { front = p.front; parts = ap (λ (l : List ℕ). l ++ more) p.parts ∙ append_assoc p.front f.0 more; says = p.says })

pub front_on : (rest more text : List ℕ) (a b c : WorldState) → SaidBut rest text a b → SaidFront (rest ++ more) b c → SaidFront (text ++ more) a c
front_on rest more text a b c p f = (f.0, said_on rest more f.0 text a b c p f.1)

-- all of it was said in the end
pub said_whole : (rest more text : List ℕ) (a b c : WorldState) → SaidBut rest text a b → c ≡ after_say b (rest ++ more) → c ≡ after_say a (text ++ more)
said_whole rest more text a b c p is =
    let q = said_on rest more [] text a b c p (all_said (rest ++ more) b c is) in
    q.says ∙ ap (after_say a) (sym (append-nil q.front) ∙ sym q.parts)

-- no record
abbrev pub no_record : Record
no_record = record { link = 0; index = 0; key = []; value = [] }

-- one line more
pub lines_more : (number : ℕ) (records : List Record) (i : ℕ) → i < length records
    → lines_from number (take (i + 1) records) ≡ lines_from number (take i records) ++ line (number + i) (get_or records i no_record)
lines_more number records i less =
    let one : i + 1 ≡ suc i = omega arith in
    ap (λ n. lines_from number (take n records)) one ∙ next number records i less
  where
    next : (number : ℕ) (records : List Record) (i : ℕ) → i < length records
        → lines_from number (take (suc i) records) ≡ lines_from number (take i records) ++ line (number + i) (get_or records i no_record)
    next number [] i less = absurd (omega arith)
    next number (r ∷ records) zero less =
        let here : number ≡ number + 0 = omega arith in
        append-nil (line number r) ∙ ap (λ n. line n r) here
    next number (r ∷ records) (suc i) less =
        let more = next (number + 1) records i (omega arith) in
        let same : number + 1 + i ≡ number + suc i = omega arith in
        ap (λ (l : List ℕ). line number r ++ l) (more ∙ ap (λ n. lines_from (number + 1) (take i records) ++ line n (get_or records i no_record)) same)
        ∙ sym (append_assoc (line number r) (lines_from (number + 1) (take i records)) (line (number + suc i) (get_or records i no_record)))

-- the others follow
pub lines_split : (number : ℕ) (records : List Record) (i : ℕ) → (rest : List ℕ) × (lines_from number records ≡ lines_from number (take i records) ++ rest)
lines_split number records zero = (lines_from number records, refl)
lines_split number [] (suc i) = ([], refl)
lines_split number (r ∷ records) (suc i) =
    let s = lines_split (number + 1) records i in
    (s.0, ap (λ (l : List ℕ). line number r ++ l) s.1 ∙ sym (append_assoc (line number r) (lines_from (number + 1) (take i records)) s.0))

-- the head and the key of a record
pub head_at : (records : List Record) (i : ℕ) (none : Head) → i < length records → get_or (map head_of records) i none ≡ head_of (get_or records i no_record)
head_at [] i none less = absurd (omega arith)
head_at (r ∷ records) zero none less = refl
head_at (r ∷ records) (suc i) none less = head_at records i none (omega arith)

pub key_at : (records : List Record) (i : ℕ) → i < length records
    → take (length (get_or records i no_record).key) (drop (length (keys_of (take i records))) (keys_of records)) ≡ (get_or records i no_record).key
key_at [] i less = absurd (omega arith)
key_at (r ∷ records) zero less = take-append_seam r.key (keys_of records)
key_at (r ∷ records) (suc i) less =
    let x = get_or records i no_record in
    ap (λ n. take (length x.key) (drop n (r.key ++ keys_of records))) (length-append r.key (keys_of (take i records)))
    ∙ ap (take (length x.key)) (drop-append-add r.key (keys_of records) (length (keys_of (take i records))))
    ∙ key_at records i (omega arith)

-- the keys of one more
pub keys_more : (records : List Record) (i : ℕ) → i < length records → length (keys_of (take (i + 1) records)) ≡ length (keys_of (take i records)) + length (get_or records i no_record).key
keys_more records i less =
    let one : i + 1 ≡ suc i = omega arith in
    ap (λ n. length (keys_of (take n records))) one ∙ next records i less
  where
    next : (records : List Record) (i : ℕ) → i < length records → length (keys_of (take (suc i) records)) ≡ length (keys_of (take i records)) + length (get_or records i no_record).key
    next [] i less = absurd (omega arith)
    next (r ∷ records) zero less = omega (arith, length-append r.key (keys_of []))
    next (r ∷ records) (suc i) less =
        let more = next records i (omega arith) in
        omega (arith, more, length-append r.key (keys_of (take (suc i) records)), length-append r.key (keys_of (take i records)))

pub key_within : (records : List Record) (i : ℕ) → i < length records → length (keys_of (take i records)) + length (get_or records i no_record).key ≤ length (keys_of records)
key_within [] i less = absurd (omega arith)
key_within (r ∷ records) zero less = omega (arith, length-append r.key (keys_of records))
key_within (r ∷ records) (suc i) less =
    let more = key_within records i (omega arith) in
    omega (arith, more, length-append r.key (keys_of records), length-append r.key (keys_of (take i records)))

-- the head that is read at a place, and the key that stands there
pub record Here (records : List Record) (keys : List ℕ) (i at : ℕ) (head : Head) : Type 0 where
  pub less : i < length records
  pub head_is : head ≡ head_of (get_or records i no_record)
  pub within : at + head.key_bytes ≤ length keys
  pub key : take (at + head.key_bytes - at) (drop at keys) ≡ (get_or records i no_record).key
  pub next : at + head.key_bytes ≡ length (keys_of (take (i + 1) records))

pub here : (heads : Heads) (records : List Record) (rows : List Head) (keys : List ℕ) (i at : ℕ) (none : Head) → HeadsOf heads records → rows ≡ heads.heads.items → keys ≡ heads.keys.items
    → i < length rows → at ≡ length (keys_of (take i records)) → Here records keys i at (get_or rows i none)
here heads records rows keys i at none h rows_are keys_are below at_is =
    let r = get_or records i no_record in
    let head : Head = get_or rows i none in
    let all : rows ≡ map head_of records = rows_are ∙ h.heads_are in
    let both : keys ≡ keys_of records = keys_are ∙ h.keys_are in
    let long : length rows ≡ length records = ap (λ (l : List Head). length l) all ∙ length-map records head_of in
    let less : i < length records = omega arith in
    let is : head ≡ head_of r = ap (λ (l : List Head). get_or l i none) all ∙ head_at records i none less in
    let size : head.key_bytes ≡ length r.key = ap (λ (x : Head). x.key_bytes) is in
    let count : length keys ≡ length (keys_of records) = ap (λ (l : List ℕ). length l) both in
    let fits = key_within records i less in
    let one : at + head.key_bytes - at ≡ length r.key = omega arith in
    let more = keys_more records i less in
    record {
      less = less;
      head_is = is;
      within = omega arith;
      key = ap (λ n. take n (drop at keys)) one ∙ ap (λ n. take (length r.key) (drop n keys)) at_is ∙ ap (λ (l : List ℕ). take (length r.key) (drop (length (keys_of (take i records))) l)) both ∙ key_at records i less;
      next = omega arith;
    }

-- its line
pub line_here : (number number' : ℕ) (head : Head) (key : List ℕ) (r : Record) → number ≡ number' → head ≡ head_of r → key ≡ r.key → line_of number head.link head.index key head.value_bytes ≡ line number' r
line_here number number' head key r n h k =
    ap (λ m. line_of m head.link head.index key head.value_bytes) n ∙ ap (λ (x : Head). line_of number' x.link x.index key x.value_bytes) h ∙ ap (λ (l : List ℕ). line_of number' r.link r.index l (length r.value)) k

-- all lines, from those of the first records on
pub lines_on : (records : List Record) (i : ℕ) → (more : List ℕ) × (log_lines records ≡ lines_from 1 (take i records) ++ more)
lines_on records i =
    let s = lines_split 1 records i in
    let end : List ℕ = count_line (length records) in
    (s.0 ++ end, ap (λ (l : List ℕ). l ++ end) s.1 ∙ append_assoc (lines_from 1 (take i records)) s.0 end)

-- all lines, where those of all records were said but this end
pub lines_end : (records : List Record) (i count : ℕ) → count ≡ length records → count ≤ i → lines_from 1 (take i records) ++ count_line count ≡ log_lines records
lines_end records i count all past =
    ap (λ (l : List Record). lines_from 1 l ++ count_line count) (take_all i records (omega arith)) ∙ ap (λ n. lines_from 1 records ++ count_line n) all

-- how many heads there are
pub heads_count : (heads : Heads) (records : List Record) → HeadsOf heads records → length heads.heads.items ≡ length records
heads_count heads records h = ap (λ (l : List Head). length l) h.heads_are ∙ length-map records head_of

pub on_ok : {T E : Type 0} (r : Result T E) (P Q : Type 0) → (P → Q) → OnOk r P → OnOk r Q
on_ok (Ok x) P Q f p = f p
on_ok (Err e) P Q f p = tt

pub on_err : {T E : Type 0} (r : Result T E) (P Q : Type 0) → (P → Q) → OnErr r P → OnErr r Q
on_err (Ok x) P Q f p = tt
on_err (Err e) P Q f p = f p
