-- What was written, and what was asked, where a read of a link that is over was due.
use Rattle.std.proofs.Common.{◌≡◌, ℕ, zero, suc, ◌+◌, ◌<◌, ◌≤◌, ◌⊎◌, Bool, true, false, List, [], ◌∷◌, ◌++◌, Some, Option, length, map, refl, arith, ◌∙◌, ap, sym, subst, inl, inr, append_assoc, append-nil, length-append, take-append-drop, take-take, length-take-le}
use Rattle.std.specs.Prelude.{drop, flat_map, slice_get, take}
use Rattle.std.specs.List.{AllByRecursion}
use Rattle.std.proofs.lemmas.Grind.{flat_map-append}
use Rattle.std.proofs.lemmas.List.{length-map, take-append-le, take-map}
use Rattle.demi_core.specs.Outside.{bytes_given}
use Rattle.demi_heap.specs.Seen.{HalfValue}
use Rattle.demi_link.specs.Dues.{AllMore, IsDue}
use Rattle.demi_link.specs.Ends.{IsKnown}
use Rattle.demi_link.specs.Fitting.{AllWritten, Fits, IsPush, IsWritten, Writes, ops_of, places}
use Rattle.demi_link.specs.Sights.{Sight}
use Rattle.demi_link.specs.Talks.{DeskValue, read_by, refusal}
use Rattle.demi_link.specs.declared.phase.Cause.{Cause}
use Rattle.demi_link.specs.declared.phase.Cause.TheVariants as cause
use Rattle.demi_link.specs.declared.phase.Phase.TheVariants.{Over}
use Rattle.demi_link.proofs.Sides.{written_grows}
use Rattle.demi_port_core.specs.History.{Among}
use Rattle.demi_port_core.specs.Trails.{Behind, StartsWith}
use Rattle.demi_port_core.specs.declared.trail.Trail.{Trail}
use Rattle.demi_served.specs.Served.{Torn}
use Rattle.demi_served.specs.Writing.{WroteAll, texts_of}
use Rattle.demi_spec.specs.Input.{Asked, Open, Parses, Request_of}
use Rattle.demi_spec.specs.Record.{Record}
use Rattle.demi_spec.specs.Reply.{Reply, spelling}
use Rattle.demi_spec.specs.Store.{added, answer, serial, serial_from}
use Rattle.demi_streamq.specs.RxKept.{all_bytes}
use Rattle.demi_streamq.specs.declared.rx_out.RxOut.{RxOut}
use Rattle.demi_streamq.specs.declared.tx_op.TxOp.{TxOp}
use Rattle.demi_streamq.specs.declared.tx_op.TxOp.TheVariants.{Push, Close, Stop}
use Rattle.demi_closed.specs.Reading.{EachGaveSome, IsDueRead}

-- the first replies of the one-thread store are those to the first requests
take_serial : (index : ℕ) (records : List Record) (limit n : ℕ) (asks : List Asked) → take n (serial_from index records limit asks).replies ≡ (serial_from index records limit (take n asks)).replies
take_serial index records limit zero asks = refl
take_serial index records limit (suc n) [] = refl
take_serial index records limit (suc n) (ask ∷ asks) =
    let reply : Reply = record { worker = 0; sequence = index + 1; answer = answer records limit ask } in
    ap (λ (l : List Reply). reply ∷ l) (take_serial (index + 1) (records ++ added records limit 0 index ask) limit n asks)

-- what begins with the spellings of replies begins with those of the first ones
begins_with : (text : List ℕ) (replies : List Reply) (rest : List ℕ) (n : ℕ) → text ≡ flat_map spelling replies ++ rest → StartsWith text (flat_map spelling (take n replies))
begins_with text replies rest n e = (
  flat_map spelling (drop n replies) ++ rest,
  e ∙ ap (λ (l : List Reply). flat_map spelling l ++ rest) (sym (take-append-drop n replies))
      ∙ ap (λ (l : List ℕ). l ++ rest) (flat_map-append spelling (take n replies) (drop n replies))
      ∙ append_assoc (flat_map spelling (take n replies)) (flat_map spelling (drop n replies)) rest,
)

-- where the last may be torn, so it is for those before it
torn_begins : (text : List ℕ) (replies : List Reply) (n : ℕ) → n < length replies → Torn text replies → StartsWith text (flat_map spelling (take n replies))
torn_begins text replies n less (inl e) = begins_with text replies [] n (e ∙ sym (append-nil (flat_map spelling replies)))
torn_begins text replies n less (inr (before, last, k, all, short, is)) =
    let long = ap length all ∙ length-append before (last ∷ []) in
    let within : n ≤ length before = omega arith in
    subst (λ (l : List Reply). StartsWith text (flat_map spelling l)) (sym (ap (take n) all ∙ take-append-le n before (last ∷ []) within)) (begins_with text before (take k (spelling last)) n is)

-- each push has its text
one_text_each : (xs : List (ℕ × (ℕ × TxOp))) → AllByRecursion (λ x. IsPush x.1.1) xs → length (texts_of (ops_of xs)) ≡ length (places xs)
one_text_each [] h = refl
one_text_each (x ∷ xs) h = go (one_text_each xs h.1) x.1.1 h.0
  where
    go : length (texts_of (ops_of xs)) ≡ length (places xs) → (op : TxOp) → IsPush op → length (texts_of (op ∷ ops_of xs)) ≡ suc (length (places xs))
    go rest (Push sga) i = ap suc rest
    go rest Close i = absurd i
    go rest Stop i = absurd i

all_of : {X : Type 0} (P : X → Type 0) (xs : List X) (x : X) → AllByRecursion P xs → Among x xs → P x
all_of P [] x h a = absurd a
all_of P (y ∷ xs) x h (inl e) = subst P (sym e) h.0
all_of P (y ∷ xs) x h (inr a) = all_of P xs x h.1 a

-- for each request that was read a number was drawn
all_drawn : (ports : ℕ) (s : Sight) (d : DeskValue) (c : Cause) → Fits ports s d (Over c) → IsKnown c → read_by d.talk ≡ d.talk.kept.drawn
all_drawn ports s d cause.Clean f known = f.agrees.3.0
all_drawn ports s d cause.Bye f known = f.agrees.3.0
all_drawn ports s d (cause.Refused code) f known = f.agrees.3.0
all_drawn ports s d cause.ReadFault f known = f.agrees.3.0
all_drawn ports s d cause.WriteFault f known = f.agrees.3.0
all_drawn ports s d cause.LogFault f known = f.agrees.3.0
all_drawn ports s d cause.NoMemory f known = f.agrees.3.0
all_drawn ports s d cause.Lost f known = absurd known

-- each push is known written, but perhaps the last
abbrev ButLast : Sight → DeskValue → Type 0
ButLast s d = (place : ℕ) × (places s.tx.submitted ≡ d.talk.written ++ place ∷ [])

known_written : (ports : ℕ) (s : Sight) (d : DeskValue) (c : Cause) → Fits ports s d (Over c) → IsKnown c → AllWritten s d ⊎ ButLast s d
known_written ports s d cause.Clean f known = inl f.agrees.1
known_written ports s d cause.Bye f known = inl f.agrees.1
known_written ports s d (cause.Refused code) f known = inl f.agrees.1
known_written ports s d cause.ReadFault f known = inl f.agrees.1
known_written ports s d cause.WriteFault f known = inr (f.agrees.1.0, f.agrees.1.1)
known_written ports s d cause.LogFault f known = inl f.agrees.1
known_written ports s d cause.NoMemory f known = inl f.agrees.1
known_written ports s d cause.Lost f known = absurd known

-- where each push is known written, each was
pub were_written : (s : Sight) (d : DeskValue) (end : Trail TxOp ℕ) → Behind end s.tx.known → ((p : ℕ) (sga : List HalfValue) → slice_get end.heard p ≡ Some (Push sga) → Among p (places s.tx.submitted))
    → Writes s.tx d.talk → AllWritten s d → WroteAll end.heard end.told
were_written s d end behind own w all p sga at =
    (written_grows s.tx end (record s.tx { known = end }) p refl behind (all_of (IsWritten s.tx) d.talk.written p w.written (subst (Among p) all (own p sga at)))).0

module _ (ports : ℕ) (s : Sight) (d : DeskValue) (c : Cause) (fits : Fits ports s d (Over c)) (known : IsKnown c)
    (told : Bool) (limit : ℕ) (old : List Record) (written : List ℕ) (asks : List Asked) (replies : List Reply)
    (replies_are : replies ≡ d.talk.kept.replies) (asks_are : StartsWith asks d.talk.kept.drawn) (as_store : told ≡ true → replies ≡ take (length replies) (serial old limit asks).replies)
    (torn : Torn written replies) (whole : AllWritten s d → written ≡ flat_map spelling replies) where
  -- as many replies were pushed
  pushed : length replies ≡ length (places s.tx.submitted)
  pushed = let w = fits.keeps.writes in ap length replies_are ∙ sym (length-map d.talk.kept.replies spelling) ∙ sym (ap length w.texts) ∙ one_text_each s.tx.submitted w.pushes

  few_or_all : (length d.talk.written < length replies) ⊎ ((length replies ≡ length d.talk.written) × AllWritten s d)
  few_or_all = elim (known_written ports s d c fits known) [
    | inl all ↦ inr (pushed ∙ ap length all, all)
    | inr one ↦ inl (let e = pushed in let f = ap length one.1 in let g = length-append d.talk.written (one.0 ∷ []) in omega arith)
  ]

  enough : (n : ℕ) → n ≤ length d.talk.written → n ≤ length replies
  enough n le = elim few_or_all [ inl less ↦ omega arith | inr all ↦ let e = all.0 in omega arith ]

  answered : (n : ℕ) → n ≤ length d.talk.written → StartsWith written (flat_map spelling (take n replies))
  answered n le = elim few_or_all [
    | inl less ↦ torn_begins written replies n (omega arith) torn
    | inr all ↦ begins_with written replies [] n (whole all.1 ∙ sym (append-nil (flat_map spelling replies)))
  ]

  -- the first that were asked are the first that were handed out
  first_asks : (n : ℕ) → n ≤ length d.talk.handed → take n asks ≡ map Request_of (take n d.talk.handed)
  first_asks n le =
      let drawn = all_drawn ports s d c fits known in
      let asked : List Asked = map Request_of d.talk.handed in
      let all : asks ≡ asked ++ (refusal d.talk.refused ++ asks_are.0) = asks_are.1 ∙ ap (λ (l : List Asked). l ++ asks_are.0) (sym drawn) ∙ append_assoc asked (refusal d.talk.refused) asks_are.0 in
      let long : length asked ≡ length d.talk.handed = length-map d.talk.handed Request_of in
      let within : n ≤ length asked = omega arith in
      ap (take n) all ∙ take-append-le n asked (refusal d.talk.refused ++ asks_are.0) within ∙ take-map Request_of n d.talk.handed

  pub first_replies : (n : ℕ) → n ≤ length d.talk.handed → n ≤ length replies → told ≡ true → take n replies ≡ (serial old limit (map Request_of (take n d.talk.handed))).replies
  first_replies n within le is =
      ap (take n) (as_store is) ∙ take-take n (length replies) (serial old limit asks).replies le ∙ take_serial 0 old limit n asks
      ∙ ap (λ (l : List Asked). (serial old limit l).replies) (first_asks n within)

  -- a pop was due behind these outcomes, and these reads are theirs
  pub due_read : (earlier : List (Option (List ℕ))) (outs : List (ℕ × RxOut)) → IsDue d.talk.handed d.talk.written outs → (AllMore outs → EachGaveSome earlier × (bytes_given earlier ≡ all_bytes outs))
      → IsDueRead told limit old earlier written
  due_read earlier outs due gave =
      let g = gave due.more in
      let n = due.count in
      let le = enough n due.answered in
      record {
        gave = g.0;
        requests = take n d.talk.handed;
        parses = subst (Parses (take n d.talk.handed) Open false) (sym g.1) due.asks;
        replies = take n replies;
        each = length-take-le n replies le ∙ sym (length-take-le n d.talk.handed due.within);
        answered = answered n due.answered;
        as_store = first_replies n due.within le;
      }
