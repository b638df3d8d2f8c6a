-- What fits once a pop was submitted, and once it came to its outcome.
use Rattle.std.specs.Prelude.{◌≡◌, ℕ, ◌+◌, ◌-◌, ◌<◌, ◌≤◌, ltb, cond, Bool, true, false, List, [], ◌∷◌, ◌++◌, Option, Some, None, IfSome, length, map, refl, slice_get, take}
use Rattle.std.proofs.Common.{sym, ◌∙◌, ap, arith, subst, inr, append-nil, append_assoc}
use Rattle.std.proofs.lemmas.List.{take_all}
use Rattle.demi_frame.specs.Decoding.{Decoding, after_feed}
use Rattle.demi_frame.specs.Reading.{HasRead}
use Rattle.demi_heap.specs.Seen.{HalfValue}
use Rattle.demi_port_core.specs.History.{Among}
use Rattle.demi_port_core.specs.declared.place.QToken.{QToken}
use Rattle.demi_spec.specs.Request.{Request}
use Rattle.demi_spec.specs.Input.{Asked, Clean, Refused, Refused_end, Request_of, Parses}
use Rattle.demi_streamq.specs.Receiving.{RxAdmits, RxAnswer, RxPop, RxRead, over, over_by, told_at, bytes_before}
use Rattle.demi_streamq.specs.RxKept.{IsEnd, all_bytes, bytes_of, pieces_of}
use Rattle.demi_streamq.specs.declared.rx_op.RxOp.{RxOp}
use Rattle.demi_streamq.specs.declared.rx_op.RxOp.TheVariants.{Pop}
use Rattle.demi_streamq.specs.declared.rx_out.RxOut.{RxOut}
use Rattle.demi_streamq.specs.declared.rx_out.RxOut.TheVariants.{Piece, Stopped}
use Rattle.demi_streamq.specs.declared.rx_told.RxTold.{RxTold}
use Rattle.demi_streamq.specs.declared.rx_told.RxTold.TheVariants.{Bytes, AtEnd, Failed, Refused as NoPage}
use Rattle.demi_served.specs.Keeps.{WorkerKeeps}
use Rattle.demi_link.specs.Fitting.{Fits, IsFinal, IsHungry, Keeps, Noted, Took, places}
use Rattle.demi_link.specs.Dues.{AllDue, IsMore}
use Rattle.demi_link.specs.Heard.{IsReadFault, LastCame}
use Rattle.demi_link.specs.Noting.{after_taken}
use Rattle.demi_link.specs.Sights.{Due, Side, Sight, Submits, nothing_due, worker_of}
use Rattle.demi_link.specs.Talks.{DeskValue, TalkValue, read_by, refusal}
use Rattle.demi_link.specs.declared.phase.Cause.TheVariants as cause
use Rattle.demi_link.specs.declared.phase.Kind.TheVariants as kind
use Rattle.demi_link.specs.declared.phase.Phase.{Phase}
use Rattle.demi_link.specs.declared.phase.Phase.TheVariants.{Reading, Popping, Asking, Over}
use Rattle.demi_link.proofs.Dues.{due_again, due_taken}
use Rattle.demi_link.proofs.Lists.{all_next, among_last, places_next}
use Rattle.demi_link.proofs.Sides.{reads_popped, reads_taken}

-- A pop asked for at most 4,096 bytes.
over_gives : (e : RxTold) (k : ℕ) (more : Option RxOut) (v : HalfValue) → (more ≡ Some (Piece v) → ⊥) → over_by e k more ≡ Some (Piece v) → ⊥
over_gives (Bytes bs) k more v n e = n e
over_gives AtEnd k more v n e = absurd (cc)
over_gives (Failed c) k more v n e = absurd (cc)
over_gives NoPage k more v n e = n e

over_piece : (p : ℕ) (t : List (ℕ × RxTold)) (v : HalfValue) → over p t ≡ Some (Piece v) → ⊥
over_piece p [] v e = absurd (cc)
over_piece p (x ∷ t) v e = go (over_piece p t v) (ltb x.0 p) e
  where
    go : (over p t ≡ Some (Piece v) → ⊥) → (b : Bool) → cond b (over_by x.1 x.0 (over p t)) (over p t) ≡ Some (Piece v) → ⊥
    go none true e = over_gives x.1 x.0 (over p t) v none e
    go none false e = none e

piece_answer : (stop : Option ℕ) (op : Option RxOp) (found : Option RxOut) (here : Option RxTold) (n : ℕ) (v : HalfValue) → op ≡ Some (Pop 4096) → (found ≡ Some (Piece v) → ⊥) → RxAnswer stop op found here n (Piece v) → length v.bytes ≤ 4096
piece_answer (Some s) op found here n v is none a = absurd (no a.0)
  where
    no : {q : _} → Piece v ≡ Stopped q → ⊥
    no e = absurd (cc)
piece_answer None op found here n v is none a = go found none (subst (λ (o : Option RxOp). RxPop o found here n (Piece v)) is a)
  where
    go : (found : Option RxOut) → (found ≡ Some (Piece v) → ⊥) → RxRead 4096 found here n (Piece v) → length v.bytes ≤ 4096
    go (Some r) none a = absurd (none (ap (λ (x : RxOut). Some x) (sym a)))
    go None none a = a.1.1

pub piece_fits : (h : List RxOp) (t : List (ℕ × RxTold)) (p : ℕ) (v : HalfValue) → slice_get h p ≡ Some (Pop 4096) → RxAdmits h t p (Piece v) → length v.bytes ≤ 4096
piece_fits h t p v is a = piece_answer _ (slice_get h p) (over p t) (told_at p t) (length (bytes_before p t)) v is (over_piece p t v) a

-- the sight once it popped
abbrev pub sight_popped : Sight → ℕ → ℕ → Sight
sight_popped a place token = record a { rx = record a.rx { seen = place + 1; submitted = a.rx.submitted ++ (place, (token, Pop 4096)) ∷ [] }; due = record a.due { rx = a.due.rx + 1 } }

pub popped_sight : (a b : Sight) (place token : ℕ) → Submits place a.rx b.rx token (Pop 4096) → b ≡ record a { rx = b.rx; due = record a.due { rx = a.due.rx + 1 } } → b ≡ sight_popped a place token
popped_sight a b place token sub only = only ∙ ap (λ (x : Side RxOp RxTold). record a { rx = x; due = record a.due { rx = a.due.rx + 1 } }) sub.side

pub popped_next : (ports : ℕ) (a : Sight) (d : DeskValue) (place : ℕ) (token : QToken) → IsHungry ports a d → token.port < ports → a.rx.seen ≤ place → Fits ports (sight_popped a place token.token.0) d (Popping token)
popped_next ports a d place token h lt up =
    let x : ℕ × (ℕ × RxOp) = (place, (token.token.0, Pop 4096)) in
    let f = h.reading in
    let g = f.agrees in
    let k = f.keeps in
    record {
      agrees = (
        g.0,
        g.1,
        h.room,
        h.hungry,
        lt,
        record { place = place; last = places_next a.rx.submitted x ∙ ap (λ (l : List ℕ). l ++ place ∷ []) g.2; here = among_last a.rx.submitted x },
        g.3,
        g.4,
        ap (λ (x : Due). record x { rx = x.rx + 1 }) g.5,
        h.due,
      );
      worker = f.worker;
      keeps = record {
        own = k.own;
        kept = k.kept;
        fits = k.fits;
        number = k.number;
        index = k.index;
        reads = reads_popped a.rx d.talk place token.token.0 k.reads up;
        writes = record { pushes = k.writes.pushes; texts = k.writes.texts; rises = k.writes.rises; below = k.writes.below; written = k.writes.written };
        read = k.read;
        refusal = k.refusal;
        final = k.final;
        due = k.due;
      };
    }

bytes_next : (outs : List (ℕ × RxOut)) (place : ℕ) (o : RxOut) → all_bytes (outs ++ (place, o) ∷ []) ≡ all_bytes outs ++ bytes_of o
bytes_next [] place o = append-nil (bytes_of o)
bytes_next (x ∷ outs) place o = ap (λ (l : List ℕ). bytes_of x.1 ++ l) (bytes_next outs place o) ∙ sym (append_assoc (bytes_of x.1) (all_bytes outs) (bytes_of o))

-- What is so of a pop that came to an outcome, as the link stands then.
module _ (ports : ℕ) (s : Sight) (d : DeskValue) (place : ℕ) (o : RxOut) (t : Took ports s d place o) where
  abbrev now : TalkValue
  now = after_taken d.talk place o

  same_rx : s.rx.submitted ≡ t.before.rx.submitted
  same_rx = ap (λ (x : Side RxOp RxTold). x.submitted) t.redeems.side

  own : t.fits.agrees.5.place ≡ place
  own = t.redeems.own t.fits.agrees.5.place (Pop 4096) t.fits.agrees.5.here

  -- its place says that it is a pop
  pub pop_there : slice_get s.rx.known.heard place ≡ Some (Pop 4096)
  pop_there = t.redeems.said (Pop 4096) (subst (λ (n : ℕ). Among (n, (t.token.token.0, Pop 4096)) t.before.rx.submitted) own t.fits.agrees.5.here)

  pub all_taken : places s.rx.submitted ≡ places (d.talk.outs ++ (place, o) ∷ [])
  all_taken = ap places same_rx ∙ t.fits.agrees.5.last ∙ ap (λ (n : ℕ). places d.talk.outs ++ n ∷ []) own ∙ sym (places_next d.talk.outs (place, o))

  -- the sight as what it was before, with the pass as it is
  abbrev there : Sight
  there = record t.before { rx = s.rx; out = t.before.out + pieces_of o; due = record t.before.due { rx = t.before.due.rx - 1 } }

  -- each of its pops was due
  pub all_due : AllDue now
  all_due = due_taken d.talk place o t.fits.keeps.due t.fits.agrees.9

  same_bytes : bytes_of o ≡ [] → all_bytes (d.talk.outs ++ (place, o) ∷ []) ≡ all_bytes d.talk.outs
  same_bytes none = bytes_next d.talk.outs place o ∙ ap (λ (l : List ℕ). all_bytes d.talk.outs ++ l) none ∙ append-nil (all_bytes d.talk.outs)

  -- what it keeps where the outcome brought no bytes
  pub keeps_taken : bytes_of o ≡ [] → Keeps s (record d { talk = now })
  keeps_taken none = let k = t.fits.keeps in subst (λ (x : Sight). Keeps x (record d { talk = now })) (sym t.is) (record {
    own = k.own;
    kept = k.kept;
    fits = k.fits;
    number = k.number;
    index = k.index;
    reads = reads_taken t.before.heap t.before.rx s.rx d.talk place t.token.token.0 o k.reads t.redeems;
    writes = record { pushes = k.writes.pushes; texts = k.writes.texts; rises = k.writes.rises; below = k.writes.below; written = k.writes.written };
    read = subst (λ (l : List ℕ). HasRead l d.talk.handed d.decoder) (sym (same_bytes none)) k.read;
    refusal = IfSome_same d.talk.refused k.refusal;
    final = subst (λ (r : Option ℕ). IfSome r (λ code. IsFinal code (record d { talk = now }))) (sym t.fits.agrees.0.0) tt;
    due = all_due;
  })
    where
      IfSome_same : (r : Option ℕ) → IfSome r (λ code. Parses d.talk.handed (Refused code) true (all_bytes d.talk.outs)) → IfSome r (λ code. Parses d.talk.handed (Refused code) true (all_bytes (d.talk.outs ++ (place, o) ∷ [])))
      IfSome_same None h = tt
      IfSome_same (Some code) h = subst (λ (l : List ℕ). Parses d.talk.handed (Refused code) true l) (sym (same_bytes none)) h

  -- and its worker keeps its own
  pub worker_taken : WorkerKeeps (worker_of s)
  worker_taken = subst (λ (x : Sight). WorkerKeeps (worker_of x)) (sym t.is) t.fits.worker

  same_out : s.out ≡ t.before.out + pieces_of o
  same_out = ap (λ (x : Sight). x.out) t.is

  pub none_out : pieces_of o ≡ 0 → s.out ≡ 0
  none_out e = let a = same_out in let b = t.fits.agrees.7 in omega arith

  pub none_due : s.due ≡ nothing_due
  none_due = ap (λ (x : Sight). x.due) t.is ∙ ap (λ (x : Due). record x { rx = x.rx - 1 }) t.fits.agrees.8

  pub same_written : places s.tx.submitted ≡ d.talk.written
  same_written = ap (λ (x : Sight). places x.tx.submitted) t.is ∙ t.fits.agrees.6

  -- the link goes on
  pub taken_hungry : bytes_of o ≡ [] → pieces_of o ≡ 0 → IsMore o → IsHungry ports s (record d { talk = now })
  taken_hungry none no_piece more = let g = t.fits.agrees in record {
    reading = record {
      agrees = ((g.0.0, g.0.1, all_next (λ (x : ℕ × RxOut). IsMore x.1) d.talk.outs (place, o) g.0.2 more), g.1, all_taken, same_written, none_out no_piece, none_due);
      worker = worker_taken;
      keeps = keeps_taken none;
    };
    room = g.2;
    hungry = g.3;
    due = due_again d.talk place o (same_bytes none) more g.9;
  }

  last_came : (P : RxOut → Type 0) → P o → LastCame P (d.talk.outs ++ (place, o) ∷ [])
  last_came P is = record { before = d.talk.outs; last = (place, o); all = refl; is = is }

  -- or a read failed
  pub taken_fault : bytes_of o ≡ [] → pieces_of o ≡ 0 → IsReadFault o → Fits ports s (record d { talk = now }) (Over cause.ReadFault)
  taken_fault none no_piece failed = let g = t.fits.agrees in record {
    agrees = (all_taken, same_written, none_out no_piece, g.1, g.0.0, none_due, last_came IsReadFault failed);
    worker = worker_taken;
    keeps = keeps_taken none;
  }

  -- or it is lost
  pub taken_lost : bytes_of o ≡ [] → Fits ports s (record d { talk = now }) (Over cause.Lost)
  taken_lost none = record { agrees = tt; worker = worker_taken; keeps = keeps_taken none }

  -- or the input has ended
  pub taken_clean : bytes_of o ≡ [] → pieces_of o ≡ 0 → IsEnd o → Parses d.talk.handed Clean true (all_bytes (d.talk.outs ++ (place, o) ∷ [])) → Fits ports s (record d { talk = now }) (Over cause.Clean)
  taken_clean none no_piece at_end parses = let g = t.fits.agrees in record {
    agrees = (all_taken, same_written, none_out no_piece, g.1, parses, g.0.0, none_due, last_came IsEnd at_end);
    worker = worker_taken;
    keeps = keeps_taken none;
  }

  -- refused
  pub taken_refused : (code : ℕ) → bytes_of o ≡ [] → pieces_of o ≡ 0 → IsEnd o → Parses d.talk.handed (Refused code) true (all_bytes (d.talk.outs ++ (place, o) ∷ []))
      → Fits ports s (record d { talk = record now { refused = Some code; request = Refused_end code } }) (Asking (kind.Refused code))
  taken_refused code none no_piece at_end parses =
      let g = t.fits.agrees in
      let k = keeps_taken none in
      let all : read_by d.talk ≡ d.talk.kept.drawn = g.1.0 in
      let bare : map Request_of d.talk.handed ≡ d.talk.kept.drawn = sym (append-nil (map Request_of d.talk.handed)) ∙ ap (λ (r : Option ℕ). map Request_of d.talk.handed ++ refusal r) (sym g.0.0) ∙ all in
      record {
        agrees = (
          (refl, refl),
          g.2,
          (ap (λ (l : List Asked). l ++ Refused_end code ∷ []) bare, g.1.1),
          all_taken,
          same_written,
          none_out no_piece,
          none_due,
        );
        worker = worker_taken;
        keeps = record {
          own = k.own;
          kept = k.kept;
          fits = k.fits;
          number = k.number;
          index = k.index;
          reads = record { pops = k.reads.pops; rises = k.reads.rises; below = k.reads.below; taken = k.reads.taken };
          writes = record { pushes = k.writes.pushes; texts = k.writes.texts; rises = k.writes.rises; below = k.writes.below; written = k.writes.written };
          read = k.read;
          refusal = parses;
          final = inr (last_came IsEnd at_end);
          due = k.due;
        };
      }

-- a pop that is lost
pub lost : (ports : ℕ) (s : Sight) (d : DeskValue) (phase : Phase) → Fits ports s d phase → Fits ports s d (Over cause.Lost)
lost ports s d phase f = record { agrees = tt; worker = f.worker; keeps = f.keeps }

-- A piece that was fed and freed.
pub fed_next : (ports : ℕ) (s z : Sight) (d : DeskValue) (place : ℕ) (v : HalfValue) (decoder : Decoding) (taken : ℕ) → (t : Took ports s d place (Piece v)) → z ≡ record s { out = s.out - 1 }
    → taken ≡ length v.bytes → decoder ≡ after_feed d.decoder (take taken v.bytes) → ((fed : List ℕ) (handed : List Request) → HasRead fed handed d.decoder → HasRead (fed ++ take taken v.bytes) handed decoder)
    → Fits ports z (record d { decoder = decoder; talk = after_taken d.talk place (Piece v) }) Reading
fed_next ports s z d place v decoder taken t freed all is reads =
    let k = t.fits.keeps in
    let g = t.fits.agrees in
    let whole : take taken v.bytes ≡ v.bytes = ap (λ (n : ℕ). take n v.bytes) all ∙ take_all (length v.bytes) v.bytes (omega arith) in
    let bytes : all_bytes d.talk.outs ++ take taken v.bytes ≡ all_bytes (d.talk.outs ++ (place, Piece v) ∷ []) = ap (λ (l : List ℕ). all_bytes d.talk.outs ++ l) whole ∙ sym (bytes_next d.talk.outs place (Piece v)) in
    let stop : decoder.stop ≡ None = ap (λ (x : Decoding). x.stop) is ∙ g.0.1 in
    let there : z ≡ record t.before { rx = s.rx; out = t.before.out + 1 - 1; due = record t.before.due { rx = t.before.due.rx - 1 } } = freed ∙ ap (λ (x : Sight). record x { out = x.out - 1 }) t.is in
    let none : t.before.out + 1 - 1 ≡ 0 = (let o = g.7 in omega arith) in
    let settled : record t.before.due { rx = t.before.due.rx - 1 } ≡ nothing_due = ap (λ (x : Due). record x { rx = x.rx - 1 }) g.8 in
    subst (λ (x : Sight). Fits ports x (record d { decoder = decoder; talk = after_taken d.talk place (Piece v) }) Reading) (sym there) (record {
      agrees = ((g.0.0, stop, all_next (λ (x : ℕ × RxOut). IsMore x.1) d.talk.outs (place, Piece v) g.0.2 tt), g.1, all_taken ports s d place (Piece v) t, g.6, none, settled);
      worker = t.fits.worker;
      keeps = record {
        own = k.own;
        kept = k.kept;
        fits = k.fits;
        number = k.number;
        index = k.index;
        reads = reads_taken t.before.heap t.before.rx s.rx d.talk place t.token.token.0 (Piece v) k.reads t.redeems;
        writes = record { pushes = k.writes.pushes; texts = k.writes.texts; rises = k.writes.rises; below = k.writes.below; written = k.writes.written };
        read = subst (λ (l : List ℕ). HasRead l d.talk.handed decoder) bytes (reads (all_bytes d.talk.outs) d.talk.handed k.read);
        refusal = subst (λ (r : Option ℕ). IfSome r (λ code. Parses d.talk.handed (Refused code) true (all_bytes (d.talk.outs ++ (place, Piece v) ∷ [])))) (sym g.0.0) tt;
        final = subst (λ (r : Option ℕ). IfSome r (λ code. IsFinal code (record d { decoder = decoder; talk = after_taken d.talk place (Piece v) }))) (sym g.0.0) tt;
        due = all_due ports s d place (Piece v) t;
      };
    })

-- the place at hand is no matter
pub placed : (ports : ℕ) (s : Sight) (d : DeskValue) (place at : ℕ) (o : RxOut) → Took ports s d place o → Took ports s (record d { talk = record d.talk { place = at } }) place o
placed ports s d place at o t = let f = t.fits in let g = f.agrees in let k = f.keeps in record {
  before = t.before;
  token = t.token;
  fits = record {
    agrees = (g.0, g.1, g.2, g.3, g.4, record { place = g.5.place; last = g.5.last; here = g.5.here }, g.6, g.7, g.8, g.9);
    worker = f.worker;
    keeps = record {
      own = k.own;
      kept = k.kept;
      fits = k.fits;
      number = k.number;
      index = k.index;
      reads = record { pops = k.reads.pops; rises = k.reads.rises; below = k.reads.below; taken = k.reads.taken };
      writes = record { pushes = k.writes.pushes; texts = k.writes.texts; rises = k.writes.rises; below = k.writes.below; written = k.writes.written };
      read = k.read;
      refusal = k.refusal;
      final = k.final;
      due = k.due;
    };
  };
  redeems = t.redeems;
  is = t.is;
}

-- the link has noted the outcome
pub noted : (ports : ℕ) (s : Sight) (d : DeskValue) (place : ℕ) (o : RxOut) (p z : TalkValue) → Took ports s d place o → p ≡ record d.talk { place = place } → z ≡ after_taken p p.place o → Noted ports s (record d { talk = z }) o
noted ports s d place o p z t is now =
    let first : TalkValue = record d.talk { place = place } in
    record {
      was = first;
      now = now ∙ ap (λ (x : TalkValue). after_taken x x.place o) is;
      took = placed ports s d place place o t;
    }
