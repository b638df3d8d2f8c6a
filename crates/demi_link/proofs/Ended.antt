-- What a link that is over read and wrote.
use Rattle.std.specs.Prelude.{◌≡◌, ◌⊎◌, ℕ, ◌+◌, ◌<◌, ◌≤◌, true, false, Bool, List, [], ◌∷◌, ◌++◌, Option, Some, None, IfSome, length, map, refl, slice_get}
use Rattle.std.specs.List.{AllByRecursion}
use Rattle.std.proofs.Common.{sym, ◌∙◌, ap, arith, subst, inl, inr, append-nil, length-append}
use Rattle.demi_device.specs.Serving.{RiseFrom}
use Rattle.demi_frame.specs.Decoding.{Decoding}
use Rattle.demi_frame.specs.Reading.{HasRead}
use Rattle.demi_frame.specs.declared.decoder.Step.TheVariants as step
use Rattle.demi_heap.specs.Seen.{HalfValue}
use Rattle.demi_port_core.specs.History.{Among, Each}
use Rattle.demi_port_core.specs.Trails.{Behind, StartsWith}
use Rattle.demi_port_core.specs.declared.trail.Trail.{Trail}
use Rattle.demi_spec.specs.Request.{Request}
use Rattle.demi_spec.specs.Input.{Asked, Clean, EndFrame, Ending, Parses, Refused, Refused_end, Request_of, asked, asked_of}
use Rattle.demi_streamq.specs.Receiving.{RxAdmits}
use Rattle.demi_streamq.specs.RxKept.{IsEnd, all_bytes}
use Rattle.demi_streamq.specs.Sending.{TxAdmits}
use Rattle.demi_streamq.specs.declared.rx_op.RxOp.{RxOp}
use Rattle.demi_streamq.specs.declared.rx_op.RxOp.TheVariants.{Pop}
use Rattle.demi_streamq.specs.declared.rx_out.RxOut.{RxOut}
use Rattle.demi_streamq.specs.declared.rx_told.RxTold.{RxTold}
use Rattle.demi_streamq.specs.declared.tx_op.TxOp.{TxOp}
use Rattle.demi_streamq.specs.declared.tx_op.TxOp.TheVariants.{Push}
use Rattle.demi_streamq.specs.declared.tx_out.TxOut.TheVariants.{Pushed}
use Rattle.demi_served.specs.Keeps.{WorkerKeeps}
use Rattle.demi_served.specs.Reading.{IsPlaceOf, Popped}
use Rattle.demi_served.specs.Writing.{WroteAll, WroteBefore, texts_of}
use Rattle.demi_served.proofs.Stepping.{first_link}
use Rattle.demi_link.specs.Ends.{IsDone, IsKnown, new_desk}
use Rattle.demi_link.specs.Fitting.{AllTaken, Fits, IsFinal, IsPush, IsTaken, IsWritten, ops_of, places}
use Rattle.demi_link.specs.Heard.{LastCame}
use Rattle.demi_link.specs.Linked.{IsFresh}
use Rattle.demi_link.specs.Sights.{Sight, nothing_due, worker_of}
use Rattle.demi_link.specs.Talks.{DeskValue, read_by, refusal}
use Rattle.demi_link.specs.declared.phase.Cause.{Cause}
use Rattle.demi_link.specs.declared.phase.Cause.TheVariants as cause
use Rattle.demi_link.specs.declared.phase.Phase.TheVariants.{Over, Reading}
use Rattle.demi_link.proofs.Lists.{among_last}
use Rattle.demi_link.proofs.Sides.{taken_grows, written_grows}

no_outs : {A : Type 0} {B : Type 0} (before after : List A) (x : A) → [] ≡ before ++ x ∷ after → B
no_outs before after x e = absurd (let l = ap length e in let m = length-append before (x ∷ after) in omega arith)

-- a new link
pub fresh_fits : (ports link worker : ℕ) (s : Sight) → WorkerKeeps (worker_of s) → s.number ≡ worker → worker ≤ 255 → IsFresh s link → Fits ports s (new_desk link worker) Reading
fresh_fits ports link worker s w number low f = record {
  agrees = ((refl, refl, tt), (refl, refl), ap places f.pops, ap places f.pushes, f.out, f.due);
  worker = w;
  keeps = record {
    own = (first_link s.base (worker_of s) link worker f.draws).own;
    kept = first_link s.base (worker_of s) link worker f.draws;
    fits = tt;
    number = (sym number, sym number, subst (λ (n : ℕ). n ≤ 255) (sym number) low);
    index = refl;
    reads = record {
      pops = subst (AllByRecursion (λ (x : ℕ × (ℕ × RxOp)). x.1.1 ≡ Pop 4096)) (sym f.pops) tt;
      rises = subst (RiseFrom 0) (sym f.pops) tt;
      below = subst (AllByRecursion (λ (x : ℕ × (ℕ × RxOp)). x.0 < s.rx.seen)) (sym f.pops) tt;
      taken = tt;
    };
    writes = record {
      pushes = subst (AllByRecursion (λ (x : ℕ × (ℕ × TxOp)). IsPush x.1.1)) (sym f.pushes) tt;
      texts = ap (λ (l : List (ℕ × (ℕ × TxOp))). texts_of (ops_of l)) f.pushes;
      rises = subst (RiseFrom 0) (sym f.pushes) tt;
      below = subst (AllByRecursion (λ (x : ℕ × (ℕ × TxOp)). x.0 < s.tx.seen)) (sym f.pushes) tt;
      written = tt;
    };
    read = record { text = refl; stops = tt };
    refusal = tt;
    final = tt;
    due = λ before after x e. no_outs before after x e;
  };
}

-- What it asked.
module _ (begins : (fed : List ℕ) (handed : List Request) (d : Decoding) (ended : Bool) → HasRead fed handed d → StartsWith (asked fed ended) (map Request_of handed))
    (finished : (fed : List ℕ) (handed : List Request) (how : Ending) → Parses handed how true fed → asked fed true ≡ asked_of handed how) (ports : ℕ) (s : Sight) (d : DeskValue) where
  -- where no end was refused, its requests are the first that were asked
  first_asked : (c : Cause) → Fits ports s d (Over c) → d.talk.refused ≡ None → read_by d.talk ≡ d.talk.kept.drawn → StartsWith (asked (all_bytes d.talk.outs) true) d.talk.kept.drawn
  first_asked c f none even =
      let bare : map Request_of d.talk.handed ≡ d.talk.kept.drawn = sym (append-nil (map Request_of d.talk.handed)) ∙ ap (λ (r : Option ℕ). map Request_of d.talk.handed ++ refusal r) (sym none) ∙ even in
      subst (StartsWith (asked (all_bytes d.talk.outs) true)) bare (begins (all_bytes d.talk.outs) d.talk.handed d.decoder true f.keeps.read)

  all_plain : (how : Ending) → asked_of d.talk.handed how ≡ map Request_of d.talk.handed ++ [] → Parses d.talk.handed how true (all_bytes d.talk.outs) → d.talk.refused ≡ None → read_by d.talk ≡ d.talk.kept.drawn → asked (all_bytes d.talk.outs) true ≡ d.talk.kept.drawn
  all_plain how is parses none even = finished (all_bytes d.talk.outs) d.talk.handed how parses ∙ is ∙ ap (λ (r : Option ℕ). map Request_of d.talk.handed ++ refusal r) (sym none) ∙ even

  all_refused : (code : ℕ) → Parses d.talk.handed (Refused code) true (all_bytes d.talk.outs) → d.talk.refused ≡ Some code → read_by d.talk ≡ d.talk.kept.drawn → asked (all_bytes d.talk.outs) true ≡ d.talk.kept.drawn
  all_refused code parses some even = finished (all_bytes d.talk.outs) d.talk.handed (Refused code) parses ∙ ap (λ (r : Option ℕ). map Request_of d.talk.handed ++ refusal r) (sym some) ∙ even

  pub all_asked : (c : Cause) → Fits ports s d (Over c) → IsDone c → (asked (all_bytes d.talk.outs) true ≡ d.talk.kept.drawn) × (length d.talk.kept.replies ≡ length d.talk.kept.drawn)
  all_asked cause.Clean f done = let g = f.agrees in (all_plain Clean refl g.4 g.5 g.3.0, g.3.1)
  all_asked cause.Bye f done = let g = f.agrees in (all_plain EndFrame refl g.4 g.5 g.3.0, g.3.1)
  all_asked (cause.Refused code) f done = let g = f.agrees in (all_refused code g.4 g.5 g.3.0, g.3.1)
  all_asked cause.ReadFault f done = absurd done
  all_asked cause.WriteFault f done = absurd done
  all_asked cause.LogFault f done = absurd done
  all_asked cause.NoMemory f done = absurd done
  all_asked cause.Lost f done = absurd done

  itself : (a b : List Asked) → a ≡ b → StartsWith a b
  itself a b e = ([], e ∙ sym (append-nil b))

  -- where one was, too
  some_asked : (r : Option ℕ) → d.talk.refused ≡ r → (c : Cause) → Fits ports s d (Over c) → read_by d.talk ≡ d.talk.kept.drawn → StartsWith (asked (all_bytes d.talk.outs) true) d.talk.kept.drawn
  some_asked None e c f even = first_asked c f e even
  some_asked (Some code) e c f even = itself _ _ (all_refused code (subst (λ (r : Option ℕ). IfSome r (λ x. Parses d.talk.handed (Refused x) true (all_bytes d.talk.outs))) e f.keeps.refusal) e even)

  pub begins_asked : (c : Cause) → Fits ports s d (Over c) → IsKnown c → StartsWith (asked (all_bytes d.talk.outs) true) d.talk.kept.drawn
  begins_asked cause.Clean f known = itself _ _ (all_asked cause.Clean f tt).0
  begins_asked cause.Bye f known = itself _ _ (all_asked cause.Bye f tt).0
  begins_asked (cause.Refused code) f known = itself _ _ (all_asked (cause.Refused code) f tt).0
  begins_asked cause.ReadFault f known = first_asked cause.ReadFault f f.agrees.4 f.agrees.3.0
  begins_asked cause.WriteFault f known = some_asked d.talk.refused refl cause.WriteFault f f.agrees.3.0
  begins_asked cause.LogFault f known = first_asked cause.LogFault f f.agrees.4 f.agrees.3.0
  begins_asked cause.NoMemory f known = first_asked cause.NoMemory f f.agrees.4 f.agrees.3.0
  begins_asked cause.Lost f known = absurd known

even_of : (ports : ℕ) (s : Sight) (d : DeskValue) (c : Cause) → Fits ports s d (Over c) → IsKnown c → read_by d.talk ≡ d.talk.kept.drawn
even_of ports s d cause.Clean f known = f.agrees.3.0
even_of ports s d cause.Bye f known = f.agrees.3.0
even_of ports s d (cause.Refused code) f known = f.agrees.3.0
even_of ports s d cause.ReadFault f known = f.agrees.3.0
even_of ports s d cause.WriteFault f known = f.agrees.3.0
even_of ports s d cause.LogFault f known = f.agrees.3.0
even_of ports s d cause.NoMemory f known = f.agrees.3.0
even_of ports s d cause.Lost f known = absurd known

-- What it asked where its input did not end: that is asked by the text as far as it was fed.
module _ (begins : (fed : List ℕ) (handed : List Request) (d : Decoding) (ended : Bool) → HasRead fed handed d → StartsWith (asked fed ended) (map Request_of handed))
    (stopped : (fed : List ℕ) (handed : List Request) (d : Decoding) (ended : Bool) (code : ℕ) → HasRead fed handed d → d.stop ≡ Some (step.Refused code) → asked fed ended ≡ map Request_of handed ++ Refused_end code ∷ [])
    (ports : ℕ) (s : Sight) (d : DeskValue) (c : Cause) (f : Fits ports s d (Over c)) (even : read_by d.talk ≡ d.talk.kept.drawn) (not_yet : LastCame IsEnd d.talk.outs → ⊥) where
  open_by : (r : Option ℕ) → d.talk.refused ≡ r → StartsWith (asked (all_bytes d.talk.outs) false) d.talk.kept.drawn
  open_by None e =
      let bare : map Request_of d.talk.handed ≡ d.talk.kept.drawn = sym (append-nil (map Request_of d.talk.handed)) ∙ ap (λ (r : Option ℕ). map Request_of d.talk.handed ++ refusal r) (sym e) ∙ even in
      subst (StartsWith (asked (all_bytes d.talk.outs) false)) bare (begins (all_bytes d.talk.outs) d.talk.handed d.decoder false f.keeps.read)
  open_by (Some code) e =
      let bare : map Request_of d.talk.handed ++ Refused_end code ∷ [] ≡ d.talk.kept.drawn = ap (λ (r : Option ℕ). map Request_of d.talk.handed ++ refusal r) (sym e) ∙ even in
      elim (subst (λ (r : Option ℕ). IfSome r (λ x. IsFinal x d)) e f.keeps.final) [
        | inl stop ↦ ([], stopped (all_bytes d.talk.outs) d.talk.handed d.decoder false code f.keeps.read stop ∙ bare ∙ sym (append-nil d.talk.kept.drawn))
        | inr came ↦ absurd (not_yet came)
      ]

  pub open_asked : StartsWith (asked (all_bytes d.talk.outs) false) d.talk.kept.drawn
  open_asked = open_by d.talk.refused refl

pub asked_open :
    ((fed : List ℕ) (handed : List Request) (d : Decoding) (ended : Bool) → HasRead fed handed d → StartsWith (asked fed ended) (map Request_of handed))
    → ((fed : List ℕ) (handed : List Request) (d : Decoding) (ended : Bool) (code : ℕ) → HasRead fed handed d → d.stop ≡ Some (step.Refused code) → asked fed ended ≡ map Request_of handed ++ Refused_end code ∷ [])
    → (ports : ℕ) (s : Sight) (d : DeskValue) (c : Cause) → Fits ports s d (Over c) → IsKnown c → (LastCame IsEnd d.talk.outs → ⊥) → StartsWith (asked (all_bytes d.talk.outs) false) d.talk.kept.drawn
asked_open begins stopped ports s d c f known not_yet = open_asked begins stopped ports s d c f (even_of ports s d c f known) not_yet

pub none_out : (ports : ℕ) (s : Sight) (d : DeskValue) (c : Cause) → Fits ports s d (Over c) → IsKnown c → s.out ≡ 0
none_out ports s d cause.Clean f known = f.agrees.2
none_out ports s d cause.Bye f known = f.agrees.2
none_out ports s d (cause.Refused code) f known = f.agrees.2
none_out ports s d cause.ReadFault f known = f.agrees.2
none_out ports s d cause.WriteFault f known = f.agrees.2
none_out ports s d cause.LogFault f known = f.agrees.2
none_out ports s d cause.NoMemory f known = f.agrees.2
none_out ports s d cause.Lost f known = absurd known

pub none_due : (ports : ℕ) (s : Sight) (d : DeskValue) (c : Cause) → Fits ports s d (Over c) → IsKnown c → s.due ≡ nothing_due
none_due ports s d cause.Clean f known = f.agrees.6
none_due ports s d cause.Bye f known = f.agrees.6
none_due ports s d (cause.Refused code) f known = f.agrees.6
none_due ports s d cause.ReadFault f known = f.agrees.5
none_due ports s d cause.WriteFault f known = f.agrees.4
none_due ports s d cause.LogFault f known = f.agrees.5
none_due ports s d cause.NoMemory f known = f.agrees.5
none_due ports s d cause.Lost f known = absurd known

taken_all : (ports : ℕ) (s : Sight) (d : DeskValue) (c : Cause) → Fits ports s d (Over c) → IsKnown c → AllTaken s d
taken_all ports s d cause.Clean f known = f.agrees.0
taken_all ports s d cause.Bye f known = f.agrees.0
taken_all ports s d (cause.Refused code) f known = f.agrees.0
taken_all ports s d cause.ReadFault f known = f.agrees.0
taken_all ports s d cause.WriteFault f known = f.agrees.0
taken_all ports s d cause.LogFault f known = f.agrees.0
taken_all ports s d cause.NoMemory f known = f.agrees.0
taken_all ports s d cause.Lost f known = absurd known

-- What it popped.
head_is : {x y : ℕ} {xs ys : List ℕ} → x ∷ xs ≡ y ∷ ys → x ≡ y
head_is e = cc

tail_is : {x y : ℕ} {xs ys : List ℕ} → x ∷ xs ≡ y ∷ ys → xs ≡ ys
tail_is e = cc

rise_by : {X Y : Type 0} (n : ℕ) (xs : List (ℕ × X)) (ys : List (ℕ × Y)) → places xs ≡ places ys → RiseFrom n xs → RiseFrom n ys
rise_by n [] [] e r = tt
rise_by n [] (y ∷ ys) e r = absurd (let l = ap length e in omega arith)
rise_by n (x ∷ xs) [] e r = tt
rise_by n (x ∷ xs) (y ∷ ys) e r = let h : x.0 ≡ y.0 = head_is e in (subst (λ (m : ℕ). n ≤ m) h r.0, rise_by (y.0 + 1) xs ys (tail_is e) (subst (λ (m : ℕ). RiseFrom (m + 1) xs) h r.1))

place_of : {Y : Type 0} (p : ℕ) (ys : List (ℕ × Y)) → Among p (places ys) → IsPlaceOf p ys
place_of p [] h = h
place_of p (y ∷ ys) (inl e) = inl e
place_of p (y ∷ ys) (inr h) = inr (place_of p ys h)

each_of : {X : Type 0} (P Q : X → Type 0) (xs : List X) → ((x : X) → P x → Q x) → AllByRecursion P xs → Each Q xs
each_of P Q [] f h = tt
each_of P Q (x ∷ xs) f h = (f x h.0, each_of P Q xs f h.1)

pub popped_all : (ports : ℕ) (s : Sight) (d : DeskValue) (c : Cause) (end : Trail RxOp RxTold) → Fits ports s d (Over c) → IsKnown c → Behind end s.rx.known
    → ((p max : ℕ) → slice_get end.heard p ≡ Some (Pop max) → Among p (places s.rx.submitted)) → Popped end.heard end.told d.talk.outs
popped_all ports s d c end f known behind own =
    let r = f.keeps.reads in
    let all = taken_all ports s d c f known in
    record {
      rise = rise_by 0 s.rx.submitted d.talk.outs all r.rises;
      admitted = each_of (IsTaken s.rx) (λ (o : ℕ × RxOut). RxAdmits end.heard end.told o.0 o.1) d.talk.outs (λ o h. (taken_grows s.rx end (record s.rx { known = end }) o refl behind h).0) r.taken;
      each = λ p max at. place_of p d.talk.outs (subst (Among p) all (own p max at));
    }

-- What it wrote.
all_of : {X : Type 0} (P : X → Type 0) (xs : List X) (x : X) → AllByRecursion P xs → Among x xs → P x
all_of P [] x h a = absurd a
all_of P (y ∷ xs) x h (inl e) = subst P (sym e) h.0
all_of P (y ∷ xs) x h (inr a) = all_of P xs x h.1 a

among_front : (p l : ℕ) (xs : List ℕ) → Among p (xs ++ l ∷ []) → Among p xs ⊎ (p ≡ l)
among_front p l [] (inl e) = inr e
among_front p l [] (inr a) = absurd a
among_front p l (x ∷ xs) (inl e) = inl (inl e)
among_front p l (x ∷ xs) (inr a) = more (among_front p l xs a)
  where
    more : Among p xs ⊎ (p ≡ l) → Among p (x ∷ xs) ⊎ (p ≡ l)
    more (inl a) = inl (inr a)
    more (inr e) = inr e

low_of : {X : Type 0} (n q : ℕ) (xs : List (ℕ × X)) → RiseFrom n xs → Among q (places xs) → n ≤ q
low_of n q [] r a = absurd a
low_of n q (x ∷ xs) r (inl e) = let h = r.0 in omega arith
low_of n q (x ∷ xs) r (inr a) = let h = r.0 in let m = low_of (x.0 + 1) q xs r.1 a in omega arith

-- the last of rising places is the greatest
last_most : {X : Type 0} (n q l : ℕ) (xs : List (ℕ × X)) (ps : List ℕ) → RiseFrom n xs → places xs ≡ ps ++ l ∷ [] → Among q (places xs) → q ≤ l
last_most n q l [] ps r e a = absurd a
last_most n q l (x ∷ xs) [] r e (inl s) = let h : x.0 ≡ l = head_is e in omega arith
last_most n q l (x ∷ xs) [] r e (inr a) = absurd (subst (Among q) (tail_is e) a)
last_most n q l (x ∷ xs) (p ∷ ps) r e (inl s) = let m = low_of (x.0 + 1) l xs r.1 (subst (Among l) (sym (tail_is e)) (among_last ps l)) in omega arith
last_most n q l (x ∷ xs) (p ∷ ps) r e (inr a) = last_most (x.0 + 1) q l xs ps r.1 (tail_is e) a

module _ (ports : ℕ) (s : Sight) (d : DeskValue) (end : Trail TxOp ℕ) (behind : Behind end s.tx.known) (own : (p : ℕ) (sga : List HalfValue) → slice_get end.heard p ≡ Some (Push sga) → Among p (places s.tx.submitted)) where
  -- what it knows written is so at the end
  told_written : AllByRecursion (IsWritten s.tx) d.talk.written → (p : ℕ) → Among p d.talk.written → TxAdmits end.heard end.told p Pushed
  told_written all p a = (written_grows s.tx end (record s.tx { known = end }) p refl behind (all_of (IsWritten s.tx) d.talk.written p all a)).0

  settled : AllByRecursion (IsWritten s.tx) d.talk.written → places s.tx.submitted ≡ d.talk.written → WroteAll end.heard end.told
  settled all e p sga at = told_written all p (subst (Among p) e (own p sga at))

  from_all : WroteAll end.heard end.told → WroteBefore end.heard end.told
  from_all w p q sga next less at later = w p sga at

  but_last : AllByRecursion (IsWritten s.tx) d.talk.written → RiseFrom 0 s.tx.submitted → (l : ℕ) → places s.tx.submitted ≡ d.talk.written ++ l ∷ [] → WroteBefore end.heard end.told
  but_last all rises l e p q sga next less at later =
      let most = last_most 0 q l s.tx.submitted d.talk.written rises e (own q next later) in
      elim (among_front p l d.talk.written (subst (Among p) e (own p sga at))) [ inl a ↦ told_written all p a | inr same ↦ absurd (omega arith) ]

  pub wrote_all : (c : Cause) → Fits ports s d (Over c) → IsDone c → WroteAll end.heard end.told
  wrote_all cause.Clean f done = settled f.keeps.writes.written f.agrees.1
  wrote_all cause.Bye f done = settled f.keeps.writes.written f.agrees.1
  wrote_all (cause.Refused code) f done = settled f.keeps.writes.written f.agrees.1
  wrote_all cause.ReadFault f done = absurd done
  wrote_all cause.WriteFault f done = absurd done
  wrote_all cause.LogFault f done = absurd done
  wrote_all cause.NoMemory f done = absurd done
  wrote_all cause.Lost f done = absurd done

  pub wrote_before : (c : Cause) → Fits ports s d (Over c) → IsKnown c → WroteBefore end.heard end.told
  wrote_before cause.Clean f known = from_all (settled f.keeps.writes.written f.agrees.1)
  wrote_before cause.Bye f known = from_all (settled f.keeps.writes.written f.agrees.1)
  wrote_before (cause.Refused code) f known = from_all (settled f.keeps.writes.written f.agrees.1)
  wrote_before cause.ReadFault f known = from_all (settled f.keeps.writes.written f.agrees.1)
  wrote_before cause.WriteFault f known = but_last f.keeps.writes.written f.keeps.writes.rises f.agrees.1.0 f.agrees.1.1
  wrote_before cause.LogFault f known = from_all (settled f.keeps.writes.written f.agrees.1)
  wrote_before cause.NoMemory f known = from_all (settled f.keeps.writes.written f.agrees.1)
  wrote_before cause.Lost f known = absurd known
