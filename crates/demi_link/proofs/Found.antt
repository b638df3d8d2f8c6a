-- What fits once the decoder handed a request out.
use Rattle.std.specs.Prelude.{◌≡◌, ℕ, List, [], ◌∷◌, ◌++◌, Option, Some, None, IfSome, map, refl, false, true}
use Rattle.std.proofs.Common.{sym, ◌∙◌, ap, subst, inl, append-nil}
use Rattle.demi_frame.specs.Decoding.{Decoding}
use Rattle.demi_frame.specs.Reading.{HasRead}
use Rattle.demi_frame.specs.declared.decoder.Step.TheVariants as step
use Rattle.demi_spec.specs.Request.{Request, Put, Get, End}
use Rattle.demi_spec.specs.Input.{Asked, Ends, Open, Request_of, Refused_end, front}
use Rattle.demi_streamq.specs.RxKept.{all_bytes}
use Rattle.demi_link.specs.Fitting.{Fits, HasRoom, IsHungry, Keeps}
use Rattle.demi_link.specs.Noting.{after_found}
use Rattle.demi_link.specs.Sights.{Sight}
use Rattle.demi_link.specs.Talks.{DeskValue, TalkValue, refusal}
use Rattle.demi_link.specs.declared.phase.Kind.TheVariants as kind
use Rattle.demi_link.specs.declared.phase.Phase.TheVariants.{Reading, Asking}
use Rattle.demi_link.proofs.Dues.{due_found, due_now}
use Rattle.demi_link.proofs.Frames.{IsGetOut, IsPutOut, read_refused}
use Rattle.demi_link.proofs.Lists.{map_next}

-- the requests that were read, and one more
read_more : (handed : List Request) (refused : Option ℕ) (drawn : List Asked) (r : Request) → refused ≡ None → map Request_of handed ++ refusal refused ≡ drawn → map Request_of (handed ++ r ∷ []) ++ refusal refused ≡ drawn ++ Request_of r ∷ []
read_more handed refused drawn r none all =
    let bare : map Request_of handed ≡ drawn = sym (append-nil (map Request_of handed)) ∙ ap (λ (o : Option ℕ). map Request_of handed ++ refusal o) (sym none) ∙ all in
    ap (λ (o : Option ℕ). map Request_of (handed ++ r ∷ []) ++ refusal o) none ∙ append-nil (map Request_of (handed ++ r ∷ [])) ∙ map_next Request_of handed r ∙ ap (λ (l : List Asked). l ++ Request_of r ∷ []) bare

read_last : (handed : List Request) (refused : Option ℕ) (drawn : List Asked) (code : ℕ) → refused ≡ None → map Request_of handed ++ refusal refused ≡ drawn → map Request_of handed ++ Refused_end code ∷ [] ≡ drawn ++ Refused_end code ∷ []
read_last handed refused drawn code none all =
    let bare : map Request_of handed ≡ drawn = sym (append-nil (map Request_of handed)) ∙ ap (λ (o : Option ℕ). map Request_of handed ++ refusal o) (sym none) ∙ all in
    ap (λ (l : List Asked). l ++ Refused_end code ∷ []) bare

none_refused : (refused : Option ℕ) (P : ℕ → Type 0) → refused ≡ None → IfSome refused P
none_refused refused P e = subst (λ (r : Option ℕ). IfSome r P) (sym e) tt

module _ (ports : ℕ) (s : Sight) (d : DeskValue) (decoder : Decoding) (f : Fits ports s d Reading) where
  -- what it keeps once the decoder handed one more request out
  keeps_found : (new : List Request) (request : Asked) → HasRead (all_bytes d.talk.outs) (d.talk.handed ++ new) decoder → Keeps s (record d { decoder = decoder; talk = record d.talk { handed = d.talk.handed ++ new; request = request } })
  keeps_found new request h = let k = f.keeps in record {
    own = k.own;
    kept = k.kept;
    fits = k.fits;
    number = k.number;
    index = k.index;
    reads = record { pops = k.reads.pops; rises = k.reads.rises; below = k.reads.below; taken = k.reads.taken };
    writes = record { pushes = k.writes.pushes; texts = k.writes.texts; rises = k.writes.rises; below = k.writes.below; written = k.writes.written };
    read = h;
    refusal = none_refused d.talk.refused _ f.agrees.0.0;
    final = none_refused d.talk.refused _ f.agrees.0.0;
    due = λ before after x e. due_found d.talk.handed new d.talk.written before (k.due before after x e);
  }

  pub hungry_next : HasRoom d → HasRead (all_bytes d.talk.outs) d.talk.handed decoder → decoder.stop ≡ None → decoder.hungry ≡ true → front false decoder.rest ≡ Ends Open → IsHungry ports s (record d { decoder = decoder })
  hungry_next room h stop hungry is_open = let g = f.agrees in let k = f.keeps in record {
    reading = record {
      agrees = ((g.0.0, stop, g.0.2), g.1, g.2, g.3, g.4, g.5);
      worker = f.worker;
      keeps = record { own = k.own; kept = k.kept; fits = k.fits; number = k.number; index = k.index; reads = k.reads; writes = k.writes; read = h; refusal = k.refusal; final = none_refused d.talk.refused _ g.0.0; due = k.due };
    };
    room = room;
    hungry = hungry;
    due = due_now s d decoder g.0.0 g.0.2 g.1 g.3 k.writes h stop is_open;
  }

  pub found_put : (z : TalkValue) → HasRoom d → IsPutOut d.decoder decoder (all_bytes d.talk.outs) d.talk.handed → z ≡ after_found d.talk decoder.last → Fits ports s (record d { decoder = decoder; talk = z }) (Asking kind.Put)
  found_put z room out is =
      let r : Request = Put out.key out.value in
      let g = f.agrees in
      let now : z ≡ record d.talk { handed = d.talk.handed ++ r ∷ []; request = Request_of r } = is ∙ ap (after_found d.talk) out.last in
      subst (λ (y : TalkValue). Fits ports s (record d { decoder = decoder; talk = y }) (Asking kind.Put)) (sym now) (record {
        agrees = (((g.0.0, out.stop, g.0.2), (out.key, out.value, refl, out.last, out.fits)), room, (read_more d.talk.handed d.talk.refused d.talk.kept.drawn r g.0.0 g.1.0, g.1.1), g.2, g.3, g.4, g.5);
        worker = f.worker;
        keeps = keeps_found (r ∷ []) (Request_of r) out.read;
      })

  pub found_get : (z : TalkValue) → HasRoom d → IsGetOut d.decoder decoder (all_bytes d.talk.outs) d.talk.handed → z ≡ after_found d.talk decoder.last → Fits ports s (record d { decoder = decoder; talk = z }) (Asking kind.Get)
  found_get z room out is =
      let r : Request = Get out.key in
      let g = f.agrees in
      let now : z ≡ record d.talk { handed = d.talk.handed ++ r ∷ []; request = Request_of r } = is ∙ ap (after_found d.talk) out.last in
      subst (λ (y : TalkValue). Fits ports s (record d { decoder = decoder; talk = y }) (Asking kind.Get)) (sym now) (record {
        agrees = (((g.0.0, out.stop, g.0.2), (out.key, refl, out.last, out.fits)), room, (read_more d.talk.handed d.talk.refused d.talk.kept.drawn r g.0.0 g.1.0, g.1.1), g.2, g.3, g.4, g.5);
        worker = f.worker;
        keeps = keeps_found (r ∷ []) (Request_of r) out.read;
      })

  pub found_end : (z : TalkValue) → HasRoom d → HasRead (all_bytes d.talk.outs) (d.talk.handed ++ End ∷ []) decoder → decoder.stop ≡ Some step.End → z ≡ record d.talk { handed = d.talk.handed ++ End ∷ []; request = Request_of End }
      → Fits ports s (record d { decoder = decoder; talk = z }) (Asking kind.Bye)
  found_end z room read stop is = let g = f.agrees in
      subst (λ (y : TalkValue). Fits ports s (record d { decoder = decoder; talk = y }) (Asking kind.Bye)) (sym is) (record {
        agrees = ((refl, g.0.0, stop), room, (read_more d.talk.handed d.talk.refused d.talk.kept.drawn End g.0.0 g.1.0, g.1.1), g.2, g.3, g.4, g.5);
        worker = f.worker;
        keeps = keeps_found (End ∷ []) (Request_of End) read;
      })

  pub found_refused : (z : TalkValue) (code : ℕ) → HasRoom d → HasRead (all_bytes d.talk.outs) d.talk.handed decoder → decoder.stop ≡ Some (step.Refused code) → z ≡ record d.talk { refused = Some code; request = Refused_end code }
      → Fits ports s (record d { decoder = decoder; talk = z }) (Asking (kind.Refused code))
  found_refused z code room read stop is = let g = f.agrees in let k = f.keeps in
      subst (λ (y : TalkValue). Fits ports s (record d { decoder = decoder; talk = y }) (Asking (kind.Refused code))) (sym is) (record {
        agrees = ((refl, refl), room, (read_last d.talk.handed d.talk.refused d.talk.kept.drawn code g.0.0 g.1.0, g.1.1), g.2, g.3, g.4, g.5);
        worker = f.worker;
        keeps = record {
          own = k.own;
          kept = k.kept;
          fits = k.fits;
          number = k.number;
          index = k.index;
          reads = record { pops = k.reads.pops; rises = k.reads.rises; below = k.reads.below; taken = k.reads.taken };
          writes = record { pushes = k.writes.pushes; texts = k.writes.texts; rises = k.writes.rises; below = k.writes.below; written = k.writes.written };
          read = read;
          refusal = read_refused decoder (all_bytes d.talk.outs) d.talk.handed code stop read;
          final = inl stop;
          due = k.due;
        };
      })
