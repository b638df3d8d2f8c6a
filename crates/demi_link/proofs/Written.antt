-- What fits once a push came to its outcome.
use Rattle.std.specs.Prelude.{◌≡◌, ℕ, ◌-◌, [], ◌∷◌, ◌++◌, Option, Some, None, IfSome, true}
use Rattle.std.proofs.Common.{sym, ◌∙◌, ap, arith, subst}
use Rattle.demi_spec.specs.Input.{Refused, Parses}
use Rattle.demi_streamq.specs.RxKept.{all_bytes}
use Rattle.demi_streamq.specs.declared.tx_op.TxOp.{TxOp}
use Rattle.demi_streamq.specs.declared.tx_out.TxOut.{TxOut}
use Rattle.demi_streamq.specs.declared.tx_out.TxOut.TheVariants.{Pushed}
use Rattle.demi_link.specs.Causes.{EndsFor}
use Rattle.demi_link.specs.Events.{TxCame}
use Rattle.demi_link.specs.Heard.{IsWriteFault}
use Rattle.demi_link.specs.Fitting.{Fits, IsBehind, IsOver, Keeps, Wrote, places}
use Rattle.demi_link.specs.Sights.{Due, Side, Sight, nothing_due}
use Rattle.demi_link.specs.Talks.{DeskValue, TalkValue}
use Rattle.demi_link.specs.declared.phase.Cause.{Cause}
use Rattle.demi_link.specs.declared.phase.Cause.TheVariants as cause
use Rattle.demi_link.specs.declared.phase.Phase.TheVariants.{Over, Reading}
use Rattle.demi_link.proofs.Dues.{due_written}
use Rattle.demi_link.proofs.Frames.{read_bye}
use Rattle.demi_link.proofs.Sides.{writes_tried, writes_written}

module _ (ports : ℕ) (s : Sight) (d : DeskValue) (place : ℕ) (behind : Option Cause) (out : TxOut) (w : Wrote ports s d place behind out) where
  abbrev there : Sight
  there = record w.before { tx = s.tx; due = record w.before.due { tx = w.before.due.tx - 1 } }

  own_place : w.fits.agrees.4.place ≡ place
  own_place = w.redeems.own w.fits.agrees.4.place w.fits.agrees.4.said w.fits.agrees.4.here

  pub all_but_last : places s.tx.submitted ≡ d.talk.written ++ place ∷ []
  all_but_last = ap (λ (x : Side TxOp ℕ). places x.submitted) w.redeems.side ∙ w.fits.agrees.4.last ∙ ap (λ (n : ℕ). d.talk.written ++ n ∷ []) own_place

  pub none_due : record w.before.due { tx = w.before.due.tx - 1 } ≡ nothing_due
  none_due = ap (λ (x : Due). record x { tx = x.tx - 1 }) w.fits.agrees.6

  keeps_tried : Keeps there d
  keeps_tried = let k = w.fits.keeps in record {
    own = k.own;
    kept = k.kept;
    fits = k.fits;
    number = k.number;
    index = k.index;
    reads = k.reads;
    writes = writes_tried w.before.tx s.tx d.talk place w.token.token.0 out k.writes w.redeems;
    read = k.read;
    refusal = k.refusal;
    final = k.final;
    due = k.due;
  }

  -- a write failed
  pub over_write : IsWriteFault out → Fits ports s d (Over cause.WriteFault)
  over_write failed = let g = w.fits.agrees in subst (λ (x : Sight). Fits ports x d (Over cause.WriteFault)) (sym w.is) (record {
    agrees = (g.2, (place, all_but_last, record { outcome = out; admitted = w.redeems.admitted; below = w.redeems.below; is = failed }), g.5, g.1, none_due);
    worker = w.fits.worker;
    keeps = keeps_tried;
  })

  -- or the link is lost
  pub over_lost : Fits ports s d (Over cause.Lost)
  over_lost = subst (λ (x : Sight). Fits ports x d (Over cause.Lost)) (sym w.is) (record { agrees = tt; worker = w.fits.worker; keeps = keeps_tried })

abbrev pub talk_written : TalkValue → ℕ → TalkValue
talk_written k place = record k { written = k.written ++ place ∷ [] }

abbrev pub desk_written : DeskValue → ℕ → DeskValue
desk_written d place = record d { talk = talk_written d.talk place }

module _ (ports : ℕ) (s : Sight) (d : DeskValue) (place : ℕ) where
  keeps_written : (behind : Option Cause) → (w : Wrote ports s d place behind Pushed) → Keeps (record w.before { tx = s.tx; due = record w.before.due { tx = w.before.due.tx - 1 } }) (desk_written d place)
  keeps_written behind w = let k = w.fits.keeps in record {
    own = k.own;
    kept = k.kept;
    fits = k.fits;
    number = k.number;
    index = k.index;
    reads = record { pops = k.reads.pops; rises = k.reads.rises; below = k.reads.below; taken = k.reads.taken };
    writes = writes_written w.before.tx s.tx d.talk place w.token.token.0 k.writes w.redeems;
    read = k.read;
    refusal = k.refusal;
    final = k.final;
    due = λ before after x e. due_written d.talk.handed d.talk.written place before (k.due before after x e);
  }

  -- it goes on
  pub written_on : Wrote ports s d place None Pushed → Fits ports s (desk_written d place) Reading
  written_on w = let g = w.fits.agrees in subst (λ (x : Sight). Fits ports x (desk_written d place) Reading) (sym w.is) (record {
    agrees = (g.0, g.1, g.2, all_but_last ports s d place None Pushed w, g.5, none_due ports s d place None Pushed w);
    worker = w.fits.worker;
    keeps = keeps_written None w;
  })

  over_by : (c : Cause) → (w : Wrote ports s d place (Some c) Pushed) → IsOver (record w.before { tx = s.tx; due = record w.before.due { tx = w.before.due.tx - 1 } }) (desk_written d place) c
  over_by cause.Clean w = absurd w.fits.agrees.0
  over_by cause.Bye w = let g = w.fits.agrees in (g.2, all_but_last ports s d place (Some cause.Bye) Pushed w, g.5, g.1, read_bye d.decoder (all_bytes d.talk.outs) d.talk.handed g.0.2 w.fits.keeps.read, g.0.1, none_due ports s d place (Some cause.Bye) Pushed w)
  over_by (cause.Refused code) w = let g = w.fits.agrees in
      (g.2, all_but_last ports s d place (Some (cause.Refused code)) Pushed w, g.5, g.1, subst (λ (r : Option ℕ). IfSome r (λ x. Parses d.talk.handed (Refused x) true (all_bytes d.talk.outs))) g.0.1 w.fits.keeps.refusal, g.0.1, none_due ports s d place (Some (cause.Refused code)) Pushed w)
  over_by cause.ReadFault w = absurd w.fits.agrees.0
  over_by cause.WriteFault w = absurd w.fits.agrees.0
  over_by cause.LogFault w = absurd w.fits.agrees.0
  over_by cause.NoMemory w = absurd w.fits.agrees.0
  over_by cause.Lost w = absurd w.fits.agrees.0

  -- or it is over
  pub written_over : (c : Cause) → Wrote ports s d place (Some c) Pushed → Fits ports s (desk_written d place) (Over c)
  written_over c w = subst (λ (x : Sight). Fits ports x (desk_written d place) (Over c)) (sym w.is) (record {
    agrees = over_by c w;
    worker = w.fits.worker;
    keeps = keeps_written (Some c) w;
  })

-- only a bye or a refusal ends a link there
pub behind_ends : (d : DeskValue) (c : Cause) → IsBehind (Some c) d → EndsFor c (TxCame Pushed)
behind_ends d cause.Clean h = absurd h
behind_ends d cause.Bye h = tt
behind_ends d (cause.Refused code) h = tt
behind_ends d cause.ReadFault h = absurd h
behind_ends d cause.WriteFault h = absurd h
behind_ends d cause.LogFault h = absurd h
behind_ends d cause.NoMemory h = absurd h
behind_ends d cause.Lost h = absurd h
