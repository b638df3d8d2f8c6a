-- What fits stays so where nothing of it changes.
use Rattle.std.specs.Prelude.{◌≡◌, ℕ, ◌++◌, List, [], ◌∷◌, Option, Some, None}
use Rattle.std.proofs.Common.{sym, ◌∙◌, ap, subst, inl, inr, append-nil, append_assoc}
use Rattle.demi_port_core.specs.Trails.{StartsWith}
use Rattle.demi_link.specs.Causes.{Caused, EndsFor, IsCause, LastIs}
use Rattle.demi_link.specs.Dues.{AllMore}
use Rattle.demi_link.specs.Events.{Adds, Event}
use Rattle.demi_link.specs.Fitting.{Fits, IsBehind}
use Rattle.demi_link.specs.Sights.{Sight}
use Rattle.demi_link.specs.Talks.{DeskValue, TalkValue}
use Rattle.demi_link.specs.declared.phase.Cause.{Cause}
use Rattle.demi_link.specs.declared.phase.Cause.TheVariants as cause
use Rattle.demi_link.specs.declared.phase.Phase.{Phase}
use Rattle.demi_link.specs.declared.phase.Phase.TheVariants.{Reading, Popping, Asking, Holding, Waiting, Replying, Sending, Pushing, Over, Between}

-- one step more on as many ports
pub arrive : (p q : ℕ) (s t : Sight) (d : DeskValue) (k : TalkValue) (ph ps : Phase) → q ≡ p → t ≡ s → k ≡ d.talk → ps ≡ ph → Fits p s d ph → Fits q t (record d { talk = k }) ps
arrive p q s t d k ph ps same_ports same_sight same_talk same_phase f =
    subst (λ (n : ℕ). Fits n t (record d { talk = k }) ps) (sym same_ports)
    (subst (λ (x : Sight). Fits p x (record d { talk = k }) ps) (sym same_sight)
    (subst (λ (x : TalkValue). Fits p s (record d { talk = x }) ps) (sym same_talk)
    (subst (λ (x : Phase). Fits p s d x) (sym same_phase) f)))

-- The last event is the cause, if it is that of a later part.
pub last_of : (P : Event → Type 0) (before after : List Event) (e : Event) → Adds before after e → P e → LastIs P before after
last_of P before after e adds is = record { more = []; last = e; all = adds ∙ ap (λ (x : List Event). x ++ e ∷ []) (sym (append-nil before)); is = is }

pub since : (P : Event → Type 0) (a b c : List Event) → StartsWith b a → LastIs P b c → LastIs P a c
since P a b c s l = record {
  more = s.0 ++ l.more;
  last = l.last;
  all = l.all ∙ ap (λ (x : List Event). x ++ l.more ++ l.last ∷ []) s.1 ∙ ap (λ (x : List Event). x ++ l.last ∷ []) (append_assoc a s.0 l.more);
  is = l.is;
}

pub caused_since : (a b c : List Event) (index : ℕ) (phase : Phase) → StartsWith b a → Caused b c index phase → Caused a c index phase
caused_since a b c index Reading s l = since (IsCause Reading) a b c s l
caused_since a b c index (Popping token) s l = since (IsCause (Popping token)) a b c s l
caused_since a b c index (Asking kind) s l = since (IsCause (Asking kind)) a b c s l
caused_since a b c index (Holding half asked) s l = since (IsCause (Holding half asked)) a b c s l
caused_since a b c index (Waiting token sequence half) s l = since (IsCause (Waiting token sequence half)) a b c s l
caused_since a b c index (Replying draft) s l = since (IsCause (Replying draft)) a b c s l
caused_since a b c index (Sending sga behind) s l = since (IsCause (Sending sga behind)) a b c s l
caused_since a b c index (Pushing token behind) s l = since (IsCause (Pushing token behind)) a b c s l
caused_since a b c index (Over cause.Clean) s l = since (IsCause (Over cause.Clean)) a b c s l
caused_since a b c index (Over cause.Bye) s l = since (IsCause (Over cause.Bye)) a b c s l
caused_since a b c index (Over (cause.Refused code)) s l = since (IsCause (Over (cause.Refused code))) a b c s l
caused_since a b c index (Over cause.ReadFault) s l = since (IsCause (Over cause.ReadFault)) a b c s l
caused_since a b c index (Over cause.WriteFault) s l = since (IsCause (Over cause.WriteFault)) a b c s l
caused_since a b c index (Over cause.LogFault) s l = since (IsCause (Over cause.LogFault)) a b c s l
caused_since a b c index (Over cause.NoMemory) s l = since (IsCause (Over cause.NoMemory)) a b c s l
caused_since a b c index (Over cause.Lost) s (inl l) = inl (since (EndsFor cause.Lost) a b c s l)
caused_since a b c index (Over cause.Lost) s (inr h) = inr h
caused_since a b c index Between s l = since (IsCause Between) a b c s l

pub adds_on : (a b : List Event) (e : Event) → Adds a b e → StartsWith b a
adds_on a b e adds = (e ∷ [], adds)

pub same_on : (a b : List Event) → b ≡ a → (c : List Event) → (c ≡ b) → c ≡ a
same_on a b e c f = f ∙ e

-- what stands behind a reply is so whatever the link noted of its replies
pub behind_same : (behind : Option Cause) (d e : DeskValue) → e.decoder ≡ d.decoder → e.talk.request ≡ d.talk.request → e.talk.refused ≡ d.talk.refused → e.talk.outs ≡ d.talk.outs → IsBehind behind d → IsBehind behind e
behind_same None d e dec req ref outs h = (ref ∙ h.0, ap (λ x. x.stop) dec ∙ h.1, subst AllMore (sym outs) h.2)
behind_same (Some cause.Clean) d e dec req ref outs h = h
behind_same (Some cause.Bye) d e dec req ref outs h = (req ∙ h.0, ref ∙ h.1, ap (λ x. x.stop) dec ∙ h.2)
behind_same (Some (cause.Refused code)) d e dec req ref outs h = (req ∙ h.0, ref ∙ h.1)
behind_same (Some cause.ReadFault) d e dec req ref outs h = h
behind_same (Some cause.WriteFault) d e dec req ref outs h = h
behind_same (Some cause.LogFault) d e dec req ref outs h = h
behind_same (Some cause.NoMemory) d e dec req ref outs h = h
behind_same (Some cause.Lost) d e dec req ref outs h = h

-- the last event is the cause
pub caused_at : (a b : List Event) (index : ℕ) (phase : Phase) (e : Event) → Adds a b e → IsCause phase e → Caused a b index phase
caused_at a b index Reading e adds is = last_of (IsCause Reading) a b e adds is
caused_at a b index (Popping token) e adds is = last_of (IsCause (Popping token)) a b e adds is
caused_at a b index (Asking kind) e adds is = last_of (IsCause (Asking kind)) a b e adds is
caused_at a b index (Holding half asked) e adds is = last_of (IsCause (Holding half asked)) a b e adds is
caused_at a b index (Waiting token sequence half) e adds is = last_of (IsCause (Waiting token sequence half)) a b e adds is
caused_at a b index (Replying draft) e adds is = last_of (IsCause (Replying draft)) a b e adds is
caused_at a b index (Sending sga behind) e adds is = last_of (IsCause (Sending sga behind)) a b e adds is
caused_at a b index (Pushing token behind) e adds is = last_of (IsCause (Pushing token behind)) a b e adds is
caused_at a b index (Over cause.Clean) e adds is = last_of (IsCause (Over cause.Clean)) a b e adds is
caused_at a b index (Over cause.Bye) e adds is = last_of (IsCause (Over cause.Bye)) a b e adds is
caused_at a b index (Over (cause.Refused code)) e adds is = last_of (IsCause (Over (cause.Refused code))) a b e adds is
caused_at a b index (Over cause.ReadFault) e adds is = last_of (IsCause (Over cause.ReadFault)) a b e adds is
caused_at a b index (Over cause.WriteFault) e adds is = last_of (IsCause (Over cause.WriteFault)) a b e adds is
caused_at a b index (Over cause.LogFault) e adds is = last_of (IsCause (Over cause.LogFault)) a b e adds is
caused_at a b index (Over cause.NoMemory) e adds is = last_of (IsCause (Over cause.NoMemory)) a b e adds is
caused_at a b index (Over cause.Lost) e adds is = inl (last_of (EndsFor cause.Lost) a b e adds is)
caused_at a b index Between e adds is = absurd is

pub caused_by : (a b : List Event) (index : ℕ) (phase now : Phase) (e : Event) → now ≡ phase → Adds a b e → IsCause phase e → Caused a b index now
caused_by a b index phase now e same adds is = subst (λ (p : Phase). Caused a b index p) (sym same) (caused_at a b index phase e adds is)
