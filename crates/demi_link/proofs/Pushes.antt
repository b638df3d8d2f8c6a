-- What fits once a reply was pushed, and once it was written.
use Rattle.std.specs.Prelude.{◌≡◌, ℕ, ◌+◌, ◌-◌, ◌<◌, ◌≤◌, List, [], ◌∷◌, ◌++◌, Option, length, refl}
use Rattle.std.proofs.Common.{sym, ◌∙◌, ap, arith, length-append}
use Rattle.demi_heap.specs.Seen.{HalfValue}
use Rattle.demi_port_core.specs.declared.place.QToken.{QToken}
use Rattle.demi_spec.specs.Reply.{IsReply}
use Rattle.demi_streamq.specs.declared.tx_op.TxOp.{TxOp}
use Rattle.demi_streamq.specs.declared.tx_op.TxOp.TheVariants.{Push}
use Rattle.demi_served.specs.Steps.{after_reply}
use Rattle.demi_served.proofs.Stepping.{link_replied}
use Rattle.demi_link.specs.Fitting.{Fits}
use Rattle.demi_link.specs.Sights.{Due, Side, Sight, Submits, worker_of}
use Rattle.demi_link.specs.Talks.{DeskValue, TalkValue}
use Rattle.demi_link.specs.declared.phase.Cause.{Cause}
use Rattle.demi_link.specs.declared.phase.Phase.TheVariants.{Sending, Pushing}
use Rattle.demi_link.proofs.Arriving.{behind_same}
use Rattle.demi_link.proofs.Lists.{all_next, among_last, places_next}
use Rattle.demi_link.proofs.Sides.{writes_pushed}

-- the sight once the reply was pushed and its lent half freed
abbrev pub sight_pushed : Sight → ℕ → ℕ → List HalfValue → Sight
sight_pushed a place token sga = record a { tx = record a.tx { seen = place + 1; submitted = a.tx.submitted ++ (place, (token, Push sga)) ∷ [] }; out = a.out - length sga; due = record a.due { tx = a.due.tx + 1 } }

abbrev pub talk_replied : TalkValue → TalkValue
talk_replied k = record k { kept = after_reply k.kept k.reply }

pub pushed_sight : (a b c : Sight) (place token : ℕ) (sga half : List HalfValue) → Submits place a.tx b.tx token (Push sga) → b ≡ record a { tx = b.tx; due = record a.due { tx = a.due.tx + 1 } } → half ≡ sga → c ≡ record b { out = b.out - length half } → c ≡ sight_pushed a place token sga
pushed_sight a b c place token sga half sub only same e =
    let now : Side TxOp ℕ = record a.tx { seen = place + 1; submitted = a.tx.submitted ++ (place, (token, Push sga)) ∷ [] } in
    let whole : b ≡ record a { tx = now; due = record a.due { tx = a.due.tx + 1 } } = only ∙ ap (λ (x : Side TxOp ℕ). record a { tx = x; due = record a.due { tx = a.due.tx + 1 } }) sub.side in
    e ∙ ap (λ (h : List HalfValue). record b { out = b.out - length h }) same ∙ ap (λ (x : Sight). record x { out = x.out - length sga }) whole

pub pushed_next : (ports : ℕ) (a : Sight) (d : DeskValue) (sga : List HalfValue) (behind : Option Cause) (place : ℕ) (token : QToken) → Fits ports a d (Sending sga behind) → token.port < ports → a.tx.seen ≤ place
    → Fits ports (sight_pushed a place token.token.0 sga) (record d { talk = talk_replied d.talk }) (Pushing token behind)
pushed_next ports a d sga behind place token f lt up =
    let x : ℕ × (ℕ × TxOp) = (place, (token.token.0, Push sga)) in
    let k = f.keeps in
    let g = f.agrees in
    let longer = length-append d.talk.kept.replies (d.talk.reply ∷ []) in
    let count = g.1.1 in
    record {
      agrees = (
        behind_same behind d (record d { talk = talk_replied d.talk }) refl refl refl refl g.0,
        (g.1.0, longer ∙ sym count),
        g.2,
        lt,
        record { place = place; said = Push sga; last = places_next a.tx.submitted x ∙ ap (λ (l : List ℕ). l ++ place ∷ []) g.3; here = among_last a.tx.submitted x },
        (let o = g.4 in omega arith),
        ap (λ (x : Due). record x { tx = x.tx + 1 }) g.9,
      );
      worker = f.worker;
      keeps = record {
        own = k.own;
        kept = link_replied a.base (worker_of a) d.link d.talk.kept d.talk.request d.talk.reply f.worker k.kept g.1.2 g.5.worker g.5.drawn g.5.replied;
        fits = all_next IsReply d.talk.kept.replies d.talk.reply k.fits g.8;
        number = k.number;
        index = k.index;
        reads = record { pops = k.reads.pops; rises = k.reads.rises; below = k.reads.below; taken = k.reads.taken };
        writes = writes_pushed a.tx d.talk place token.token.0 sga k.writes up g.7;
        read = k.read;
        refusal = k.refusal;
        final = k.final;
        due = k.due;
      };
    }
