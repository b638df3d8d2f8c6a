-- Where the auditor finds nothing, the session was whole.
use Rattle.std.proofs.Common.{◌≡◌, List, [], ◌∷◌, ◌++◌, flat_map, None, ◌∙◌, ap}
use Rattle.std.specs.List.{AllByRecursion, AllZip}
use Rattle.std.proofs.lemmas.List.{append-nil}
use Rattle.demi_spec.specs.Reply.{spelling}
use Rattle.demi_served.specs.Talks.{Run, LinkRun}
use Rattle.demi_served.specs.Served.{WholeTalk, Whole}
use Rattle.demi_audit.specs.Verdict.{Heard, HeardAll, first_fault}
use Rattle.demi_audit.proofs.Records.{recorded}
use Rattle.demi_audit.proofs.Sound.{no_fault, WholeHeard, talks}

each_link : (links : List LinkRun) (heard : List Heard) → HeardAll links heard → AllByRecursion WholeHeard heard → AllZip WholeTalk links (talks heard)
each_link [] [] h whole = tt
each_link [] (x ∷ heard) h whole = absurd h
each_link (l ∷ links) [] h whole = absurd h
each_link (l ∷ links) (x ∷ heard) h whole = (
  record {
    asks = h.0.asks;
    fits = h.0.fits;
    written = h.0.text ∙ ap (λ b. flat_map spelling x.talk.replies ++ b) whole.0.0 ∙ append-nil (flat_map spelling x.talk.replies);
    each = whole.0.1;
  },
  each_link links heard h.1 whole.1,
)

-- a yes of the auditor
pub yes_is_whole : (run : Run) (heard : List Heard) → HeardAll run.links heard → first_fault run heard ≡ None → Whole run
yes_is_whole run heard h none =
    let k = no_fault run heard none in
    record {
      talks = talks heard;
      read = each_link run.links heard h k.whole;
      consistent = k.consistent;
      recorded = recorded run (talks heard) k.consistent.answers k.stored;
      numbered = k.numbered;
      stored = k.stored;
    }
