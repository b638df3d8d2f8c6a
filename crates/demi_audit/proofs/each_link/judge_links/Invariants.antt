use Rattle.std.proofs.Common.{List, map, Option}
use Rattle.demi_served.specs.Talks.{Run}
use Rattle.demi_audit.specs.Hearing.{Follows}
use Rattle.demi_audit.specs.Judging.{IsCase}
use Rattle.demi_audit.specs.Reading.{link_by}
use Rattle.demi_audit.specs.Verdict.{Fault, Heard, HeardAll}
use Rattle.demi_audit.proofs.EachLink.{DecidesOn, FollowsOn}
use Rattle.demi_audit.proofs.each_link.judge_links.Given as goal

abbrev pub invariant-links : goal.invariant-links
invariant-links l = record {
  follows : (all : List Heard) → HeardAll (map (link_by l.case.text.now) l.places) all → Follows l.case.text.now l.case.heard.items l.links all → FollowsOn l.case.text.now l.case.heard.items l.places l.links all l.from l.l;
  decides : (run : Run) (all : List Heard) (later : Option Fault) → IsCase l.case run → HeardAll (map (link_by l.case.text.now) l.places) all → Follows l.case.text.now l.case.heard.items l.links all → DecidesOn run l.case.text.now l.case.heard.items all l.from l.l later;
}
