use Rattle.std.proofs.Common.{◌≡◌, ◌-◌, ◌≤◌, length, map}
use Rattle.std.specs.List.{AllByRecursion}
use Rattle.demi_audit.specs.Transcript.{links_from}
use Rattle.demi_audit.specs.Reading.{IsInside, link_by}
use Rattle.demi_audit.proofs.Links.{put_all}
use Rattle.demi_audit.proofs.transcript.read_links.Given as goal

abbrev pub invariant-links : goal.invariant-links
invariant-links l = record {
  upto : links_from l.count l.bytes l.from ≡ put_all (map (link_by l.bytes) l.places.items) (links_from (l.count - l.i) l.bytes l.at);
  inside : AllByRecursion (IsInside (length l.bytes)) l.places.items;
  within : l.at ≤ length l.bytes;
}
