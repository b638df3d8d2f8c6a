use Rattle.std.proofs.Common.{take}
use Rattle.demi_audit.proofs.Hearings.{HeardLinks}
use Rattle.demi_audit.proofs.hearing.hear.Given as goal

abbrev pub invariant-links : goal.invariant-links
invariant-links l = HeardLinks l.text (take l.place-index l.places) l.heard.items l.links.items
