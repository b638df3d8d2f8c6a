use Rattle.std.proofs.Common.{◌≡◌, ◌+◌, List, length, map, sym, ◌∙◌, subst, arith, refl}
use Rattle.std.specs.Prelude.{Ok}
use Rattle.std.proofs.lemmas.List.{length-map}
use Rattle.demi_audit.specs.Reading.{IsLogPart, link_by}
use Rattle.demi_served.specs.Talks.{LinkRun}
use Rattle.demi_audit.specs.Entries.{Logs}
use Rattle.demi_audit.specs.Transcript.{log_records, part}
use Rattle.demi_audit.specs.declared.transcript.LogPart.{LogPart}
use Rattle.demi_audit.proofs.Fields.{log_inside, not_more, read_run}
use Rattle.demi_audit.proofs.Links.{links_count}
use Rattle.demi_audit.proofs.transcript.read_transcript.Goals as goal

pub overflow_add-result : goal.overflow_add-result
overflow_add-result c =
    let k = subst (λ (p : LogPart). IsLogPart p c.args.bytes.now) c.in-Bad.is c.in_ok-log.ensures.read in
    omega (arith, k.1)

pub overflow_add-fields : goal.overflow_add-fields
overflow_add-fields c =
    let k = subst (λ (p : LogPart). IsLogPart p c.args.bytes.now) c.in-Good.is c.in_ok-log.ensures.read in
    omega (arith, log_inside c.args.bytes.now (Ok k.0) k.1, c.in-Ok.ensures.fields.log_size)

pub read_links-requires : goal.read_links-requires
read_links-requires c =
    let k = subst (λ (p : LogPart). IsLogPart p c.args.bytes.now) c.in-Good.is c.in_ok-log.ensures.read in
    omega (arith, log_inside c.args.bytes.now (Ok k.0) k.1, c.in-Ok.ensures.fields.log_size)

pub returns-in_ok-links-in-Good-clause-read : goal.returns-in_ok-links-in-Good-clause-read
returns-in_ok-links-in-Good-clause-read c =
    let bytes = c.args.bytes.now in
    let t = c.in-Ok.fields in
    let f = c.in-Ok.ensures.fields in
    let k = subst (λ (p : LogPart). IsLogPart p bytes) c.in-Good.is c.in_ok-log.ensures.read in
    let places = c.in_ok-links-in-Good.links.items in
    let links : List LinkRun = map (link_by bytes) places in
    let read = read_run bytes k.0 links t.limit t.old t.links t.log_size f.limit f.old f.links f.log_size f.rest k.1 c.in_ok-links-in-Good.ensures.read in
    let count : length links ≡ t.links = links_count t.links bytes (28 + t.log_size) links c.in_ok-links-in-Good.ensures.read in
    let long : length places ≡ t.links = sym (length-map places (link_by bytes)) ∙ count in (
      record { links = links; records = k.0; old = t.old; limit = t.limit },
      read,
      record {
        limit = refl;
        limit_fits = f.limit_fits;
        old = refl;
        old_fits = not_more t.old (log_records bytes) k.0 f.old_fits k.1;
        log = subst (λ n. Logs (part bytes 28 n) c.in-Good.ends.items k.0) (sym f.log_size) k.2;
        log_inside = omega (arith, log_inside bytes (Ok k.0) k.1, f.log_size);
        links = refl;
        links_fit = (omega (arith, long, f.links_fit.0), omega (arith, long, f.links_fit.1));
        inside = c.in_ok-links-in-Good.ensures.inside;
      },
    )
