use Rattle.std.proofs.Common.{◌≡◌, ◌≢◌, ◌++◌, length, Option, None, Some, ap, sym, ◌∙◌, arith, inr, refl, length-append}
use Rattle.demi_spec.specs.Record.{Record, IsRecord, record_of}
use Rattle.demi_spec.proofs.Payloads.{record_again}
use Rattle.demi_logq.specs.Logged.{Logged}
use Rattle.demi_store.proofs.Shelving.{kept_on, length_of}
use Rattle.demi_store.specs.Cores.{Core}
use Rattle.demi_store.proofs.Drafts.{more_is, core_of, some_draft, the_draft}
use Rattle.demi_store.proofs.store_core.StoreCore.piece.Goals as goal

pub stage-requires : goal.stage-requires
stage-requires g c =
    let d = c.self.inside in
    let view : record_of d.shelf.log.staged ≡ c.args.self.now.begun = ap (λ (v : Core g.row.D.Denot). v.begun) c.self.view_is in
    let begun : record_of d.shelf.log.staged ≢ None = λ e. c.requires.begun (sym view ∙ e) in
    let w = some_draft d.shelf.log.staged c.self.invariant.draft_is begun in
    let is : c.args.self.now.begun ≡ Some w.0 = sym view ∙ ap record_of w.2 ∙ record_again w.0 w.1 in
    let fits = c.requires.fits w.0 is in
    let key = w.1.key.1 in
    omega (arith, fits, key, length_of w.0, ap length w.2)

pub invariant_of-self : goal.invariant_of-self
invariant_of-self g c =
    let d = c.self.inside in
    let view : record_of d.shelf.log.staged ≡ c.args.self.now.begun = ap (λ (v : Core g.row.D.Denot). v.begun) c.self.view_is in
    let begun : record_of d.shelf.log.staged ≢ None = λ e. c.requires.begun (sym view ∙ e) in
    let w = some_draft d.shelf.log.staged c.self.invariant.draft_is begun in
    let is : c.args.self.now.begun ≡ Some w.0 = sym view ∙ ap record_of w.2 ∙ record_again w.0 w.1 in
    let fits = c.requires.fits w.0 is in
    let ok = w.1 in
    let staged : c.stage.new.self.staged ≡ d.shelf.log.staged ++ c.args.bytes.now = ap (λ (l : Logged g.row.D.Denot). l.staged) c.stage.ensures in
    record {
      keeps = kept_on g.D.Disk.bytes d.shelf.log c.stage.new.self (d.shelf.log.staged ++ c.args.bytes.now) d.shelf.index d.shelf.index d.shelf.limit d.shelf.fault d.shelf.fault d.records.value c.self.invariant.keeps c.stage.ensures (λ key. refl) refl;
      draft_is = inr (record w.0 { value = w.0.value ++ c.args.bytes.now }, record { link = ok.link; index = ok.index; key = ok.key; value = omega (arith, fits, length-append w.0.value c.args.bytes.now) }, more_is w.0 d.shelf.log.staged c.stage.new.self.staged c.args.bytes.now w.2 staged);
    }

pub returns-clause-more : goal.returns-clause-more
returns-clause-more g c = λ r is.
    let d = c.self.inside in
    let view : record_of d.shelf.log.staged ≡ c.args.self.now.begun = ap (λ (v : Core g.row.D.Denot). v.begun) c.self.view_is in
    let w = the_draft d.shelf.log.staged c.self.invariant.draft_is r (view ∙ is) in
    let fits = c.requires.fits r is in
    let ok = w.0 in
    let more : Record = record r { value = r.value ++ c.args.bytes.now } in
    let fine : IsRecord more = record { link = ok.link; index = ok.index; key = ok.key; value = omega (arith, fits, length-append r.value c.args.bytes.now) } in
    let begun : record_of (d.shelf.log.staged ++ c.args.bytes.now) ≡ Some more = ap record_of (more_is r d.shelf.log.staged (d.shelf.log.staged ++ c.args.bytes.now) c.args.bytes.now w.1 refl) ∙ record_again more fine in
    ap (λ (l : Logged g.row.D.Denot). core_of l d.records.value d.shelf.limit (record_of l.staged) d.shelf.fault) c.stage.ensures
    ∙ ap (λ (o : Option Record). core_of d.shelf.log d.records.value d.shelf.limit o d.shelf.fault) begun
    ∙ ap (λ (v : Core g.row.D.Denot). record v { begun = Some more }) c.self.view_is

pub returns-clause-still : goal.returns-clause-still
returns-clause-still g c = λ none.
    let d = c.self.inside in
    let view : record_of d.shelf.log.staged ≡ c.args.self.now.begun = ap (λ (v : Core g.row.D.Denot). v.begun) c.self.view_is in
    let begun : record_of d.shelf.log.staged ≢ None = λ e. c.requires.begun (sym view ∙ e) in
    let w = some_draft d.shelf.log.staged c.self.invariant.draft_is begun in
    let is : c.args.self.now.begun ≡ Some w.0 = sym view ∙ ap record_of w.2 ∙ record_again w.0 w.1 in
    let fits = c.requires.fits w.0 is in
    let ok = w.1 in
    let more : Record = record w.0 { value = w.0.value ++ c.args.bytes.now } in
    let fine : IsRecord more = record { link = ok.link; index = ok.index; key = ok.key; value = omega (arith, fits, length-append w.0.value c.args.bytes.now) } in
    let staged : c.stage.new.self.staged ≡ d.shelf.log.staged ++ c.args.bytes.now = ap (λ (l : Logged g.row.D.Denot). l.staged) c.stage.ensures in
    let text = more_is w.0 d.shelf.log.staged c.stage.new.self.staged c.args.bytes.now w.2 staged in
    let some : record_of c.stage.new.self.staged ≡ Some more = ap record_of text ∙ record_again more fine in
    let both : Some more ≡ None = sym some ∙ none in
    absurd (cc)
