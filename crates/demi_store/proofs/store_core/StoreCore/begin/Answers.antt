use Rattle.std.proofs.Common.{◌≡◌, ℕ, ◌<◌, ◌≤◌, List, [], length, Option, Some, ap, ◌∙◌, arith, inr, refl, subst, rules, ◌++◌, ◌∷◌}
use Rattle.std.specs.Int.{w16, w32, to_be_bytes}
use Rattle.demi_spec.specs.Record.{Record, IsRecord, record_of}
use Rattle.demi_spec.proofs.Payloads.{record_again}
use Rattle.demi_logq.specs.Logged.{Logged}
use Rattle.demi_store.specs.Cores.{Core}
use Rattle.demi_store.proofs.Drafts.{begun_is, core_of, no_draft}
use Rattle.demi_store.proofs.Shelving.{kept_on}
use Rattle.demi_store.proofs.store_core.StoreCore.begin.Goals as goal

pub stage_head-requires-clause-none : goal.stage_head-requires-clause-none
stage_head-requires-clause-none g c =
    let d = c.self.inside in
    no_draft d.shelf.log.staged c.self.invariant.draft_is (ap (λ (v : Core g.row.D.Denot). v.begun) c.self.view_is ∙ c.requires.none)

pub invariant_of-self : goal.invariant_of-self
invariant_of-self g c =
    let d = c.self.inside in
    let k : List ℕ = c.args.key.now.items in
    let same : c.as_slice.result.now ≡ k = search rules in
    let head = to_be_bytes w16 c.args.link ++ to_be_bytes w32 c.args.index ++ length k ∷ k in
    let staged : c.stage_head.new.log ≡ record d.shelf.log { staged = head } =
    subst (λ (l : List ℕ). c.stage_head.new.log ≡ record d.shelf.log { staged = to_be_bytes w16 c.args.link ++ to_be_bytes w32 c.args.index ++ length l ∷ l }) same c.stage_head.ensures in
    let text = begun_is c.args.link c.args.index k c.stage_head.new.log.staged (ap (λ (l : Logged g.row.D.Denot). l.staged) staged) in
    let some = c.requires.key in
    let most : length k ≤ 255 = search rules in
    let link : c.args.link < 65536 = search rules in
    let index : c.args.index < 4294967296 = search rules in
    let ok : IsRecord (record { link = c.args.link; index = c.args.index; key = k; value = [] }) = record { link = link; index = index; key = (some, most); value = omega arith } in
    record {
      keeps = kept_on g.D.Disk.bytes d.shelf.log c.stage_head.new.log head d.shelf.index d.shelf.index d.shelf.limit d.shelf.fault d.shelf.fault d.records.value c.self.invariant.keeps staged (λ key. refl) refl;
      draft_is = inr (record { link = c.args.link; index = c.args.index; key = k; value = [] }, ok, text);
    }

pub returns : goal.returns
returns g c =
    let d = c.self.inside in
    let k : List ℕ = c.args.key.now.items in
    let same : c.as_slice.result.now ≡ k = search rules in
    let head = to_be_bytes w16 c.args.link ++ to_be_bytes w32 c.args.index ++ length k ∷ k in
    let staged : c.stage_head.new.log ≡ record d.shelf.log { staged = head } =
    subst (λ (l : List ℕ). c.stage_head.new.log ≡ record d.shelf.log { staged = to_be_bytes w16 c.args.link ++ to_be_bytes w32 c.args.index ++ length l ∷ l }) same c.stage_head.ensures in
    let text = begun_is c.args.link c.args.index k head refl in
    let some = c.requires.key in
    let most : length k ≤ 255 = search rules in
    let link : c.args.link < 65536 = search rules in
    let index : c.args.index < 4294967296 = search rules in
    let r : Record = record { link = c.args.link; index = c.args.index; key = k; value = [] } in
    let ok : IsRecord r = record { link = link; index = index; key = (some, most); value = omega arith } in
    let begun : record_of head ≡ Some r = ap record_of text ∙ record_again r ok in
    ap (λ (l : Logged g.row.D.Denot). core_of l d.records.value d.shelf.limit (record_of l.staged) d.shelf.fault) staged
    ∙ ap (λ (o : Option Record). core_of d.shelf.log d.records.value d.shelf.limit o d.shelf.fault) begun
    ∙ ap (λ (v : Core g.row.D.Denot). record v { begun = Some r }) c.self.view_is
