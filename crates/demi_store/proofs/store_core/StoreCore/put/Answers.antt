use Rattle.std.proofs.Common.{◌≡◌, ◌≢◌, List, [], ◌∷◌, ◌++◌, None, Some, ap, sym, ◌∙◌, subst, refl, inl}
use Rattle.demi_spec.specs.Record.{Record, record_of}
use Rattle.demi_spec.proofs.Payloads.{record_again}
use Rattle.demi_logq.specs.Logged.{Logged}
use Rattle.demi_store.specs.Cores.{Core, CorePut, drafted}
use Rattle.demi_store.specs.Shelves.{Keeps}
use Rattle.demi_store.proofs.Heard.{none_of}
use Rattle.demi_store.proofs.Drafts.{core_of, some_draft, the_draft, draft_head, other_keeps, other_put, stored_put}
use Rattle.demi_store.proofs.Shelving.{kept_on}
use Rattle.demi_store.specs.declared.answer.StoreAnswer.{StoreAnswer}
use Rattle.demi_store.specs.declared.answer.StoreAnswer.TheVariants.{Stored}
use Rattle.demi_store.proofs.store_core.StoreCore.put.Goals.{in-Stored, in_default}
use Rattle.demi_store.proofs.store_core.StoreCore.put.Goals as goal

pub put-answer-requires-clause-head : goal.put-answer-requires-clause-head
put-answer-requires-clause-head g c =
    let d = c.self.inside in
    let begun : record_of d.shelf.log.staged ≢ None = λ e. c.requires.begun (sym (ap (λ (v : Core g.row.D.Denot). v.begun) c.self.view_is) ∙ e) in
    let w = some_draft d.shelf.log.staged c.self.invariant.draft_is begun in
    (draft_head d.shelf.log.staged w.0 w.1 w.2).0

pub put-answer-requires-clause-key : goal.put-answer-requires-clause-key
put-answer-requires-clause-key g c =
    let d = c.self.inside in
    let begun : record_of d.shelf.log.staged ≢ None = λ e. c.requires.begun (sym (ap (λ (v : Core g.row.D.Denot). v.begun) c.self.view_is) ∙ e) in
    let w = some_draft d.shelf.log.staged c.self.invariant.draft_is begun in
    (draft_head d.shelf.log.staged w.0 w.1 w.2).1

pub invariant_of-self : goal.invariant_of-self
invariant_of-self g c =
    let d = c.self.inside in
    let n = c.put-answer.new.self in
    let begun : record_of d.shelf.log.staged ≢ None = λ e. c.requires.begun (sym (ap (λ (v : Core g.row.D.Denot). v.begun) c.self.view_is) ∙ e) in
    let w = some_draft d.shelf.log.staged c.self.invariant.draft_is begun in
    let p = c.in-Stored.ensures.put w.0 w.1 w.2 in
    let one : drafted (record_of d.shelf.log.staged) ≡ w.0 ∷ [] = ap drafted (ap record_of w.2 ∙ record_again w.0 w.1) in
    let grown : c.both.result.value ≡ d.records.value ++ w.0 ∷ [] = c.both.ensures ∙ ap (λ l. d.records.value ++ l) (c.staged_record-record.ensures ∙ one) in
    let keeps : Keeps g.D.Disk.bytes n.log n.index n.limit n.fault c.both.result.value =
    subst (λ (l : List Record). Keeps g.D.Disk.bytes n.log n.index n.limit n.fault l) (sym grown)
    (subst (λ m. Keeps g.D.Disk.bytes n.log n.index m n.fault (d.records.value ++ w.0 ∷ [])) (sym c.put-answer.ensures.limit) p.4) in
    record {
      keeps = kept_on g.D.Disk.bytes n.log c.unstage.new.self [] n.index n.index n.limit n.fault n.fault c.both.result.value keeps c.unstage.ensures (λ key. refl) refl;
      draft_is = inl (ap (λ (l : Logged g.row.D.Denot). l.staged) c.unstage.ensures);
    }

pub invariant_of-self-in_default : goal.invariant_of-self-in_default
invariant_of-self-in_default g c =
    let d = c.self.inside in
    let n = c.put-answer.new.self in
    let begun : record_of d.shelf.log.staged ≢ None = λ e. c.requires.begun (sym (ap (λ (v : Core g.row.D.Denot). v.begun) c.self.view_is) ∙ e) in
    let w = some_draft d.shelf.log.staged c.self.invariant.draft_is begun in
    let p = c.put-answer.ensures.put w.0 w.1 w.2 in
    let keeps : Keeps g.D.Disk.bytes n.log n.index n.limit n.fault d.records.value =
    subst (λ m. Keeps g.D.Disk.bytes n.log n.index m n.fault d.records.value) (sym c.put-answer.ensures.limit)
    (other_keeps g.D.Disk.bytes g.D.Disk.held g.D.Disk.faults g.D.Disk.appends d.shelf.log n.log d.shelf.index n.index d.shelf.limit n.limit d.shelf.fault n.fault d.records.value c.args.place.0 w.0 c.put-answer.result c.in_default.not-Stored p) in
    record {
      keeps = kept_on g.D.Disk.bytes n.log c.unstage.new.self [] n.index n.index n.limit n.fault n.fault d.records.value keeps c.unstage.ensures (λ key. refl) refl;
      draft_is = inl (ap (λ (l : Logged g.row.D.Denot). l.staged) c.unstage.ensures);
    }

pub returns-clause-put : goal.returns-clause-put
returns-clause-put g c = λ r is.
    let d = c.self.inside in
    let n = c.put-answer.new.self in
    let same : record_of d.shelf.log.staged ≡ Some r = ap (λ (v : Core g.row.D.Denot). v.begun) c.self.view_is ∙ is in
    let t = the_draft d.shelf.log.staged c.self.invariant.draft_is r same in
    let old : core_of d.shelf.log d.records.value d.shelf.limit (record_of d.shelf.log.staged) d.shelf.fault ≡ c.args.self.now = c.self.view_is in
    elim c.match-answer.branch [
      | in-Stored w ↦
          let v = w.in-Stored.field-0 in
          let new : core_of n.log w.both.result.value n.limit (record_of []) n.fault ≡ c.match-answer.self =
          sym (w.self-is ∙ ap (λ (l : Logged g.row.D.Denot). core_of l w.both.result.value n.limit (record_of l.staged) n.fault) c.unstage.ensures) in
          let grown : w.both.result.value ≡ d.records.value ++ r ∷ [] = w.both.ensures ∙ ap (λ l. d.records.value ++ l) (c.staged_record-record.ensures ∙ ap drafted same) in
          subst (λ (a : StoreAnswer). CorePut g.D.Disk.bytes g.D.Disk.held g.D.Disk.faults g.D.Disk.appends c.args.self.now c.match-answer.self c.args.place.0 r a) (sym w.in-Stored.is)
          (subst (λ (x : Core g.row.D.Denot). CorePut g.D.Disk.bytes g.D.Disk.held g.D.Disk.faults g.D.Disk.appends c.args.self.now x c.args.place.0 r (Stored v)) new
          (subst (λ (x : Core g.row.D.Denot). CorePut g.D.Disk.bytes g.D.Disk.held g.D.Disk.faults g.D.Disk.appends x (core_of n.log w.both.result.value n.limit (record_of []) n.fault) c.args.place.0 r (Stored v)) old
          (stored_put g.D.Disk.bytes g.D.Disk.held g.D.Disk.faults g.D.Disk.appends d.shelf.log n.log d.shelf.index n.index d.shelf.limit n.limit d.shelf.fault n.fault d.records.value c.args.place.0 r (record_of d.shelf.log.staged) (record_of [])
          w.both.result.value v c.put-answer.ensures.limit (none_of [] refl) grown (w.in-Stored.ensures.put r t.0 t.1))))
      | in_default w ↦
          let new : core_of n.log d.records.value n.limit (record_of []) n.fault ≡ c.match-answer.self =
          sym (w.self-is ∙ ap (λ (l : Logged g.row.D.Denot). core_of l d.records.value n.limit (record_of l.staged) n.fault) c.unstage.ensures) in
          subst (λ (x : Core g.row.D.Denot). CorePut g.D.Disk.bytes g.D.Disk.held g.D.Disk.faults g.D.Disk.appends c.args.self.now x c.args.place.0 r c.put-answer.result) new
          (subst (λ (x : Core g.row.D.Denot). CorePut g.D.Disk.bytes g.D.Disk.held g.D.Disk.faults g.D.Disk.appends x (core_of n.log d.records.value n.limit (record_of []) n.fault) c.args.place.0 r c.put-answer.result) old
          (other_put g.D.Disk.bytes g.D.Disk.held g.D.Disk.faults g.D.Disk.appends d.shelf.log n.log d.shelf.index n.index d.shelf.limit n.limit d.shelf.fault n.fault d.records.value c.args.place.0 r (record_of d.shelf.log.staged) (record_of [])
          c.put-answer.result w.in_default.not-Stored c.put-answer.ensures.limit (none_of [] refl) (c.put-answer.ensures.put r t.0 t.1)))
    ]

pub returns-clause-none : goal.returns-clause-none
returns-clause-none g c =
    let none : record_of c.unstage.new.self.staged ≡ None = none_of c.unstage.new.self.staged (ap (λ (l : Logged g.row.D.Denot). l.staged) c.unstage.ensures) in
    elim c.match-answer.branch [
      | in-Stored w ↦ ap (λ (v : Core g.row.D.Denot). v.begun) w.self-is ∙ none
      | in_default w ↦ ap (λ (v : Core g.row.D.Denot). v.begun) w.self-is ∙ none
    ]
