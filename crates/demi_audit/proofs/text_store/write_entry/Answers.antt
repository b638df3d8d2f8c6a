use Rattle.std.proofs.Common.{◌∙◌, ap, ◌++◌, List, ℕ, refl}
use Rattle.demi_audit.proofs.Entering.{entry_written}
use Rattle.demi_audit.proofs.text_store.write_entry.Goals as goal

pub returns : goal.returns
returns c =
    entry_written c.args.text.now.items c.extend_from_slice.new.self.items c.extend_from_slice-2.new.self.items c.extend_from_slice-3.new.self.items c.push.new.self.items c.extend_from_slice-4.new.self.items
    c.extend_from_slice-5.new.self.items c.args.key.now c.args.value.now _ c.args.index refl
    (c.in_ok-extend_from_slice.ensures.items ∙ ap (λ (l : List ℕ). c.args.text.now.items ++ l) c.to_be_bytes.ensures)
    c.in_ok-extend_from_slice-2.ensures.items
    (c.in_ok-extend_from_slice-3.ensures.items ∙ ap (λ (l : List ℕ). c.extend_from_slice-2.new.self.items ++ l) c.to_be_bytes-2.ensures)
    c.in_ok-push.ensures.items c.in_ok-extend_from_slice-4.ensures.items c.in_ok-extend_from_slice-5.ensures.items
