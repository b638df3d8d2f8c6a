use Rattle.std.proofs.Common.{arith, refl}
use Rattle.demi_audit.proofs.Keeping.{kept_put}
use Rattle.demi_audit.proofs.text_store.TextStore.put.Goals as goal

pub returns : goal.returns
returns c = λ rs keeps.
    kept_put c.args.self.now _ (record { link = 0; index = c.args.index; key = c.args.key.now; value = c.args.value.now }) _ rs keeps
    (record { link = omega arith; index = omega arith; key = c.requires.key; value = c.requires.value })
    c.in_ok-write_entry.ensures c.in_ok-set.ensures (omega (arith, c.len.ensures)) refl refl
