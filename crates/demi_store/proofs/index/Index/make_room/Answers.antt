use Rattle.std.specs.Prelude.{bytes_eq}
use Rattle.demi_store.proofs.Keys.{same_lookups, is_key_test}
use Rattle.demi_store.proofs.index.Index.make_room.Goals as goal

pub returns-clause-same : goal.returns-clause-same
returns-clause-same c = λ key. same_lookups (λ x y. bytes_eq x.items y.items) (λ k. bytes_eq key k.items) (is_key_test key) c.args.self.now.entries.entries c.reserve.new.self.entries (λ k. c.reserve.ensures.entries.2 k)
