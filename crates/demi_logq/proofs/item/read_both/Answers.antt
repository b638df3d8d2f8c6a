use Rattle.std.proofs.Common.{◌≡◌, ℕ, List, [], length, take, drop, get_or, ap, sym, subst, Option}
use Rattle.std.specs.Prelude.{IfSome}
use Rattle.demi_logq.specs.Logged.{Logged, Holds}
use Rattle.demi_logq.proofs.Pieces.{both_parts, on_ok}
use Rattle.demi_logq.proofs.item.read_both.Goals as goal

pub returns-in-Ok-clause-bytes : goal.returns-in-Ok-clause-bytes
returns-in-Ok-clause-bytes g c =
    let log = c.args.log.now in let next = c.read_into.new.log in
    let ends : log.ends ≡ next.ends = ap (λ (l : Logged g.row.D.Denot). l.ends) (sym c.read_into.ensures.same) in
    let bytes : g.D.Disk.bytes log.disk ≡ g.D.Disk.bytes next.disk = sym c.read_into.ensures.same_bytes in
    on_ok c.read_into-in-Ok.result
    (λ (second : (payloads : List (List ℕ)) → Holds (g.D.Disk.bytes next.disk) next.ends payloads → IfSome (g.D.Disk.bytes next.disk) (λ (_ : List ℕ). c.read_into-in-Ok.new.buf.bytes ≡ take (length c.args.rest.now.bytes) (drop 65536 (get_or payloads c.args.i [])))) payloads h.
    both_parts (g.D.Disk.bytes log.disk) c.read_into.new.buf.bytes c.read_into-in-Ok.new.buf.bytes (get_or payloads c.args.i []) (length c.args.first.now.bytes) 65536 (length c.args.rest.now.bytes) c.requires.first (c.requires.size payloads h) (c.in-Ok.ensures.bytes payloads h)
    (subst (λ (o : Option (List ℕ)). IfSome o (λ (_ : List ℕ). c.read_into-in-Ok.new.buf.bytes ≡ take (length c.args.rest.now.bytes) (drop 65536 (get_or payloads c.args.i [])))) (sym bytes)
    (second payloads (subst (λ (o : Option (List ℕ)). Holds o next.ends payloads) bytes (subst (λ (l : List ℕ). Holds (g.D.Disk.bytes log.disk) l payloads) ends h)))))
    c.read_into-in-Ok.ensures.bytes
