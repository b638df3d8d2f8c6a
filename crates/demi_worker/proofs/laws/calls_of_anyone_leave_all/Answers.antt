use Rattle.std.proofs.Common.{refl}
use Rattle.demi_worker.proofs.Leaving.{leaves_all}
use Rattle.demi_worker.proofs.Standing.{stands_as, stands_beside}
use Rattle.demi_worker.proofs.laws.calls_of_anyone_leave_all.Goals as goal

pub returns-clause-leaves : goal.returns-clause-leaves
returns-clause-leaves g c = λ a b step. leaves_all g.C.Scanner.goes g.C.Calls.sight g.met.C.Calls.goes_beside a b step

pub returns-clause-stands : goal.returns-clause-stands
returns-clause-stands g c = λ a b s ended step stands.
    let ports = g.C.Scanner.ports in let sight = g.C.Calls.sight in
    let others = leaves_all g.C.Scanner.goes sight g.met.C.Calls.goes_beside a b step in
    stands_as (ports a) (ports b) (sight b) s s ended ended (g.met.C.Scanner.goes_ports 0 a b (step 0)) refl refl (stands_beside (ports a) (sight a) (sight b) s ended others stands)
