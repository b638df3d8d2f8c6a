use Rattle.demi_sharing.proofs.Closes.{are_shared, shared_out}
use Rattle.demi_sharing.proofs.closing.a_closed_port_shared_out.Goals as goal

pub returns : goal.returns
returns c = λ links taken id seat passes end closed.
    let shares = are_shared links taken id seat passes end closed in
    let served = c.each_link_has_one_worker.ensures in
    shared_out links taken id seat passes end closed (λ l more less. served.some links seat.passes end.history shares l more less) (λ l n m a b. served.one links seat.passes end.history shares l n m a b) (λ l n a. served.a_link links seat.passes end.history shares l n a)
