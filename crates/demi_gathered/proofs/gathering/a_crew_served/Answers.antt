use Rattle.std.proofs.Common.{◌≡◌, ◌∙◌, ℕ, ◌*◌, ◌+◌, List, Some, length, map, subst, sym}
use Rattle.std.specs.Prelude.{slice_get}
use Rattle.demi_pdpix.specs.Lanes.{IsEndOf}
use Rattle.demi_served.specs.Ends.{StorePass}
use Rattle.demi_gathered.specs.Gathered.{ports_then}
use Rattle.demi_gathered.proofs.AllCome.{all_come}
use Rattle.demi_gathered.proofs.Hands.{are_workers, hands_many, member_at, muster, same_passes}
use Rattle.demi_gathered.proofs.Places.{zero_more}
use Rattle.demi_gathered.proofs.gathering.a_crew_served.Goals as goal

pub returns : goal.returns
returns g c = λ demi crew links seat end records placed has shared shut ends as_many logged.
    let taken = g.I.Source.taken in
    let left = g.I.Source.left in
    let rf = g.I.Source.faults in
    let reads = g.I.Source.reads in
    let written = g.O.Sink.written in
    let wf = g.O.Sink.faults in
    let hands = muster demi 0 crew placed in
    let all = all_come taken left rf reads written wf demi crew (length links) has shared (member_at demi crew placed) hands.0 hands.1
    (λ rx_old rx_new tx_old tx_new ports s d why. c.a_served_link_closes.ensures ports s d why rx_old rx_new tx_old tx_new)
    0 links (zero_more (length links)) shut in
    let workers = are_workers demi (length links) crew shared all.ends all.whose 0 crew hands.0 hands.1 (λ j m at. subst (λ (k : ℕ). slice_get crew k ≡ Some m) (sym (zero_more j)) at) in
    let closed = subst (λ (l : List StorePass). IsEndOf demi.service seat l end) (same_passes demi 0 crew hands.0 hands.1) ends in
    let served = c.a_session_closes.ensures demi.service.key.base (3 + 2 * length links) hands.0 all.ends demi.service seat end all.runs (map ports_then links) all.talks records
    workers all.by closed (as_many ∙ sym (hands_many demi 0 crew hands.0 hands.1)) all.results logged in
    record { ends = all.ends; runs = all.runs; gathered = all.gathered; served = served.0 }
