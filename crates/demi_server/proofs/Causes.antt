-- Where a link ended by a fault, the count of what failed rose.
use Rattle.std.proofs.Common.{◌≡◌, ℕ, ◌<◌, List, [], ◌∷◌, ◌++◌, ◌∙◌, ap, sym, subst}
use Rattle.std.specs.Prelude.{Option}
use Rattle.demi_core.specs.Outside.{Rose}
use Rattle.demi_device.specs.Serving.{trail}
use Rattle.demi_port_core.specs.History.{Each}
use Rattle.demi_port_core.specs.Trails.{Behind}
use Rattle.demi_port_core.specs.declared.trail.Trail.{Trail}
use Rattle.demi_store.specs.Laws.{Admits, StoreBasis}
use Rattle.demi_store.specs.Steady.{admits_steady}
use Rattle.demi_store.specs.declared.ask.StoreAsk.{StoreAsk}
use Rattle.demi_store.specs.declared.out.StoreOut.{StoreOut}
use Rattle.demi_store.specs.declared.told.StoreTold.{StoreTold}
use Rattle.demi_streamq.specs.Receiving as rx
use Rattle.demi_streamq.specs.Receiving.{RxAdmits}
use Rattle.demi_streamq.specs.RxGoing.{RxValue}
use Rattle.demi_streamq.specs.RxKept as rx_kept
use Rattle.demi_streamq.specs.Sending as tx
use Rattle.demi_streamq.specs.TxGoing.{TxValue}
use Rattle.demi_streamq.specs.TxKept as tx_kept
use Rattle.demi_streamq.specs.declared.rx_out.RxOut.{RxOut}
use Rattle.demi_streamq.specs.declared.rx_told.RxTold.{RxTold}
use Rattle.demi_streamq.specs.declared.tx_op.TxOp.TheVariants as tx_op
use Rattle.demi_served.specs.Reading.{Popped}
use Rattle.demi_link.specs.Heard.{CameAt, IsReadFault, IsWriteFault, LastCame}
use Rattle.demi_link.specs.Sights.{Sight}
use Rattle.demi_link.proofs.Lists.{above_floor}
use Rattle.demi_closed.specs.LinkClosed.{PortsClosed}
use Rattle.demi_closed.proofs.Entries.{knew_before}
use Rattle.demi_server.proofs.FaultsTold.{read_fault_told, write_fault_told}

last_in : {X : Type 0} (P : X → Type 0) (xs : List X) (x : X) → Each P (xs ++ x ∷ []) → P x
last_in P [] x h = h.0
last_in P (y ∷ xs) x h = last_in P xs x h.1

all_added : {X : Type 0} (old new added : List X) → old ≡ [] → new ≡ old ++ added → new ≡ added
all_added old new added none e = e ∙ ap (λ l. l ++ added) none

module _ {I O : Type 0} (taken : I → ℕ) (left : I → Option (List ℕ)) (read_faults : I → ℕ) (reads : I → ℕ → Option (List ℕ) → I → Type 0) (written : O → Option (List ℕ)) (write_faults : O → ℕ)
    (s : Sight) (rx_old rx_new : RxValue I) (tx_old tx_new : TxValue O) (p : PortsClosed taken left read_faults reads written write_faults s rx_old rx_new tx_old tx_new) where
  pub read_rose : (outs : List (ℕ × RxOut)) → Popped p.rx_end.heard p.rx_end.trail outs → LastCame IsReadFault outs → Rose (read_faults rx_old.source) (read_faults rx_new.source)
  read_rose outs popped came =
      let told : p.rx_end.trail ≡ trail rx.told rx_new.finished = p.rx_closed.ends.trail ∙ p.rx_closed.agrees.tells in
      let admitted : RxAdmits p.rx_end.heard p.rx_end.trail came.last.0 came.last.1 =
      last_in (λ (o : ℕ × RxOut). RxAdmits p.rx_end.heard p.rx_end.trail o.0 o.1) came.before came.last (subst (Each (λ (o : ℕ × RxOut). RxAdmits p.rx_end.heard p.rx_end.trail o.0 o.1)) came.all popped.admitted) in
      let has = read_fault_told p.rx_end.heard rx_new.finished came.last.0 came.last.1 came.is (subst (λ (t : List (ℕ × RxTold)). RxAdmits p.rx_end.heard t came.last.0 came.last.1) told admitted) in
      p.rx_closed.goes.rose (subst rx_kept.HasFault (all_added rx_old.finished rx_new.finished p.rx_closed.goes.added p.rx_closed.unfinished p.rx_closed.goes.finished) has)

  pub write_rose : (place : ℕ) → CameAt IsWriteFault s.tx place → Rose (write_faults tx_old.sink) (write_faults tx_new.sink)
  write_rose place came =
      let knew = knew_before p.tx_id p.tx_seat p.tx_passes p.tx_end p.tx_closed.ends s.number p.tx_only p.tx_pass p.tx_mine.1 p.tx_mine.0 tx_op.Stop s.tx p.tx_added in
      let begins : trail tx.told tx_new.finished ≡ s.tx.known.told ++ knew.told.0 = sym (p.tx_closed.ends.trail ∙ p.tx_closed.agrees.tells) ∙ knew.told.1 in
      let has = write_fault_told s.tx.known.heard s.tx.known.told knew.told.0 tx_new.finished place came.outcome begins came.is came.admitted in
      p.tx_closed.goes.rose (subst tx_kept.HasFault (all_added tx_old.finished tx_new.finished p.tx_closed.goes.added p.tx_closed.unfinished p.tx_closed.goes.finished) has)

-- what a pass was handed admits at a final place what all that was heard and told admits there
pub admitted_on : (b : StoreBasis) (known end : Trail StoreAsk StoreTold) (place : ℕ) (o : StoreOut) → Behind end known → place < known.floor → Admits b known.heard known.told place o → Admits b end.heard end.told place o
admitted_on b known end place o behind low a =
    let above = above_floor place known.floor behind.told.0 low behind.told.2 in
    let there : Admits b (known.heard ++ behind.heard.0) (known.told ++ behind.told.0) place o = (admits_steady b known.heard behind.heard.0 known.told behind.told.0 place o o a above).1 a in
    subst (λ (t : List (ℕ × StoreTold)). Admits b end.heard t place o) (sym behind.told.1) (subst (λ (h : List StoreAsk). Admits b h (known.told ++ behind.told.0) place o) (sym behind.heard.1) there)
