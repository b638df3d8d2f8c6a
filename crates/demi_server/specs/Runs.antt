-- What each device of a session comes to.
use Rattle.std.specs.Prelude.{◌≡◌, ℕ, ◌^◌, List, Bool, Option, Some, None}
use Rattle.demi_memq.specs.Counting.{result_at}
use Rattle.demi_memq.specs.Engine.{GoesTo as MemGoes}
use Rattle.demi_memq.specs.Said.{IsFrom as IsFromHeap, is_stop as stops_memory, out_said}
use Rattle.demi_memq.specs.declared.out.MemOut.{MemOut}
use Rattle.demi_store.specs.Engine.{GoesTo as StoreGoes}
use Rattle.demi_store.specs.Laws.{Admits as StoreAdmits, is_stop as stops_store, told_of}
use Rattle.demi_streamq.specs.Receiving.{IsFrom as IsOnHeap, RxAdmits, is_stop as stops_reading, told as rx_told}
use Rattle.demi_streamq.specs.RxGoing.{RxGoes}
use Rattle.demi_streamq.specs.Sending.{TxAdmits, is_stop as stops_writing, told as tx_told}
use Rattle.demi_streamq.specs.TxGoing.{TxGoes}
use Rattle.demi_server.specs.Building.{MemDevice, RxDevice, TxDevice}
use Rattle.demi_server.specs.Gathering.{StoreDevice}
use Rattle.demi_server.specs.Stations.{HasRun}

-- the device of the memory queues has run to the end of its service
abbrev pub MemRan : MemDevice → MemDevice → Type 0
MemRan = HasRun {U = MemOut} MemGoes (λ e. e.pass.heap) (λ e. e.room) (λ e. e.served) (λ e. e.finished) (λ o. None) (λ b h t p o. (result_at 1024 h p ≡ Some (out_said o)) × IsFromHeap b o) stops_memory

-- that of the store
abbrev pub StoreRan : {D : Type 0} → (D → Option (List ℕ)) → (D → ℕ) → (D → ℕ) → (D → List ℕ → Bool → D → Type 0) → (D → D → Type 0) → StoreDevice D → StoreDevice D → Type 0
StoreRan bytes held faults appends looks = HasRun (StoreGoes bytes held faults appends looks) (λ e. e.base) (λ e. 2 ^ 32) (λ e. e.served) (λ e. e.finished) told_of StoreAdmits stops_store

-- that of a receiving side
abbrev pub RxRan : {I : Type 0} → (I → ℕ) → (I → Option (List ℕ)) → (I → ℕ) → (I → ℕ → Option (List ℕ) → I → Type 0) → RxDevice I → RxDevice I → Type 0
RxRan taken left faults reads = HasRun (RxGoes taken left faults reads) (λ e. e.pass.heap) (λ e. 1024) (λ e. e.served) (λ e. e.finished) rx_told (λ b h t p o. RxAdmits h t p o × IsOnHeap b o) stops_reading

-- that of a sending side
abbrev pub TxRan : {O : Type 0} → (O → Option (List ℕ)) → (O → ℕ) → TxDevice O → TxDevice O → Type 0
TxRan written faults = HasRun (TxGoes written faults) (λ e. e.pass.heap) (λ e. 1024) (λ e. e.served) (λ e. e.finished) tx_told (λ b h t p o. TxAdmits h t p o) stops_writing
