-- What is said to an operation, case by case.
use Rattle.std.proofs.Common.{◌≡◌, ℕ, ◌+◌, ◌<◌, ◌≤◌, List, [], ◌∷◌, ◌++◌, length, take, Bool, true, false, cond, ap, sym, ◌∙◌, subst, arith, refl}
use Rattle.std.specs.Prelude.{Option, Some, None, IfSome, nat_le, option_map}
use Rattle.std.proofs.lemmas.List.{append-nil, take_all}
use Rattle.std.proofs.lemmas.Bool.Decides.{nat_tests}
use Rattle.arrayvec.specs.ArrayVec.{ArrayVec}
use Rattle.demi_heap.specs.Seen.{HalfValue}
use Rattle.demi_logq.specs.Items.{tells}
use Rattle.demi_logq.proofs.Saying.{tells_append}
use Rattle.demi_port_core.specs.declared.place.Place.{Place}
use Rattle.demi_spec.specs.Input.{Request_of}
use Rattle.demi_spec.specs.LogText.{entry}
use Rattle.demi_spec.specs.Record.{Record, payload}
use Rattle.demi_spec.specs.Reply as reply
use Rattle.demi_spec.specs.Request as request
use Rattle.demi_spec.specs.Store.{found, map}
use Rattle.demi_store.specs.declared.answer.StoreAnswer.{StoreAnswer}
use Rattle.demi_store.specs.declared.answer.StoreAnswer.TheVariants as said
use Rattle.demi_store.specs.declared.back.Back.{Back}
use Rattle.demi_store.specs.declared.back.Back.TheVariants.{Room}
use Rattle.demi_store.specs.declared.op.StoreOp.{StoreOp}
use Rattle.demi_store.specs.declared.op.StoreOp.TheVariants.{Put, Get}
use Rattle.demi_store.specs.declared.out.StoreOut.{StoreOut}
use Rattle.demi_store.specs.declared.told.StoreTold.TheVariants.{ByDisk, ByMemory}
use Rattle.demi_store.specs.Cores.{Core, CorePut}
use Rattle.demi_store.specs.History.{Said, Told, Fault, NoMemory, Broken, Stopped, Standing, answered, said_by, said_open, record_of_put, value_bytes}
use Rattle.demi_store.specs.Laws.{StoreBasis, BackIs, SameSlot, SaysTo, ValueIs, AllSame, told_of}
use Rattle.demi_store.specs.Serving.{Answered, Moves, Shows}
use Rattle.demi_store.specs.Shelves.{GotIs}

no_room : (limit n : ℕ) → limit ≤ n → nat_le limit n ≡ true
no_room limit n e = grind (arith, nat_tests)

room_left : (limit n : ℕ) → n < limit → nat_le limit n ≡ false
room_left limit n e = grind (arith, nat_tests)

-- an answer where no stop came before
pub by_case : (told : Bool) (limit p : ℕ) (s : Standing) (Show : Standing → Type 0) → s.stop ≡ None → (op : StoreOp) (o : StoreOut) (x : Said) (s' : Standing)
    → said_open limit p s op (told_of o) s.fault ≡ (x, s') → SaysTo told op x o → Show s' → Answered told limit p op s Show o
by_case told limit p s Show calm op o x s' e is show =
    let f = ap (λ (q : Option ℕ). said_by limit p s op (told_of o) q) calm ∙ e in record {
      said = subst (λ (y : Said). SaysTo told op y o) (sym (ap (λ (r : Said × Standing). r.0) f)) is;
      shows = subst Show (sym (ap (λ (r : Said × Standing). r.1) f)) show;
    }

-- after a stop
pub stopped_answered : (told : Bool) (limit p : ℕ) (s : Standing) (Show : Standing → Type 0) (at : ℕ) → s.stop ≡ Some at → (op : StoreOp) (o : StoreOut) → SaysTo told op (Stopped at) o → Show s → Answered told limit p op s Show o
stopped_answered told limit p s Show at stop op o is show =
    let f = ap (λ (q : Option ℕ). said_by limit p s op (told_of o) q) stop in record {
      said = subst (λ (y : Said). SaysTo told op y o) (sym (ap (λ (r : Said × Standing). r.0) f)) is;
      shows = subst Show (sym (ap (λ (r : Said × Standing). r.1) f)) show;
    }

-- the answer to a put
module _ (limit link index : ℕ) (key : ArrayVec ℕ) (value : Option (List HalfValue)) (s : Standing) where
  by_room : (full : Bool) → nat_le limit (length s.records) ≡ full
      → answered limit link index s (Request_of (request.Put key.items (value_bytes value)))
      ≡ (
        Told (Rattle.std.specs.Bool.if◌then◌else◌ full (reply.Full (length s.records)) (reply.Stored (length s.records + 1) (value_bytes value))),
        record s { records = s.records ++ Rattle.std.specs.Bool.if◌then◌else◌ full [] (record_of_put link index key value ∷ []) },
      )
  by_room full e =
      ap (λ (b : Bool). (
        Told (Rattle.std.specs.Bool.if◌then◌else◌ b (reply.Full (length s.records)) (reply.Stored (length s.records + 1) (value_bytes value))),
        record s { records = s.records ++ Rattle.std.specs.Bool.if◌then◌else◌ b [] (record_of_put link index key value ∷ []) },
      )) e

  stored_is : length s.records < limit → answered limit link index s (Request_of (request.Put key.items (value_bytes value)))
      ≡ (Told (reply.Stored (length s.records + 1) (value_bytes value)), record s { records = s.records ++ record_of_put link index key value ∷ [] })
  stored_is less = by_room false (room_left limit (length s.records) less)

  full_is : limit ≤ length s.records → answered limit link index s (Request_of (request.Put key.items (value_bytes value))) ≡ (Told (reply.Full (length s.records)), s)
  full_is most = by_room true (no_room limit (length s.records) most) ∙ ap (λ (l : List Record). (Told (reply.Full (length s.records)), record s { records = l })) (append-nil s.records)

-- the same slots
pub all_same : (sga : List HalfValue) → AllSame sga sga
all_same [] = tt
all_same (a ∷ sga) = ((refl, refl, refl), refl, all_same sga)

abbrev number : Option Place → Option ℕ
number o = option_map (λ (p : Place). p.0) o

-- a put's record was begun, and its put answered
module _ {D : Type 0} (bytes : D → Option (List ℕ)) (held faults : D → ℕ) (appends : D → List ℕ → Bool → D → Type 0) (looks : D → D → Type 0) (b : StoreBasis) (s : Standing) (stop : Option Place) (place : Place) where
  module _ (old new : Core D) (link index : ℕ) (key : ArrayVec ℕ) (value : Option (List HalfValue)) (back : Back) (shows : Shows (bytes old.log.disk) old b s stop) (calm : stop ≡ None) where
    stopped_not : s.stop ≡ None
    stopped_not = sym shows.stop_is ∙ ap number calm

    count : length old.records ≡ length s.records
    count = ap length shows.records

    pub put_answered : (answer : StoreAnswer) → ((x : Said) → BackIs b.told x (Put link index key value) back)
        → CorePut bytes held faults appends (record old { begun = Some (record_of_put link index key value) }) new place.0 (record_of_put link index key value) answer
        → Answered b.told b.limit place.0 (Put link index key value) s (λ (t : Standing). Shows (bytes new.log.disk) new b t stop) (record { answer = answer; back = back })
    put_answered (said.Stored v) backs d =
        let whole : s.fault ≡ None = sym shows.fault_is ∙ ap number d.0 in
        let less : length s.records < b.limit = (let l = d.1 in let c = count in let m = shows.limit in omega arith) in
        by_case b.told b.limit place.0 s _ stopped_not (Put link index key value) (record { answer = said.Stored v; back = back }) (Told (reply.Stored (length s.records + 1) (value_bytes value)))
        (record s { records = s.records ++ record_of_put link index key value ∷ [] })
        (ap (λ (q : Option ℕ). said_open b.limit place.0 s (Put link index key value) None q) whole ∙ stored_is b.limit link index key value s less)
        (ap said.Stored (d.2 ∙ ap (λ (n : ℕ). n + 1) count), backs (Told (reply.Stored (length s.records + 1) (value_bytes value))))
        (record {
          limit = ap (λ (c : Core D). c.limit) d.3 ∙ shows.limit;
          begun = ap (λ (c : Core D). c.begun) d.3;
          records = ap (λ (c : Core D). c.records) d.3 ∙ ap (λ (l : List Record). l ++ record_of_put link index key value ∷ []) shows.records;
          fault_is = ap (λ (c : Core D). number c.fault) d.3 ∙ shows.fault_is;
          stop_is = shows.stop_is;
          told_is = shows.told_is ∙ sym (tells_append (entry (payload (record_of_put link index key value))) _ _ d.4.bytes_are);
        })
    put_answered (said.Full v) backs d =
        let whole : s.fault ≡ None = sym shows.fault_is ∙ ap number d.0 in
        let most : b.limit ≤ length s.records = (let l = d.1 in let c = count in let m = shows.limit in omega arith) in
        by_case b.told b.limit place.0 s _ stopped_not (Put link index key value) (record { answer = said.Full v; back = back }) (Told (reply.Full (length s.records))) s
        (ap (λ (q : Option ℕ). said_open b.limit place.0 s (Put link index key value) None q) whole ∙ full_is b.limit link index key value s most)
        (ap said.Full (d.2 ∙ count), backs (Told (reply.Full (length s.records))))
        (record {
          limit = ap (λ (c : Core D). c.limit) d.3 ∙ shows.limit;
          begun = ap (λ (c : Core D). c.begun) d.3;
          records = ap (λ (c : Core D). c.records) d.3 ∙ shows.records;
          fault_is = ap (λ (c : Core D). number c.fault) d.3 ∙ shows.fault_is;
          stop_is = shows.stop_is;
          told_is = shows.told_is ∙ sym (ap (λ (c : Core D). tells (bytes c.log.disk)) d.3);
        })
    put_answered said.NoMemory backs d =
        let whole : s.fault ≡ None = sym shows.fault_is ∙ ap number d.0 in
        let less : length s.records < b.limit = (let l = d.1 in let c = count in let m = shows.limit in omega arith) in
        by_case b.told b.limit place.0 s _ stopped_not (Put link index key value) (record { answer = said.NoMemory; back = back }) NoMemory s
        (ap (λ (q : Option ℕ). said_open b.limit place.0 s (Put link index key value) (Some ByMemory) q) whole
        ∙ ap (λ (f : Bool). cond f (answered b.limit link index s (Request_of (request.Put key.items (value_bytes value)))) (NoMemory, s)) (room_left b.limit (length s.records) less))
        (refl, backs NoMemory)
        (record {
          limit = ap (λ (c : Core D). c.limit) d.2 ∙ shows.limit;
          begun = ap (λ (c : Core D). c.begun) d.2;
          records = ap (λ (c : Core D). c.records) d.2 ∙ shows.records;
          fault_is = ap (λ (c : Core D). number c.fault) d.2 ∙ shows.fault_is;
          stop_is = shows.stop_is;
          told_is = shows.told_is ∙ sym (ap (λ (c : Core D). tells (bytes c.log.disk)) d.2);
        })
    put_answered said.Fault backs d =
        let whole : s.fault ≡ None = sym shows.fault_is ∙ ap number d.0 in
        let less : length s.records < b.limit = (let l = d.1 in let c = count in let m = shows.limit in omega arith) in
        by_case b.told b.limit place.0 s _ stopped_not (Put link index key value) (record { answer = said.Fault; back = back }) Fault (record s { fault = Some place.0 })
        (ap (λ (q : Option ℕ). said_open b.limit place.0 s (Put link index key value) (Some ByDisk) q) whole
        ∙ ap (λ (f : Bool). cond f (answered b.limit link index s (Request_of (request.Put key.items (value_bytes value)))) (Fault, record s { fault = Some place.0 })) (room_left b.limit (length s.records) less))
        (refl, backs Fault)
        (record {
          limit = ap (λ (c : Core D). c.limit) d.2 ∙ shows.limit;
          begun = ap (λ (c : Core D). c.begun) d.2;
          records = ap (λ (c : Core D). c.records) d.2 ∙ shows.records;
          fault_is = ap (λ (c : Core D). number c.fault) d.2;
          stop_is = shows.stop_is;
          told_is = shows.told_is ∙ sym (tells_append (take d.3.grown.0 (entry (payload (record_of_put link index key value)))) _ _ d.3.grown.2);
        })
    put_answered (said.Broken at) backs d =
        let broken : s.fault ≡ Some at.0 = sym shows.fault_is ∙ ap number d.0 in
        by_case b.told b.limit place.0 s _ stopped_not (Put link index key value) (record { answer = said.Broken at; back = back }) (Broken at.0) s
        (ap (λ (q : Option ℕ). said_open b.limit place.0 s (Put link index key value) None q) broken)
        (refl, backs (Broken at.0))
        (record {
          limit = ap (λ (c : Core D). c.limit) d.1 ∙ shows.limit;
          begun = ap (λ (c : Core D). c.begun) d.1;
          records = ap (λ (c : Core D). c.records) d.1 ∙ shows.records;
          fault_is = ap (λ (c : Core D). number c.fault) d.1 ∙ shows.fault_is;
          stop_is = shows.stop_is;
          told_is = shows.told_is ∙ sym (ap (λ (c : Core D). tells (bytes c.log.disk)) d.1);
        })
    put_answered (said.Found v) backs d = absurd d
    put_answered (said.Missing v) backs d = absurd d
    put_answered (said.Stopped at) backs d = absurd d
    put_answered said.Halted backs d = absurd d

    pub put_moves : (answer : StoreAnswer) → faults old.log.disk ≤ faults new.log.disk
        → CorePut bytes held faults appends (record old { begun = Some (record_of_put link index key value) }) new place.0 (record_of_put link index key value) answer
        → Moves bytes held faults appends looks old.log new.log (Put link index key value) (record { answer = answer; back = back })
    put_moves (said.Stored v) later d = record { later = later; fault = λ e. absurd (cc); log = d.4 }
    put_moves (said.Full v) later d = record { later = later; fault = λ e. absurd (cc); log = ap (λ (c : Core D). c.log) d.3 }
    put_moves said.NoMemory later d = record { later = later; fault = λ e. absurd (cc); log = ap (λ (c : Core D). c.log) d.2 }
    put_moves said.Fault later d = record { later = later; fault = λ e. d.3.cause; log = d.3 }
    put_moves (said.Broken at) later d = record { later = later; fault = λ e. absurd (cc); log = ap (λ (c : Core D). c.log) d.1 }
    put_moves (said.Found v) later d = absurd d
    put_moves (said.Missing v) later d = absurd d
    put_moves (said.Stopped at) later d = absurd d
    put_moves said.Halted later d = absurd d

  -- the bytes of a value that was read
  value_is : (o : Option (List ℕ)) (t : Bool) (room value : List ℕ) → t ≡ tells o → length room ≡ length value → IfSome o (λ _. take (length room) room ≡ value) → ValueIs t value room
  value_is None t room value e long is = subst (λ (x : Bool). ValueIs x value room) (sym e) long
  value_is (Some y) t room value e long is = subst (λ (x : Bool). ValueIs x value room) (sym e) (sym (take_all (length room) room (omega arith)) ∙ is)

  no_bytes : (l : List ℕ) → length l ≡ 0 → l ≡ []
  no_bytes [] e = refl
  no_bytes (x ∷ l) e = absurd (omega arith)

  module _ (old new : Core D) (key : ArrayVec ℕ) (room back : HalfValue) (shows : Shows (bytes old.log.disk) old b s stop) (calm : stop ≡ None) (same : new ≡ record old { log = new.log; fault = new.fault }) (told : bytes new.log.disk ≡ bytes old.log.disk) where
    not_stopped : s.stop ≡ None
    not_stopped = sym shows.stop_is ∙ ap number calm

    -- what stands then, but for the fault
    shown : (t : Standing) → t.records ≡ s.records → t.stop ≡ s.stop → number new.fault ≡ t.fault → Shows (bytes new.log.disk) new b t stop
    shown t records stops fault = record {
      limit = ap (λ (c : Core D). c.limit) same ∙ shows.limit;
      begun = ap (λ (c : Core D). c.begun) same ∙ shows.begun;
      records = ap (λ (c : Core D). c.records) same ∙ shows.records ∙ sym records;
      fault_is = fault;
      stop_is = shows.stop_is ∙ sym stops;
      told_is = shows.told_is ∙ ap tells (sym told);
    }

    pub get_answered : (answer : StoreAnswer) → SameSlot room back → GotIs bytes faults old.log old.fault new.log new.fault old.records place.0 key.items back.bytes answer (length back.bytes)
        → Answered b.told b.limit place.0 (Get key room) s (λ (t : Standing). Shows (bytes new.log.disk) new b t stop) (record { answer = answer; back = Room back })
    get_answered (said.Found v) slot d =
        let whole : s.fault ≡ None = sym shows.fault_is ∙ ap number d.0 in
        let f = d.3 in
        let has : map s.records key.items ≡ Some f.0 = ap (λ (l : List Record). map l key.items) (sym shows.records) ∙ f.1 in
        by_case b.told b.limit place.0 s _ not_stopped (Get key room) (record { answer = said.Found v; back = Room back }) (Told (reply.Found (length s.records) f.0)) s
        (ap (λ (q : Option ℕ). said_open b.limit place.0 s (Get key room) None q) whole ∙ ap (λ (o : Option (List ℕ)). (Told (found (length s.records) o), s)) has)
        (ap said.Found (d.2 ∙ ap length shows.records), (slot, value_is (bytes old.log.disk) b.told back.bytes f.0 shows.told_is f.2 f.3))
        (shown s refl refl (ap number d.1 ∙ sym whole))
    get_answered (said.Missing v) slot d =
        let whole : s.fault ≡ None = sym shows.fault_is ∙ ap number d.0 in
        let none : map s.records key.items ≡ None = ap (λ (l : List Record). map l key.items) (sym shows.records) ∙ d.3 in
        by_case b.told b.limit place.0 s _ not_stopped (Get key room) (record { answer = said.Missing v; back = Room back }) (Told (reply.Missing (length s.records))) s
        (ap (λ (q : Option ℕ). said_open b.limit place.0 s (Get key room) None q) whole ∙ ap (λ (o : Option (List ℕ)). (Told (found (length s.records) o), s)) none)
        (ap said.Missing (d.2 ∙ ap length shows.records), (slot, no_bytes back.bytes d.4))
        (shown s refl refl (ap number d.1 ∙ sym whole))
    get_answered said.Fault slot d =
        let whole : s.fault ≡ None = sym shows.fault_is ∙ ap number d.0 in
        by_case b.told b.limit place.0 s _ not_stopped (Get key room) (record { answer = said.Fault; back = Room back }) Fault (record s { fault = Some place.0 })
        (ap (λ (q : Option ℕ). said_open b.limit place.0 s (Get key room) (Some ByDisk) q) whole)
        (refl, (slot, tt))
        (shown (record s { fault = Some place.0 }) refl refl (ap number d.1))
    get_answered (said.Broken at) slot d =
        let broken : s.fault ≡ Some at.0 = sym shows.fault_is ∙ ap number d.0 in
        by_case b.told b.limit place.0 s _ not_stopped (Get key room) (record { answer = said.Broken at; back = Room back }) (Broken at.0) s
        (ap (λ (q : Option ℕ). said_open b.limit place.0 s (Get key room) None q) broken)
        (refl, (slot, tt))
        (shown s refl refl (ap number d.1 ∙ shows.fault_is))
    get_answered (said.Stored v) slot d = absurd d
    get_answered (said.Full v) slot d = absurd d
    get_answered said.NoMemory slot d = absurd d
    get_answered (said.Stopped at) slot d = absurd d
    get_answered said.Halted slot d = absurd d

    pub get_moves : (answer : StoreAnswer) → faults old.log.disk ≤ faults new.log.disk → new.log ≡ record (old.log) { disk = new.log.disk } → looks old.log.disk new.log.disk → held new.log.disk ≡ held old.log.disk
        → GotIs bytes faults old.log old.fault new.log new.fault old.records place.0 key.items back.bytes answer (length back.bytes)
        → Moves bytes held faults appends looks old.log new.log (Get key room) (record { answer = answer; back = Room back })
    get_moves (said.Found v) later log calls holds d = record { later = later; fault = λ e. absurd (cc); log = (log, calls, told, holds) }
    get_moves (said.Missing v) later log calls holds d = record { later = later; fault = λ e. absurd (cc); log = d.5 }
    get_moves said.Fault later log calls holds d = record { later = later; fault = λ e. d.3; log = (log, calls, told, holds) }
    get_moves (said.Broken at) later log calls holds d = record { later = later; fault = λ e. absurd (cc); log = d.3 }
    get_moves (said.Stored v) later log calls holds d = absurd d
    get_moves (said.Full v) later log calls holds d = absurd d
    get_moves said.NoMemory later log calls holds d = absurd d
    get_moves (said.Stopped at) later log calls holds d = absurd d
    get_moves said.Halted later log calls holds d = absurd d
