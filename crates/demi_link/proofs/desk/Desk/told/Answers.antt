use Rattle.std.proofs.Common.{◌≡◌, ◌-◌, ◌∙◌, ℕ, List, None, Option, Some, ap, arith, length, refl, subst, sym}
use Rattle.demi_heap.specs.Seen.{HalfValue, HeapId}
use Rattle.demi_sga.specs.Arrays.{AreOf}
use Rattle.demi_store.specs.declared.answer.StoreAnswer.{StoreAnswer}
use Rattle.demi_store.specs.declared.answer.StoreAnswer.TheVariants as said
use Rattle.demi_streamq.specs.Sending.{array_bytes}
use Rattle.demi_served.specs.Asking.{answer_with}
use Rattle.demi_link.specs.Desks.{desk_of}
use Rattle.demi_link.specs.Events.{Adds, Event, StoreCame}
use Rattle.demi_link.specs.Causes.{Caused}
use Rattle.demi_link.specs.Heard.{IsLogFault, IsMemoryFault}
use Rattle.demi_link.specs.Fitting.{Fits, IsSent, answer_as, body_of, with_reply}
use Rattle.demi_link.specs.Giving.{IsPaired, segments_of, where_bytes}
use Rattle.demi_link.specs.Sights.{Sight}
use Rattle.demi_link.specs.declared.phase.Cause.TheVariants as cause
use Rattle.demi_link.specs.declared.phase.Phase.{Phase}
use Rattle.demi_link.specs.declared.phase.Phase.TheVariants.{Over, Replying}
use Rattle.demi_link.proofs.Arriving.{adds_on, caused_by, caused_since}
use Rattle.demi_link.proofs.Bodies.{trimmed_few, trimmed_heap, trimmed_long}
use Rattle.demi_link.proofs.Tells.{comes_back, drafted, found_told, let_go_is, over_log, over_lost, over_memory, out_is, plain_out_is, same_heap, stored_told, with_out_is}
use Rattle.demi_link.proofs.desk.Desk.told.Goals as goal

pub taken_back-body-requires : goal.taken_back-body-requires
taken_back-body-requires g c = let d = desk_of c.args.self.now in let ports = g.C.Scanner.ports c.args.cx.now in let s = g.C.Calls.sight c.args.cx.now d.link in
    let t = c.requires in
    subst (λ (h : HeapId). IsPaired h c.args.half c.args.outcome.back) (sym (same_heap ports s d c.args.sequence c.args.half c.args.outcome t)) (comes_back ports s d c.args.sequence c.args.half c.args.outcome t).paired

pub with_bytes-body-requires-clause-heap : goal.with_bytes-body-requires-clause-heap
with_bytes-body-requires-clause-heap g c = let d = desk_of c.args.self.now in let ports = g.C.Scanner.ports c.args.cx.now in let s = g.C.Calls.sight c.args.cx.now d.link in let q = c.args.sequence in let half = c.args.half in let out = c.args.outcome in let t = c.requires in
    let y = g.C.Calls.sight c.taken_back-body.new.cx d.link in let b = c.taken_back-body.ensures in
    subst (λ (x : Option (List HalfValue)). AreOf y.heap (body_of x)) (sym b.body) (subst (λ (h : HeapId). AreOf h (body_of (segments_of out.back))) (sym (ap (λ (x : Sight). x.heap) b.sight ∙ same_heap ports s d q half out t)) (comes_back ports s d q half out t).heap_is)

pub with_bytes-body-requires-clause-out : goal.with_bytes-body-requires-clause-out
with_bytes-body-requires-clause-out g c = let d = desk_of c.args.self.now in let ports = g.C.Scanner.ports c.args.cx.now in let s = g.C.Calls.sight c.args.cx.now d.link in let q = c.args.sequence in let half = c.args.half in let out = c.args.outcome in let t = c.requires in
    let y = g.C.Calls.sight c.taken_back-body.new.cx d.link in let b = c.taken_back-body.ensures in
    ap (λ (x : Sight). x.out) b.sight ∙ out_is ports s d q half out t ∙ ap (λ (x : Option (List HalfValue)). length (body_of x)) (sym b.body)

pub let_go-requires-clause-heap : goal.let_go-requires-clause-heap
let_go-requires-clause-heap g c = let d = desk_of c.args.self.now in let ports = g.C.Scanner.ports c.args.cx.now in let s = g.C.Calls.sight c.args.cx.now d.link in let q = c.args.sequence in let half = c.args.half in let out = c.args.outcome in let t = c.requires in
    let y = g.C.Calls.sight c.taken_back-body.new.cx d.link in let b = c.taken_back-body.ensures in
    subst (λ (x : Option (List HalfValue)). AreOf y.heap (body_of x)) (sym b.body) (subst (λ (h : HeapId). AreOf h (body_of (segments_of out.back))) (sym (ap (λ (x : Sight). x.heap) b.sight ∙ same_heap ports s d q half out t)) (comes_back ports s d q half out t).heap_is)

pub let_go-requires-clause-out : goal.let_go-requires-clause-out
let_go-requires-clause-out g c = let d = desk_of c.args.self.now in let ports = g.C.Scanner.ports c.args.cx.now in let s = g.C.Calls.sight c.args.cx.now d.link in let q = c.args.sequence in let half = c.args.half in let out = c.args.outcome in let t = c.requires in
    let y = g.C.Calls.sight c.taken_back-body.new.cx d.link in let b = c.taken_back-body.ensures in
    (let e : y.out ≡ length (body_of c.taken_back-body.result) = ap (λ (x : Sight). x.out) b.sight ∙ out_is ports s d q half out t ∙ ap (λ (x : Option (List HalfValue)). length (body_of x)) (sym b.body) in omega arith)

pub let_go-requires-in-Full-clause-heap : goal.let_go-requires-in-Full-clause-heap
let_go-requires-in-Full-clause-heap g c = let d = desk_of c.args.self.now in let ports = g.C.Scanner.ports c.args.cx.now in let s = g.C.Calls.sight c.args.cx.now d.link in let q = c.args.sequence in let half = c.args.half in let out = c.args.outcome in let t = c.requires in
    let y = g.C.Calls.sight c.taken_back-body.new.cx d.link in let b = c.taken_back-body.ensures in
    subst (λ (x : Option (List HalfValue)). AreOf y.heap (body_of x)) (sym b.body) (subst (λ (h : HeapId). AreOf h (body_of (segments_of out.back))) (sym (ap (λ (x : Sight). x.heap) b.sight ∙ same_heap ports s d q half out t)) (comes_back ports s d q half out t).heap_is)

pub let_go-requires-in-Full-clause-out : goal.let_go-requires-in-Full-clause-out
let_go-requires-in-Full-clause-out g c = let d = desk_of c.args.self.now in let ports = g.C.Scanner.ports c.args.cx.now in let s = g.C.Calls.sight c.args.cx.now d.link in let q = c.args.sequence in let half = c.args.half in let out = c.args.outcome in let t = c.requires in
    let y = g.C.Calls.sight c.taken_back-body.new.cx d.link in let b = c.taken_back-body.ensures in
    (let e : y.out ≡ length (body_of c.taken_back-body.result) = ap (λ (x : Sight). x.out) b.sight ∙ out_is ports s d q half out t ∙ ap (λ (x : Option (List HalfValue)). length (body_of x)) (sym b.body) in omega arith)

pub let_go-requires-in-Fault-clause-heap : goal.let_go-requires-in-Fault-clause-heap
let_go-requires-in-Fault-clause-heap g c = let d = desk_of c.args.self.now in let ports = g.C.Scanner.ports c.args.cx.now in let s = g.C.Calls.sight c.args.cx.now d.link in let q = c.args.sequence in let half = c.args.half in let out = c.args.outcome in let t = c.requires in
    let y = g.C.Calls.sight c.taken_back-body.new.cx d.link in let b = c.taken_back-body.ensures in
    subst (λ (x : Option (List HalfValue)). AreOf y.heap (body_of x)) (sym b.body) (subst (λ (h : HeapId). AreOf h (body_of (segments_of out.back))) (sym (ap (λ (x : Sight). x.heap) b.sight ∙ same_heap ports s d q half out t)) (comes_back ports s d q half out t).heap_is)

pub let_go-requires-in-Fault-clause-out : goal.let_go-requires-in-Fault-clause-out
let_go-requires-in-Fault-clause-out g c = let d = desk_of c.args.self.now in let ports = g.C.Scanner.ports c.args.cx.now in let s = g.C.Calls.sight c.args.cx.now d.link in let q = c.args.sequence in let half = c.args.half in let out = c.args.outcome in let t = c.requires in
    let y = g.C.Calls.sight c.taken_back-body.new.cx d.link in let b = c.taken_back-body.ensures in
    (let e : y.out ≡ length (body_of c.taken_back-body.result) = ap (λ (x : Sight). x.out) b.sight ∙ out_is ports s d q half out t ∙ ap (λ (x : Option (List HalfValue)). length (body_of x)) (sym b.body) in omega arith)

pub let_go-requires-in-Broken-clause-heap : goal.let_go-requires-in-Broken-clause-heap
let_go-requires-in-Broken-clause-heap g c = let d = desk_of c.args.self.now in let ports = g.C.Scanner.ports c.args.cx.now in let s = g.C.Calls.sight c.args.cx.now d.link in let q = c.args.sequence in let half = c.args.half in let out = c.args.outcome in let t = c.requires in
    let y = g.C.Calls.sight c.taken_back-body.new.cx d.link in let b = c.taken_back-body.ensures in
    subst (λ (x : Option (List HalfValue)). AreOf y.heap (body_of x)) (sym b.body) (subst (λ (h : HeapId). AreOf h (body_of (segments_of out.back))) (sym (ap (λ (x : Sight). x.heap) b.sight ∙ same_heap ports s d q half out t)) (comes_back ports s d q half out t).heap_is)

pub let_go-requires-in-Broken-clause-out : goal.let_go-requires-in-Broken-clause-out
let_go-requires-in-Broken-clause-out g c = let d = desk_of c.args.self.now in let ports = g.C.Scanner.ports c.args.cx.now in let s = g.C.Calls.sight c.args.cx.now d.link in let q = c.args.sequence in let half = c.args.half in let out = c.args.outcome in let t = c.requires in
    let y = g.C.Calls.sight c.taken_back-body.new.cx d.link in let b = c.taken_back-body.ensures in
    (let e : y.out ≡ length (body_of c.taken_back-body.result) = ap (λ (x : Sight). x.out) b.sight ∙ out_is ports s d q half out t ∙ ap (λ (x : Option (List HalfValue)). length (body_of x)) (sym b.body) in omega arith)

pub let_go-requires-in-NoMemory-clause-heap : goal.let_go-requires-in-NoMemory-clause-heap
let_go-requires-in-NoMemory-clause-heap g c = let d = desk_of c.args.self.now in let ports = g.C.Scanner.ports c.args.cx.now in let s = g.C.Calls.sight c.args.cx.now d.link in let q = c.args.sequence in let half = c.args.half in let out = c.args.outcome in let t = c.requires in
    let y = g.C.Calls.sight c.taken_back-body.new.cx d.link in let b = c.taken_back-body.ensures in
    subst (λ (x : Option (List HalfValue)). AreOf y.heap (body_of x)) (sym b.body) (subst (λ (h : HeapId). AreOf h (body_of (segments_of out.back))) (sym (ap (λ (x : Sight). x.heap) b.sight ∙ same_heap ports s d q half out t)) (comes_back ports s d q half out t).heap_is)

pub let_go-requires-in-NoMemory-clause-out : goal.let_go-requires-in-NoMemory-clause-out
let_go-requires-in-NoMemory-clause-out g c = let d = desk_of c.args.self.now in let ports = g.C.Scanner.ports c.args.cx.now in let s = g.C.Calls.sight c.args.cx.now d.link in let q = c.args.sequence in let half = c.args.half in let out = c.args.outcome in let t = c.requires in
    let y = g.C.Calls.sight c.taken_back-body.new.cx d.link in let b = c.taken_back-body.ensures in
    (let e : y.out ≡ length (body_of c.taken_back-body.result) = ap (λ (x : Sight). x.out) b.sight ∙ out_is ports s d q half out t ∙ ap (λ (x : Option (List HalfValue)). length (body_of x)) (sym b.body) in omega arith)

pub let_go-requires-in-Stopped-clause-heap : goal.let_go-requires-in-Stopped-clause-heap
let_go-requires-in-Stopped-clause-heap g c = let d = desk_of c.args.self.now in let ports = g.C.Scanner.ports c.args.cx.now in let s = g.C.Calls.sight c.args.cx.now d.link in let q = c.args.sequence in let half = c.args.half in let out = c.args.outcome in let t = c.requires in
    let y = g.C.Calls.sight c.taken_back-body.new.cx d.link in let b = c.taken_back-body.ensures in
    subst (λ (x : Option (List HalfValue)). AreOf y.heap (body_of x)) (sym b.body) (subst (λ (h : HeapId). AreOf h (body_of (segments_of out.back))) (sym (ap (λ (x : Sight). x.heap) b.sight ∙ same_heap ports s d q half out t)) (comes_back ports s d q half out t).heap_is)

pub let_go-requires-in-Stopped-clause-out : goal.let_go-requires-in-Stopped-clause-out
let_go-requires-in-Stopped-clause-out g c = let d = desk_of c.args.self.now in let ports = g.C.Scanner.ports c.args.cx.now in let s = g.C.Calls.sight c.args.cx.now d.link in let q = c.args.sequence in let half = c.args.half in let out = c.args.outcome in let t = c.requires in
    let y = g.C.Calls.sight c.taken_back-body.new.cx d.link in let b = c.taken_back-body.ensures in
    (let e : y.out ≡ length (body_of c.taken_back-body.result) = ap (λ (x : Sight). x.out) b.sight ∙ out_is ports s d q half out t ∙ ap (λ (x : Option (List HalfValue)). length (body_of x)) (sym b.body) in omega arith)

pub let_go-requires-in-Halted-clause-heap : goal.let_go-requires-in-Halted-clause-heap
let_go-requires-in-Halted-clause-heap g c = let d = desk_of c.args.self.now in let ports = g.C.Scanner.ports c.args.cx.now in let s = g.C.Calls.sight c.args.cx.now d.link in let q = c.args.sequence in let half = c.args.half in let out = c.args.outcome in let t = c.requires in
    let y = g.C.Calls.sight c.taken_back-body.new.cx d.link in let b = c.taken_back-body.ensures in
    subst (λ (x : Option (List HalfValue)). AreOf y.heap (body_of x)) (sym b.body) (subst (λ (h : HeapId). AreOf h (body_of (segments_of out.back))) (sym (ap (λ (x : Sight). x.heap) b.sight ∙ same_heap ports s d q half out t)) (comes_back ports s d q half out t).heap_is)

pub let_go-requires-in-Halted-clause-out : goal.let_go-requires-in-Halted-clause-out
let_go-requires-in-Halted-clause-out g c = let d = desk_of c.args.self.now in let ports = g.C.Scanner.ports c.args.cx.now in let s = g.C.Calls.sight c.args.cx.now d.link in let q = c.args.sequence in let half = c.args.half in let out = c.args.outcome in let t = c.requires in
    let y = g.C.Calls.sight c.taken_back-body.new.cx d.link in let b = c.taken_back-body.ensures in
    (let e : y.out ≡ length (body_of c.taken_back-body.result) = ap (λ (x : Sight). x.out) b.sight ∙ out_is ports s d q half out t ∙ ap (λ (x : Option (List HalfValue)). length (body_of x)) (sym b.body) in omega arith)

pub draft-requires : goal.draft-requires
draft-requires g c = let d = desk_of c.args.self.now in let ports = g.C.Scanner.ports c.args.cx.now in let s = g.C.Calls.sight c.args.cx.now d.link in let q = c.args.sequence in let half = c.args.half in let out = c.args.outcome in let t = c.requires in
    let y = g.C.Calls.sight c.taken_back-body.new.cx d.link in let b = c.taken_back-body.ensures in
    let z = y in
    let body : Option (List HalfValue) = segments_of out.back in
    let k = comes_back ports s d q half out t in
    subst (λ (p : ℕ). Fits p z (with_reply d (record { answer = out.answer; sequence = q; body = c.taken_back-body.result })) (Replying (record { answer = out.answer; sequence = q; body = c.taken_back-body.result }))) (sym (g.met.C.Scanner.goes_ports d.link _ _ (b.goes)))
    (subst (λ (x : Option (List HalfValue)). Fits ports z (with_reply d (record { answer = out.answer; sequence = q; body = x })) (Replying (record { answer = out.answer; sequence = q; body = x }))) (sym (b.body))
    (drafted ports s d q half out t z body (plain_out_is ports s d q half out t y b.sight) (k.heap_is) (k.few) (k.bytes b.room) (subst (λ (a : StoreAnswer). IsSent a (segments_of out.back)) (sym c.in-Stored.is) tt) (stored_told ports s d q half out t c.in-Stored.field-0 c.in-Stored.is)))

pub draft-requires-in-Found : goal.draft-requires-in-Found
draft-requires-in-Found g c = let d = desk_of c.args.self.now in let ports = g.C.Scanner.ports c.args.cx.now in let s = g.C.Calls.sight c.args.cx.now d.link in let q = c.args.sequence in let half = c.args.half in let out = c.args.outcome in let t = c.requires in
    let y = g.C.Calls.sight c.taken_back-body.new.cx d.link in let b = c.taken_back-body.ensures in
    let z = g.C.Calls.sight c.with_bytes-body.new.cx d.link in
    let body : Option (List HalfValue) = where_bytes (segments_of out.back) in
    let k = comes_back ports s d q half out t in
    subst (λ (p : ℕ). Fits p z (with_reply d (record { answer = out.answer; sequence = q; body = c.with_bytes-body.result })) (Replying (record { answer = out.answer; sequence = q; body = c.with_bytes-body.result }))) (sym (g.met.C.Scanner.goes_ports d.link _ _ (g.met.C.Scanner.goes_on d.link _ _ _ b.goes c.with_bytes-body.ensures.goes)))
    (subst (λ (x : Option (List HalfValue)). Fits ports z (with_reply d (record { answer = out.answer; sequence = q; body = x })) (Replying (record { answer = out.answer; sequence = q; body = x }))) (sym (c.with_bytes-body.ensures.body ∙ ap where_bytes b.body))
    (drafted ports s d q half out t z body (with_out_is ports s d q half out t y (g.C.Calls.sight c.with_bytes-body.new.cx d.link) (length (body_of (where_bytes (segments_of out.back)))) b.sight (c.with_bytes-body.ensures.sight ∙ ap (λ (x : Option (List HalfValue)). record y { out = length (body_of (where_bytes x)) }) b.body)) (trimmed_heap t.before.heap (segments_of out.back) k.heap_is) (trimmed_long (segments_of out.back) k.few) (trimmed_few (segments_of out.back) (k.bytes b.room)) (subst (λ (a : StoreAnswer). IsSent a (where_bytes (segments_of out.back))) (sym c.in-Found.is) tt) (found_told ports s d q half out t c.in-Found.field-0 c.in-Found.is)))

pub draft-requires-in-Missing : goal.draft-requires-in-Missing
draft-requires-in-Missing g c = let d = desk_of c.args.self.now in let ports = g.C.Scanner.ports c.args.cx.now in let s = g.C.Calls.sight c.args.cx.now d.link in let q = c.args.sequence in let half = c.args.half in let out = c.args.outcome in let t = c.requires in
    let y = g.C.Calls.sight c.taken_back-body.new.cx d.link in let b = c.taken_back-body.ensures in
    let z = g.C.Calls.sight c.let_go.new.cx d.link in
    let body : Option (List HalfValue) = None in
    let k = comes_back ports s d q half out t in
    subst (λ (p : ℕ). Fits p z (with_reply d (record { answer = out.answer; sequence = q; body = None })) (Replying (record { answer = out.answer; sequence = q; body = None }))) (sym (g.met.C.Scanner.goes_ports d.link _ _ (g.met.C.Scanner.goes_on d.link _ _ _ b.goes c.let_go.ensures.goes)))
    (subst (λ (x : Option (List HalfValue)). Fits ports z (with_reply d (record { answer = out.answer; sequence = q; body = x })) (Replying (record { answer = out.answer; sequence = q; body = x }))) (sym (refl))
    (drafted ports s d q half out t z body (let_go_is ports s d q half out t y (g.C.Calls.sight c.let_go.new.cx d.link) b.sight (c.let_go.ensures.sight ∙ ap (λ (x : Option (List HalfValue)). record y { out = y.out - length (body_of x) }) b.body)) (tt) (omega arith) (omega arith) (subst (λ (a : StoreAnswer). IsSent a None) (sym c.in-Missing.is) refl) (subst (λ (a : StoreAnswer). answer_with a out.back ≡ Some (answer_as a (array_bytes (body_of None)))) (sym c.in-Missing.is) refl)))

pub draft-requires-in-Full : goal.draft-requires-in-Full
draft-requires-in-Full g c = let d = desk_of c.args.self.now in let ports = g.C.Scanner.ports c.args.cx.now in let s = g.C.Calls.sight c.args.cx.now d.link in let q = c.args.sequence in let half = c.args.half in let out = c.args.outcome in let t = c.requires in
    let y = g.C.Calls.sight c.taken_back-body.new.cx d.link in let b = c.taken_back-body.ensures in
    let z = g.C.Calls.sight c.let_go-in-Full.new.cx d.link in
    let body : Option (List HalfValue) = None in
    let k = comes_back ports s d q half out t in
    subst (λ (p : ℕ). Fits p z (with_reply d (record { answer = out.answer; sequence = q; body = None })) (Replying (record { answer = out.answer; sequence = q; body = None }))) (sym (g.met.C.Scanner.goes_ports d.link _ _ (g.met.C.Scanner.goes_on d.link _ _ _ b.goes c.let_go-in-Full.ensures.goes)))
    (subst (λ (x : Option (List HalfValue)). Fits ports z (with_reply d (record { answer = out.answer; sequence = q; body = x })) (Replying (record { answer = out.answer; sequence = q; body = x }))) (sym (refl))
    (drafted ports s d q half out t z body (let_go_is ports s d q half out t y (g.C.Calls.sight c.let_go-in-Full.new.cx d.link) b.sight (c.let_go-in-Full.ensures.sight ∙ ap (λ (x : Option (List HalfValue)). record y { out = y.out - length (body_of x) }) b.body)) (tt) (omega arith) (omega arith) (subst (λ (a : StoreAnswer). IsSent a None) (sym c.in-Full.is) refl) (subst (λ (a : StoreAnswer). answer_with a out.back ≡ Some (answer_as a (array_bytes (body_of None)))) (sym c.in-Full.is) refl)))

pub returns-in-Stored-clause-cause : goal.returns-in-Stored-clause-cause
returns-in-Stored-clause-cause g c = let b = c.taken_back-body.ensures in λ before adds. caused_since before (g.C.Calls.events c.args.cx.now) _ _ _ (adds_on before _ _ adds) (subst (λ (es : List Event). Caused es (g.C.Calls.events c.draft.new.cx) c.draft.new.self.index c.draft.result.phase) (b.events) c.draft.ensures.cause)

pub returns-in-Found-clause-cause : goal.returns-in-Found-clause-cause
returns-in-Found-clause-cause g c = let b = c.taken_back-body.ensures in λ before adds. caused_since before (g.C.Calls.events c.args.cx.now) _ _ _ (adds_on before _ _ adds) (subst (λ (es : List Event). Caused es (g.C.Calls.events c.draft-in-Found.new.cx) c.draft-in-Found.new.self.index c.draft-in-Found.result.phase) (c.with_bytes-body.ensures.events ∙ b.events) c.draft-in-Found.ensures.cause)

pub returns-in-Missing-clause-cause : goal.returns-in-Missing-clause-cause
returns-in-Missing-clause-cause g c = let b = c.taken_back-body.ensures in λ before adds. caused_since before (g.C.Calls.events c.args.cx.now) _ _ _ (adds_on before _ _ adds) (subst (λ (es : List Event). Caused es (g.C.Calls.events c.draft-in-Missing.new.cx) c.draft-in-Missing.new.self.index c.draft-in-Missing.result.phase) (c.let_go.ensures.events ∙ b.events) c.draft-in-Missing.ensures.cause)

pub returns-in-Full-clause-cause : goal.returns-in-Full-clause-cause
returns-in-Full-clause-cause g c = let b = c.taken_back-body.ensures in λ before adds. caused_since before (g.C.Calls.events c.args.cx.now) _ _ _ (adds_on before _ _ adds) (subst (λ (es : List Event). Caused es (g.C.Calls.events c.draft-in-Full.new.cx) c.draft-in-Full.new.self.index c.draft-in-Full.result.phase) (c.let_go-in-Full.ensures.events ∙ b.events) c.draft-in-Full.ensures.cause)

pub returns-in-Fault-clause-fits : goal.returns-in-Fault-clause-fits
returns-in-Fault-clause-fits g c = let d = desk_of c.args.self.now in let ports = g.C.Scanner.ports c.args.cx.now in let s = g.C.Calls.sight c.args.cx.now d.link in let q = c.args.sequence in let half = c.args.half in let out = c.args.outcome in let t = c.requires in
    let y = g.C.Calls.sight c.taken_back-body.new.cx d.link in let b = c.taken_back-body.ensures in
    let z = g.C.Calls.sight c.let_go-in-Fault.new.cx d.link in
    subst (λ (p : ℕ). Fits p z d c.ends.result.phase) (sym (g.met.C.Scanner.goes_ports d.link _ _ (g.met.C.Scanner.goes_on d.link _ _ _ b.goes c.let_go-in-Fault.ensures.goes)))
    (subst (λ (p : Phase). Fits ports z d p) (sym c.ends.ensures.phase)
    (over_log ports s d q half out t z (let_go_is ports s d q half out t y z b.sight (c.let_go-in-Fault.ensures.sight ∙ ap (λ (x : Option (List HalfValue)). record y { out = y.out - length (body_of x) }) b.body)) (subst IsLogFault (sym c.in-Fault.is) tt)))

pub returns-in-Fault-clause-cause : goal.returns-in-Fault-clause-cause
returns-in-Fault-clause-cause g c = let b = c.taken_back-body.ensures in λ before adds. caused_by before _ c.args.self.now.index (Over cause.LogFault) _ (StoreCame (said.Fault)) c.ends.ensures.phase (c.let_go-in-Fault.ensures.events ∙ b.events ∙ subst (λ (x : StoreAnswer). Adds before (g.C.Calls.events c.args.cx.now) (StoreCame x)) c.in-Fault.is adds) tt

pub returns-in-Broken-clause-fits : goal.returns-in-Broken-clause-fits
returns-in-Broken-clause-fits g c = let d = desk_of c.args.self.now in let ports = g.C.Scanner.ports c.args.cx.now in let s = g.C.Calls.sight c.args.cx.now d.link in let q = c.args.sequence in let half = c.args.half in let out = c.args.outcome in let t = c.requires in
    let y = g.C.Calls.sight c.taken_back-body.new.cx d.link in let b = c.taken_back-body.ensures in
    let z = g.C.Calls.sight c.let_go-in-Broken.new.cx d.link in
    subst (λ (p : ℕ). Fits p z d c.ends-in-Broken.result.phase) (sym (g.met.C.Scanner.goes_ports d.link _ _ (g.met.C.Scanner.goes_on d.link _ _ _ b.goes c.let_go-in-Broken.ensures.goes)))
    (subst (λ (p : Phase). Fits ports z d p) (sym c.ends-in-Broken.ensures.phase)
    (over_log ports s d q half out t z (let_go_is ports s d q half out t y z b.sight (c.let_go-in-Broken.ensures.sight ∙ ap (λ (x : Option (List HalfValue)). record y { out = y.out - length (body_of x) }) b.body)) (subst IsLogFault (sym c.in-Broken.is) tt)))

pub returns-in-Broken-clause-cause : goal.returns-in-Broken-clause-cause
returns-in-Broken-clause-cause g c = let b = c.taken_back-body.ensures in λ before adds. caused_by before _ c.args.self.now.index (Over cause.LogFault) _ (StoreCame (said.Broken c.in-Broken.field-0)) c.ends-in-Broken.ensures.phase (c.let_go-in-Broken.ensures.events ∙ b.events ∙ subst (λ (x : StoreAnswer). Adds before (g.C.Calls.events c.args.cx.now) (StoreCame x)) c.in-Broken.is adds) tt

pub returns-in-NoMemory-clause-fits : goal.returns-in-NoMemory-clause-fits
returns-in-NoMemory-clause-fits g c = let d = desk_of c.args.self.now in let ports = g.C.Scanner.ports c.args.cx.now in let s = g.C.Calls.sight c.args.cx.now d.link in let q = c.args.sequence in let half = c.args.half in let out = c.args.outcome in let t = c.requires in
    let y = g.C.Calls.sight c.taken_back-body.new.cx d.link in let b = c.taken_back-body.ensures in
    let z = g.C.Calls.sight c.let_go-in-NoMemory.new.cx d.link in
    subst (λ (p : ℕ). Fits p z d c.ends-in-NoMemory.result.phase) (sym (g.met.C.Scanner.goes_ports d.link _ _ (g.met.C.Scanner.goes_on d.link _ _ _ b.goes c.let_go-in-NoMemory.ensures.goes)))
    (subst (λ (p : Phase). Fits ports z d p) (sym c.ends-in-NoMemory.ensures.phase)
    (over_memory ports s d q half out t z (let_go_is ports s d q half out t y z b.sight (c.let_go-in-NoMemory.ensures.sight ∙ ap (λ (x : Option (List HalfValue)). record y { out = y.out - length (body_of x) }) b.body)) (subst IsMemoryFault (sym c.in-NoMemory.is) tt)))

pub returns-in-NoMemory-clause-cause : goal.returns-in-NoMemory-clause-cause
returns-in-NoMemory-clause-cause g c = let b = c.taken_back-body.ensures in λ before adds. caused_by before _ c.args.self.now.index (Over cause.NoMemory) _ (StoreCame (said.NoMemory)) c.ends-in-NoMemory.ensures.phase (c.let_go-in-NoMemory.ensures.events ∙ b.events ∙ subst (λ (x : StoreAnswer). Adds before (g.C.Calls.events c.args.cx.now) (StoreCame x)) c.in-NoMemory.is adds) tt

pub returns-in-Stopped-clause-fits : goal.returns-in-Stopped-clause-fits
returns-in-Stopped-clause-fits g c = let d = desk_of c.args.self.now in let ports = g.C.Scanner.ports c.args.cx.now in let s = g.C.Calls.sight c.args.cx.now d.link in let q = c.args.sequence in let half = c.args.half in let out = c.args.outcome in let t = c.requires in
    let y = g.C.Calls.sight c.taken_back-body.new.cx d.link in let b = c.taken_back-body.ensures in
    let z = g.C.Calls.sight c.let_go-in-Stopped.new.cx d.link in
    subst (λ (p : ℕ). Fits p z d c.ends-in-Stopped.result.phase) (sym (g.met.C.Scanner.goes_ports d.link _ _ (g.met.C.Scanner.goes_on d.link _ _ _ b.goes c.let_go-in-Stopped.ensures.goes)))
    (subst (λ (p : Phase). Fits ports z d p) (sym c.ends-in-Stopped.ensures.phase)
    (over_lost ports s d q half out t z (let_go_is ports s d q half out t y z b.sight (c.let_go-in-Stopped.ensures.sight ∙ ap (λ (x : Option (List HalfValue)). record y { out = y.out - length (body_of x) }) b.body))))

pub returns-in-Stopped-clause-cause : goal.returns-in-Stopped-clause-cause
returns-in-Stopped-clause-cause g c = let b = c.taken_back-body.ensures in λ before adds. caused_by before _ c.args.self.now.index (Over cause.Lost) _ (StoreCame (said.Stopped c.in-Stopped.field-0)) c.ends-in-Stopped.ensures.phase (c.let_go-in-Stopped.ensures.events ∙ b.events ∙ subst (λ (x : StoreAnswer). Adds before (g.C.Calls.events c.args.cx.now) (StoreCame x)) c.in-Stopped.is adds) tt

pub returns-in-Halted-clause-fits : goal.returns-in-Halted-clause-fits
returns-in-Halted-clause-fits g c = let d = desk_of c.args.self.now in let ports = g.C.Scanner.ports c.args.cx.now in let s = g.C.Calls.sight c.args.cx.now d.link in let q = c.args.sequence in let half = c.args.half in let out = c.args.outcome in let t = c.requires in
    let y = g.C.Calls.sight c.taken_back-body.new.cx d.link in let b = c.taken_back-body.ensures in
    let z = g.C.Calls.sight c.let_go-in-Halted.new.cx d.link in
    subst (λ (p : ℕ). Fits p z d c.ends-in-Halted.result.phase) (sym (g.met.C.Scanner.goes_ports d.link _ _ (g.met.C.Scanner.goes_on d.link _ _ _ b.goes c.let_go-in-Halted.ensures.goes)))
    (subst (λ (p : Phase). Fits ports z d p) (sym c.ends-in-Halted.ensures.phase)
    (over_lost ports s d q half out t z (let_go_is ports s d q half out t y z b.sight (c.let_go-in-Halted.ensures.sight ∙ ap (λ (x : Option (List HalfValue)). record y { out = y.out - length (body_of x) }) b.body))))

pub returns-in-Halted-clause-cause : goal.returns-in-Halted-clause-cause
returns-in-Halted-clause-cause g c = let b = c.taken_back-body.ensures in λ before adds. caused_by before _ c.args.self.now.index (Over cause.Lost) _ (StoreCame (said.Halted)) c.ends-in-Halted.ensures.phase (c.let_go-in-Halted.ensures.events ∙ b.events ∙ subst (λ (x : StoreAnswer). Adds before (g.C.Calls.events c.args.cx.now) (StoreCame x)) c.in-Halted.is adds) tt
