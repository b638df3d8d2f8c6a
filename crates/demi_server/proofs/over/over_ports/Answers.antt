use Rattle.std.proofs.Common.{◌∙◌, [], ◌∷◌, ◌++◌, ap, length, subst, sym}
use denote.Param.Send.{arg_send, param_send}
use Rattle.demi_pdpix.specs.Alone.{IsAlone}
use Rattle.demi_server.specs.Hands.{HandValue, HasFinished, HasServed, MayWork}
use Rattle.demi_server.proofs.Backs.{all_back}
use Rattle.demi_server.proofs.CrewOfOne.{crew_did, did_owes, may_part, none_left}
use Rattle.demi_server.proofs.HandSend.{hand_send}
use Rattle.demi_server.proofs.NewBack.{have_same, new_back, unused_spent}
use Rattle.demi_server.proofs.Rewriting.{rewritten}
use Rattle.demi_server.proofs.Stopped.{all_of_one, new_alone}
use Rattle.demi_server.proofs.over.over_ports.Goals as goal

pub returns-in-Err-clause-not_run : goal.returns-in-Err-clause-not_run
returns-in-Err-clause-not_run g c =
    let same = c.in-Err.ensures.back in
    (same, new_alone c.args.demi.now c.args.callers.items c.requires.callers.1 c.requires.callers.2, new_back c.args.demi.now c.args.parts c.in-Err.parts c.requires.parts same)

pub parts-requires : goal.parts-requires
parts-requires g c = unused_spent c.args.demi.now c.args.parts c.in-Ok.devices c.requires.parts c.in-Ok.ensures.made c.in-Ok.ensures.unused

pub returns-in_default-clause-not_run : goal.returns-in_default-clause-not_run
returns-in_default-clause-not_run g c =
    let same = have_same c.in-Ok.devices c.args.parts c.parts.result c.in-Ok.ensures.made c.parts.ensures.parts in
    (same, new_alone c.args.demi.now c.args.callers.items c.requires.callers.1 c.requires.callers.2, new_back c.args.demi.now c.args.parts c.parts.result c.requires.parts same)

pub parts-requires-in-Err-make : goal.parts-requires-in-Err-make
parts-requires-in-Err-make g c = unused_spent c.args.demi.now c.args.parts c.in-Ok.devices c.requires.parts c.in-Ok.ensures.made c.in-Ok.ensures.unused

pub returns-in-Err-make-clause-not_run : goal.returns-in-Err-make-clause-not_run
returns-in-Err-make-clause-not_run g c =
    let same = have_same c.in-Ok.devices c.args.parts c.parts-in-Err-make.result c.in-Ok.ensures.made c.parts-in-Err-make.ensures.parts in
    let items = c.push_reserved-in-Err-make.ensures.items ∙ ap (λ x. c.pop.new.self.items ++ x ∷ []) c.in-Err-make.ensures.back ∙ sym c.in-Some.ensures.items in
    (same, subst (IsAlone c.args.demi.now) (sym items) (new_alone c.args.demi.now c.args.callers.items c.requires.callers.1 c.requires.callers.2), new_back c.args.demi.now c.args.parts c.parts-in-Err-make.result c.requires.parts same)

pub run_devices-devices-requires-send-W : goal.run_devices-devices-requires-send-W
run_devices-devices-requires-send-W g c κs within = search (param_send, arg_send, hand_send) depth 6

pub run_devices-devices-requires-clause-ready : goal.run_devices-devices-requires-clause-ready
run_devices-devices-requires-clause-ready g c κs within =
    let s = c.in-Ok-make.hand in
    let is = c.deref_mut.ensures.value ∙ c.push_reserved.ensures.items ∙ ap (λ l. l ++ s ∷ []) c.in-Ok-with_capacity.ensures.items in
    all_of_one MayWork c.deref_mut.result.now s is (c.in-Some.caller, ap (λ (h : HandValue). h.stage) c.in-Ok-make.ensures.made)

pub parts-caller-requires : goal.parts-caller-requires
parts-caller-requires g c =
    let s = c.in-Ok-make.hand in let crew = c.push_reserved.new.self in let new = c.run_devices-devices.new.workers in
    let is = c.deref_mut.ensures.value ∙ c.push_reserved.ensures.items ∙ ap (λ l. l ++ s ∷ []) c.in-Ok-with_capacity.ensures.items in
    let done = c.run_devices-devices.ensures.workers in
    let same = rewritten crew.len new crew.items (done.as_many ∙ ap length c.deref_mut.ensures.value ∙ sym crew.ok.0) in
    may_part s c.in-Some-pop.hand (crew_did HasServed HasFinished c.deref_mut.result.now new c.pop-2.new.self.items s c.in-Some-pop.hand is done (sym same ∙ c.in-Some-pop.ensures.items))

pub returns-clause-ran : goal.returns-clause-ran
returns-clause-ran g c =
    let s = c.in-Ok-make.hand in let crew = c.push_reserved.new.self in let new = c.run_devices-devices.new.workers in
    let is = c.deref_mut.ensures.value ∙ c.push_reserved.ensures.items ∙ ap (λ l. l ++ s ∷ []) c.in-Ok-with_capacity.ensures.items in
    let r = c.run_devices-devices.ensures in
    let same = rewritten crew.len new crew.items (r.workers.as_many ∙ ap length c.deref_mut.ensures.value ∙ sym crew.ok.0) in
    let did = crew_did HasServed HasFinished c.deref_mut.result.now new c.pop-2.new.self.items s c.in-Some-pop.hand is r.workers (sym same ∙ c.in-Some-pop.ensures.items) in
    let none = none_left c.args.callers.items c.pop.new.self.items c.in-Some.caller c.requires.callers.1 c.in-Some.ensures.items in
    let caller = c.parts-caller.result.0 in (
      caller,
      c.push_reserved-2.ensures.items ∙ ap (λ l. l ++ caller ∷ []) none,
      record {
        v = c.in-Ok.devices;
        w = c.run_devices-devices.result;
        for = c.requires.parts;
        made = c.in-Ok.ensures.made;
        unused = c.in-Ok.ensures.unused;
        memory = r.memory;
        store = r.store;
        links = r.links;
        same_pass = r.others.0;
        had = c.parts-2.ensures.parts;
        first = s;
        last = c.in-Some-pop.hand;
        demi_is = ap (λ (h : HandValue). h.demi) c.in-Ok-make.ensures.made;
        number_is = ap (λ (h : HandValue). h.number) c.in-Ok-make.ensures.made;
        did = did;
        done = c.parts-caller.ensures;
      },
    )

pub returns-clause-alone : goal.returns-clause-alone
returns-clause-alone g c =
    let s = c.in-Ok-make.hand in let crew = c.push_reserved.new.self in let new = c.run_devices-devices.new.workers in
    let is = c.deref_mut.ensures.value ∙ c.push_reserved.ensures.items ∙ ap (λ l. l ++ s ∷ []) c.in-Ok-with_capacity.ensures.items in
    let r = c.run_devices-devices.ensures in
    let same = rewritten crew.len new crew.items (r.workers.as_many ∙ ap length c.deref_mut.ensures.value ∙ sym crew.ok.0) in
    let did = crew_did HasServed HasFinished c.deref_mut.result.now new c.pop-2.new.self.items s c.in-Some-pop.hand is r.workers (sym same ∙ c.in-Some-pop.ensures.items) in
    let none = none_left c.args.callers.items c.pop.new.self.items c.in-Some.caller c.requires.callers.1 c.in-Some.ensures.items in
    let caller = c.parts-caller.result.0 in (
      caller,
      c.push_reserved-2.ensures.items ∙ ap (λ l. l ++ caller ∷ []) none,
      did_owes s c.in-Some-pop.hand did c.args.demi.now caller c.parts-caller.result.1.items (ap (λ (h : HandValue). h.demi) c.in-Ok-make.ensures.made) (ap (λ (h : HandValue). h.number) c.in-Ok-make.ensures.made) c.parts-caller.ensures,
    )

pub returns-clause-back : goal.returns-clause-back
returns-clause-back g c =
    let r = c.run_devices-devices.ensures in
    let had = c.in-Ok.ensures.made in
    let has = c.parts-2.ensures.parts in (
      all_back _ _ _ _ _ _ _ _ _ _ _ c.args.demi.now c.args.parts c.parts-2.result c.in-Ok.devices c.run_devices-devices.result c.requires.parts had r.memory r.store r.links r.others.0 has,
      has.journal ∙ r.others.1 ∙ sym had.journal,
    )
