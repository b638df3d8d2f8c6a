use Rattle.std.proofs.Common.{◌≡◌, ℕ, [], ◌∷◌, ◌+◌, ap, arith, length, length-append, refl, subst, sym, ◌∙◌}
use Rattle.demi_pdpix.specs.declared.kind.PortKind.TheVariants.{Service}
use Rattle.demi_served.specs.Keeps.{numbered, of_link}
use Rattle.demi_link.specs.Sights.{Side}
use Rattle.demi_context.specs.ContextLedgers.{Entry, LedgerValue, after_ask_of, after_draw_of, after_giving}
use Rattle.demi_context.specs.ContextSights.{ContextValue, Goes}
use Rattle.demi_context.proofs.ContextAsks.{asks_asked}
use Rattle.demi_context.proofs.ContextGoing.{asked_goes}
use Rattle.demi_context.proofs.ContextSteps.{same_dues, sound_more, sound_same, store_more}
use Rattle.demi_context.proofs.context.calls.ContextCalls.ask.Goals as goal

pub invariant_of-self-in-Ok : goal.invariant_of-self-in-Ok
invariant_of-self-in-Ok c =
    let l = c.self.inside.ledger.value in
    let link = c.args.link in
    let talk = c.args.talk.now.value in
    let op = c.args.op in
    let token = c.in-Ok.token in
    let m = c.asked.result.value in
    let given = c.giving-given.ensures ∙ ap (λ (e : Entry). after_giving e op) c.of_link.ensures in
    let drawn = c.drew-numbered.ensures ∙ ap (λ (e : Entry). after_draw_of e talk) c.of_link-in-Ok.ensures ∙ ap (λ (g : LedgerValue). after_draw_of (record { ledger = g; link = link }) talk) given in
    let is : m ≡ after_ask_of (record { ledger = after_draw_of (record { ledger = after_giving (record { ledger = l; link = link }) op; link = link }) talk; link = link }) token =
    c.asked.ensures ∙ ap (λ (e : Entry). after_ask_of e token) c.of_link-in-Ok-2.ensures ∙ ap (λ (g : LedgerValue). after_ask_of (record { ledger = g; link = link }) token) drawn in
    sound_more c.self.inside.demi.now c.self.inside.caller c.ask_at.new.caller c.self.inside.number c.self.inside.links c.self.inside.drawn l m c.self.invariant c.ask_at.ensures.of Service (c.self.inside.drawn + 1) c.in-Ok.ensures.ok.2
    (asks_asked c.self.inside.caller c.ask_at.new.caller l m link (length talk.kept.drawn) talk.request op c.in-Ok.ensures.ok.1.0 token.token.0 (c.self.inside.drawn + 1) c.an_only_link_is_served_in_order.ensures.asked
    (ap (λ (n : ℕ). n + 1) (sym c.self.invariant.numbers)) c.in-Ok.ensures.ok.1.1 (ap (λ (x : LedgerValue). x.draws) is) c.requires.asks c.self.invariant.asks)
    (let longer = ap (λ (x : LedgerValue). length x.draws) is in let more = length-append l.draws (record { link = link; index = length talk.kept.drawn; request = talk.request } ∷ []) in let n = c.self.invariant.numbers in omega (arith, longer, more, n))
    (store_more c.self.inside.links link l m _ (ap (λ (x : LedgerValue). x.dues) is) (let h = c.if-link-self.false in omega (arith, h)) refl refl refl)

pub returns-in-Ok-clause-goes : goal.returns-in-Ok-clause-goes
returns-in-Ok-clause-goes c =
    let l = c.self.inside.ledger.value in
    let link = c.args.link in
    let talk = c.args.talk.now.value in
    let op = c.args.op in
    let token = c.in-Ok.token in
    let m = c.asked.result.value in
    let given = c.giving-given.ensures ∙ ap (λ (e : Entry). after_giving e op) c.of_link.ensures in
    let drawn = c.drew-numbered.ensures ∙ ap (λ (e : Entry). after_draw_of e talk) c.of_link-in-Ok.ensures ∙ ap (λ (g : LedgerValue). after_draw_of (record { ledger = g; link = link }) talk) given in
    let is : m ≡ after_ask_of (record { ledger = after_draw_of (record { ledger = after_giving (record { ledger = l; link = link }) op; link = link }) talk; link = link }) token =
    c.asked.ensures ∙ ap (λ (e : Entry). after_ask_of e token) c.of_link-in-Ok-2.ensures ∙ ap (λ (g : LedgerValue). after_ask_of (record { ledger = g; link = link }) token) drawn in
    let v = c.self.view_is in
    subst (λ (a : ContextValue). Goes link a (record { demi = c.self.inside.demi.now; caller = c.ask_at.new.caller; number = c.self.inside.number; ledger = c.asked.result.value; seen = c.self.inside.seen.value; begun = c.self.inside.begun })) v
    (asked_goes (record { demi = c.self.inside.demi.now; caller = c.self.inside.caller; number = c.self.inside.number; ledger = c.self.inside.ledger.value; seen = c.self.inside.seen.value; begun = c.self.inside.begun }) (record { demi = c.self.inside.demi.now; caller = c.ask_at.new.caller; number = c.self.inside.number; ledger = c.asked.result.value; seen = c.self.inside.seen.value; begun = c.self.inside.begun }) link talk refl refl (subst (λ (a : ContextValue). of_link link a.ledger.draws ≡ numbered link 0 talk.kept.drawn) (sym v) c.requires.own)
    op c.in-Ok.ensures.ok.1.0 (c.self.inside.drawn + 1) token (ap (λ (n : ℕ). n + 1) (sym c.self.invariant.numbers)) c.in-Ok.ensures.ok.1.1 c.ask_at.ensures.others c.requires.asks is)

pub invariant_of-self-in-Err : goal.invariant_of-self-in-Err
invariant_of-self-in-Err c =
    let l = c.self.inside.ledger.value in
    let m = c.no_token-in-Err.result.value in
    sound_same c.self.inside.demi.now c.self.inside.caller c.ask_at.new.caller c.self.inside.number c.self.inside.links c.self.inside.drawn l m c.self.invariant c.ask_at.ensures.of c.in-Err.ensures.err.2 (ap (λ (s : Side _ _). s.submitted) c.in-Err.ensures.err.1)
    (ap (λ (x : LedgerValue). x.draws) c.no_token-in-Err.ensures) (same_dues c.self.inside.links l m (ap (λ (x : LedgerValue). x.dues) c.no_token-in-Err.ensures))
