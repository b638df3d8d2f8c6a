use Rattle.std.proofs.Common.{◌≡◌, [], ◌∷◌, ap, arith, length, length-append, refl, subst, sym, ◌∙◌}
use Rattle.demi_served.specs.Keeps.{numbered, of_link}
use Rattle.demi_context.specs.ContextLedgers.{Entry, LedgerValue, after_draw_of}
use Rattle.demi_context.specs.ContextSights.{ContextValue, Goes, due_at_ports}
use Rattle.demi_context.proofs.ContextAsks.{asks_drawn}
use Rattle.demi_context.proofs.ContextGoing.{drew_goes}
use Rattle.demi_context.proofs.ContextOwing.{along}
use Rattle.demi_context.proofs.ContextSteps.{same_dues}
use Rattle.demi_context.proofs.context.calls.ContextCalls.draw.Goals as goal

pub invariant_of-self-2 : goal.invariant_of-self-2
invariant_of-self-2 c =
    let i = c.self.inside in
    let l = i.ledger.value in
    let m = c.drew.result.value in
    let link = c.args.link in
    let talk = c.args.talk.now.value in
    let is : m ≡ after_draw_of (record { ledger = l; link = link }) talk = c.drew.ensures ∙ ap (λ (e : Entry). after_draw_of e talk) c.of_link.ensures in
    record {
      of = c.self.invariant.of;
      count = c.self.invariant.count;
      numbers = (let longer = ap (λ (x : LedgerValue). length x.draws) is in let more = length-append l.draws (record { link = link; index = length talk.kept.drawn; request = talk.request } ∷ []) in let n = c.self.invariant.numbers in omega (arith, longer, more, n));
      due = along i.number (due_at_ports i.links l) (due_at_ports i.links m) i.caller (same_dues i.links l m (ap (λ (x : LedgerValue). x.dues) is)) c.self.invariant.due;
      asks = asks_drawn i.caller l m link (length talk.kept.drawn) talk.request c.an_only_link_is_served_in_order.ensures.drawn (ap (λ (x : LedgerValue). x.draws) is) c.requires.plain c.self.invariant.asks;
    }

pub returns-clause-goes : goal.returns-clause-goes
returns-clause-goes c =
    let link = c.args.link in
    let talk = c.args.talk.now.value in
    let v = c.self.view_is in
    subst (λ (a : ContextValue). Goes link a (record { demi = c.self.inside.demi.now; caller = c.self.inside.caller; number = c.self.inside.number; ledger = c.drew.result.value; seen = c.self.inside.seen.value; begun = c.self.inside.begun })) v
    (drew_goes (record { demi = c.self.inside.demi.now; caller = c.self.inside.caller; number = c.self.inside.number; ledger = c.self.inside.ledger.value; seen = c.self.inside.seen.value; begun = c.self.inside.begun }) (record { demi = c.self.inside.demi.now; caller = c.self.inside.caller; number = c.self.inside.number; ledger = c.drew.result.value; seen = c.self.inside.seen.value; begun = c.self.inside.begun }) link talk refl refl (subst (λ (a : ContextValue). of_link link a.ledger.draws ≡ numbered link 0 talk.kept.drawn) (sym v) c.requires.own) refl (c.drew.ensures ∙ ap (λ (e : Entry). after_draw_of e talk) c.of_link.ensures))
