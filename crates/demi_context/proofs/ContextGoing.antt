-- A draw and an ask of one link leave what the other links have.
use Rattle.std.proofs.Common.{◌≡◌, ℕ, ◌+◌, [], ◌∷◌, ◌++◌, Some, length, ap, sym, subst, ◌∙◌}
use Rattle.demi_port_core.specs.declared.place.QToken.{QToken}
use Rattle.demi_served.specs.Asking.{asks_for, ask_of}
use Rattle.demi_served.specs.Keeps.{Worker, WorkerKeeps, numbered, of_link}
use Rattle.demi_served.specs.Steps.{GoesBeside, after_ask, after_draw}
use Rattle.demi_served.proofs.Beside.{beside_asked, beside_drawn}
use Rattle.demi_served.proofs.Stepping.{worker_asked, worker_drawn}
use Rattle.demi_store.specs.declared.op.StoreOp.{StoreOp}
use Rattle.demi_link.specs.Sights.{Submits, side_of, worker_of}
use Rattle.demi_link.specs.Talks.{TalkValue}
use Rattle.demi_context.specs.ContextLedgers.{LedgerValue, after_ask_of, after_draw_of, after_giving}
use Rattle.demi_context.specs.ContextPorts.{Caller, SameButStore, Whole}
use Rattle.demi_context.specs.ContextSights.{ContextValue, Goes, sight_of}
use Rattle.demi_context.proofs.ContextSteps.{noted_else}

module _ (a b : ContextValue) (link : ℕ) (talk : TalkValue) (demi : b.demi ≡ a.demi) (number : b.number ≡ a.number) (own : of_link link a.ledger.draws ≡ numbered link 0 talk.kept.drawn) where
  abbrev mine : Worker
  mine = worker_of (sight_of a link)

  pub drew_goes : b.caller ≡ a.caller → b.ledger ≡ after_draw_of (record { ledger = a.ledger; link = link }) talk → Goes link a b
  drew_goes caller ledger =
      let worker : worker_of (sight_of b link) ≡ after_draw mine link (length talk.kept.drawn) talk.request = λ i. record { submitted = (caller i).service.submitted; known = (side_of (caller i).service).known; draws = (ledger i).draws } in
      record {
        demi = demi;
        number = number;
        memory = ap (λ (x : Caller). side_of x.memory) caller;
        others = λ k other. record {
          heap = ap (λ (d : Whole). d.heap) demi;
          base = ap (λ (d : Whole). d.service.key.base) demi;
          number = number;
          worker = subst (GoesBeside k mine) (sym worker) (beside_drawn k link (length talk.kept.drawn) mine talk.request other);
          keeps = λ keeps. subst WorkerKeeps (sym worker) (worker_drawn mine link talk.kept.drawn talk.request keeps own);
          rx = ap (λ (c : ContextValue). (sight_of c k).rx) (with_caller caller);
          tx = ap (λ (c : ContextValue). (sight_of c k).tx) (with_caller caller);
          out = ap (λ (l : LedgerValue). (sight_of (record a { ledger = l }) k).out) ledger;
          due = ap (λ (l : LedgerValue). (sight_of (record a { ledger = l }) k).due) ledger;
        };
      }
    where
      with_caller : b.caller ≡ a.caller → record b { caller = b.caller } ≡ record b { caller = a.caller }
      with_caller e = λ i. record b { caller = e i }

  pub asked_goes : (op : StoreOp) (place sequence : ℕ) (token : QToken) → sequence ≡ length a.ledger.draws + 1 → Submits place (side_of a.caller.service) (side_of b.caller.service) token.token.0 (record { sequence = sequence; op = op }) → SameButStore a.caller b.caller
      → ask_of link (length talk.kept.drawn) talk.request ≡ Some (asks_for op)
      → b.ledger ≡ after_ask_of (record { ledger = after_draw_of (record { ledger = after_giving (record { ledger = a.ledger; link = link }) op; link = link }) talk; link = link }) token → Goes link a b
  asked_goes op place sequence token next sub others asks ledger =
      let side : side_of b.caller.service ≡ record (side_of a.caller.service) { seen = place + 1; submitted = a.caller.service.submitted ++ (place, (token.token.0, record { sequence = length a.ledger.draws + 1; op = op })) ∷ [] } =
      sub.side ∙ ap (λ (n : ℕ). record (side_of a.caller.service) { seen = place + 1; submitted = a.caller.service.submitted ++ (place, (token.token.0, record { sequence = n; op = op })) ∷ [] }) next in
      let worker : worker_of (sight_of b link) ≡ after_ask mine link (length talk.kept.drawn) talk.request op place token.token.0 = λ i. record { submitted = (side i).submitted; known = (side i).known; draws = (ledger i).draws } in
      record {
        demi = demi;
        number = number;
        memory = others.2;
        others = λ k other. record {
          heap = ap (λ (d : Whole). d.heap) demi;
          base = ap (λ (d : Whole). d.service.key.base) demi;
          number = number;
          worker = subst (GoesBeside k mine) (sym worker) (beside_asked k link (length talk.kept.drawn) mine talk.request op place token.token.0 other);
          keeps = λ keeps. subst WorkerKeeps (sym worker) (worker_asked mine link talk.kept.drawn talk.request op place token.token.0 keeps own asks);
          rx = others.0 k;
          tx = others.1 k;
          out = ap (λ (l : LedgerValue). (sight_of (record a { ledger = l }) k).out) ledger ∙ noted_else 0 a.ledger.outs link k _ other;
          due = ap (λ (l : LedgerValue). (sight_of (record a { ledger = l }) k).due) ledger ∙ noted_else _ a.ledger.dues link k _ other;
        };
      }
