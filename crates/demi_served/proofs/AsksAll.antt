-- One worker that asks with each number that it draws.
use Rattle.std.proofs.Common.{◌≡◌, ℕ, suc, ◌+◌, Bool, true, List, [], ◌∷◌, ◌++◌, length, Option, None, Some, refl, arith, ◌∙◌, ap, sym, cond, append_assoc, append-nil}
use Rattle.std.specs.Prelude.{slice_get, map, ◌==◌}
use Rattle.std.proofs.lemmas.Bool.Decides.{nat_tests}
use Rattle.demi_port.specs.Seen.{says}
use Rattle.demi_port_core.specs.History.{of_pass}
use Rattle.demi_port_core.specs.declared.trail.Trail.{Trail}
use Rattle.demi_spec.specs.Input.{Asked}
use Rattle.demi_store.specs.declared.ask.StoreAsk.{StoreAsk}
use Rattle.demi_store.specs.declared.op.StoreOp.{StoreOp}
use Rattle.demi_store.specs.declared.told.StoreTold.{StoreTold}
use Rattle.demi_served.specs.Asking.{Ask, Stops, asks_for, ask_of}
use Rattle.demi_served.specs.Accounts.{StoreEntry}
use Rattle.demi_served.specs.Keeps.{Draw, Worker}
use Rattle.demi_served.specs.Steps.{new_worker, after_draw, after_ask, after_stop, after_handing}
use Rattle.demi_served.specs.Alone.{Numbered, numbered_ask, with_ask, asked_with, asked_by, AsksAll, AskedAll}
use Rattle.demi_served.proofs.Lists.{all_append}

asked_push : (s : ℕ) (draws : List Draw) (d : Draw)
    → asked_with s (draws ++ d ∷ []) ≡ asked_with s draws ++ with_ask (s + length draws)
    (ask_of d.link d.index d.request) []
asked_push s [] d = let n : s ≡ s + 0 = omega arith in ap (λ m. with_ask m (ask_of d.link d.index d.request) []) n
asked_push s (x ∷ draws) d = front (ask_of x.link x.index x.request) (asked_with (s + 1) (draws ++ d ∷ [])) (asked_with (s + 1) draws) (with_ask (s + suc (length draws)) (ask_of d.link d.index d.request) []) (asked_push (s + 1) draws d ∙ ap (λ m. asked_with (s + 1) draws ++ with_ask m (ask_of d.link d.index d.request) []) (shift s (length draws)))
  where
    shift : (s n : ℕ) → s + 1 + n ≡ s + suc n
    shift s n = omega arith

    front : (o : Option Ask) (xs ys zs : List Numbered) → xs ≡ ys ++ zs → with_ask s o xs ≡ with_ask s o ys ++ zs
    front None xs ys zs e = e
    front (Some a) xs ys zs e = ap (λ (l : List Numbered). record { sequence = s; ask = a } ∷ l) e

said_push : (xs : List (ℕ × (ℕ × StoreAsk))) (x : ℕ × (ℕ × StoreAsk))
    → asked_by (map (λ y. y.1.1) (xs ++ x ∷ [])) ≡ asked_by (map (λ y. y.1.1) xs) ++ numbered_ask x.1.1 ∷ []
said_push [] x = refl
said_push (y ∷ xs) x = ap (λ (l : List Numbered). numbered_ask y.1.1 ∷ l) (said_push xs x)

pub first_all : (known : Trail StoreAsk StoreTold) → AsksAll (new_worker known)
first_all known = refl

pub drawn_all : (w : Worker) (link index : ℕ) (q : Asked) → AsksAll w → ask_of link index q ≡ None
    → AsksAll (after_draw w link index q)
drawn_all w link index q h none =
    h ∙ sym (asked_push 1 w.draws (record { link = link; index = index; request = q }) ∙ ap (λ (o : Option Ask). asked_with 1 w.draws ++ with_ask (1 + length w.draws) o []) none ∙ append-nil _)

pub asked_all : (w : Worker) (link index : ℕ) (q : Asked) (op : StoreOp) (p t : ℕ) → AsksAll w
    → ask_of link index q ≡ Some (asks_for op) → AsksAll (after_ask w link index q op p t)
asked_all w link index q op p t h some =
    let n : length w.draws + 1 ≡ 1 + length w.draws = omega arith in
    said_push w.submitted (p, (t, record { sequence = length w.draws + 1; op = op }))
    ∙ ap (λ (l : List Numbered). l ++ record { sequence = length w.draws + 1; ask = asks_for op } ∷ []) h
    ∙ ap (λ m. asked_with 1 w.draws ++ record { sequence = m; ask = asks_for op } ∷ []) n
    ∙ sym (asked_push 1 w.draws (record { link = link; index = index; request = q }) ∙ ap (λ (o : Option Ask). asked_with 1 w.draws ++ with_ask (1 + length w.draws) o []) some)

abbrev stop_ : Numbered
stop_ = record { sequence = 0; ask = Stops }

pub stopped_all : (w : Worker) (p t : ℕ) → AsksAll w → AskedAll (after_stop w p t)
stopped_all w p t h = record { stops = stop_ ∷ []; are_stops = (refl, tt); asked = said_push w.submitted _ ∙ ap (λ (l : List Numbered). l ++ stop_ ∷ []) h }

pub stopped_again : (w : Worker) (p t : ℕ) → AskedAll w → AskedAll (after_stop w p t)
stopped_again w p t h = record {
  stops = h.stops ++ stop_ ∷ [];
  are_stops = all_append (λ s. s.ask ≡ Stops) h.stops (stop_ ∷ []) h.are_stops (refl, tt);
  asked = said_push w.submitted _ ∙ ap (λ (l : List Numbered). l ++ stop_ ∷ []) h.asked
      ∙ append_assoc (asked_with 1 w.draws) h.stops (stop_ ∷ []);
}

-- the entries of a history that has those of one pass alone
pub of_only_pass : (history : List StoreEntry) (place : ℕ)
    → ((p : ℕ) (e : StoreEntry) → slice_get history p ≡ Some e → e.0 ≡ 0)
    → map (λ (x : ℕ × (ℕ × StoreAsk)). x.1.1) (of_pass 0 place history) ≡ says history
of_only_pass [] place h = refl
of_only_pass (e ∷ history) place h =
    let number = h 0 e refl in
    let test : (e.0 == 0) ≡ true = grind (arith, nat_tests) in
    ap (λ (c : Bool). map (λ (x : ℕ × (ℕ × StoreAsk)). x.1.1) (cond c ((place, e.1) ∷ of_pass 0 (place + 1) history) (of_pass 0 (place + 1) history))) test
    ∙ ap (λ (l : List StoreAsk). e.1.1 ∷ l) (of_only_pass history (place + 1) (λ p x at. h (suc p) x at))

pub handed_all : (w : Worker) (known : Trail StoreAsk StoreTold) → AsksAll w → AsksAll (after_handing w known)
handed_all w known h = h

pub handed_again : (w : Worker) (known : Trail StoreAsk StoreTold) → AskedAll w → AskedAll (after_handing w known)
handed_again w known h = record { stops = h.stops; are_stops = h.are_stops; asked = h.asked }
