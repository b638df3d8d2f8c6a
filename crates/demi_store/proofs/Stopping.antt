-- Where the first stop is.
use Rattle.std.proofs.Common.{◌≡◌, ℕ, ◌+◌, List, [], ◌∷◌, length, Bool, true, false, cond, ap, sym, ◌∙◌, refl}
use Rattle.std.specs.Prelude.{Option, Some, None, nat_le}
use Rattle.demi_device.specs.Serving.{first_stop}
use Rattle.demi_spec.specs.Input.{Asked, Request_of}
use Rattle.demi_spec.specs.Request as request
use Rattle.demi_store.specs.declared.ask.StoreAsk.{StoreAsk}
use Rattle.demi_store.specs.declared.op.StoreOp.{StoreOp}
use Rattle.demi_store.specs.declared.op.StoreOp.TheVariants.{Put, Get, Stop}
use Rattle.demi_store.specs.declared.told.StoreTold.{StoreTold}
use Rattle.demi_store.specs.declared.told.StoreTold.TheVariants.{ByDisk, ByMemory}
use Rattle.demi_store.specs.History.{Fault, NoMemory, Said, Standing, answered, put_open, get_open, said_at, said_by, said_open, standing_from, value_bytes}
use Rattle.demi_store.specs.Laws.{is_stop, stops_op}

-- either leaves the stop as it was
keeps : (x : Option ℕ) (b : Bool) (l r : Said × Standing) → l.1.stop ≡ x → r.1.stop ≡ x → (cond b l r).1.stop ≡ x
keeps x true l r p q = p
keeps x false l r p q = q

put_keeps : (limit p link index : ℕ) (s : Standing) (ask : Asked) (t : Option StoreTold) → (put_open limit p link index s ask t).1.stop ≡ s.stop
put_keeps limit p link index s ask None = refl
put_keeps limit p link index s ask (Some ByDisk) = keeps s.stop (nat_le limit (length s.records)) (answered limit link index s ask) (Fault, record s { fault = Some p }) refl refl
put_keeps limit p link index s ask (Some ByMemory) = keeps s.stop (nat_le limit (length s.records)) (answered limit link index s ask) (NoMemory, s) refl refl

get_keeps : (limit p : ℕ) (s : Standing) (ask : Asked) (t : Option StoreTold) → (get_open limit p s ask t).1.stop ≡ s.stop
get_keeps limit p s ask None = refl
get_keeps limit p s ask (Some ByDisk) = refl
get_keeps limit p s ask (Some ByMemory) = refl

-- the stop after an operation, where none came before
open_stop : (limit p : ℕ) (s : Standing) (op : StoreOp) (t : Option StoreTold) (fault : Option ℕ) → (said_open limit p s op t fault).1.stop ≡ cond (stops_op op) (Some p) s.stop
open_stop limit p s Stop t fault = refl
open_stop limit p s (Put link index key value) t None = put_keeps limit p link index s (Request_of (request.Put key.items (value_bytes value))) t
open_stop limit p s (Get key room) t None = get_keeps limit p s (Request_of (request.Get key.items)) t
open_stop limit p s (Put link index key value) t (Some at) = refl
open_stop limit p s (Get key room) t (Some at) = refl

stop_on : Option ℕ → Option ℕ → Option ℕ
stop_on (Some at) later = Some at
stop_on None later = later

said_stop : (limit p : ℕ) (s : Standing) (op : StoreOp) (t : Option StoreTold) (stop : Option ℕ) → s.stop ≡ stop → (said_by limit p s op t stop).1.stop ≡ stop_on stop (cond (stops_op op) (Some p) None)
unfolding stop_on
said_stop limit p s op t None e = open_stop limit p s op t s.fault ∙ ap (λ (o : Option ℕ). cond (stops_op op) (Some p) o) e
said_stop limit p s op t (Some at) e = e

on_first : (b : Bool) (p : ℕ) (rest : Option ℕ) → stop_on (cond b (Some p) None) rest ≡ cond b (Some p) rest
unfolding stop_on
on_first true p rest = refl
on_first false p rest = refl

on_stop : (a b c : Option ℕ) → stop_on (stop_on a b) c ≡ stop_on a (stop_on b c)
unfolding stop_on
on_stop None b c = refl
on_stop (Some at) b c = refl

on_none : (a : Option ℕ) → stop_on a None ≡ a
unfolding stop_on
on_none None = refl
on_none (Some at) = refl

none_on : (a : Option ℕ) → stop_on None a ≡ a
unfolding stop_on
none_on a = refl

stop_from : (limit : ℕ) (t : ℕ → Option StoreTold) (p : ℕ) (s : Standing) (h : List StoreAsk) → (standing_from limit t p s h).stop ≡ stop_on s.stop (first_stop is_stop p h)
stop_from limit t p s [] = sym (on_none s.stop)
stop_from limit t p s (a ∷ h) =
    stop_from limit t (p + 1) (said_at limit p s a (t p)).1 h
    ∙ ap (λ (o : Option ℕ). stop_on o (first_stop is_stop (p + 1) h)) (said_stop limit p s a.op (t p) s.stop refl)
    ∙ on_stop s.stop (cond (is_stop a) (Some p) None) (first_stop is_stop (p + 1) h)
    ∙ ap (stop_on s.stop) (on_first (is_stop a) p (first_stop is_stop (p + 1) h))

pub stop_is : (limit : ℕ) (t : ℕ → Option StoreTold) (s : Standing) (h : List StoreAsk) → s.stop ≡ None → (standing_from limit t 0 s h).stop ≡ first_stop is_stop 0 h
stop_is limit t s h e = stop_from limit t 0 s h ∙ ap (λ (o : Option ℕ). stop_on o (first_stop is_stop 0 h)) e ∙ none_on (first_stop is_stop 0 h)
