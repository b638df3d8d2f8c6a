-- Where the first stop is, and what payloads an engine stands on.
use Rattle.std.proofs.Common.{◌≡◌, ℕ, ◌+◌, ◌-◌, List, [], ◌∷◌, ◌++◌, length, take, min, Bool, true, false, cond, ap, sym, ◌∙◌, subst, arith, refl}
use Rattle.std.specs.Prelude.{Option, Some, None, IfSome, replicate, ◌==◌, ◌||◌, nat_le, nat_lt}
use Rattle.std.proofs.lemmas.List.{length-replicate}
use Rattle.std.specs.List.{AllByRecursion}
use Rattle.demi_spec.specs.LogText.{payload_max}
use Rattle.demi_logq.specs.declared.out.LogOut.TheVariants.{Appended, BadSize, LogFull, AtEnd, Sought, Cut, BadIndex}
use Rattle.demi_spec.specs.LogText.{IsPayload}
use Rattle.demi_device.specs.Serving.{first_stop}
use Rattle.demi_logq.specs.declared.op.LogOp.{LogOp}
use Rattle.demi_logq.specs.declared.op.LogOp.TheVariants.{Push, Pop, Seek, Truncate, Stop}
use Rattle.demi_logq.specs.declared.told.LogTold.{LogTold}
use Rattle.demi_logq.specs.declared.told.LogTold.TheVariants.{ByDisk, BySlot}
use Rattle.demi_logq.specs.Logged.{Holds, ends_from, end_of}
use Rattle.demi_logq.specs.Folding.{Answer, Just, Standing, bytes_of, said_at, said_by, said_open, standing_from, pop_one, unless_failed}
use Rattle.demi_logq.specs.Answers.{is_stop}
use Rattle.demi_logq.specs.Engine.{blanks, payloads_in, read_of}
use Rattle.demi_logq.proofs.Holding.{holds_read}

-- either leaves the stop as it was
keeps : (x : Option ℕ) (b : Bool) (l r : Answer × Standing) → l.1.stop ≡ x → r.1.stop ≡ x → (cond b l r).1.stop ≡ x
keeps x true l r p q = p
keeps x false l r p q = q

keeps_failed : (t : Option LogTold) (p : ℕ) (s : Standing) (r : Answer × Standing) → r.1.stop ≡ s.stop → (unless_failed t p s r).1.stop ≡ s.stop
keeps_failed (Some ByDisk) p s r e = refl
keeps_failed (Some BySlot) p s r e = e
keeps_failed None p s r e = e

keeps_one : (t : Option LogTold) (p : ℕ) (s : Standing) → (pop_one t p s).1.stop ≡ s.stop
keeps_one (Some ByDisk) p s = refl
keeps_one (Some BySlot) p s = refl
keeps_one None p s = refl

-- the stop after an operation, where none came before
open_stop : (limit p : ℕ) (op : LogOp) (t : Option LogTold) (s : Standing) (fault : Option ℕ) → (said_open limit p op t s fault).1.stop ≡ cond (is_stop op) (Some p) s.stop
open_stop limit p Stop t s fault = refl
open_stop limit p (Push sga) t s None =
    let done : Answer × Standing = (Just (Appended (length s.payloads)), record s { payloads = s.payloads ++ bytes_of sga ∷ [] }) in
    let room : Answer × Standing = cond (nat_le limit (length s.payloads)) (Just LogFull, s) (unless_failed t p s done) in
    keeps s.stop ((length (bytes_of sga) == 0) || nat_lt payload_max (length (bytes_of sga))) (Just BadSize, s) room refl
    (keeps s.stop (nat_le limit (length s.payloads)) (Just LogFull, s) (unless_failed t p s done) refl (keeps_failed t p s done refl))
open_stop limit p Pop t s None = keeps s.stop (s.cursor == length s.payloads) (Just AtEnd, s) (pop_one t p s) refl (keeps_one t p s)
open_stop limit p (Seek index) t s None = keeps s.stop (nat_lt (length s.payloads) index) (Just BadIndex, s) (Just Sought, record s { cursor = index }) refl refl
open_stop limit p (Truncate keep) t s None =
    let done : Answer × Standing = (Just Cut, record s { payloads = take keep s.payloads; cursor = min s.cursor keep }) in
    keeps s.stop (nat_lt (length s.payloads) keep) (Just BadIndex, s) (unless_failed t p s done) refl (keeps_failed t p s done refl)
open_stop limit p (Push sga) t s (Some at) = refl
open_stop limit p Pop t s (Some at) = refl
open_stop limit p (Seek index) t s (Some at) = refl
open_stop limit p (Truncate keep) t s (Some at) = refl

stop_on : Option ℕ → Option ℕ → Option ℕ
stop_on (Some at) later = Some at
stop_on None later = later

said_stop : (limit p : ℕ) (op : LogOp) (t : Option LogTold) (s : Standing) (stop : Option ℕ) → s.stop ≡ stop → (said_by limit p op t s stop).1.stop ≡ stop_on stop (cond (is_stop op) (Some p) None)
unfolding stop_on
said_stop limit p op t s None e = open_stop limit p op t s s.fault ∙ ap (λ (o : Option ℕ). cond (is_stop op) (Some p) o) e
said_stop limit p op t s (Some at) e = e

on_first : (b : Bool) (p : ℕ) (rest : Option ℕ) → stop_on (cond b (Some p) None) rest ≡ cond b (Some p) rest
unfolding stop_on
on_first true p rest = refl
on_first false p rest = refl

on_stop : (a b c : Option ℕ) → stop_on (stop_on a b) c ≡ stop_on a (stop_on b c)
unfolding stop_on
on_stop None b c = refl
on_stop (Some at) b c = refl

on_none : (a : Option ℕ) → stop_on a None ≡ a
unfolding stop_on
on_none None = refl
on_none (Some at) = refl

none_on : (a : Option ℕ) → stop_on None a ≡ a
unfolding stop_on
none_on a = refl

stop_from : (limit : ℕ) (t : ℕ → Option LogTold) (p : ℕ) (s : Standing) (h : List LogOp) → (standing_from limit t p s h).stop ≡ stop_on s.stop (first_stop is_stop p h)
stop_from limit t p s [] = sym (on_none s.stop)
stop_from limit t p s (op ∷ h) =
    stop_from limit t (p + 1) (said_at limit p op (t p) s).1 h
    ∙ ap (λ (o : Option ℕ). stop_on o (first_stop is_stop (p + 1) h)) (said_stop limit p op (t p) s s.stop refl)
    ∙ on_stop s.stop (cond (is_stop op) (Some p) None) (first_stop is_stop (p + 1) h)
    ∙ ap (stop_on s.stop) (on_first (is_stop op) p (first_stop is_stop (p + 1) h))

pub stop_is : (limit : ℕ) (t : ℕ → Option LogTold) (s : Standing) (h : List LogOp) → s.stop ≡ None → (standing_from limit t 0 s h).stop ≡ first_stop is_stop 0 h
stop_is limit t s h e = stop_from limit t 0 s h ∙ ap (λ (o : Option ℕ). stop_on o (first_stop is_stop 0 h)) e ∙ none_on (first_stop is_stop 0 h)

zeros : (n : ℕ) → length {A = ℕ} (replicate n 0) ≡ n
zeros n = length-replicate n 0

blanks_ends : (at : ℕ) (payloads : List (List ℕ)) → ends_from at payloads ≡ ends_from at (blanks at (ends_from at payloads))
blanks_ends at [] = refl
blanks_ends at (p ∷ payloads) =
    let next = at + (4 + length p) in
    let z = zeros (next - (at + 4)) in
    let same : next ≡ at + (4 + length (replicate (next - (at + 4)) 0)) = omega arith in
    ap (λ (l : List ℕ). next ∷ l) (blanks_ends next payloads)
    ∙ ap (λ (n : ℕ). n ∷ ends_from n (blanks next (ends_from next payloads))) same

blanks_fit : (at : ℕ) (payloads : List (List ℕ)) → AllByRecursion IsPayload payloads → AllByRecursion IsPayload (blanks at (ends_from at payloads))
blanks_fit at [] fit = fit
blanks_fit at (p ∷ payloads) fit =
    let next = at + (4 + length p) in
    let z = zeros (next - (at + 4)) in let some = fit.0.0 in let most = fit.0.1 in
    ((omega arith, omega arith), blanks_fit next payloads fit.1)

pub payloads_hold : (told : Option (List ℕ)) (held : ℕ) (ends : List ℕ) (payloads : List (List ℕ)) → Holds told ends payloads → IfSome told (λ b. length b ≡ held) → held ≡ end_of payloads → Holds told ends (payloads_in told ends)
payloads_hold (Some b) held ends payloads h long whole =
    subst (λ (l : List (List ℕ)). Holds (Some b) ends l) (sym (ap read_of (holds_read (Some b) held ends payloads h long whole))) h
payloads_hold None held ends payloads h long whole = record {
  fits = subst (λ (l : List ℕ). AllByRecursion IsPayload (blanks 8 l)) (sym h.places) (blanks_fit 8 payloads h.fits);
  places = h.places ∙ blanks_ends 8 payloads ∙ ap (λ (l : List ℕ). ends_from 8 (blanks 8 l)) (sym h.places);
  text = tt;
}
