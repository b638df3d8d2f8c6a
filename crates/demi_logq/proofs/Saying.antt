-- What is said to an operation where no stop and no fault came before, case by case.
use Rattle.std.proofs.Common.{◌≡◌, ◌≢◌, ℕ, ◌+◌, ◌<◌, ◌≤◌, List, [], ◌∷◌, ◌++◌, length, take, get_or, min, Bool, true, false, cond, ap, sym, ◌∙◌, subst, arith, refl}
use Rattle.std.specs.Prelude.{Option, Some, None, ◌==◌, ◌||◌, nat_le, nat_lt, option_map}
use Rattle.std.proofs.lemmas.Bool.Decides.{nat_tests}
use Rattle.demi_heap.specs.Seen.{HeapId, HalfValue}
use Rattle.demi_logq.specs.declared.op.LogOp.{LogOp}
use Rattle.demi_logq.specs.declared.op.LogOp.TheVariants.{Push, Pop, Seek, Truncate}
use Rattle.demi_logq.specs.declared.out.LogOut.{LogOut}
use Rattle.demi_logq.specs.declared.out.LogOut.TheVariants.{Appended, BadSize, LogFull, Item, AtEnd, Sought, Cut, BadIndex, NoSlot, Fault}
use Rattle.demi_logq.specs.declared.told.LogTold.{LogTold}
use Rattle.demi_logq.specs.Logged.{Holds}
use Rattle.demi_logq.specs.Folding.{Answer, Just, Entry, Standing, bytes_of, said_at, said_by, said_open}
use Rattle.demi_logq.specs.Answers.{Is, IsItem, told_by}
use Rattle.std.specs.Io.KnownBytes.{append_known}
use Rattle.demi_logq.specs.Items.{tells}
use Rattle.demi_logq.specs.Queues.{Answered}
use Rattle.demi_logq.proofs.Entry.{length-ends}

pub when_true : {A : Type 0} (b : Bool) (x y : A) → b ≡ true → cond b x y ≡ x
when_true true x y e = refl
when_true false x y e = absurd (cc)

pub when_false : {A : Type 0} (b : Bool) (x y : A) → b ≡ false → cond b x y ≡ y
when_false true x y e = absurd (cc)
when_false false x y e = refl

pub same_is : (a b : ℕ) → a ≡ b → (a == b) ≡ true
same_is a b e = grind (arith, nat_tests)

pub other_is : (a b : ℕ) → a ≢ b → (a == b) ≡ false
other_is a b e = grind (arith, nat_tests)

pub below_is : (a b : ℕ) → a < b → nat_lt a b ≡ true
below_is a b e = grind (arith, nat_tests)

pub above_is : (a b : ℕ) → b ≤ a → nat_lt a b ≡ false
above_is a b e = grind (arith, nat_tests)

most_is : (a b : ℕ) → a ≤ b → nat_le a b ≡ true
most_is a b e = grind (arith, nat_tests)

over_is : (a b : ℕ) → b < a → nat_le a b ≡ false
over_is a b e = grind (arith, nat_tests)

none_is : (n : ℕ) → n ≡ 0 → ((n == 0) || nat_lt 65798 n) ≡ true
none_is n e = ap (λ (b : Bool). b || nat_lt 65798 n) (same_is n 0 e)

many_is : (n : ℕ) → 65798 < n → ((n == 0) || nat_lt 65798 n) ≡ true
many_is n e = ap (λ (b : Bool). b || nat_lt 65798 n) (other_is n 0 (λ z. omega arith)) ∙ below_is 65798 n e

fits_is : (n : ℕ) → 0 < n → n ≤ 65798 → ((n == 0) || nat_lt 65798 n) ≡ false
fits_is n some most = ap (λ (b : Bool). b || nat_lt 65798 n) (other_is n 0 (λ z. omega arith)) ∙ above_is 65798 n most

pub payloads_count : (told : Option (List ℕ)) (ends : List ℕ) (payloads : List (List ℕ)) → Holds told ends payloads → length ends ≡ length payloads
payloads_count told ends payloads h = ap length h.places ∙ length-ends 8 payloads

module _ (told : Bool) (heap : HeapId) (limit p : ℕ) (s : Standing) (Show : Standing → Type 0) (calm : s.stop ≡ None) (whole : s.fault ≡ None) where
  open_to : (op : LogOp) (struck : Option LogTold) → said_at limit p op struck s ≡ said_open limit p op struck s None
  open_to op struck = ap (λ (o : Option ℕ). said_by limit p op struck s o) calm ∙ ap (λ (o : Option ℕ). said_open limit p op struck s o) whole

  by_case : (op : LogOp) (o : LogOut) (a : Answer) (s' : Standing) → said_open limit p op (told_by o) s None ≡ (a, s') → Is told heap a o → Show s' → Answered told heap limit p op s Show o
  by_case op o a s' e is show =
      let f = open_to op (told_by o) ∙ e in record {
        said = subst (λ (x : Answer). Is told heap x o) (sym (ap (λ (r : Answer × Standing). r.0) f)) is;
        shows = subst Show (sym (ap (λ (r : Answer × Standing). r.1) f)) show;
      }

  pub at_end : s.cursor ≡ length s.payloads → Show s → Answered told heap limit p Pop s Show AtEnd
  at_end e show = by_case Pop AtEnd (Just AtEnd) s (when_true _ _ _ (same_is s.cursor (length s.payloads) e)) refl show

  pub no_slot : s.cursor ≢ length s.payloads → Show s → Answered told heap limit p Pop s Show NoSlot
  no_slot e show = by_case Pop NoSlot (Just NoSlot) s (when_false _ _ _ (other_is s.cursor (length s.payloads) e)) refl show

  pub pop_failed : s.cursor ≢ length s.payloads → Show (record s { fault = Some p }) → Answered told heap limit p Pop s Show Fault
  pop_failed e show = by_case Pop Fault (Just Fault) (record s { fault = Some p }) (when_false _ _ _ (other_is s.cursor (length s.payloads) e)) refl show

  pub popped : (sga : List HalfValue) → s.cursor ≢ length s.payloads → IsItem told heap (get_or s.payloads s.cursor []) sga → Show (record s { cursor = s.cursor + 1 }) → Answered told heap limit p Pop s Show (Item sga)
  popped sga e is show = by_case Pop (Item sga) (Entry (get_or s.payloads s.cursor [])) (record s { cursor = s.cursor + 1 }) (when_false _ _ _ (other_is s.cursor (length s.payloads) e)) is show

  pub bad_seek : (index : ℕ) → length s.payloads < index → Show s → Answered told heap limit p (Seek index) s Show BadIndex
  bad_seek index e show = by_case (Seek index) BadIndex (Just BadIndex) s (when_true _ _ _ (below_is (length s.payloads) index e)) refl show

  pub sought : (index : ℕ) → index ≤ length s.payloads → Show (record s { cursor = index }) → Answered told heap limit p (Seek index) s Show Sought
  sought index e show = by_case (Seek index) Sought (Just Sought) (record s { cursor = index }) (when_false _ _ _ (above_is (length s.payloads) index e)) refl show

  pub bad_cut : (keep : ℕ) → length s.payloads < keep → Show s → Answered told heap limit p (Truncate keep) s Show BadIndex
  bad_cut keep e show = by_case (Truncate keep) BadIndex (Just BadIndex) s (when_true _ _ _ (below_is (length s.payloads) keep e)) refl show

  pub was_cut : (keep : ℕ) → keep ≤ length s.payloads → Show (record s { payloads = take keep s.payloads; cursor = min s.cursor keep }) → Answered told heap limit p (Truncate keep) s Show Cut
  was_cut keep e show = by_case (Truncate keep) Cut (Just Cut) (record s { payloads = take keep s.payloads; cursor = min s.cursor keep }) (when_false _ _ _ (above_is (length s.payloads) keep e)) refl show

  pub cut_failed : (keep : ℕ) → keep ≤ length s.payloads → Show (record s { fault = Some p }) → Answered told heap limit p (Truncate keep) s Show Fault
  cut_failed keep e show = by_case (Truncate keep) Fault (Just Fault) (record s { fault = Some p }) (when_false _ _ _ (above_is (length s.payloads) keep e)) refl show

  pub pushed_none : (sga : List HalfValue) → length (bytes_of sga) ≡ 0 → Show s → Answered told heap limit p (Push sga) s Show BadSize
  pushed_none sga e show = by_case (Push sga) BadSize (Just BadSize) s (when_true _ _ _ (none_is (length (bytes_of sga)) e)) refl show

  pub pushed_many : (sga : List HalfValue) → 65798 < length (bytes_of sga) → Show s → Answered told heap limit p (Push sga) s Show BadSize
  pushed_many sga e show = by_case (Push sga) BadSize (Just BadSize) s (when_true _ _ _ (many_is (length (bytes_of sga)) e)) refl show

  module _ (sga : List HalfValue) (some : 0 < length (bytes_of sga)) (most : length (bytes_of sga) ≤ 65798) where
    pub is_full : limit ≤ length s.payloads → Show s → Answered told heap limit p (Push sga) s Show LogFull
    is_full e show = by_case (Push sga) LogFull (Just LogFull) s (when_false _ _ _ (fits_is (length (bytes_of sga)) some most) ∙ when_true _ _ _ (most_is limit (length s.payloads) e)) refl show

    pub was_appended : (n : ℕ) → n ≡ length s.payloads → length s.payloads < limit → Show (record s { payloads = s.payloads ++ bytes_of sga ∷ [] }) → Answered told heap limit p (Push sga) s Show (Appended n)
    was_appended n at e show =
        by_case (Push sga) (Appended n) (Just (Appended (length s.payloads))) (record s { payloads = s.payloads ++ bytes_of sga ∷ [] })
        (when_false _ _ _ (fits_is (length (bytes_of sga)) some most) ∙ when_false _ _ _ (over_is limit (length s.payloads) e)) (ap Appended at) show

    pub push_failed : length s.payloads < limit → Show (record s { fault = Some p }) → Answered told heap limit p (Push sga) s Show Fault
    push_failed e show = by_case (Push sga) Fault (Just Fault) (record s { fault = Some p })
        (when_false _ _ _ (fits_is (length (bytes_of sga)) some most) ∙ when_false _ _ _ (over_is limit (length s.payloads) e)) refl show

-- a disk goes on to tell its bytes, or not to
pub tells_map : (f : List ℕ → List ℕ) (old new : Option (List ℕ)) → new ≡ option_map f old → tells new ≡ tells old
tells_map f None new e = ap tells e
tells_map f (Some b) new e = ap tells e

pub tells_append : (more : List ℕ) (old new : Option (List ℕ)) → new ≡ append_known old more → tells new ≡ tells old
tells_append more None new e = ap tells e
tells_append more (Some b) new e = ap tells e
