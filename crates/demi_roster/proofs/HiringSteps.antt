-- The steps of hiring the workers of a session, and of taking them apart.
use Rattle.std.proofs.Common.{◌≡◌, ◌∙◌, ℕ, suc, ◌+◌, ◌<◌, ◌≤◌, List, [], ◌∷◌, ◌++◌, All, length, get_or, refl, sym, ap, subst, arith, append-nil}
use Rattle.std.specs.Prelude.{Option, Some, None}
use Rattle.std.specs.List.{remove}
use Rattle.arrayvec.specs.ArrayVec.{ArrayVec}
use Rattle.demi_link.specs.Linked.{LinkValue}
use Rattle.demi_port_core.specs.declared.place.QToken.{QToken}
use Rattle.demi_sched.specs.Holding.{SchedulerValue}
use Rattle.demi_worker.specs.declared.ended.Ended.{Ended}
use Rattle.demi_context.specs.ContextPorts.{Caller, Whole}
use Rattle.demi_sharing.specs.Setting.{AreSetOut}
use Rattle.demi_crew.specs.Serving.{IsEmpty}
use Rattle.demi_roster.specs.Hands.{AreDone, Done, HandValue, MayFinish, Ready, hands_of}
use Rattle.demi_roster.specs.Hiring.{HasHired, HasParted}

-- what holds of all holds of all but the first
pub all_rest : {A : Type 0} (P : A → Type 0) (x : A) (xs : List A) → All P (x ∷ xs) → All P xs
all_rest P x xs all k d low = all (suc k) d (omega (arith, low))

-- the first of a list was removed
first_removed : {A : Type 0} (old new : List A) (x : A) → 0 < length old → new ≡ remove old 0 → x ≡ get_or old 0 x → old ≡ x ∷ new
first_removed [] new x some is here = absurd (omega (arith, some))
first_removed (y ∷ ys) new x some is here = ap (λ z. z ∷ ys) (sym here) ∙ ap (λ zs. x ∷ zs) (sym is)

pub has_hired : (links : ℕ) (demi : Whole) (n : ℕ) (opening : Option QToken) (old new : List Caller) (before after : List (SchedulerValue LinkValue)) (h : HandValue) (c : Caller) (b : SchedulerValue LinkValue)
    → 0 < length old → length before ≡ length old → All (IsEmpty links links) before → new ≡ remove old 0 → c ≡ get_or old 0 c → after ≡ remove before 0 → b ≡ get_or before 0 b
    → h ≡ record { demi = demi; number = n; stage = Ready c opening } → HasHired links demi n opening old new before after h
has_hired links demi n opening old new before after h c b some many empty went here gone there is =
    let had = first_removed before after b (omega (arith, some, many)) gone there in
    record {
      caller = c;
      was = first_removed old new c some went here;
      bench = b;
      had = had;
      empty = all_rest (IsEmpty links links) b after (subst (All (IsEmpty links links)) had empty);
      hired = is;
    }

-- what the loop that hires has: those that are hired, and those that are to be hired
pub record Hires (links : ℕ) (demi : Whole) (t : QToken) (olds : List Caller) (n : ℕ) (opening : Option QToken) (callers : List Caller) (benches : List (SchedulerValue LinkValue)) (crew : List HandValue) : Type 0 where
  pub whole : hands_of demi 0 (Some t) olds ≡ crew ++ hands_of demi n opening callers
  pub many : length callers + n ≡ length olds
  pub set_out : AreSetOut demi n opening callers
  pub as_many : length benches ≡ length callers
  pub empty : All (IsEmpty links links) benches
  pub made : length crew ≡ n

pub none_hired : (links : ℕ) (demi : Whole) (t : QToken) (olds : List Caller) (benches : List (SchedulerValue LinkValue)) (crew : List HandValue) → AreSetOut demi 0 (Some t) olds → length benches ≡ length olds
    → All (IsEmpty links links) benches → crew ≡ [] → Hires links demi t olds 0 (Some t) olds benches crew
none_hired links demi t olds benches crew set_out many empty none = record {
  whole = ap (λ (l : List HandValue). l ++ hands_of demi 0 (Some t) olds) (sym none);
  many = omega arith;
  set_out = set_out;
  as_many = many;
  empty = empty;
  made = ap length none;
}

append_one : {A : Type 0} (xs ys : List A) (x : A) → xs ++ (x ∷ ys) ≡ (xs ++ x ∷ []) ++ ys
append_one [] ys x = refl
append_one (z ∷ xs) ys x = ap (λ l. z ∷ l) (append_one xs ys x)

length_one : {A : Type 0} (xs : List A) (x : A) → length (xs ++ x ∷ []) ≡ length xs + 1
length_one [] x = refl
length_one (z ∷ xs) x = let e = length_one xs x in omega (arith, e)

pub one_hired : (links : ℕ) (demi : Whole) (t : QToken) (olds : List Caller) (n : ℕ) (opening : Option QToken) (old new : List Caller) (before after : List (SchedulerValue LinkValue)) (crew more : List HandValue) (h : HandValue)
    → Hires links demi t olds n opening old before crew → HasHired links demi n opening old new before after h → more ≡ crew ++ h ∷ [] → Hires links demi t olds (n + 1) None new after more
one_hired links demi t olds n opening old new before after crew more h v s is =
    let a = ap length s.was in let b = ap length s.had in let m = v.many in let k = v.as_many in let z = v.made in let l = ap length is ∙ length_one crew h in
    record {
      whole = v.whole
          ∙ ap (λ (cs : List Caller). crew ++ hands_of demi n opening cs) s.was
          ∙ ap (λ (x : HandValue). crew ++ (x ∷ hands_of demi (n + 1) None new)) (sym s.hired)
          ∙ append_one crew (hands_of demi (n + 1) None new) h
          ∙ ap (λ (l : List HandValue). l ++ hands_of demi (n + 1) None new) (sym is);
      many = omega (arith, a, m);
      set_out = (subst (AreSetOut demi n opening) s.was v.set_out).1;
      as_many = omega (arith, a, b, k);
      empty = s.empty;
      made = omega (arith, l, z);
    }

-- once all are hired
pub all_hired : (links : ℕ) (demi : Whole) (t : QToken) (olds : List Caller) (n : ℕ) (opening : Option QToken) (callers : List Caller) (benches : List (SchedulerValue LinkValue)) (crew : List HandValue)
    → Hires links demi t olds n opening callers benches crew → length olds ≤ n → (callers ≡ []) × (benches ≡ []) × (crew ≡ hands_of demi 0 (Some t) olds)
all_hired links demi t olds n opening [] [] crew v all = (refl, refl, sym (append-nil crew) ∙ sym v.whole)
all_hired links demi t olds n opening [] (b ∷ bs) crew v all = let k = v.as_many in absurd (omega (arith, k))
all_hired links demi t olds n opening (c ∷ cs) benches crew v all = let m = v.many in absurd (omega (arith, m, all))

-- one was taken apart
pub has_parted : (old new : List HandValue) (h : HandValue) (c : Caller) (e : ArrayVec Ended) → 0 < length old → new ≡ remove old 0 → h ≡ get_or old 0 h → h.stage ≡ Done c e.items → HasParted old new c e
has_parted old new h c e some went here is = record { hand = h; was = first_removed old new h some went here; done = is }

-- the first of those whose work is done
pub first_done : (old : List HandValue) (h : HandValue) → 0 < length old → All MayFinish old → h ≡ get_or old 0 h → MayFinish h
first_done old h some all here = subst MayFinish (sym here) (all 0 h some)

-- what the loop that takes apart has: those that were taken apart came first
pub record Parts (olds : List HandValue) (n : ℕ) (crew : List HandValue) (callers : List Caller) (ended : List (ArrayVec Ended)) : Type 0 where
  pub apart : List HandValue
  pub whole : olds ≡ apart ++ crew
  pub done : AreDone apart callers ended
  pub finish : All MayFinish crew
  pub many : length crew + n ≡ length olds
  pub came : (length callers ≡ n) × (length ended ≡ n)

pub none_parted : (olds : List HandValue) (callers : List Caller) (ended : List (ArrayVec Ended)) → All MayFinish olds → callers ≡ [] → ended ≡ [] → Parts olds 0 olds callers ended
none_parted olds callers ended finish none nothing = record {
  apart = [];
  whole = refl;
  done = subst (λ (cs : List Caller). AreDone [] cs ended) (sym none) (subst (λ (es : List (ArrayVec Ended)). AreDone [] [] es) (sym nothing) tt);
  finish = finish;
  many = omega arith;
  came = (ap length none, ap length nothing);
}

done_and_one : (hs : List HandValue) (cs : List Caller) (es : List (ArrayVec Ended)) (h : HandValue) (c : Caller) (e : ArrayVec Ended) → AreDone hs cs es → h.stage ≡ Done c e.items → AreDone (hs ++ h ∷ []) (cs ++ c ∷ []) (es ++ e ∷ [])
done_and_one [] [] [] h c e are is = (is, tt)
done_and_one [] [] (x ∷ es) h c e are is = absurd are
done_and_one [] (x ∷ cs) es h c e are is = absurd are
done_and_one (x ∷ hs) [] es h c e are is = absurd are
done_and_one (x ∷ hs) (y ∷ cs) [] h c e are is = absurd are
done_and_one (x ∷ hs) (y ∷ cs) (z ∷ es) h c e are is = (are.0, done_and_one hs cs es h c e are.1 is)

pub one_parted : (olds : List HandValue) (n : ℕ) (crew less : List HandValue) (callers more : List Caller) (ended longer : List (ArrayVec Ended)) (c : Caller) (e : ArrayVec Ended)
    → Parts olds n crew callers ended → HasParted crew less c e → more ≡ callers ++ c ∷ [] → longer ≡ ended ++ e ∷ [] → Parts olds (n + 1) less more longer
one_parted olds n crew less callers more ended longer c e v s is are =
    let a = ap length s.was in let m = v.many in let p = v.came.0 in let q = v.came.1 in let x = ap length is ∙ length_one callers c in let y = ap length are ∙ length_one ended e in
    record {
      apart = v.apart ++ s.hand ∷ [];
      whole = v.whole ∙ ap (λ (l : List HandValue). v.apart ++ l) s.was ∙ append_one v.apart less s.hand;
      done = subst (λ (cs : List Caller). AreDone (v.apart ++ s.hand ∷ []) cs longer) (sym is) (subst (λ (es : List (ArrayVec Ended)). AreDone (v.apart ++ s.hand ∷ []) (callers ++ c ∷ []) es) (sym are) (done_and_one v.apart callers ended s.hand c e v.done s.done));
      finish = all_rest MayFinish s.hand less (subst (All MayFinish) s.was v.finish);
      many = omega (arith, a, m);
      came = (omega (arith, p, x), omega (arith, q, y));
    }

pub all_parted : (olds : List HandValue) (n : ℕ) (crew : List HandValue) (callers : List Caller) (ended : List (ArrayVec Ended)) → Parts olds n crew callers ended → length olds ≤ n → (crew ≡ []) × AreDone olds callers ended
all_parted olds n [] callers ended v all = (refl, subst (λ (l : List HandValue). AreDone l callers ended) (sym (append-nil v.apart) ∙ sym v.whole) v.done)
all_parted olds n (h ∷ hs) callers ended v all = let m = v.many in absurd (omega (arith, m, all))
