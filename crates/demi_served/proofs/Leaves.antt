-- The records of a worker that serves one link alone are those of the store on one thread.
use Rattle.std.proofs.Common.{◌≡◌, ℕ, zero, suc, ◌+◌, ◌<◌, Bool, true, false, List, [], ◌∷◌, ◌++◌, length, take, drop, Option, None, Some, refl, arith, ◌∙◌, ap, sym, subst, cond, append_assoc, append-nil, inl, inr, ◌⊎◌}
use Rattle.std.specs.Prelude.{nat_le, slice_get}
use Rattle.std.specs.List.{AllByRecursion}
use Rattle.std.proofs.lemmas.List.{take-append-drop}
use Rattle.demi_port.specs.Seen.{says}
use Rattle.demi_spec.specs.Request.{Put, Get, End}
use Rattle.demi_spec.specs.Input.{Asked, Request_of, Refused_end}
use Rattle.demi_spec.specs.Reply.{Reply}
use Rattle.demi_spec.specs.Record.{Record}
use Rattle.demi_spec.specs.Store.{added, serial_from}
use Rattle.demi_store.specs.History.{Said, Fault, NoMemory, Standing, answered, opened, struck_at}
use Rattle.demi_store.specs.Laws.{StoreBasis}
use Rattle.demi_store.specs.declared.told.StoreTold.{StoreTold}
use Rattle.demi_store.specs.declared.told.StoreTold.TheVariants.{ByDisk, ByMemory}
use Rattle.demi_served.specs.Asking.{Ask, Puts, Gets, Stops, ask_of}
use Rattle.demi_served.specs.Accounts.{StoreEntry, asked_in, IsLater, IsAccounted}
use Rattle.demi_served.specs.Keeps.{numbered}
use Rattle.demi_served.specs.Alone.{Numbered, with_ask, asked_with, asked_by}
use Rattle.demi_served.proofs.Lists.{some_is}
use Rattle.demi_served.proofs.Folds.{said_open, said_by, said_at, standing_from, history_join}
use Rattle.demi_served.proofs.Orders.{wants, before, SaidFrom, RepliesFrom, asked_step, step_calm, plain_step}

-- a stop leaves the records
pub stops_keep : (limit : ℕ) (f : ℕ → Option StoreTold) (place : ℕ) (s : Standing) (stops : List Numbered)
    → AllByRecursion (λ x. x.ask ≡ Stops) stops → (standing_from limit f place s (wants stops)).records ≡ s.records
stops_keep limit f place s [] h = refl
stops_keep limit f place s (x ∷ stops) h =
    stops_keep limit f (place + 1) (said_at limit place s x.ask (f place)).1 stops h.1
    ∙ ap (λ (a : Ask). (said_at limit place s a (f place)).1.records) h.0 ∙ go s.stop
  where
    go : (o : Option ℕ) → (said_by limit place s Stops (f place) o).1.records ≡ s.records
    go None = refl
    go (Some at) = refl

module _ (b : StoreBasis) (history : List StoreEntry) (trail : List (ℕ × StoreTold)) (told : b.told ≡ true) (alone : (p : ℕ) (e : StoreEntry) → slice_get history p ≡ Some e → e.0 ≡ 0)
    (rises : (p q : ℕ) (x y : StoreEntry) → p < q → slice_get history p ≡ Some x → slice_get history q ≡ Some y → x.0 ≡ y.0 → IsLater x.1.1 y.1.1) (stops : List Numbered) (are_stops : AllByRecursion (λ x. x.ask ≡ Stops) stops) where
  abbrev pub all_asks : List Ask
  all_asks = asked_in (says history)

  abbrev pub final : Standing
  final = standing_from b.limit (struck_at trail) 0 (opened b.records) all_asks

  abbrev pub at : ℕ → Standing
  at p = before b history trail told alone rises stops p

  at_end : (p : ℕ) → drop p all_asks ≡ wants stops → final.records ≡ (at p).records
  at_end p rest =
      ap (λ (l : List Ask). (standing_from b.limit (struck_at trail) 0 (opened b.records) l).records) (sym (take-append-drop p all_asks) ∙ ap (λ (l : List Ask). take p all_asks ++ l) rest)
      ∙ ap (λ (x : Standing). x.records) (history_join b.limit (struck_at trail) 0 (opened b.records) (take p all_asks) (wants stops))
      ∙ stops_keep b.limit (struck_at trail) (0 + length (take p all_asks)) (at p) stops are_stops

  pub drop_next : (xs : List Ask) (p : ℕ) (x : Ask) (ys : List Ask) → drop p xs ≡ x ∷ ys → drop (p + 1) xs ≡ ys
  drop_next xs zero x ys e = ap (drop 1) e
  drop_next [] (suc p) x ys e = absurd (cc)
  drop_next (z ∷ xs) (suc p) x ys e = let n : suc p + 1 ≡ suc (p + 1) = omega arith in ap (λ m. drop m (z ∷ xs)) n
      ∙ drop_next xs p x ys e

  pub records_in_order : (i p : ℕ) (qs : List Asked) (rs : List Reply)
      → drop p all_asks ≡ wants (asked_with (i + 1) (numbered 0 i qs) ++ stops)
      → SaidFrom b history trail told alone rises stops p (asked_with (i + 1) (numbered 0 i qs) ++ stops)
      → RepliesFrom b history trail told alone rises stops i qs rs → length rs ≡ length qs
      → final.records ≡ (at p).records ++ (serial_from i (at p).records b.limit qs).records
  records_in_order i p [] rs rest said h long = at_end p rest ∙ sym (append-nil (at p).records)
  records_in_order i p (q ∷ qs) [] rest said h long = absurd (omega (arith, long))
  records_in_order i p (q ∷ qs) (r ∷ rs) rest said h long = go (ask_of 0 i q) refl rest said h.2 (λ m e s. records_in_order (i + 1) m qs rs e s h.3 (omega (arith, long)))
    where
      join : (records more new : List Record) → more ≡ records ++ new
          → final.records ≡ more ++ (serial_from (i + 1) more b.limit qs).records
          → final.records ≡ records ++ (new ++ (serial_from (i + 1) (records ++ new) b.limit qs).records)
      join records more new same e = e ∙ ap (λ (l : List Record). l ++ (serial_from (i + 1) l b.limit qs).records) same ∙ append_assoc records new (serial_from (i + 1) (records ++ new) b.limit qs).records

      go : (o : Option Ask) → ask_of 0 i q ≡ o
          → drop p all_asks ≡ wants (with_ask (i + 1) o (asked_with (i + 1 + 1) (numbered 0 (i + 1) qs)) ++ stops)
          → SaidFrom b history trail told alone rises stops p
          (with_ask (i + 1) o (asked_with (i + 1 + 1) (numbered 0 (i + 1) qs)) ++ stops)
          → IsAccounted b history trail q r o
          → ((m : ℕ) → drop m all_asks ≡ wants (asked_with (i + 1 + 1) (numbered 0 (i + 1) qs) ++ stops) → SaidFrom b history trail told alone rises stops m (asked_with (i + 1 + 1) (numbered 0 (i + 1) qs) ++ stops) → final.records ≡ (at m).records ++ (serial_from (i + 1) (at m).records b.limit qs).records)
          → final.records ≡ (at p).records ++ (serial_from i (at p).records b.limit (q ∷ qs)).records
      go None none rest said acc again =
          let plain = plain_step i b.limit q (at p).records none in
          join (at p).records (at p).records (added (at p).records b.limit 0 i q) (sym (append-nil (at p).records) ∙ ap (λ (l : List Record). (at p).records ++ l) (sym plain.1)) (again p rest said)
      go (Some ask) some rest said acc again =
          let zero_more : p + 0 ≡ p = omega arith in
          let here : slice_get (asked_by (says history)) p ≡ Some (record { sequence = i + 1; ask = ask }) = ap (slice_get (asked_by (says history))) (sym zero_more) ∙ said 0 (record { sequence = i + 1; ask = ask }) refl in
          let step = asked_step b history trail told alone rises stops i p q r ask some here h.1 acc in
          join (at p).records (at (p + 1)).records (added (at p).records b.limit 0 i q) step.1
          (again (p + 1) (drop_next all_asks p ask (wants (asked_with (i + 1 + 1) (numbered 0 (i + 1) qs) ++ stops)) rest) (λ j x e. (let n : p + 1 + j ≡ p + suc j = omega arith in ap (slice_get (asked_by (says history))) n ∙ said (suc j) x e)))

-- The last number that was drawn may have no reply: what its ask may have left.
pub stops_calm : (limit : ℕ) (f : ℕ → Option StoreTold) (place : ℕ) (s : Standing) (stops : List Numbered)
    → AllByRecursion (λ x. x.ask ≡ Stops) stops → (standing_from limit f place s (wants stops)).fault ≡ s.fault
stops_calm limit f place s [] h = refl
stops_calm limit f place s (x ∷ stops) h =
    stops_calm limit f (place + 1) (said_at limit place s x.ask (f place)).1 stops h.1
    ∙ ap (λ (a : Ask). (said_at limit place s a (f place)).1.fault) h.0 ∙ go s.stop
  where
    go : (o : Option ℕ) → (said_by limit place s Stops (f place) o).1.fault ≡ s.fault
    go None = refl
    go (Some at) = refl

-- what an ask may leave: nothing, its record, or a fault, and then what it would have added
abbrev pub MayLeave : ℕ → ℕ → Asked → Standing → ℕ → Standing → Type 0
MayLeave limit index q s place next =
    ((next.records ≡ s.records) × (next.fault ≡ None))
    ⊎ (((next.records ≡ s.records ++ added s.records limit 0 index q) × (next.fault ≡ None))
    ⊎ ((next.records ≡ s.records) × (next.fault ≡ Some place) × ((r : Record) → ask_of 0 index q ≡ Some (Puts r) → added s.records limit 0 index q ≡ r ∷ [])))

put_leaves : (limit place index : ℕ) (key value : List ℕ) (s : Standing) (k : Option StoreTold) (o : Option ℕ)
    → s.fault ≡ None
    → MayLeave limit index (Request_of (Put key value)) s place
    (said_by limit place s (Puts (record { link = 0; index = index; key = key; value = value })) k o).1
put_leaves limit place index key value s k (Some at) none = inl (refl, none)
put_leaves limit place index key value s k None none = subst (λ (x : Option ℕ). MayLeave limit index q s place (said_open limit place s (Puts r) k x).1) (sym none) (go k)
  where
    q : Asked
    q = Request_of (Put key value)

    r : Record
    r = record { link = 0; index = index; key = key; value = value }

    same_record : (x : Record) → Some (Puts r) ≡ Some (Puts x) → r ∷ [] ≡ x ∷ []
    same_record x e = ap (λ (z : Record). z ∷ []) (puts_is e)
      where
        puts_is : {x y : Record} → Some (Puts x) ≡ Some (Puts y) → x ≡ y
        puts_is e = cc

    go : (k : Option StoreTold) → MayLeave limit index q s place (said_open limit place s (Puts r) k None).1
    go None = inr (inl (refl, none))
    go (Some ByDisk) = by (nat_le limit (length s.records))
      where
        by : (b : Bool) → let next = (cond {A = Said × Standing} b (answered limit 0 index s q) (Fault, record s { fault = Some place })).1 in
            ((next.records ≡ s.records) × (next.fault ≡ None))
            ⊎ (((next.records ≡ s.records ++ added s.records limit 0 index q) × (next.fault ≡ None))
            ⊎ ((next.records ≡ s.records) × (next.fault ≡ Some place) × ((x : Record) → Some (Puts r) ≡ Some (Puts x) → cond b [] (r ∷ []) ≡ x ∷ [])))
        by true = inr (inl (refl, none))
        by false = inr (inr (refl, refl, same_record))
    go (Some ByMemory) = by (nat_le limit (length s.records))
      where
        by : (b : Bool) → let next = (cond {A = Said × Standing} b (answered limit 0 index s q) (NoMemory, s)).1 in
            ((next.records ≡ s.records) × (next.fault ≡ None))
            ⊎ (((next.records ≡ s.records ++ added s.records limit 0 index q) × (next.fault ≡ None))
            ⊎ ((next.records ≡ s.records) × (next.fault ≡ Some place) × ((x : Record) → Some (Puts r) ≡ Some (Puts x) → cond b [] (r ∷ []) ≡ x ∷ [])))
        by true = inr (inl (refl, none))
        by false = inl (refl, none)

get_leaves : (limit place index : ℕ) (key : List ℕ) (s : Standing) (k : Option StoreTold) (o : Option ℕ)
    → s.fault ≡ None → MayLeave limit index (Request_of (Get key)) s place (said_by limit place s (Gets key) k o).1
get_leaves limit place index key s k (Some at) none = inl (refl, none)
get_leaves limit place index key s k None none = subst (λ (x : Option ℕ). MayLeave limit index (Request_of (Get key)) s place (said_open limit place s (Gets key) k x).1) (sym none) (go k)
  where
    go : (k : Option StoreTold) → MayLeave limit index (Request_of (Get key)) s place
        (said_open limit place s (Gets key) k None).1
    go None = inl (refl, none)
    go (Some ByDisk) = inr (inr (refl, refl, λ r e. absurd (cc)))
    go (Some ByMemory) = inl (refl, none)

pub leaves : (limit place index : ℕ) (q : Asked) (ask : Ask) (s : Standing) (k : Option StoreTold)
    → ask_of 0 index q ≡ Some ask → s.fault ≡ None → MayLeave limit index q s place (said_at limit place s ask k).1
leaves limit place index (Request_of (Put key value)) ask s k is none = subst (λ (x : Ask). MayLeave limit index (Request_of (Put key value)) s place (said_at limit place s x k).1) (some_is is) (put_leaves limit place index key value s k s.stop none)
leaves limit place index (Request_of (Get key)) ask s k is none = subst (λ (x : Ask). MayLeave limit index (Request_of (Get key)) s place (said_at limit place s x k).1) (some_is is) (get_leaves limit place index key s k s.stop none)
leaves limit place index (Request_of End) ask s k is none = absurd (cc)
leaves limit place index (Refused_end code) ask s k is none = absurd (cc)

pub serial_push : (i limit : ℕ) (records : List Record) (qs : List Asked) (q : Asked)
    → (serial_from i records limit (qs ++ q ∷ [])).records ≡ (serial_from i records limit qs).records ++ added
    (records ++ (serial_from i records limit qs).records) limit 0 (i + length qs) q
serial_push i limit records [] q =
    let n : i ≡ i + 0 = omega arith in
    append-nil (added records limit 0 i q) ∙ ap (λ m. added records limit 0 m q) n
    ∙ ap (λ (l : List Record). added l limit 0 (i + 0) q) (sym (append-nil records))
serial_push i limit records (x ∷ qs) q =
    let new : List Record = added records limit 0 i x in
    let more : List Record = (serial_from (i + 1) (records ++ new) limit qs).records in
    let n : i + 1 + length qs ≡ i + length (x ∷ qs) = omega arith in
    ap (λ (l : List Record). new ++ l) (serial_push (i + 1) limit (records ++ new) qs q ∙ ap (λ m. more ++ added (records ++ new ++ more) limit 0 m q) n ∙ ap (λ (l : List Record). more ++ added l limit 0 (i + length (x ∷ qs)) q) (append_assoc records new more))
    ∙ sym (append_assoc new more (added (records ++ (new ++ more)) limit 0 (i + length (x ∷ qs)) q))

module _ (b : StoreBasis) (history : List StoreEntry) (trail : List (ℕ × StoreTold)) (told : b.told ≡ true) (alone : (p : ℕ) (e : StoreEntry) → slice_get history p ≡ Some e → e.0 ≡ 0)
    (rises : (p q : ℕ) (x y : StoreEntry) → p < q → slice_get history p ≡ Some x → slice_get history q ≡ Some y → x.0 ≡ y.0 → IsLater x.1.1 y.1.1) (stops : List Numbered) (are_stops : AllByRecursion (λ x. x.ask ≡ Stops) stops) where
  abbrev pub asks_all : List Ask
  asks_all = asked_in (says history)

  abbrev pub stand : ℕ → Standing
  stand p = before b history trail told alone rises stops p

  -- where the first requests have their replies, what stands behind them and what is asked then
  pub record Reached (i : ℕ) (start : List Record) (qs tail : List Asked) : Type 0 where
    pub place : ℕ
    pub records : (stand place).records ≡ start ++ (serial_from i start b.limit qs).records
    pub calm : (stand place).fault ≡ None
    pub rest : drop place asks_all ≡ wants (asked_with (i + length qs + 1) (numbered 0 (i + length qs) tail) ++ stops)

  pub reach : (i p : ℕ) (qs tail : List Asked) (rs : List Reply) → (stand p).fault ≡ None
      → drop p asks_all ≡ wants (asked_with (i + 1) (numbered 0 i (qs ++ tail)) ++ stops)
      → SaidFrom b history trail told alone rises stops p (asked_with (i + 1) (numbered 0 i (qs ++ tail)) ++ stops)
      → RepliesFrom b history trail told alone rises stops i qs rs → length rs ≡ length qs
      → Reached i (stand p).records qs tail
  reach i p [] tail rs calm rest said h long =
      let n : i ≡ i + 0 = omega arith in
      record { place = p; records = sym (append-nil (stand p).records); calm = calm; rest = rest ∙ ap (λ m. wants (asked_with (m + 1) (numbered 0 m tail) ++ stops)) n }
  reach i p (q ∷ qs) tail [] calm rest said h long = absurd (omega (arith, long))
  reach i p (q ∷ qs) tail (r ∷ rs) calm rest said h long = go (ask_of 0 i q) refl rest said h.2 (λ m c e s. reach (i + 1) m qs tail rs c e s h.3 (omega (arith, long)))
    where
      on : (records more : List Record) → more ≡ records ++ added records b.limit 0 i q → Reached (i + 1) more qs tail
          → Reached i records (q ∷ qs) tail
      on records more same e =
          let new : List Record = added records b.limit 0 i q in
          let n : i + 1 + length qs ≡ i + length (q ∷ qs) = omega arith in
          record {
            place = e.place;
            records = e.records ∙ ap (λ (l : List Record). l ++ (serial_from (i + 1) l b.limit qs).records) same
                ∙ append_assoc records new (serial_from (i + 1) (records ++ new) b.limit qs).records;
            calm = e.calm;
            rest = e.rest ∙ ap (λ m. wants (asked_with (m + 1) (numbered 0 m tail) ++ stops)) n;
          }

      go : (o : Option Ask) → ask_of 0 i q ≡ o
          → drop p asks_all ≡ wants (with_ask (i + 1) o (asked_with (i + 1 + 1) (numbered 0 (i + 1) (qs ++ tail))) ++ stops)
          → SaidFrom b history trail told alone rises stops p
          (with_ask (i + 1) o (asked_with (i + 1 + 1) (numbered 0 (i + 1) (qs ++ tail))) ++ stops)
          → IsAccounted b history trail q r o
          → ((m : ℕ) → (stand m).fault ≡ None → drop m asks_all ≡ wants (asked_with (i + 1 + 1) (numbered 0 (i + 1) (qs ++ tail)) ++ stops) → SaidFrom b history trail told alone rises stops m (asked_with (i + 1 + 1) (numbered 0 (i + 1) (qs ++ tail)) ++ stops) → Reached (i + 1) (stand m).records qs tail)
          → Reached i (stand p).records (q ∷ qs) tail
      go None none rest said acc again =
          let plain = plain_step i b.limit q (stand p).records none in
          on (stand p).records (stand p).records (sym (append-nil (stand p).records) ∙ ap (λ (l : List Record). (stand p).records ++ l) (sym plain.1)) (again p calm rest said)
      go (Some ask) some rest said acc again =
          let zero_more : p + 0 ≡ p = omega arith in
          let here : slice_get (asked_by (says history)) p ≡ Some (record { sequence = i + 1; ask = ask }) = ap (slice_get (asked_by (says history))) (sym zero_more) ∙ said 0 (record { sequence = i + 1; ask = ask }) refl in
          let step = asked_step b history trail told alone rises stops i p q r ask some here h.1 acc in
          let still = step_calm b history trail told alone rises stops i p q r ask some here h.1 acc calm in
          on (stand p).records (stand (p + 1)).records step.1
          (again (p + 1) still (drop_next b history trail told alone rises stops are_stops asks_all p ask (wants (asked_with (i + 1 + 1) (numbered 0 (i + 1) (qs ++ tail)) ++ stops)) rest) (λ j x e. (let n : p + 1 + j ≡ p + suc j = omega arith in ap (slice_get (asked_by (says history))) n ∙ said (suc j) x e)))
