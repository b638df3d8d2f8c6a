-- What an engine was served and finished, one operation further.
use Rattle.std.proofs.Common.{◌≡◌, ℕ, List, [], ◌∷◌, ◌++◌, length, ap, sym, ◌∙◌, subst}
use Rattle.demi_device.specs.Serving.{AllCome, places, trail}
use Rattle.demi_store.specs.declared.ask.StoreAsk.{StoreAsk}
use Rattle.demi_store.specs.declared.out.StoreOut.{StoreOut}
use Rattle.demi_store.specs.History.{Standing}
use Rattle.demi_store.specs.Laws.{StoreBasis, Admits, SaysTo, told_of}
use Rattle.demi_store.specs.Engine.{IsServed, PastValue, stands_now}
use Rattle.demi_store.proofs.Steps.{comes, count_next, order_next, said_on, stood_on}

abbrev pub after : PastValue → StoreAsk → StoreOut → PastValue
after v op o = record v { served = v.served ++ op ∷ []; finished = v.finished ++ (length v.served, o) ∷ [] }

pub one_added : (v : PastValue) (o : StoreOut) (p : ℕ) (before added : List (ℕ × StoreOut)) → added ≡ before ++ (p, o) ∷ [] → before ≡ [] → p ≡ length v.served → added ≡ (length v.served, o) ∷ []
one_added v o p before added e none at = e ∙ ap (λ (l : List (ℕ × StoreOut)). l ++ (p, o) ∷ []) none ∙ ap (λ (n : ℕ). (n, o) ∷ []) at

pub past_on : (v h w : PastValue) (op : StoreAsk) (o : StoreOut) (added : List (ℕ × StoreOut)) → h ≡ record v { served = v.served ++ op ∷ [] } → w ≡ record h { finished = h.finished ++ added } → added ≡ (length v.served, o) ∷ [] → w ≡ after v op o
past_on v h w op o added e f one =
    f ∙ ap (λ (z : PastValue). record z { finished = z.finished ++ added }) e
    ∙ ap (λ (l : List (ℕ × StoreOut)). record v { served = v.served ++ op ∷ []; finished = v.finished ++ l }) one

module _ (v w : PastValue) (op : StoreAsk) (o : StoreOut) (old : IsServed v.served v.finished) (now : w ≡ after v op o) where
  pub served_on : IsServed w.served w.finished
  served_on = subst (λ (z : PastValue). IsServed z.served z.finished) (sym now) (record { order = order_next v.base v.served v.finished old.order old.count op o; count = count_next v.base v.served v.finished old.order old.count op o })

  module _ (b : StoreBasis) (st : Standing) (p : ℕ) (same_base : b ≡ v.base) (same_stands : st ≡ stands_now v) (same_place : p ≡ length v.served) where
    pub shows_on : (Show : StoreBasis → Standing → Type 0) → Show b (said_on b.limit p op (told_of o) st).1 → Show w.base (stands_now w)
    shows_on Show is =
        let a = subst (λ (z : StoreBasis). Show z (said_on z.limit p op (told_of o) st).1) same_base is in
        let c = subst (λ (z : Standing). Show v.base (said_on v.base.limit p op (told_of o) z).1) same_stands a in
        let d = subst (λ (n : ℕ). Show v.base (said_on v.base.limit n op (told_of o) (stands_now v)).1) same_place c in
        subst (λ (z : PastValue). Show z.base (stands_now z)) (sym now) (subst (Show v.base) (sym (stood_on v.base v.served v.finished old.order old.count op o)) d)

    pub comes_on : (f added : List (ℕ × StoreOut)) → f ≡ v.finished → added ≡ (length v.served, o) ∷ [] → SaysTo b.told op.op (said_on b.limit p op (told_of o) st).0 o → AllCome (length w.served) told_of (Admits w.base w.served) (trail told_of f) (places f) added
    comes_on f added same_f one is =
        let a = subst (λ (z : StoreBasis). SaysTo z.told op.op (said_on z.limit p op (told_of o) st).0 o) same_base is in
        let c = subst (λ (z : Standing). SaysTo v.base.told op.op (said_on v.base.limit p op (told_of o) z).0 o) same_stands a in
        let d = subst (λ (n : ℕ). SaysTo v.base.told op.op (said_on v.base.limit n op (told_of o) (stands_now v)).0 o) same_place c in
        subst (λ (l : List (ℕ × StoreOut)). AllCome (length w.served) told_of (Admits w.base w.served) (trail told_of l) (places l) added) (sym same_f)
        (subst (λ (l : List (ℕ × StoreOut)). AllCome (length w.served) told_of (Admits w.base w.served) (trail told_of v.finished) (places v.finished) l) (sym one)
        (subst (λ (z : PastValue). AllCome (length z.served) told_of (Admits z.base z.served) (trail told_of v.finished) (places v.finished) ((length v.served, o) ∷ [])) (sym now)
        (comes v.base v.served v.finished old.order old.count op o d)))
