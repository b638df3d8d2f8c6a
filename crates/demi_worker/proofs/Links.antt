-- Lists of links, and which links stand in them.
use Rattle.std.specs.Prelude.{◌≡◌, ◌≢◌, ◌⊎◌, ◌↔◌, ℕ, ◌+◌, List, [], ◌∷◌, ◌++◌, length, refl}
use Rattle.std.proofs.Common.{sym, ◌∙◌, ap, arith, subst, suc, inl, inr, append-nil, append_assoc, length-append}
use Rattle.demi_port_core.specs.History.{Among, Each, Within}
use Rattle.demi_port_core.specs.Trails.{StartsWith}
use Rattle.demi_port_core.proofs.Lists.{among_left, among_right, each_append, each_back, each_front}
use Rattle.demi_sched.specs.Going.{Differ}
use Rattle.demi_sched.specs.Polling.{Collected}
use Rattle.demi_sched.specs.declared.held.Held.{Held}
use Rattle.demi_sched.specs.declared.state.State.TheVariants.{Ended as over}
use Rattle.demi_sched.proofs.Names.{names_join}
use Rattle.demi_link.specs.Linked.{LinkValue}
use Rattle.demi_worker.specs.Standing.{SameLinks, ended_links, held_links}
use Rattle.demi_worker.specs.declared.ended.Ended.{Ended}

abbrev pub link_of : LinkValue → ℕ
link_of k = k.desk.link

pub among_either : (n : ℕ) (xs ys : List ℕ) → Among n (xs ++ ys) → Among n xs ⊎ Among n ys
among_either n [] ys h = inr h
among_either n (x ∷ xs) ys (inl e) = inl (inl e)
among_either n (x ∷ xs) ys (inr h) = go (among_either n xs ys h)
  where
    go : Among n xs ⊎ Among n ys → Among n (x ∷ xs) ⊎ Among n ys
    go (inl a) = inl (inr a)
    go (inr a) = inr a

pub among_amid : (n m : ℕ) (xs ys : List ℕ) → Among n (xs ++ m ∷ ys) → (n ≡ m) ⊎ Among n (xs ++ ys)
among_amid n m xs ys h = go (among_either n xs (m ∷ ys) h)
  where
    go : Among n xs ⊎ Among n (m ∷ ys) → (n ≡ m) ⊎ Among n (xs ++ ys)
    go (inl a) = inr (among_left n xs ys a)
    go (inr (inl e)) = inl e
    go (inr (inr a)) = inr (among_right n xs ys a)

pub amid_among : (n m : ℕ) (xs ys : List ℕ) → (n ≡ m) ⊎ Among n (xs ++ ys) → Among n (xs ++ m ∷ ys)
amid_among n m xs ys (inl e) = among_right n xs (m ∷ ys) (inl e)
amid_among n m xs ys (inr h) = go (among_either n xs ys h)
  where
    go : Among n xs ⊎ Among n ys → Among n (xs ++ m ∷ ys)
    go (inl a) = among_left n xs (m ∷ ys) a
    go (inr a) = among_right n xs (m ∷ ys) (inr a)

pub others_of : (n : ℕ) (xs : List ℕ) → (Among n xs → ⊥) → Each (λ m. m ≢ n) xs
others_of n [] h = tt
others_of n (x ∷ xs) h = ((λ e. h (inl (sym e))), others_of n xs (λ a. h (inr a)))

pub differ_next : (ns : List ℕ) (n : ℕ) → Differ ns → Each (λ m. m ≢ n) ns → Differ (ns ++ n ∷ [])
differ_next [] n d e = (tt, tt)
differ_next (m ∷ ns) n d e = (each_append (λ k. k ≢ m) ns (n ∷ []) d.0 ((λ s. e.0 (sym s)), tt), differ_next ns n d.1 e.1)

pub same_self : (xs : List ℕ) → SameLinks xs xs
same_self xs = λ n. ((λ a. a), (λ a. a))

pub same_on : (xs ys zs : List ℕ) → SameLinks xs ys → SameLinks ys zs → SameLinks xs zs
same_on xs ys zs f g = λ n. ((λ a. (g n).0 ((f n).0 a)), (λ a. (f n).1 ((g n).1 a)))

-- one more
pub same_next : (B C cs : List ℕ) (m : ℕ) → ((n : ℕ) → Among n B ↔ ((n ≡ m) ⊎ Among n C)) → SameLinks C cs → SameLinks B (m ∷ cs)
same_next B C cs m f g = λ n. ((λ a. there n ((f n).0 a)), (λ a. (f n).1 (back n a)))
  where
    there : (n : ℕ) → (n ≡ m) ⊎ Among n C → Among n (m ∷ cs)
    there n (inl e) = inl e
    there n (inr a) = inr ((g n).0 a)

    back : (n : ℕ) → Among n (m ∷ cs) → (n ≡ m) ⊎ Among n C
    back n (inl e) = inl e
    back n (inr a) = inr ((g n).1 a)

pub held_next : (hs : List (Held LinkValue)) (h : Held LinkValue) → held_links (hs ++ h ∷ []) ≡ held_links hs ++ h.coroutine.desk.link ∷ []
held_next hs h = names_join link_of hs (h ∷ [])

pub held_count : (hs : List (Held LinkValue)) → length (held_links hs) ≡ length hs
held_count [] = refl
held_count (h ∷ hs) = ap suc (held_count hs)

pub ended_next : (es : List Ended) (e : Ended) → ended_links (es ++ e ∷ []) ≡ ended_links es ++ e.link ∷ []
ended_next [] e = refl
ended_next (x ∷ es) e = ap (λ ns. x.link ∷ ns) (ended_next es e)

pub length_next : {X : Type 0} (xs : List X) (x : X) → length (xs ++ x ∷ []) ≡ length xs + 1
length_next xs x = length-append xs (x ∷ [])

-- One was taken out of those that are held.
abbrev pub taken_out : ℕ → LinkValue → Held LinkValue
taken_out number k = record { number = number; coroutine = k; state = over }

module _ (hs left : List (Held LinkValue)) (number : ℕ) (k : LinkValue) (t : Collected hs number k left) where
  pub out_each : (P : Held LinkValue → Type 0) → Each P hs → P (taken_out number k) × Each P left
  out_each P e =
      let all = subst (Each P) t.were e in
      let b = each_back P t.front (taken_out number k ∷ t.back) all in
      (b.0, subst (Each P) (sym t.are) (each_append P t.front t.back (each_front P t.front (taken_out number k ∷ t.back) all) b.1))

  were : held_links hs ≡ held_links t.front ++ k.desk.link ∷ held_links t.back
  were = ap held_links t.were ∙ names_join link_of t.front (taken_out number k ∷ t.back)

  are : held_links left ≡ held_links t.front ++ held_links t.back
  are = ap held_links t.are ∙ names_join link_of t.front t.back

  pub out_names : (Q : ℕ → Type 0) → Each Q (held_links hs) → Q k.desk.link × Each Q (held_links left)
  out_names Q e =
      let f = held_links t.front in let r = held_links t.back in
      let all = subst (Each Q) were e in
      let b = each_back Q f (k.desk.link ∷ r) all in
      (b.0, subst (Each Q) (sym are) (each_append Q f r (each_front Q f (k.desk.link ∷ r) all) b.1))

  pub out_among : (n : ℕ) → Among n (held_links hs) ↔ ((n ≡ k.desk.link) ⊎ Among n (held_links left))
  out_among n =
      let f = held_links t.front in let r = held_links t.back in (
        (λ a. subst (λ ns. (n ≡ k.desk.link) ⊎ Among n ns) (sym are) (among_amid n k.desk.link f r (subst (Among n) were a))),
        (λ a. subst (Among n) (sym were) (amid_among n k.desk.link f r (subst (λ ns. (n ≡ k.desk.link) ⊎ Among n ns) are a))),
      )

  pub out_within : Within (held_links left) (held_links hs)
  out_within n a = (out_among n).1 (inr a)

  pub out_count : length hs ≡ length left + 1
  out_count =
      let w = ap length t.were in let l = ap length t.are in
      let a = length-append t.front (taken_out number k ∷ t.back) in let b = length-append t.front t.back in
      omega arith

-- it stands at the end of the others then
pub moved_out : (H L E : List ℕ) (m : ℕ) → ((n : ℕ) → Among n H ↔ ((n ≡ m) ⊎ Among n L)) → SameLinks (L ++ (E ++ m ∷ [])) (H ++ E)
moved_out H L E m f = λ n. ((λ a. there n (among_either n L (E ++ m ∷ []) a)), (λ a. back n (among_either n H E a)))
  where
    last : (n : ℕ) → Among n E ⊎ Among n (m ∷ []) → Among n (H ++ E)
    last n (inl a) = among_right n H E a
    last n (inr (inl e)) = among_left n H E ((f n).1 (inl e))
    last n (inr (inr a)) = absurd a

    there : (n : ℕ) → Among n L ⊎ Among n (E ++ m ∷ []) → Among n (H ++ E)
    there n (inl a) = among_left n H E ((f n).1 (inr a))
    there n (inr a) = last n (among_either n E (m ∷ []) a)

    first : (n : ℕ) → (n ≡ m) ⊎ Among n L → Among n (L ++ (E ++ m ∷ []))
    first n (inl e) = among_right n L (E ++ m ∷ []) (among_right n E (m ∷ []) (inl e))
    first n (inr a) = among_left n L (E ++ m ∷ []) a

    back : (n : ℕ) → Among n H ⊎ Among n E → Among n (L ++ (E ++ m ∷ []))
    back n (inl a) = first n ((f n).0 a)
    back n (inr a) = among_right n L (E ++ m ∷ []) (among_left n E (m ∷ []) a)

-- one more, in front of the others or behind them
pub one_more_held : (H E : List ℕ) (m n : ℕ) → Among n ((H ++ m ∷ []) ++ E) ↔ ((n ≡ m) ⊎ Among n (H ++ E))
one_more_held H E m n = ((λ a. there (among_either n (H ++ m ∷ []) E a)), back)
  where
    last : Among n H ⊎ Among n (m ∷ []) → (n ≡ m) ⊎ Among n (H ++ E)
    last (inl a) = inr (among_left n H E a)
    last (inr (inl e)) = inl e
    last (inr (inr a)) = absurd a

    there : Among n (H ++ m ∷ []) ⊎ Among n E → (n ≡ m) ⊎ Among n (H ++ E)
    there (inl a) = last (among_either n H (m ∷ []) a)
    there (inr a) = inr (among_right n H E a)

    part : Among n H ⊎ Among n E → Among n ((H ++ m ∷ []) ++ E)
    part (inl a) = among_left n (H ++ m ∷ []) E (among_left n H (m ∷ []) a)
    part (inr a) = among_right n (H ++ m ∷ []) E a

    back : (n ≡ m) ⊎ Among n (H ++ E) → Among n ((H ++ m ∷ []) ++ E)
    back (inl e) = among_left n (H ++ m ∷ []) E (among_right n H (m ∷ []) (inl e))
    back (inr a) = part (among_either n H E a)

pub one_more_ended : (H E : List ℕ) (m n : ℕ) → Among n (H ++ (E ++ m ∷ [])) ↔ ((n ≡ m) ⊎ Among n (H ++ E))
one_more_ended H E m n = ((λ a. there (among_either n H (E ++ m ∷ []) a)), back)
  where
    last : Among n E ⊎ Among n (m ∷ []) → (n ≡ m) ⊎ Among n (H ++ E)
    last (inl a) = inr (among_right n H E a)
    last (inr (inl e)) = inl e
    last (inr (inr a)) = absurd a

    there : Among n H ⊎ Among n (E ++ m ∷ []) → (n ≡ m) ⊎ Among n (H ++ E)
    there (inl a) = inr (among_left n H E a)
    there (inr a) = last (among_either n E (m ∷ []) a)

    part : Among n H ⊎ Among n E → Among n (H ++ (E ++ m ∷ []))
    part (inl a) = among_left n H (E ++ m ∷ []) a
    part (inr a) = among_right n H (E ++ m ∷ []) (among_left n E (m ∷ []) a)

    back : (n ≡ m) ⊎ Among n (H ++ E) → Among n (H ++ (E ++ m ∷ []))
    back (inl e) = among_right n H (E ++ m ∷ []) (among_right n E (m ∷ []) (inl e))
    back (inr a) = part (among_either n H E a)

pub starts_self : {X : Type 0} (xs : List X) → StartsWith xs xs
starts_self xs = ([], sym (append-nil xs))

pub starts_on : {X : Type 0} (xs ys zs : List X) → StartsWith ys xs → StartsWith zs ys → StartsWith zs xs
starts_on xs ys zs f g = (f.0 ++ g.0, g.1 ∙ ap (λ l. l ++ g.0) f.1 ∙ append_assoc xs f.0 g.0)
