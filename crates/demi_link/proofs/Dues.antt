-- What is due of a link's pops.
use Rattle.std.specs.Prelude.{◌≡◌, ◌⊎◌, ℕ, suc, ◌+◌, ◌≤◌, false, List, [], ◌∷◌, ◌++◌, Option, None, flat_map, length, map, refl, take}
use Rattle.std.proofs.Common.{sym, ◌∙◌, ap, arith, subst, inl, inr, append-nil, length-append}
use Rattle.std.proofs.lemmas.List.{take_all, take-append-le}
use Rattle.demi_frame.specs.Decoding.{Decoding}
use Rattle.demi_frame.specs.Reading.{HasRead, StopsAt}
use Rattle.demi_spec.specs.Request.{Request, AllGoOn, spelling}
use Rattle.demi_spec.specs.Input.{Asked, Ends, Open, Parses, Request_of, front}
use Rattle.demi_spec.specs.Reply as reply
use Rattle.demi_spec.proofs.Parsing.{read_on}
use Rattle.demi_streamq.specs.RxKept.{all_bytes}
use Rattle.demi_streamq.specs.declared.rx_out.RxOut.{RxOut}
use Rattle.demi_streamq.specs.declared.tx_op.TxOp.{TxOp}
use Rattle.demi_streamq.specs.declared.tx_op.TxOp.TheVariants.{Push, Close, Stop}
use Rattle.demi_served.specs.Writing.{texts_of}
use Rattle.demi_link.specs.Dues.{AllDue, AllMore, IsDue, IsMore}
use Rattle.demi_link.specs.Fitting.{AllWritten, IsEven, Writes, ops_of, places}
use Rattle.demi_link.specs.Noting.{after_taken}
use Rattle.demi_link.specs.Sights.{Sight}
use Rattle.demi_link.specs.Talks.{DeskValue, TalkValue, refusal}
use Rattle.demi_link.proofs.Lists.{all_next}

head_is : {A : Type 0} {x y : A} {xs ys : List A} → x ∷ xs ≡ y ∷ ys → x ≡ y
head_is e = cc

tail_is : {A : Type 0} {x y : A} {xs ys : List A} → x ∷ xs ≡ y ∷ ys → xs ≡ ys
tail_is e = cc

cons_is : {A : Type 0} (x y : A) (xs ys : List A) → x ≡ y → xs ≡ ys → x ∷ xs ≡ y ∷ ys
cons_is x y xs ys e f = ap (λ z. z ∷ xs) e ∙ ap (λ l. y ∷ l) f

-- what stands before one of a list that grew by one
split_next : {A : Type 0} (outs before after : List A) (x y : A) → outs ++ x ∷ [] ≡ before ++ y ∷ after → (before ≡ outs) ⊎ ((rest : List A) × (outs ≡ before ++ y ∷ rest))
split_next [] [] after x y e = inl refl
split_next [] (b ∷ before) after x y e = absurd (let l = ap length e in let m = length-append before (y ∷ after) in omega arith)
split_next (o ∷ outs) [] after x y e = inr (outs, cons_is o y outs outs (head_is e) refl)
split_next {A} (o ∷ outs) (b ∷ before) after x y e = more (split_next outs before after x y (tail_is e))
  where
    more : (before ≡ outs) ⊎ ((rest : List A) × (outs ≡ before ++ y ∷ rest)) → (b ∷ before ≡ o ∷ outs) ⊎ ((rest : List A) × (o ∷ outs ≡ b ∷ before ++ y ∷ rest))
    more (inl same) = inl (cons_is b o before outs (sym (head_is e)) same)
    more (inr r) = inr (r.0, cons_is o b outs (before ++ y ∷ r.0) (head_is e) r.1)

-- a pop that was due came to an outcome
pub due_taken : (k : TalkValue) (place : ℕ) (o : RxOut) → AllDue k → IsDue k.handed k.written k.outs → AllDue (after_taken k place o)
due_taken k place o all due before after x e = elim (split_next k.outs before after (place, o) x e) [
  | inl same ↦ subst (IsDue k.handed k.written) (sym same) due
  | inr r ↦ all before r.0 x r.1
]

-- where it brought nothing, the next is due
pub due_again : (k : TalkValue) (place : ℕ) (o : RxOut) → all_bytes (k.outs ++ (place, o) ∷ []) ≡ all_bytes k.outs → IsMore o → IsDue k.handed k.written k.outs → IsDue k.handed k.written (k.outs ++ (place, o) ∷ [])
due_again k place o same more due = record {
  more = all_next (λ (x : ℕ × RxOut). IsMore x.1) k.outs (place, o) due.more more;
  count = due.count;
  within = due.within;
  answered = due.answered;
  asks = subst (Parses (take due.count k.handed) Open false) (sym same) due.asks;
}

-- one more request was handed out
pub due_found : (handed new : List Request) (written : List ℕ) (outs : List (ℕ × RxOut)) → IsDue handed written outs → IsDue (handed ++ new) written outs
due_found handed new written outs due = record {
  more = due.more;
  count = due.count;
  within = (let long = length-append handed new in let h = due.within in omega arith);
  answered = due.answered;
  asks = subst (λ (l : List Request). Parses l Open false (all_bytes outs)) (sym (take-append-le due.count handed new due.within)) due.asks;
}

-- one more push is known written
pub due_written : (handed : List Request) (written : List ℕ) (place : ℕ) (outs : List (ℕ × RxOut)) → IsDue handed written outs → IsDue handed (written ++ place ∷ []) outs
due_written handed written place outs due = record {
  more = due.more;
  count = due.count;
  within = due.within;
  answered = (let long = length-append written (place ∷ []) in let h = due.answered in omega arith);
  asks = due.asks;
}

-- a decoder that found no more
open_parses : (d : Decoding) (fed : List ℕ) (handed : List Request) → HasRead fed handed d → d.stop ≡ None → front false d.rest ≡ Ends Open → Parses handed Open false fed
open_parses d fed handed h stop is_open =
    let all : AllGoOn handed = subst (StopsAt handed d.rest) stop h.stops in
    let p : Parses (handed ++ []) Open false (flat_map spelling handed ++ d.rest) = read_on handed [] Open false d.rest all is_open in
    subst (Parses handed Open false) (sym h.text) (subst (λ (l : List Request). Parses l Open false (flat_map spelling handed ++ d.rest)) (append-nil handed) p)

map_long : {X Y : Type 0} (f : X → Y) (xs : List X) → length (map f xs) ≡ length xs
map_long f [] = refl
map_long f (x ∷ xs) = ap suc (map_long f xs)

ops_long : {D : Type 0} (xs : List (ℕ × (ℕ × D))) → length (ops_of xs) ≡ length (places xs)
ops_long [] = refl
ops_long (x ∷ xs) = ap suc (ops_long xs)

texts_few : (ops : List TxOp) → length (texts_of ops) ≤ length ops
texts_few [] = omega arith
texts_few (Push sga ∷ ops) = let h = texts_few ops in omega arith
texts_few (Close ∷ ops) = let h = texts_few ops in omega arith
texts_few (Stop ∷ ops) = let h = texts_few ops in omega arith

-- each request that was handed out has its reply, which is known written
all_answered : (s : Sight) (d : DeskValue) → d.talk.refused ≡ None → IsEven d.talk → AllWritten s d → Writes s.tx d.talk → length d.talk.handed ≤ length d.talk.written
all_answered s d none even all w =
    let k = d.talk in
    let bare : map Request_of k.handed ≡ k.kept.drawn = sym (append-nil (map Request_of k.handed)) ∙ ap (λ (o : Option ℕ). map Request_of k.handed ++ refusal o) (sym none) ∙ even.0 in
    let asked : length k.handed ≡ length k.kept.drawn = sym (map_long Request_of k.handed) ∙ ap length bare in
    let replied : length k.kept.replies ≡ length k.kept.drawn = even.1 in
    let texts : length (texts_of (ops_of s.tx.submitted)) ≡ length k.kept.replies = ap length w.texts ∙ map_long reply.spelling k.kept.replies in
    let few = texts_few (ops_of s.tx.submitted) in
    let ops : length (ops_of s.tx.submitted) ≡ length k.written = ops_long s.tx.submitted ∙ ap length all in
    omega arith

-- a pop is due where the decoder found no more, and each request has its reply
pub due_now : (s : Sight) (d : DeskValue) (decoder : Decoding) → d.talk.refused ≡ None → AllMore d.talk.outs → IsEven d.talk → AllWritten s d → Writes s.tx d.talk → HasRead (all_bytes d.talk.outs) d.talk.handed decoder → decoder.stop ≡ None
    → front false decoder.rest ≡ Ends Open → IsDue d.talk.handed d.talk.written d.talk.outs
due_now s d decoder none more even all w read stop is_open = record {
  more = more;
  count = length d.talk.handed;
  within = omega arith;
  answered = all_answered s d none even all w;
  asks = subst (λ (l : List Request). Parses l Open false (all_bytes d.talk.outs)) (sym (take_all (length d.talk.handed) d.talk.handed (omega arith))) (open_parses decoder (all_bytes d.talk.outs) d.talk.handed read stop is_open);
}
