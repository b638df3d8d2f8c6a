-- Reading a disk from its front on.
use Rattle.std.proofs.Common.{◌≡◌, ◌∙◌, ◌≤◌, ◌+◌, List, ℕ, [], ◌∷◌, ◌++◌, length, take, drop, Option, Some, None, ap, sym, arith, length-append}
use Rattle.std.specs.Prelude.{IfSome}
use Rattle.std.proofs.lemmas.List.{length-take, take_all}
use Rattle.std.proofs.Math.Seq.{take-add}

-- a front of what is told, and the bytes behind it, are a longer front
piece_on : (b text more : List ℕ) (k : ℕ) → text ≡ take (length text) b → more ≡ take k (drop (length text) b) → length more ≡ k → text ++ more ≡ take (length (text ++ more)) b
piece_on b text more k front next long =
    let size : length text + k ≡ length (text ++ more) = ap (λ n. length text + n) (sym long) ∙ sym (length-append text more) in
    ap (λ (l : List ℕ). l ++ more) front ∙ ap (λ (l : List ℕ). take (length text) b ++ l) next ∙ sym (take-add (length text) k b) ∙ ap (λ n. take n b) size

pub piece_read : (told : Option (List ℕ)) (text room new : List ℕ) (k : ℕ) → IfSome told (λ b. text ≡ take (length text) b) → IfSome told (λ b. take k room ≡ take k (drop (length text) b)) → k ≤ length room
    → new ≡ text ++ take k room → IfSome told (λ b. new ≡ take (length new) b)
piece_read None text room new k front next fits is = tt
piece_read (Some b) text room new k front next fits is =
    is ∙ piece_on b text (take k room) k front next (omega (arith, length-take k room)) ∙ ap (λ (l : List ℕ). take (length l) b) (sym is)

-- a front that is as long is all
pub whole_read : (told : Option (List ℕ)) (text : List ℕ) (held : ℕ) → IfSome told (λ b. length b ≡ held) → IfSome told (λ b. text ≡ take (length text) b) → held ≤ length text → IfSome told (λ b. text ≡ b)
whole_read None text held long front all = tt
whole_read (Some b) text held long front all = front ∙ take_all (length text) b (omega (arith, long))
