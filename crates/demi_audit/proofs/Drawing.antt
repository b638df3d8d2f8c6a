-- A draw by wrapping words.
use Rattle.std.proofs.Common.{◌≡◌, ℕ, ◌+◌, ◌*◌, ◌/◌, ◌%◌, ◌^◌, ap, sym, ◌∙◌, arith}
use Rattle.std.proofs.Math.Nat.{add-mul-mod_self_left, mod-add-div}
use Rattle.demi_audit.specs.Generator.{after_draw, drawn}

mod_plus : (x c m : ℕ) → (x % m + c) % m ≡ (x + c) % m
mod_plus x c m =
    let e : x % m + c + m * (x / m) ≡ x + c = omega (arith, mod-add-div x m) in
    sym (add-mul-mod_self_left (x % m + c) m (x / m)) ∙ ap (λ n. n % m) e

-- the state that two wrapping steps give
pub next_state : (state : ℕ) → ((state * 6364136223846793005) % 2 ^ 64 + 1442695040888963407) % 2 ^ 64 ≡ after_draw state
unfolding after_draw
next_state state = mod_plus (state * 6364136223846793005) 1442695040888963407 (2 ^ 64)

pub drawn_of : (state next : ℕ) → next ≡ after_draw state → next / 8589934592 ≡ drawn state
unfolding drawn
drawn_of state next is = ap (λ n. n / 8589934592) is
