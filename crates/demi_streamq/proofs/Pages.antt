-- What is written over a page.
use Rattle.std.proofs.Common.{◌≡◌, ℕ, ◌-◌, ◌≤◌, List, ◌++◌, length, take, drop, ap, sym, ◌∙◌, arith}
use Rattle.std.specs.Prelude.{replicate}
use Rattle.std.proofs.Math.Seq.{take-append_seam}
use Rattle.demi_buf.specs.Bufs.{over}
use Rattle.demi_streamq.specs.RxSteady.{append_none}

-- written over as many bytes, it is what was written
over_all : (bytes room : List ℕ) → length room ≡ length bytes → over bytes room ≡ room
over_all bytes room e = ap (λ n. take n (room ++ drop (length room) bytes)) (sym e) ∙ take-append_seam room (drop (length room) bytes)

-- and its front is the front of what was written
pub front_written : (count : ℕ) (bytes room : List ℕ) → count ≤ length room → length room ≡ length bytes → take count (over bytes room) ++ replicate (count - length (over bytes room)) 0 ≡ take count room
front_written count bytes room le e =
    let none : count - length room ≡ 0 = omega arith in
    ap (λ r. take count r ++ replicate (count - length r) 0) (over_all bytes room e) ∙ ap (λ n. take count room ++ replicate n 0) none ∙ append_none (take count room)
