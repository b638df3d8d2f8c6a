-- `cut` parts the places. Assumes `Logic`.
use mathlib.Core.Path.{◌≡◌, refl, sym, ap}
use Prim.Native.Nat.{ℕ, ◌+◌, ◌*◌, ◌≤◌, ◌^◌}
use native.Mathlib.Omega.{arith}
use mathlib.Core.List.{List, [], ◌∷◌, ◌++◌}
use lib.ListN.{length, take, drop as drop_l, length-take, length-drop, take-append-drop}
use mir.Syntax.{Fn, w64}
use mir.MapTy.{inst_fn}
use mir.Val.{Val, vint}
use base.Logic.{SProp, emp, never, id⊢}
use base.Fml.{Lft}
use prog.Wp.{WpFn}
use contract.BorrowLft.{◌⊑◌}
use contract.Monad.{fact, fact_i}
use contract.Running.{tables}
use types.Kit.{‵, raw, ◌⊛◌, prop, ◌$◌, ◌∵◌, !, qed, by, move, drop, use0, use1, use2, split, rewrite, regoal, fsplit, fjoin, feq_l, flt_l, flt_i}
use types.Part.{agg}
use types.Run.{no_more, and_then, returns, enter}
use types.ByLocal.{alloc_all, pass_all, free_all, look_at, get, sets}
use denote.RattleType.{owns}
use denote.RawPtr.{block_ptr, in_a_block}
use denote.Signature.{types_at}
use denote.Struct.Tuple.{Tuple}
use denote.Steps.{nothing, heard}
use denote.Triple.Entry.{alive}
use denote.Triple.Walked.{Stays, stay_dropped, walk_of, Goes-dropped}
use Rattle.core.specs.Ptr.{ptr_add}
use Rattle.core.proofs.alloc.Calls.{Goes-blank}
use Rattle.core.proofs.mem.Param.{El, R, args}
use Rattle.core.proofs.ptr.Rows.{times_below}
use Rattle.std_alloc.proofs.Pairs.{pair_of, pair_val}
use Rattle.std.proofs.raw_atomic.Walks.{proved_at, leaves}
use Rattle.demi_buf.proofs.Walks.{slot_at}
use Rattle.demi_buf.proofs.Memory.{Cr, Mark, sz, Place, mark, mark_had, mark_made, cut}
use Rattle.demi_buf.specs.Ownership.{slots, cells_own}
use Rattle.demi_buf.specs.contracts.cells.Cells.cut.{ended, clauses}
use Rattle.demi_buf.specs.contracts.cells.Cells.cut.Key.{name as #self}
use Rattle.demi_buf.proofs.cells.Cells.cut.Statement.{statement}
use Rattle.demi_buf.proofs.cells.Cells.cut.Code as code

pub cut_spec : {M : Type 1} → statement M
cut_spec 𝓤 𝓛 𝓜 𝓡 wired T L =
    let H = 𝓛.H in let 𝓣 = tables 𝓤 H 𝓜 𝓡 𝓡.env in let E : El = record { row = T; laws = L } in let En = ended T in let c = clauses T 𝓛 𝓜.mem 𝓡.returns in
    let fn : Fn = inst_fn (args E) code.function in
    let hs : Stays En.signature.params En.kept = (stay_dropped (slot_at 0 En.signature.params) En.kept.0, (stay_dropped (slot_at 1 En.signature.params) En.kept.1.0, tt)) in
    proved_at 𝓛 En hs c 𝓜 𝓡 (Goes-blank 𝓛 1 (slot_at 0 En.signature.params) En.kept.0 (λ κs x f. tt), (Goes-dropped 𝓛 1 (slot_at 1 En.signature.params) En.kept.1.0 (λ κs x f. refl), tt)) (#self (args E)) fn (code.unfolded 𝓤 H 𝓜 𝓡 wired (T, tt)) (λ z are.
    let Post : Val → SProp 𝓤 = (walk_of 𝓛 En hs c).post z in
    let κ : Lft = z.0.0.0 in let a = z.0.3 in let vss = z.0.4 in let d : (Cr E).Denot = a.0 in let n : ℕ = a.1.0 in let s = sz E in
    let cs : List (Place E) = d.slots in let xs : List (Place E) = take n cs in let ys : List (Place E) = drop_l n cs in
    let Asked : Type 0 = n ≤ length cs in
    qed 𝓛 ((raw (alive 𝓛 En.signature z.0.0 z.0.1) ⊛ ‵ (owns (types_at En.signature.params z.0.0) a vss)) ∷ raw (fact 𝓤 (κ ⊑ T.lives)) ∷ raw (fact 𝓤 Asked) ∷ []) ∵
    move ! (1 ∷ 2 ∷ []) $ heard ! (κ ⊑ T.lives) (λ le. heard ! Asked (λ asked. split ! $ move ! (1 ∷ []) $
    fsplit ! $ fsplit ! $ mark_had ! E vss.0 (λ e0. move ! (1 ∷ []) $ fsplit ! $ fsplit ! $ feq_l ! (λ e1. flt_l ! (λ fits. drop ! $
    in_a_block ! d.at (λ p. cells_own (R E) p cs) (id⊢ 𝓤 (never 𝓤)) (λ b o e. fsplit ! $ flt_l ! (λ small.
    let long : n ≡ length xs = omega (arith, length-take n cs) in let at : ℕ = n * s + o in let few = length-drop n cs in
    rewrite ! 0 (λ (l : List (Place E)). ‵ (slots (R E) b o l)) (sym (take-append-drop n cs)) refl $
    use1 𝓛 (‵ (slots (R E) b o xs) ⊛ ‵ (slots (R E) b at ys)) (cut E 𝓛 b xs ys o at (ap (λ k. k * s + o) long)) $ split ! $
    regoal ! (λ (us : List Val). prop (WpFn 𝓤 H 𝓣.C 𝓣.Λ fn us Post)) (λ i. e0 i ++ (e1 i ++ [])) refl $
    enter ! 𝓣.C 𝓣.Λ fn (mark ∷ vint w64 n ∷ []) Post $
    alloc_all ! (λ l. pass_all ! refl ((tt, (tt, tt)), ((tt, record { fits = fits }), tt)) $
    sets ! (agg ! (no_more !)) refl (tt, tt) $ sets ! (agg ! (and_then ! (get ! refl) (no_more !))) refl (tt, (tt, tt)) $
    sets ! (agg ! (no_more !)) refl (tt, tt) $ sets ! (agg ! (and_then ! (get ! refl) (no_more !))) refl (tt, (tt, tt)) $
    sets ! (agg ! (and_then ! (get ! refl) (and_then ! (get ! refl) (no_more !)))) refl (tt, ((tt, tt), ((tt, tt), tt))) $
    returns ! (look_at ! 0 refl) $ free_all ! refl $
    let x : (Cr E).Denot = record { mark = record {}; at = block_ptr b o; slots = xs } in let y : (Cr E).Denot = record { mark = record {}; at = block_ptr b at; slots = ys } in
    move ! (1 ∷ []) $ flt_i ! (length ys * s) (2 ^ 63) (times_below (length ys) (length cs) s (2 ^ 63) (omega (arith, few)) small) $ fjoin ! $
    use0 𝓛 (‵ ((Mark E).own_val (tt, tt) (mark ∷ []))) (mark_made E 𝓛) $ fjoin ! $
    move ! (1 ∷ []) $ flt_i ! (length xs * s) (2 ^ 63) (times_below (length xs) (length cs) s (2 ^ 63) (omega (arith, long, asked)) small) $ fjoin ! $
    use0 𝓛 (‵ ((Mark E).own_val (tt, tt) (mark ∷ []))) (mark_made E 𝓛) $ fjoin ! $
    use2 𝓛 (‵ ((Tuple (Cr E ∷ Cr E ∷ [])).own_val (x, y) (pair_val mark mark ∷ []))) (pair_of 𝓛 (Cr E) (Cr E) x y mark mark) $
    let Told : Type 0 = (block_ptr b o ≡ d.at) × (xs ≡ xs) × (block_ptr b at ≡ ptr_add (R E) n d.at) × (ys ≡ ys) in
    use0 𝓛 (raw (fact 𝓤 Told)) (fact_i 𝓤 Told (emp 𝓤) (sym e, refl, sym (ap (ptr_add (R E) n) e), refl)) $
    nothing ! $ nothing ! $ fjoin ! $ nothing ! $ fjoin ! $ move ! (3 ∷ 0 ∷ 2 ∷ 1 ∷ []) $
    by ! (leaves 𝓛 En hs c z (pair_val mark mark) (x, y) (tt, (tt, tt)) (tt, (tt, tt))))))))))))
