-- `join` puts places side by side. Assumes `Logic`.
use mathlib.Core.Path.{◌≡◌, refl, sym, ap, subst, ◌∙◌}
use Prim.Native.Nat.{ℕ, ◌+◌, ◌*◌, ◌<◌, ◌^◌}
use mathlib.Core.List.{List, [], ◌∷◌, ◌++◌}
use lib.ListN.{length, length-append}
use mir.Syntax.{Fn}
use mir.MapTy.{inst_fn}
use mir.Val.{Val}
use base.Logic.{SProp, emp, never, id⊢}
use base.Fml.{Lft}
use prog.Wp.{WpFn}
use contract.BorrowLft.{◌⊑◌}
use contract.Monad.{fact, fact_i}
use contract.Running.{tables}
use types.Kit.{‵, raw, ◌⊛◌, prop, ◌$◌, ◌∵◌, !, qed, by, move, drop, use0, use2, split, rewrite, regoal, fsplit, fjoin, flt_l, flt_i}
use types.Part.{agg}
use types.Run.{no_more, and_then, returns, enter}
use types.ByLocal.{alloc_all, pass_all, free_all, look_at, get, sets}
use denote.RattleType.{owns}
use denote.RawPtr.{Ptr, block_ptr, in_a_block}
use denote.Signature.{types_at}
use denote.Steps.{nothing, heard}
use denote.Triple.Entry.{alive}
use denote.Triple.Walked.{Stays, stay_dropped, walk_of}
use Rattle.core.specs.Ptr.{ptr_add}
use Rattle.core.proofs.alloc.Calls.{Goes-blank}
use Rattle.core.proofs.mem.Param.{El, R, args}
use Rattle.std.proofs.raw_atomic.Walks.{proved_at, leaves}
use Rattle.demi_buf.proofs.Walks.{slot_at}
use Rattle.demi_buf.proofs.Memory.{Cr, Mark, sz, Place, mark, mark_had, mark_made, glue}
use Rattle.demi_buf.specs.Ownership.{slots, cells_own}
use Rattle.demi_buf.specs.contracts.cells.Cells.join.{ended, clauses}
use Rattle.demi_buf.specs.contracts.cells.Cells.join.Key.{name as #self}
use Rattle.demi_buf.proofs.cells.Cells.join.Statement.{statement}
use Rattle.demi_buf.proofs.cells.Cells.join.Code as code

pub join_spec : {M : Type 1} → statement M
join_spec 𝓤 𝓛 𝓜 𝓡 wired T L =
    let H = 𝓛.H in let 𝓣 = tables 𝓤 H 𝓜 𝓡 𝓡.env in let E : El = record { row = T; laws = L } in let En = ended T in let c = clauses T 𝓛 𝓜.mem 𝓡.returns in
    let fn : Fn = inst_fn (args E) code.function in
    let hs : Stays En.signature.params En.kept = (stay_dropped (slot_at 0 En.signature.params) En.kept.0, (stay_dropped (slot_at 1 En.signature.params) En.kept.1.0, tt)) in
    proved_at 𝓛 En hs c 𝓜 𝓡 (Goes-blank 𝓛 1 (slot_at 0 En.signature.params) En.kept.0 (λ κs x f. tt), (Goes-blank 𝓛 1 (slot_at 1 En.signature.params) En.kept.1.0 (λ κs x f. tt), tt)) (#self (args E)) fn (code.unfolded 𝓤 H 𝓜 𝓡 wired (T, tt)) (λ z are.
    let Post : Val → SProp 𝓤 = (walk_of 𝓛 En hs c).post z in
    let κ : Lft = z.0.0.0 in let a = z.0.3 in let vss = z.0.4 in let d : (Cr E).Denot = a.0 in let f : (Cr E).Denot = a.1.0 in let s = sz E in
    let xs : List (Place E) = d.slots in let ys : List (Place E) = f.slots in
    let Asked : Type 0 = (f.at ≡ ptr_add (R E) (length xs) d.at) × ((length xs + length ys) * s < 2 ^ 63) in
    qed 𝓛 ((raw (alive 𝓛 En.signature z.0.0 z.0.1) ⊛ ‵ (owns (types_at En.signature.params z.0.0) a vss)) ∷ raw (fact 𝓤 (κ ⊑ T.lives)) ∷ raw (fact 𝓤 Asked) ∷ []) ∵
    move ! (1 ∷ 2 ∷ []) $ heard ! (κ ⊑ T.lives) (λ le. heard ! Asked (λ asked. split ! $ move ! (1 ∷ []) $
    fsplit ! $ fsplit ! $ mark_had ! E vss.0 (λ e0. move ! (1 ∷ []) $ fsplit ! $ fsplit ! $ mark_had ! E vss.1.0 (λ e1. move ! (1 ∷ []) $ drop ! $ move ! (1 ∷ []) $
    in_a_block ! d.at (λ p. cells_own (R E) p xs) (id⊢ 𝓤 (never 𝓤)) (λ b o e. fsplit ! $ flt_l ! (λ small. move ! (1 ∷ []) $
    rewrite ! 0 (λ (p : Ptr). ‵ (cells_own (R E) p ys)) (asked.0 ∙ ap (ptr_add (R E) (length xs)) e) refl $ fsplit ! $ flt_l ! (λ small'. move ! (1 ∷ 0 ∷ []) $
    let at : ℕ = length xs * s + o in
    use2 𝓛 (‵ (slots (R E) b o (xs ++ ys))) (glue E 𝓛 b xs ys o at refl) $
    regoal ! (λ (us : List Val). prop (WpFn 𝓤 H 𝓣.C 𝓣.Λ fn us Post)) (λ i. e0 i ++ (e1 i ++ [])) refl $
    enter ! 𝓣.C 𝓣.Λ fn (mark ∷ mark ∷ []) Post $
    alloc_all ! (λ l. pass_all ! refl ((tt, (tt, tt)), ((tt, (tt, tt)), tt)) $
    sets ! (agg ! (no_more !)) refl (tt, tt) $ sets ! (agg ! (and_then ! (get ! refl) (no_more !))) refl (tt, (tt, tt)) $
    returns ! (look_at ! 0 refl) $ free_all ! refl $
    let x : (Cr E).Denot = record { mark = record {}; at = block_ptr b o; slots = xs ++ ys } in
    flt_i ! (length (xs ++ ys) * s) (2 ^ 63) (subst (λ k. k * s < 2 ^ 63) (sym (length-append xs ys)) asked.1) $ fjoin ! $
    use0 𝓛 (‵ ((Mark E).own_val (tt, tt) (mark ∷ []))) (mark_made E 𝓛) $ fjoin ! $
    let Told : Type 0 = (block_ptr b o ≡ d.at) × (xs ++ ys ≡ xs ++ ys) in
    use0 𝓛 (raw (fact 𝓤 Told)) (fact_i 𝓤 Told (emp 𝓤) (sym e, refl)) $
    nothing ! $ nothing ! $ fjoin ! $ nothing ! $ fjoin ! $ move ! (3 ∷ 0 ∷ 2 ∷ 1 ∷ []) $
    by ! (leaves 𝓛 En hs c z mark x (tt, (tt, tt)) (tt, (tt, tt))))))))))))
