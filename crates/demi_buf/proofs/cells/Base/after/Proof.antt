-- `after` steps on in the block. Assumes `Logic`.
use mathlib.Core.Path.{◌≡◌, refl, sym, ap, subst, ◌∙◌}
use Prim.Native.Nat.{ℕ, ◌+◌, ◌*◌, ◌<◌, ◌^◌}
use native.Mathlib.Omega.{arith}
use mathlib.Core.List.{List, [], ◌∷◌, ◌++◌}
use mir.Syntax.{Fn, w64}
use mir.MapTy.{inst_fn}
use mir.Val.{Val, vint}
use base.Logic.{SProp, emp}
use base.Fml.{Lft}
use prog.Wp.{Env, WpFn}
use contract.BorrowLft.{◌⊑◌}
use contract.Monad.{fact, fact_i}
use contract.Running.{tables}
use types.Kit.{‵, raw, ◌⊛◌, prop, at_ret, ◌$◌, ◌∵◌, !, qed, by, move, drop, use0, split, regoal, fsplit, fjoin, feq_l, flt_l}
use types.Part.{whole, sub, agg}
use types.Run.{stop, fld, of_opd, bin, size_word, no_more, and_then, first, blocks, exec, returns, enter}
use types.ByLocal.{alloc_all, pass_all, free_all, look_at, get, get_in, sets, sets_last, is, env}
use denote.RattleType.{owns}
use denote.RawPtr.{Ptr, InBlock, block_ptr, block_of, count_of, at_block}
use denote.Signature.{types_at}
use denote.Steps.{nothing, heard}
use denote.Triple.Entry.{alive}
use denote.Triple.Walked.{Stays, stay_dropped, walk_of, Goes-dropped}
use Rattle.core.specs.Ptr.{ptr_add}
use Rattle.core.proofs.mem.Param.{El, R, args}
use Rattle.core.proofs.slots.Leases.{uncapped}
use Rattle.std_alloc.proofs.RcSteps.{word, word-Good}
use Rattle.std_alloc.proofs.VecSteps.Shapes.{after}
use Rattle.std.proofs.raw_atomic.Walks.{proved_at, leaves}
use Rattle.demi_buf.proofs.Walks.{slot_at}
use Rattle.demi_buf.proofs.Memory.{Bs, sz, word_had, word_made}
use Rattle.demi_buf.specs.contracts.cells.Base.after.{ended, clauses}
use Rattle.demi_buf.specs.contracts.cells.Base.after.Key.{name as #self}
use Rattle.demi_buf.proofs.cells.Base.after.Statement.{statement}
use Rattle.demi_buf.proofs.cells.Base.after.Code as code

pub after_spec : {M : Type 1} → statement M
after_spec 𝓤 𝓛 𝓜 𝓡 wired T L =
    let H = 𝓛.H in let 𝓣 = tables 𝓤 H 𝓜 𝓡 𝓡.env in let E : El = record { row = T; laws = L } in let En = ended T in let c = clauses T 𝓛 𝓜.mem 𝓡.returns in
    let fn : Fn = inst_fn (args E) code.function in
    let hs : Stays En.signature.params En.kept = (stay_dropped (slot_at 0 En.signature.params) En.kept.0, (stay_dropped (slot_at 1 En.signature.params) En.kept.1.0, tt)) in
    proved_at 𝓛 En hs c 𝓜 𝓡 (Goes-dropped 𝓛 1 (slot_at 0 En.signature.params) En.kept.0 (λ κs x f. refl), (Goes-dropped 𝓛 1 (slot_at 1 En.signature.params) En.kept.1.0 (λ κs x f. refl), tt)) (#self (args E)) fn (code.unfolded 𝓤 H 𝓜 𝓡 wired (T, tt)) (λ z are.
    let Post : Val → SProp 𝓤 = (walk_of 𝓛 En hs c).post z in
    let κ : Lft = z.0.0.0 in let a = z.0.3 in let vss = z.0.4 in let p : Ptr = a.0.ptr in let n : ℕ = a.1.0 in let s = sz E in
    let Asked : Type 0 = InBlock p × (n * s < 2 ^ 63) in
    qed 𝓛 ((raw (alive 𝓛 En.signature z.0.0 z.0.1) ⊛ ‵ (owns (types_at En.signature.params z.0.0) a vss)) ∷ raw (fact 𝓤 (κ ⊑ T.lives)) ∷ raw (fact 𝓤 Asked) ∷ []) ∵
    move ! (1 ∷ 2 ∷ []) $ heard ! (κ ⊑ T.lives) (λ le. heard ! Asked (λ asked. split ! $ move ! (1 ∷ []) $
    fsplit ! $ word_had ! p vss.0 (λ e0. fsplit ! $ fsplit ! $ feq_l ! (λ e1. flt_l ! (λ fits. drop ! $
    let b = block_of p in let o = count_of p in let at : p ≡ block_ptr b o = at_block p asked.0 in let far : n * s < 2 ^ 64 = omega (arith, asked.1) in
    let on : Ptr = block_ptr b (n * s + o) in
    regoal ! (λ (us : List Val). prop (WpFn 𝓤 H 𝓣.C 𝓣.Λ fn us Post)) (λ i. (e0 ∙ ap (λ (π : Ptr). word π ∷ []) at) i ++ (e1 i ++ [])) refl $
    enter ! 𝓣.C 𝓣.Λ fn (word (block_ptr b o) ∷ vint w64 n ∷ []) Post $
    alloc_all ! (λ l. pass_all ! refl (word-Good [] (block_ptr b o), ((tt, record { fits = fits }), tt)) $ let Ev : Env 𝓤 H = env fn.locals l in
    first ! $ blocks ! $
    sets ! (of_opd ! (get_in ! (fld ! refl (stop !)) (sub ! 0 refl (whole !)))) refl (tt, tt) $
    sets ! (of_opd ! (get ! refl)) refl (tt, record { fits = fits }) $
    sets ! (is ! (bin ! (get ! refl) (size_word !) (record { fits = subst (λ (k : ℕ). k < 2 ^ 64) (sym (uncapped n s far)) far })) (ap (vint w64) (uncapped n s far))) refl (tt, record { fits = far }) $
    sets_last ! (bin ! (get ! refl) (get ! refl) tt) refl (tt, tt) $
    exec ! 𝓣.C 𝓣.Λ Ev (after 1 fn.body) (at_ret Ev Post) $
    sets ! (of_opd ! (get ! refl)) refl (tt, tt) $
    sets ! (agg ! (and_then ! (get ! refl) (no_more !))) refl (word-Good [] on) $
    returns ! (look_at ! 0 refl) $ free_all ! refl $
    let r : (Bs E).Denot = record { ptr = on } in
    word_made ! on $ use0 𝓛 (raw (fact 𝓤 (on ≡ ptr_add (R E) n p))) (fact_i 𝓤 (on ≡ ptr_add (R E) n p) (emp 𝓤) (sym (ap (ptr_add (R E) n) at))) $
    nothing ! $ nothing ! $ fjoin ! $ nothing ! $ fjoin ! $ move ! (3 ∷ 0 ∷ 2 ∷ 1 ∷ []) $
    by ! (leaves 𝓛 En hs c z (word on) r (tt, (tt, tt)) (tt, (tt, tt))))))))))
