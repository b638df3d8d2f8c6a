use Rattle.std.proofs.Common.{refl, ◌≡◌, ◌+◌, ◌<◌, ℕ, List, length, get_or, arith, ap, ◌∙◌, sym, subst, set, take}
use Rattle.std.specs.Prelude.{max}
use Rattle.std.proofs.lemmas.List.{get_or_read, get_or-replicate, length-replicate, length-set}
use Rattle.demi_audit.specs.Hearing.{height}
use Rattle.demi_audit.specs.Turns.{IsTable, greatest_at, place_at}
use Rattle.demi_audit.specs.Hearing.{no_reply}
use Rattle.demi_audit.proofs.Placing.{place_within}
use Rattle.demi_audit.proofs.Raising.{table_more, table_same}
use Rattle.demi_audit.proofs.ahead.find_greatest.Goals as goal
use Rattle.demi_audit.proofs.ahead.find_greatest.Goals.{in-Some, in_default}

pub raising-init : goal.raising-init
raising-init c =
    let heard = c.args.heard.now in
    let p = c.args.places.now in
    let e = c.in_ok-greatest.ensures in
    record {
      size = ap length e ∙ length-replicate (length heard + 256) 0;
      table = λ w s d there. ap (λ (l : List ℕ). get_or l (place_at p w s) d) e ∙ get_or-replicate (length heard + 256) (place_at p w s) 0 d (place_within p heard c.requires w s there);
    }

pub raising-preserved : goal.raising-preserved
raising-preserved c =
    let heard = c.args.heard.now in
    let p = c.args.places.now in
    let n = c.raising.reply-index in
    let table = c.raising.greatest.items in
    elim c.match-place.branch [
      | in-Some w ↦
          let at = w.in-Some.at in
          let r = get_or heard n no_reply in
          let within : at < length heard + 256 = w.in-Some.ensures.within heard c.requires in
          let old : w.index.result.now ≡ get_or table at 0 = get_or_read table at w.index.result.now (omega (arith, within, c.raising.invariant.size)) w.index.ensures 0 in
          let x : w.greater.result ≡ max w.index.result.now (height r.kind r.version) = w.greater.ensures ∙ ap (max w.index.result.now) w.height.ensures in
          let k = table_more p heard table n at w.index.result.now no_reply c.requires c.raising-test.true c.raising.invariant.size within w.in-Some.ensures.place w.in-Some.ensures.there old c.raising.invariant.table in
          let same : c.match-place.greatest.items ≡ set table at w.greater.result = ap (λ v. v.items) w.greatest-is in
          record {
            size = ap length same ∙ length-set table at w.greater.result ∙ c.raising.invariant.size;
            table = subst (IsTable p (λ v s. greatest_at v s (take (n + 1) heard))) (sym same) (subst (λ (m : ℕ). IsTable p (λ v s. greatest_at v s (take (n + 1) heard)) (set table at m)) (sym x) k);
          }
      | in_default w ↦
          let same : c.match-place.greatest.items ≡ table = ap (λ v. v.items) w.greatest-is in
          record {
            size = ap length same ∙ c.raising.invariant.size;
            table = subst (IsTable p (λ v s. greatest_at v s (take (n + 1) heard))) (sym same)
                (table_same p heard table n no_reply c.raising-test.true (w.in_default.ensures.none refl) c.raising.invariant.table);
          }
    ]
