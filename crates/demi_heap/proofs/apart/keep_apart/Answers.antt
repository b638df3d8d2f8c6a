use Rattle.std.proofs.Common.{rules, ap, sym, ◌∙◌}
use Rattle.demi_buf.specs.Bufs.{BufValue}
use Rattle.demi_heap_core.specs.declared.view.Guest.{Guest}
use Rattle.demi_heap_core.specs.declared.view.View.{View}
use Rattle.demi_heap_core.specs.Steps.{part_alone, part_of}
use Rattle.demi_heap.specs.Told.{Seated}
use Rattle.demi_heap.proofs.Allowed.{bares_allowed, comes_back_allowed, guest_goes_allowed, guest_comes_allowed, apart_allowed}
use Rattle.demi_heap.proofs.apart.keep_apart.Goals as goal

pub split_seat-half-requires : goal.split_seat-half-requires
split_seat-half-requires c = (search rules, search rules, bares_allowed _ _ _)

pub join_seat-requires : goal.join_seat-requires
join_seat-requires c = let half = ap (λ (m : Seated). m.0) c.split_seat-half.ensures.4 in (
  search rules,
  search rules,
  search rules,
  search rules,
  guest_comes_allowed _ _ _ c.args.first.now.me.0 c.split_seat-half.result.me.0 (ap (λ (g : Guest BufValue). g.halves) c.requires.guest.0) (ap (λ (v : View BufValue). v.shape) half ∙ c.requires.guest.1) (ap (λ (v : View BufValue). v.passes) half) (ap (λ (v : View BufValue). v.guest.halves) half),
)

pub load-requires : goal.load-requires
load-requires c = (search rules, search rules, apart_allowed _ _ _ _ _)

pub split_seat-half-requires-2 : goal.split_seat-half-requires-2
split_seat-half-requires-2 c = (search rules, search rules, guest_goes_allowed _ _ _)

pub join_seat-requires-2 : goal.join_seat-requires-2
join_seat-requires-2 c = let left = ap (λ (m : Seated). m.0) c.split_seat-half.ensures.2 in let half = ap (λ (m : Seated). m.0) c.split_seat-half.ensures.4 in
    let both = c.load.ensures.2.0 ∙ ap (λ (m : Seated). m.0) c.join_seat.ensures.2 in
    let back = ap (λ (m : Seated). m.0) c.split_seat-half-2.ensures.4 ∙ (ap (λ (v : View BufValue). part_alone v.shape v.guest) both ∙ ap (λ (v : View BufValue). part_alone c.args.first.now.me.0.shape (part_of v)) half) in (
      search rules,
      search rules,
      search rules,
      search rules,
      comes_back_allowed _ _ _ c.split_seat-half.new.seat.me.0 c.split_seat-half-2.result.me.0 (ap (λ (v : View BufValue). v.halves) left) (ap (λ (v : View BufValue). v.shape) back ∙ (sym c.requires.guest.1 ∙ sym (ap (λ (v : View BufValue). v.shape) left)))
          (ap (λ (v : View BufValue). v.slot) back ∙ sym (ap (λ (v : View BufValue). v.slot) left)) (ap (λ (v : View BufValue). v.lent) back ∙ sym (ap (λ (v : View BufValue). v.lent) left)) (ap (λ (v : View BufValue). v.passes) back) (ap (λ (v : View BufValue). v.guest.halves) back),
    )
