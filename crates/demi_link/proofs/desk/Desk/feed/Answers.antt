use Rattle.std.proofs.Common.{◌≡◌, ◌≤◌, ◌-◌, ◌++◌, List, ℕ, ◌∙◌, ap, length, subst, sym, take}
use Rattle.demi_frame.specs.Decoding.{after_feed}
use Rattle.demi_frame.specs.Reading.{HasRead}
use Rattle.demi_heap.specs.Seen.{HalfValue}
use Rattle.demi_streamq.specs.declared.rx_out.RxOut.TheVariants.{Piece}
use Rattle.demi_link.specs.Desks.{desk_of}
use Rattle.demi_link.specs.Fitting.{Fits}
use Rattle.demi_link.specs.Talks.{TalkValue}
use Rattle.demi_link.specs.declared.phase.Phase.TheVariants.{Reading}
use Rattle.demi_link.proofs.Taken.{fed_next, piece_fits, pop_there}
use Rattle.demi_link.proofs.desk.Desk.feed.Goals as goal

pub read-requires : goal.read-requires
read-requires g c =
    let n = c.requires in
    let d = record (desk_of c.args.self.now) { talk = n.was } in
    let old = g.C.Scanner.ports c.args.cx.now in
    let s = g.C.Calls.sight c.args.cx.now d.link in
    let z = g.C.Calls.sight c.sgafree.new.self d.link in
    let v = c.args.buf in
    let e = c.feed.ensures in
    let taken = c.feed.result in
    let same : c.bytes.result.now ≡ v.bytes = c.bytes.ensures in
    let fits : length v.bytes ≤ 4096 = piece_fits s.rx.known.heard s.rx.known.told n.was.place v (pop_there old s d n.was.place (Piece v) n.took) n.took.redeems.admitted.0 in
    let all : taken ≡ length v.bytes = e.whole n.took.fits.agrees.3 (subst (λ (l : List ℕ). length l ≤ 4096) (sym same) fits) ∙ ap length same in
    let is = e.fed ∙ ap (λ (l : List ℕ). after_feed d.decoder (take taken l)) same in
    let freed = c.sgafree.ensures.sight ∙ ap (λ (x : List HalfValue). record s { out = s.out - length x }) c.of.ensures in
    let f = fed_next old s z d n.was.place v c.feed.new.self taken n.took freed all is (λ fed handed h. subst (λ (l : List ℕ). HasRead (fed ++ take taken l) handed c.feed.new.self) same (e.read fed handed h)) in
    subst (λ (p : ℕ). Fits p z (record d { decoder = c.feed.new.self; talk = c.args.self.now.talk.value }) Reading) (sym (g.met.C.Scanner.goes_ports d.link _ _ c.sgafree.ensures.goes))
    (subst (λ (t : TalkValue). Fits old z (record d { decoder = c.feed.new.self; talk = t }) Reading) (sym n.now) f)
