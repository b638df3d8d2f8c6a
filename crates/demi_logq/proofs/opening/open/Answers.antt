use Rattle.std.proofs.Common.{◌≡◌, ◌+◌, arith, ◌∙◌, ap, sym, subst}
use Rattle.std.specs.Io.KnownBytes.{append_known}
use Rattle.demi_spec.specs.LogText.{header}
use Rattle.demi_logq.specs.Logged.{Found}
use Rattle.demi_logq.proofs.Opens.{opened_empty, opened_found}
use Rattle.demi_logq.proofs.opening.open.Goals as goal

pub returns-then-size-eq0-clause-opened : goal.returns-then-size-eq0-clause-opened
returns-then-size-eq0-clause-opened g c =
    let bytes = g.D.Disk.bytes in
    let held = g.D.Disk.held in
    let e = c.in_ok-size.ensures in
    let empty : held c.args.disk.now ≡ 0 = omega (arith, e.held) in
    let is : bytes c.append.new.self ≡ append_known (bytes c.args.disk.now) header = c.in_ok-append.ensures.bytes ∙ ap (λ o. append_known o header) e.same_bytes in
    let grown : held c.append.new.self ≡ held c.args.disk.now + 8 = omega (arith, c.in_ok-append.ensures.held, e.same_held) in
    opened_empty _ _ _ _ _ (g.met.D.Disk.told_held c.args.disk.now) empty is grown (c.reserve.ensures.items ∙ c.requires.none)

pub returns-clause-opened : goal.returns-clause-opened
returns-clause-opened g c =
    let bytes = g.D.Disk.bytes in
    let held = g.D.Disk.held in
    let e = c.in_ok-size.ensures in
    let f = c.in_ok-find_entries.ensures in
    let same : bytes c.find_entries.new.disk ≡ bytes c.args.disk.now = f.same_bytes ∙ e.same_bytes in
    let whole : held c.find_entries.new.disk ≡ held c.args.disk.now = f.same_held ∙ e.same_held in
    let size : c.in_ok-size.size ≡ held c.args.disk.now = omega (arith, e.held) in
    let ends = c.reserve-2.new.self.items in
    let found : Found (bytes c.args.disk.now) (held c.args.disk.now) ends c.in_ok-size.size =
    subst (λ o. Found o (held c.args.disk.now) ends c.in_ok-size.size) e.same_bytes
    (subst (λ n. Found (bytes c.size.new.self) n ends c.in_ok-size.size) e.same_held
    (subst (λ l. Found (bytes c.size.new.self) (held c.size.new.self) l c.in_ok-size.size) (sym c.reserve-2.ensures.items) f.found)) in
    opened_found _ _ _ _ _ ends (g.met.D.Disk.told_held c.args.disk.now) same whole size found

pub returns-then-size-eq0-clause-stands : goal.returns-then-size-eq0-clause-stands
returns-then-size-eq0-clause-stands g c =
    let bytes = g.D.Disk.bytes in
    let held = g.D.Disk.held in
    let e = c.in_ok-size.ensures in
    let empty : held c.args.disk.now ≡ 0 = omega (arith, e.held) in
    let is : bytes c.append.new.self ≡ append_known (bytes c.args.disk.now) header = c.in_ok-append.ensures.bytes ∙ ap (λ o. append_known o header) e.same_bytes in
    let grown : held c.append.new.self ≡ 8 = omega (arith, c.in_ok-append.ensures.held, e.same_held) in
    ((λ some. absurd (omega arith)), (λ none. (is, grown)))

pub returns-clause-stands : goal.returns-clause-stands
returns-clause-stands g c =
    let held = g.D.Disk.held in
    let e = c.in_ok-size.ensures in
    let f = c.in_ok-find_entries.ensures in
    let more = c.if-size-eq0.false in
    ((λ some. (f.same_bytes ∙ e.same_bytes, f.same_held ∙ e.same_held)), (λ none. absurd (omega (arith, e.held))))
