use Rattle.std.proofs.Common.{◌∙◌, ap, inl, None}
use Rattle.demi_core.specs.World.{Log, WorldState, after_keep_log}
use Rattle.demi_server.specs.Logs.{log_at}
use Rattle.demi_cli.specs.Given.{A_log}
use Rattle.demi_cli.proofs.Readings.{piped_reads}
use Rattle.demi_cli.proofs.Served.{Tried, piped_none, piped_ran}
use Rattle.demi_cli.proofs.piping.pipe.Goals as goal

pub returns-in-Err-clause-without : goal.returns-in-Err-clause-without
returns-in-Err-clause-without g c =
    let log : Log = log_at g.W.Log.Disk.bytes g.W.Log.Disk.held g.W.Log.Disk.faults c.in-Ok.log in
    let kept : Log = log_at g.W.Log.Disk.bytes g.W.Log.Disk.held g.W.Log.Disk.faults c.in-Err.log in
    record {
      gave = A_log log kept None;
      keeps = c.keep_log.ensures.kept ∙ ap (λ (w : WorldState). after_keep_log w c.args.name.now kept) c.in-Ok.ensures.given;
      at = inl c.in-Err.ensures.refused;
    }

pub returns-clause-without : goal.returns-clause-without
returns-clause-without g c =
    let state = g.W.World.state in
    let log : Log = log_at g.W.Log.Disk.bytes g.W.Log.Disk.held g.W.Log.Disk.faults c.in-Ok.log in
    let mid : Log = log_at g.W.Log.Disk.bytes g.W.Log.Disk.held g.W.Log.Disk.faults c.in-Ok-try_log.log in
    let kept : Log = log_at g.W.Log.Disk.bytes g.W.Log.Disk.held g.W.Log.Disk.faults c.over_link-log.result.log in
    let h = c.in-Ok-try_log.ensures.had in
    let t : Tried (state c.args.world.now) (state c.log.new.self) (state c.over_link-log.new.world) (state c.keep_log-2.new.self) c.args.name.now log mid kept
    (g.W.World.faults c.args.world.now) (g.W.World.faults c.log.new.self) (g.W.World.faults c.over_link-log.new.world) (g.W.World.faults c.keep_log-2.new.self) =
    record {
      old = h.0;
      had = h.1;
      good = h.2;
      same = c.in-Ok-try_log.ensures.stands;
      later = c.in-Ok-try_log.ensures.later;
      faults = c.log.ensures.later;
      kept_faults = c.keep_log-2.ensures.faults;
      given = c.in-Ok.ensures.given;
      keeps = c.keep_log-2.ensures.kept;
    } in
    piped_none c.over_link-log.result.ends c.over_link-log.result.outcome (state c.args.world.now) (state c.log.new.self) (state c.over_link-log.new.world) (state c.keep_log-2.new.self) c.args.name.now log mid kept _ _ _ _ t c.over_link-log.ensures.without

pub returns-clause-ran : goal.returns-clause-ran
returns-clause-ran g c =
    let state = g.W.World.state in
    let log : Log = log_at g.W.Log.Disk.bytes g.W.Log.Disk.held g.W.Log.Disk.faults c.in-Ok.log in
    let mid : Log = log_at g.W.Log.Disk.bytes g.W.Log.Disk.held g.W.Log.Disk.faults c.in-Ok-try_log.log in
    let kept : Log = log_at g.W.Log.Disk.bytes g.W.Log.Disk.held g.W.Log.Disk.faults c.over_link-log.result.log in
    let h = c.in-Ok-try_log.ensures.had in
    let t : Tried (state c.args.world.now) (state c.log.new.self) (state c.over_link-log.new.world) (state c.keep_log-2.new.self) c.args.name.now log mid kept
    (g.W.World.faults c.args.world.now) (g.W.World.faults c.log.new.self) (g.W.World.faults c.over_link-log.new.world) (g.W.World.faults c.keep_log-2.new.self) =
    record {
      old = h.0;
      had = h.1;
      good = h.2;
      same = c.in-Ok-try_log.ensures.stands;
      later = c.in-Ok-try_log.ensures.later;
      faults = c.log.ensures.later;
      kept_faults = c.keep_log-2.ensures.faults;
      given = c.in-Ok.ensures.given;
      keeps = c.keep_log-2.ensures.kept;
    } in
    piped_ran c.args.limit c.over_link-log.result.ends (λ e. record { service = e.service; rx = e.rx.items; tx = e.tx.items }) c.over_link-log.result.outcome (state c.args.world.now) (state c.log.new.self) (state c.over_link-log.new.world) (state c.keep_log-2.new.self) c.args.name.now log mid kept _ _ _ _ t c.over_link-log.ensures.ran

pub returns-clause-reads : goal.returns-clause-reads
returns-clause-reads g c =
    let state = g.W.World.state in
    let log : Log = log_at g.W.Log.Disk.bytes g.W.Log.Disk.held g.W.Log.Disk.faults c.in-Ok.log in
    let mid : Log = log_at g.W.Log.Disk.bytes g.W.Log.Disk.held g.W.Log.Disk.faults c.in-Ok-try_log.log in
    let kept : Log = log_at g.W.Log.Disk.bytes g.W.Log.Disk.held g.W.Log.Disk.faults c.over_link-log.result.log in
    let h = c.in-Ok-try_log.ensures.had in
    let t : Tried (state c.args.world.now) (state c.log.new.self) (state c.over_link-log.new.world) (state c.keep_log-2.new.self) c.args.name.now log mid kept
    (g.W.World.faults c.args.world.now) (g.W.World.faults c.log.new.self) (g.W.World.faults c.over_link-log.new.world) (g.W.World.faults c.keep_log-2.new.self) =
    record {
      old = h.0;
      had = h.1;
      good = h.2;
      same = c.in-Ok-try_log.ensures.stands;
      later = c.in-Ok-try_log.ensures.later;
      faults = c.log.ensures.later;
      kept_faults = c.keep_log-2.ensures.faults;
      given = c.in-Ok.ensures.given;
      keeps = c.keep_log-2.ensures.kept;
    } in
    piped_reads g.W.In.Source.reads g.W.In.Source.taken g.W.In.Source.left g.W.In.Source.faults c.args.limit c.over_link-log.result.ends (λ e. record { service = e.service; rx = e.rx.items; tx = e.tx.items }) c.over_link-log.result.outcome
    (g.W.World.next_source c.log.new.self) (g.W.World.next_source c.args.world.now) (g.W.World.kept_source c.over_link-log.new.world) (g.W.World.kept_source c.keep_log-2.new.self)
    (state c.args.world.now) (state c.log.new.self) (state c.over_link-log.new.world) (state c.keep_log-2.new.self) c.args.name.now log mid kept _ _ _ _ t
    c.log.ensures.next_sources c.keep_log-2.ensures.kept_sources c.over_link-log.ensures.ran c.over_link-log.ensures.reads
