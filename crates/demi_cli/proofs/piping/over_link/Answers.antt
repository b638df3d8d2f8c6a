use Rattle.demi_server.specs.Logs.{log_at}
use Rattle.demi_cli.specs.Sessions.{link_at}
use Rattle.demi_cli.proofs.Readings.{link_reads, only_given}
use Rattle.demi_cli.proofs.Served.{link_none, link_ran, made_told, unmade_told}
use Rattle.demi_cli.proofs.piping.over_link.Goals as goal

pub returns-clause-without : goal.returns-clause-without
returns-clause-without g c =
    let x = c.in-Ok.ensures.given in
    let q = c.only-source.result in
    let s = c.session-links.result in
    link_none s.ends s.outcome c.outcome_of.result (g.W.World.state c.args.world.now) (g.W.World.state c.one_link.new.world) (g.W.World.state c.keep_link.new.self)
    (link_at g.W.In.Source.taken g.W.In.Source.left g.W.In.Source.faults g.W.Out.Sink.written g.W.Out.Sink.faults x.0) (link_at g.W.In.Source.taken g.W.In.Source.left g.W.In.Source.faults g.W.Out.Sink.written g.W.Out.Sink.faults q)
    (log_at g.W.Log.Disk.bytes g.W.Log.Disk.held g.W.Log.Disk.faults c.args.log) (log_at g.W.Log.Disk.bytes g.W.Log.Disk.held g.W.Log.Disk.faults s.log) _ _ c.outcome_of.ensures x.2 c.keep_link.ensures.kept
    (unmade_told g.W.In.Source.taken g.W.In.Source.left g.W.In.Source.faults g.W.Out.Sink.written g.W.Out.Sink.faults g.W.Log.Disk.bytes g.W.Log.Disk.held g.W.Log.Disk.faults
    s.ends x.0 q c.in-Ok.links.items s.links.items s.outcome (log_at g.W.Log.Disk.bytes g.W.Log.Disk.held g.W.Log.Disk.faults c.args.log) (log_at g.W.Log.Disk.bytes g.W.Log.Disk.held g.W.Log.Disk.faults s.log) x.1 c.only-source.ensures c.session-links.ensures.unmade)

pub returns-clause-ran : goal.returns-clause-ran
returns-clause-ran g c =
    let x = c.in-Ok.ensures.given in
    let q = c.only-source.result in
    let s = c.session-links.result in
    link_ran c.args.limit s.ends (λ e. record { service = e.service; rx = e.rx.items; tx = e.tx.items }) s.outcome c.outcome_of.result (g.W.World.state c.args.world.now) (g.W.World.state c.one_link.new.world) (g.W.World.state c.keep_link.new.self)
    (link_at g.W.In.Source.taken g.W.In.Source.left g.W.In.Source.faults g.W.Out.Sink.written g.W.Out.Sink.faults x.0) (link_at g.W.In.Source.taken g.W.In.Source.left g.W.In.Source.faults g.W.Out.Sink.written g.W.Out.Sink.faults q)
    (log_at g.W.Log.Disk.bytes g.W.Log.Disk.held g.W.Log.Disk.faults c.args.log) (log_at g.W.Log.Disk.bytes g.W.Log.Disk.held g.W.Log.Disk.faults s.log) c.outcome_of.ensures x.2 c.keep_link.ensures.kept
    (made_told g.W.In.Source.taken g.W.In.Source.left g.W.In.Source.faults g.W.Out.Sink.written g.W.Out.Sink.faults g.W.Log.Disk.bytes g.W.Log.Disk.held g.W.Log.Disk.faults
    c.args.limit s.ends (λ e. record { service = e.service; rx = e.rx.items; tx = e.tx.items }) x.0 q c.in-Ok.links.items s.links.items c.args.log s.log s.outcome x.1 c.only-source.ensures c.session-links.ensures.made)

pub returns-clause-reads : goal.returns-clause-reads
returns-clause-reads g c =
    let x = c.in-Ok.ensures.given in
    let s = c.session-links.result in
    link_reads g.W.In.Source.taken g.W.In.Source.left g.W.In.Source.faults g.W.In.Source.reads g.W.Out.Sink.written g.W.Out.Sink.faults g.W.Log.Disk.bytes g.W.Log.Disk.held g.W.Log.Disk.faults
    c.args.limit s.ends _ (g.W.World.next_source c.args.world.now) (g.W.World.kept_source c.keep_link.new.self) x.0 c.only-source.result c.in-Ok.links.items s.links.items
    (g.W.World.state c.args.world.now) (g.W.World.state c.one_link.new.world) (g.W.World.state c.keep_link.new.self) c.args.log
    x.1 c.only-source.ensures x.2 c.keep_link.ensures.kept (only_given c.in-Ok.links.items x.0 (λ p. g.W.World.next_source c.args.world.now 0 p.0) x.1 c.in-Ok.ensures.next_source)
    c.keep_link.ensures.kept_sources.here c.session-links.ensures.unmade c.session-links.ensures.reads
