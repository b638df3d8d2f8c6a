use Rattle.demi_cli.specs.Sessions.{link_at}
use Rattle.demi_cli.proofs.Readings.{first_given}
use Rattle.demi_cli.proofs.Served.{one_given}
use Rattle.demi_cli.proofs.piping.one_link.Goals as goal

pub returns-clause-given : goal.returns-clause-given
returns-clause-given g c =
    one_given c.links.result (λ v. v.items) (λ p. link_at g.W.In.Source.taken g.W.In.Source.left g.W.In.Source.faults g.W.Out.Sink.written g.W.Out.Sink.faults p)
    (g.W.World.state c.args.world.now) (g.W.World.state c.links.new.self) c.links.ensures.count c.links.ensures.given

pub returns-clause-next_source : goal.returns-clause-next_source
returns-clause-next_source g c = first_given c.links.result (λ v. v.items) (λ number p. g.W.World.next_source c.args.world.now number p.0) c.links.ensures.next_sources
