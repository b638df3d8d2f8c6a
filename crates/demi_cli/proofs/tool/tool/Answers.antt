use Rattle.std.proofs.Common.{ap, inl, map, refl}
use Rattle.std.specs.Prelude.{string_bytes}
use Rattle.demi_core.specs.World.{WorldState}
use Rattle.demi_cli.specs.declared.outcome.Outcome.TheVariants as outcome
use Rattle.demi_cli.specs.Words.{log_name}
use Rattle.demi_cli.proofs.Lists.{facts}
use Rattle.demi_cli.proofs.Checked as checked
use Rattle.demi_cli.proofs.tool.tool.Goals as goal

pub returns-in-Ok-Log-clause-keeps : goal.returns-in-Ok-Log-clause-keeps
returns-in-Ok-Log-clause-keeps g c =
    let w = rw c.in-Ok-Log.field-0-is at c.in-Ok-Log.ensures.asks in
    let l = rw w.1 at c.list-outcome.ensures.listed in
    let f = facts c.list-outcome.result c.report.result (g.W.World.state c.args.world.now) (g.W.World.state c.list-outcome.new.world) (g.W.World.state c.report.new.world) (log_name (map string_bytes c.args.words.now.items)) _ _ _ _ l c.report.ensures.status c.report.ensures.warned in
    λ _. f.keeps

pub returns-in-Ok-Log-clause-listing : goal.returns-in-Ok-Log-clause-listing
returns-in-Ok-Log-clause-listing g c =
    let w = rw c.in-Ok-Log.field-0-is at c.in-Ok-Log.ensures.asks in
    let l = rw w.1 at c.list-outcome.ensures.listed in
    let f = facts c.list-outcome.result c.report.result (g.W.World.state c.args.world.now) (g.W.World.state c.list-outcome.new.world) (g.W.World.state c.report.new.world) (log_name (map string_bytes c.args.words.now.items)) _ _ _ _ l c.report.ensures.status c.report.ensures.warned in
    λ _. record { keeps = f.keeps; lines = f.lines; part = f.part; silent = f.silent; rose = rw c.report.ensures.print_faults f.print_fault }

pub returns-in-Ok-Log-clause-log_fault : goal.returns-in-Ok-Log-clause-log_fault
returns-in-Ok-Log-clause-log_fault g c =
    let w = rw c.in-Ok-Log.field-0-is at c.in-Ok-Log.ensures.asks in
    let l = rw w.1 at c.list-outcome.ensures.listed in
    let f = facts c.list-outcome.result c.report.result (g.W.World.state c.args.world.now) (g.W.World.state c.list-outcome.new.world) (g.W.World.state c.report.new.world) (log_name (map string_bytes c.args.words.now.items)) _ _ _ _ l c.report.ensures.status c.report.ensures.warned in
    f.log_fault

pub returns-in-Ok-Log-clause-bad_log : goal.returns-in-Ok-Log-clause-bad_log
returns-in-Ok-Log-clause-bad_log g c =
    let w = rw c.in-Ok-Log.field-0-is at c.in-Ok-Log.ensures.asks in
    let l = rw w.1 at c.list-outcome.ensures.listed in
    let f = facts c.list-outcome.result c.report.result (g.W.World.state c.args.world.now) (g.W.World.state c.list-outcome.new.world) (g.W.World.state c.report.new.world) (log_name (map string_bytes c.args.words.now.items)) _ _ _ _ l c.report.ensures.status c.report.ensures.warned in
    λ _. f.bad_log

pub returns-in-Ok-Log-clause-good_log : goal.returns-in-Ok-Log-clause-good_log
returns-in-Ok-Log-clause-good_log g c =
    let w = rw c.in-Ok-Log.field-0-is at c.in-Ok-Log.ensures.asks in
    let l = rw w.1 at c.list-outcome.ensures.listed in
    let f = facts c.list-outcome.result c.report.result (g.W.World.state c.args.world.now) (g.W.World.state c.list-outcome.new.world) (g.W.World.state c.report.new.world) (log_name (map string_bytes c.args.words.now.items)) _ _ _ _ l c.report.ensures.status c.report.ensures.warned in
    λ _. f.good_log

pub returns-in-Ok-Check-clause-keeps : goal.returns-in-Ok-Check-clause-keeps
returns-in-Ok-Check-clause-keeps g c =
    let w = rw c.in-Ok-Check.field-0-is at c.in-Ok-Check.ensures.asks in
    let l = rw w.1 at c.check_named-outcome.ensures.checked in
    let f = checked.facts c.check_named-outcome.result c.report-in-Ok-Check.result (g.W.World.state c.args.world.now) (g.W.World.state c.check_named-outcome.new.world) (g.W.World.state c.report-in-Ok-Check.new.world) (log_name (map string_bytes c.args.words.now.items)) _ _ _ _ l c.report-in-Ok-Check.ensures.status c.report-in-Ok-Check.ensures.warned in
    λ _. f.checking.keeps

pub returns-in-Ok-Check-clause-checking : goal.returns-in-Ok-Check-clause-checking
returns-in-Ok-Check-clause-checking g c =
    let w = rw c.in-Ok-Check.field-0-is at c.in-Ok-Check.ensures.asks in
    let l = rw w.1 at c.check_named-outcome.ensures.checked in
    let f = checked.facts c.check_named-outcome.result c.report-in-Ok-Check.result (g.W.World.state c.args.world.now) (g.W.World.state c.check_named-outcome.new.world) (g.W.World.state c.report-in-Ok-Check.new.world) (log_name (map string_bytes c.args.words.now.items)) _ _ _ _ l c.report-in-Ok-Check.ensures.status c.report-in-Ok-Check.ensures.warned in
    λ _. rw c.report-in-Ok-Check.ensures.print_faults f.checking

pub returns-in-Ok-Check-clause-log_fault : goal.returns-in-Ok-Check-clause-log_fault
returns-in-Ok-Check-clause-log_fault g c =
    let w = rw c.in-Ok-Check.field-0-is at c.in-Ok-Check.ensures.asks in
    let l = rw w.1 at c.check_named-outcome.ensures.checked in
    let f = checked.facts c.check_named-outcome.result c.report-in-Ok-Check.result (g.W.World.state c.args.world.now) (g.W.World.state c.check_named-outcome.new.world) (g.W.World.state c.report-in-Ok-Check.new.world) (log_name (map string_bytes c.args.words.now.items)) _ _ _ _ l c.report-in-Ok-Check.ensures.status c.report-in-Ok-Check.ensures.warned in
    f.log_fault

pub returns-in-Err-NoMemory-clause-keeps : goal.returns-in-Err-NoMemory-clause-keeps
returns-in-Err-NoMemory-clause-keeps g c =
    let r = c.report-in-Err-NoMemory in
    let w0 = g.W.World in
    let f = facts outcome.NoMemory r.result (w0.state c.args.world.now) (w0.state c.args.world.now) (w0.state r.new.world) (log_name (map string_bytes c.args.words.now.items)) (w0.faults c.args.world.now) (w0.faults r.new.world) (w0.print_faults c.args.world.now) (w0.print_faults r.new.world) (inl (refl, λ m other. refl)) r.ensures.status r.ensures.warned in
    λ _. f.keeps

pub returns-in-Err-NoMemory-clause-listing : goal.returns-in-Err-NoMemory-clause-listing
returns-in-Err-NoMemory-clause-listing g c =
    let r = c.report-in-Err-NoMemory in
    let w0 = g.W.World in
    let f = facts outcome.NoMemory r.result (w0.state c.args.world.now) (w0.state c.args.world.now) (w0.state r.new.world) (log_name (map string_bytes c.args.words.now.items)) (w0.faults c.args.world.now) (w0.faults r.new.world) (w0.print_faults c.args.world.now) (w0.print_faults r.new.world) (inl (refl, λ m other. refl)) r.ensures.status r.ensures.warned in
    λ _. record { keeps = f.keeps; lines = f.lines; part = f.part; silent = f.silent; rose = f.print_fault }

pub returns-in-Err-NoMemory-clause-warned : goal.returns-in-Err-NoMemory-clause-warned
returns-in-Err-NoMemory-clause-warned g c =
    let r = c.report-in-Err-NoMemory in
    let w0 = g.W.World in
    let f = facts outcome.NoMemory r.result (w0.state c.args.world.now) (w0.state c.args.world.now) (w0.state r.new.world) (log_name (map string_bytes c.args.words.now.items)) (w0.faults c.args.world.now) (w0.faults r.new.world) (w0.print_faults c.args.world.now) (w0.print_faults r.new.world) (inl (refl, λ m other. refl)) r.ensures.status r.ensures.warned in
    f.warned

pub returns-in-Err-NoMemory-clause-checking : goal.returns-in-Err-NoMemory-clause-checking
returns-in-Err-NoMemory-clause-checking g c =
    let r = c.report-in-Err-NoMemory in
    let w0 = g.W.World in
    let f = checked.facts outcome.NoMemory r.result (w0.state c.args.world.now) (w0.state c.args.world.now) (w0.state r.new.world) (log_name (map string_bytes c.args.words.now.items)) (w0.faults c.args.world.now) (w0.faults r.new.world) (w0.print_faults c.args.world.now) (w0.print_faults r.new.world) (inl (refl, λ m other. refl)) r.ensures.status r.ensures.warned in
    λ _. f.checking

pub returns-in-Ok-Pipe-clause-warned : goal.returns-in-Ok-Pipe-clause-warned
returns-in-Ok-Pipe-clause-warned g c = (outcome.Usage, c.report-in-Ok-Pipe.ensures.status, (λ e. cc), ap (λ (w : WorldState). w.warned) c.report-in-Ok-Pipe.ensures.warned)
