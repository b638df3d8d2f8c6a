use Rattle.std.proofs.Common.{◌≡◌, ◌≢◌, ◌∙◌, ap, inl, map, refl, sym, subst, Bool, true, false, List, ℕ}
use Rattle.std.specs.Prelude.{string_bytes, if◌then◌else◌, Err}
use Rattle.demi_core.specs.World.{WorldState}
use Rattle.demi_words.specs.Commands.{command_of}
use Rattle.demi_cli.specs.Given.{Nothing}
use Rattle.demi_cli.specs.Outcome.{reported}
use Rattle.demi_cli.specs.Run.{fault_elsewhere}
use Rattle.demi_cli.specs.Words.{is_pipe, log_limit, log_name}
use Rattle.demi_cli.specs.declared.outcome.Outcome.TheVariants as outcome
use Rattle.demi_cli.proofs.Checked as checked
use Rattle.demi_cli.proofs.Facts.{bare, both}
use Rattle.demi_cli.proofs.Clauses.{same_but}
use Rattle.demi_cli.proofs.Lists as lists
use Rattle.demi_cli.proofs.Readings.{reported_reads}
use Rattle.demi_cli.proofs.Tasks.{none_only, not_both, pipe_only}
use Rattle.demi_cli.proofs.running.run.Goals as goal

-- what is said where no command ran is no fault
usage_elsewhere : (pipe : Bool) → outcome.Usage ≢ fault_elsewhere pipe
usage_elsewhere true = λ e. cc
usage_elsewhere false = λ e. cc

later_elsewhere : (pipe : Bool) → outcome.NotYet ≢ fault_elsewhere pipe
later_elsewhere true = λ e. cc
later_elsewhere false = λ e. cc

memory_elsewhere : (pipe : Bool) → outcome.NoMemory ≢ fault_elsewhere pipe
memory_elsewhere true = λ e. cc
memory_elsewhere false = λ e. cc

pub returns-in-Err-Usage-clause-warned : goal.returns-in-Err-Usage-clause-warned
returns-in-Err-Usage-clause-warned g c =
    (outcome.Usage, c.report-in-Err-Usage.ensures.status, usage_elsewhere (is_pipe (map string_bytes c.args.words.now.items)), ap (λ (w : WorldState). w.warned) c.report-in-Err-Usage.ensures.warned)

pub returns-in-Err-Usage-clause-untouched : goal.returns-in-Err-Usage-clause-untouched
returns-in-Err-Usage-clause-untouched g c =
    let u = c.in-Err-Usage.ensures.usage (ap Err c.in-Err-Usage.field-0-is) in
    λ _. c.report-in-Err-Usage.ensures.warned ∙ ap (λ (b : Bool). reported (if b then outcome.NotYet else outcome.Usage) (g.W.World.state c.args.world.now)) (sym (none_only (command_of (map string_bytes c.args.words.now.items)) u).3)

pub returns-in-Ok-Later-clause-warned : goal.returns-in-Ok-Later-clause-warned
returns-in-Ok-Later-clause-warned g c =
    (outcome.NotYet, c.report.ensures.status, later_elsewhere (is_pipe (map string_bytes c.args.words.now.items)), ap (λ (w : WorldState). w.warned) c.report.ensures.warned)

pub returns-in-Ok-Later-clause-untouched : goal.returns-in-Ok-Later-clause-untouched
returns-in-Ok-Later-clause-untouched g c =
    let w = rw c.in-Ok-Later.field-0-is at c.in-Ok-Later.ensures.asks in
    λ _. c.report.ensures.warned ∙ ap (λ (b : Bool). reported (if b then outcome.NotYet else outcome.Usage) (g.W.World.state c.args.world.now)) (sym w)

pub returns-in-Err-NoMemory-clause-warned : goal.returns-in-Err-NoMemory-clause-warned
returns-in-Err-NoMemory-clause-warned g c =
    (outcome.NoMemory, c.report-in-Err-NoMemory.ensures.status, memory_elsewhere (is_pipe (map string_bytes c.args.words.now.items)), ap (λ (w : WorldState). w.warned) c.report-in-Err-NoMemory.ensures.warned)

pub returns-in-Err-NoMemory-clause-keeps : goal.returns-in-Err-NoMemory-clause-keeps
returns-in-Err-NoMemory-clause-keeps g c =
    let r = c.report-in-Err-NoMemory in
    let s = g.W.World.state c.args.world.now in
    let t = g.W.World.state r.new.world in
    let name = log_name (map string_bytes c.args.words.now.items) in
    let b = bare (log_limit (map string_bytes c.args.words.now.items)) r.result s t name (g.W.World.faults c.args.world.now) (g.W.World.faults r.new.world) outcome.NoMemory s (record { gave = Nothing; keeps = (refl, λ m other. refl); at = tt }) r.ensures.status r.ensures.warned in
    λ _. b.facts.keeps

pub returns-in-Err-NoMemory-clause-stopped : goal.returns-in-Err-NoMemory-clause-stopped
returns-in-Err-NoMemory-clause-stopped g c =
    let r = c.report-in-Err-NoMemory in
    let s = g.W.World.state c.args.world.now in
    let t = g.W.World.state r.new.world in
    let name = log_name (map string_bytes c.args.words.now.items) in
    let b = bare (log_limit (map string_bytes c.args.words.now.items)) r.result s t name (g.W.World.faults c.args.world.now) (g.W.World.faults r.new.world) outcome.NoMemory s (record { gave = Nothing; keeps = (refl, λ m other. refl); at = tt }) r.ensures.status r.ensures.warned in
    λ _. b.unserved

pub returns-in-Err-NoMemory-clause-front : goal.returns-in-Err-NoMemory-clause-front
returns-in-Err-NoMemory-clause-front g c =
    let r = c.report-in-Err-NoMemory in
    let s = g.W.World.state c.args.world.now in
    let t = g.W.World.state r.new.world in
    let name = log_name (map string_bytes c.args.words.now.items) in
    let b = bare (log_limit (map string_bytes c.args.words.now.items)) r.result s t name (g.W.World.faults c.args.world.now) (g.W.World.faults r.new.world) outcome.NoMemory s (record { gave = Nothing; keeps = (refl, λ m other. refl); at = tt }) r.ensures.status r.ensures.warned in
    b.facts.front

pub returns-in-Err-NoMemory-clause-listing : goal.returns-in-Err-NoMemory-clause-listing
returns-in-Err-NoMemory-clause-listing g c =
    let r = c.report-in-Err-NoMemory in
    let s = g.W.World.state c.args.world.now in
    let t = g.W.World.state r.new.world in
    let name = log_name (map string_bytes c.args.words.now.items) in
    let f = lists.facts outcome.NoMemory r.result s s t name (g.W.World.faults c.args.world.now) (g.W.World.faults r.new.world) (g.W.World.print_faults c.args.world.now) (g.W.World.print_faults r.new.world) (inl (refl, λ m other. refl)) r.ensures.status r.ensures.warned in
    λ _. record { keeps = f.keeps; lines = f.lines; part = f.part; silent = f.silent; rose = f.print_fault }

pub returns-in-Err-NoMemory-clause-checking : goal.returns-in-Err-NoMemory-clause-checking
returns-in-Err-NoMemory-clause-checking g c =
    let r = c.report-in-Err-NoMemory in
    let s = g.W.World.state c.args.world.now in
    let t = g.W.World.state r.new.world in
    let name = log_name (map string_bytes c.args.words.now.items) in
    let f = checked.facts outcome.NoMemory r.result s s t name (g.W.World.faults c.args.world.now) (g.W.World.faults r.new.world) (g.W.World.print_faults c.args.world.now) (g.W.World.print_faults r.new.world) (inl (refl, λ m other. refl)) r.ensures.status r.ensures.warned in
    λ _. f.checking

pub returns-clause-keeps : goal.returns-clause-keeps
returns-clause-keeps g c =
    let state = g.W.World.state in
    let name = log_name (map string_bytes c.args.words.now.items) in
    let w = rw c.in-Ok-Pipe.field-0-is at c.in-Ok-Pipe.ensures.asks in
    let q = rw w.1 at c.pipe-outcome.ensures in
    let p = rw w.2 at q in
    let b = both (log_limit (map string_bytes c.args.words.now.items)) c.report-2.result (state c.args.world.now) (state c.pipe-outcome.new.world) (state c.report-2.new.world) name _ _ c.pipe-outcome.result.0 c.pipe-outcome.result.1
    (λ e. record { service = e.service; rx = e.rx.items; tx = e.tx.items }) c.a_link_reads_and_writes.ensures.talk p.without p.ran c.report-2.ensures.status c.report-2.ensures.warned in
    λ _. b.facts.keeps

pub returns-clause-cannot_open : goal.returns-clause-cannot_open
returns-clause-cannot_open g c =
    let state = g.W.World.state in
    let name = log_name (map string_bytes c.args.words.now.items) in
    let w = rw c.in-Ok-Pipe.field-0-is at c.in-Ok-Pipe.ensures.asks in
    let q = rw w.1 at c.pipe-outcome.ensures in
    let p = rw w.2 at q in
    let b = both (log_limit (map string_bytes c.args.words.now.items)) c.report-2.result (state c.args.world.now) (state c.pipe-outcome.new.world) (state c.report-2.new.world) name _ _ c.pipe-outcome.result.0 c.pipe-outcome.result.1
    (λ e. record { service = e.service; rx = e.rx.items; tx = e.tx.items }) c.a_link_reads_and_writes.ensures.talk p.without p.ran c.report-2.ensures.status c.report-2.ensures.warned in
    rw c.report-2.ensures.faults (λ e. b.facts.cannot_open e)

pub returns-clause-bad_log : goal.returns-clause-bad_log
returns-clause-bad_log g c =
    let state = g.W.World.state in
    let name = log_name (map string_bytes c.args.words.now.items) in
    let w = rw c.in-Ok-Pipe.field-0-is at c.in-Ok-Pipe.ensures.asks in
    let q = rw w.1 at c.pipe-outcome.ensures in
    let p = rw w.2 at q in
    let b = both (log_limit (map string_bytes c.args.words.now.items)) c.report-2.result (state c.args.world.now) (state c.pipe-outcome.new.world) (state c.report-2.new.world) name _ _ c.pipe-outcome.result.0 c.pipe-outcome.result.1
    (λ e. record { service = e.service; rx = e.rx.items; tx = e.tx.items }) c.a_link_reads_and_writes.ensures.talk p.without p.ran c.report-2.ensures.status c.report-2.ensures.warned in
    λ _. b.facts.bad_log

pub returns-clause-good_log : goal.returns-clause-good_log
returns-clause-good_log g c =
    let state = g.W.World.state in
    let name = log_name (map string_bytes c.args.words.now.items) in
    let w = rw c.in-Ok-Pipe.field-0-is at c.in-Ok-Pipe.ensures.asks in
    let q = rw w.1 at c.pipe-outcome.ensures in
    let p = rw w.2 at q in
    let b = both (log_limit (map string_bytes c.args.words.now.items)) c.report-2.result (state c.args.world.now) (state c.pipe-outcome.new.world) (state c.report-2.new.world) name _ _ c.pipe-outcome.result.0 c.pipe-outcome.result.1
    (λ e. record { service = e.service; rx = e.rx.items; tx = e.tx.items }) c.a_link_reads_and_writes.ensures.talk p.without p.ran c.report-2.ensures.status c.report-2.ensures.warned in
    λ _. b.facts.good_log

pub returns-clause-log_fault : goal.returns-clause-log_fault
returns-clause-log_fault g c =
    let state = g.W.World.state in
    let name = log_name (map string_bytes c.args.words.now.items) in
    let w = rw c.in-Ok-Pipe.field-0-is at c.in-Ok-Pipe.ensures.asks in
    let q = rw w.1 at c.pipe-outcome.ensures in
    let p = rw w.2 at q in
    let b = both (log_limit (map string_bytes c.args.words.now.items)) c.report-2.result (state c.args.world.now) (state c.pipe-outcome.new.world) (state c.report-2.new.world) name _ _ c.pipe-outcome.result.0 c.pipe-outcome.result.1
    (λ e. record { service = e.service; rx = e.rx.items; tx = e.tx.items }) c.a_link_reads_and_writes.ensures.talk p.without p.ran c.report-2.ensures.status c.report-2.ensures.warned in
    b.facts.log_fault

pub returns-clause-read_fault : goal.returns-clause-read_fault
returns-clause-read_fault g c =
    let state = g.W.World.state in
    let name = log_name (map string_bytes c.args.words.now.items) in
    let w = rw c.in-Ok-Pipe.field-0-is at c.in-Ok-Pipe.ensures.asks in
    let q = rw w.1 at c.pipe-outcome.ensures in
    let p = rw w.2 at q in
    let b = both (log_limit (map string_bytes c.args.words.now.items)) c.report-2.result (state c.args.world.now) (state c.pipe-outcome.new.world) (state c.report-2.new.world) name _ _ c.pipe-outcome.result.0 c.pipe-outcome.result.1
    (λ e. record { service = e.service; rx = e.rx.items; tx = e.tx.items }) c.a_link_reads_and_writes.ensures.talk p.without p.ran c.report-2.ensures.status c.report-2.ensures.warned in
    b.facts.read_fault

pub returns-clause-write_fault : goal.returns-clause-write_fault
returns-clause-write_fault g c =
    let state = g.W.World.state in
    let name = log_name (map string_bytes c.args.words.now.items) in
    let w = rw c.in-Ok-Pipe.field-0-is at c.in-Ok-Pipe.ensures.asks in
    let q = rw w.1 at c.pipe-outcome.ensures in
    let p = rw w.2 at q in
    let b = both (log_limit (map string_bytes c.args.words.now.items)) c.report-2.result (state c.args.world.now) (state c.pipe-outcome.new.world) (state c.report-2.new.world) name _ _ c.pipe-outcome.result.0 c.pipe-outcome.result.1
    (λ e. record { service = e.service; rx = e.rx.items; tx = e.tx.items }) c.a_link_reads_and_writes.ensures.talk p.without p.ran c.report-2.ensures.status c.report-2.ensures.warned in
    λ _. b.facts.write_fault

pub returns-clause-whole : goal.returns-clause-whole
returns-clause-whole g c =
    let state = g.W.World.state in
    let name = log_name (map string_bytes c.args.words.now.items) in
    let w = rw c.in-Ok-Pipe.field-0-is at c.in-Ok-Pipe.ensures.asks in
    let q = rw w.1 at c.pipe-outcome.ensures in
    let p = rw w.2 at q in
    let b = both (log_limit (map string_bytes c.args.words.now.items)) c.report-2.result (state c.args.world.now) (state c.pipe-outcome.new.world) (state c.report-2.new.world) name _ _ c.pipe-outcome.result.0 c.pipe-outcome.result.1
    (λ e. record { service = e.service; rx = e.rx.items; tx = e.tx.items }) c.a_link_reads_and_writes.ensures.talk p.without p.ran c.report-2.ensures.status c.report-2.ensures.warned in
    λ _. b.facts.whole

pub returns-clause-stopped : goal.returns-clause-stopped
returns-clause-stopped g c =
    let state = g.W.World.state in
    let name = log_name (map string_bytes c.args.words.now.items) in
    let w = rw c.in-Ok-Pipe.field-0-is at c.in-Ok-Pipe.ensures.asks in
    let q = rw w.1 at c.pipe-outcome.ensures in
    let p = rw w.2 at q in
    let b = both (log_limit (map string_bytes c.args.words.now.items)) c.report-2.result (state c.args.world.now) (state c.pipe-outcome.new.world) (state c.report-2.new.world) name _ _ c.pipe-outcome.result.0 c.pipe-outcome.result.1
    (λ e. record { service = e.service; rx = e.rx.items; tx = e.tx.items }) c.a_link_reads_and_writes.ensures.talk p.without p.ran c.report-2.ensures.status c.report-2.ensures.warned in
    λ _. b.stopped

pub returns-clause-front : goal.returns-clause-front
returns-clause-front g c =
    let state = g.W.World.state in
    let name = log_name (map string_bytes c.args.words.now.items) in
    let w = rw c.in-Ok-Pipe.field-0-is at c.in-Ok-Pipe.ensures.asks in
    let q = rw w.1 at c.pipe-outcome.ensures in
    let p = rw w.2 at q in
    let b = both (log_limit (map string_bytes c.args.words.now.items)) c.report-2.result (state c.args.world.now) (state c.pipe-outcome.new.world) (state c.report-2.new.world) name _ _ c.pipe-outcome.result.0 c.pipe-outcome.result.1
    (λ e. record { service = e.service; rx = e.rx.items; tx = e.tx.items }) c.a_link_reads_and_writes.ensures.talk p.without p.ran c.report-2.ensures.status c.report-2.ensures.warned in
    b.facts.front

pub returns-clause-accounted : goal.returns-clause-accounted
returns-clause-accounted g c =
    let state = g.W.World.state in
    let name = log_name (map string_bytes c.args.words.now.items) in
    let w = rw c.in-Ok-Pipe.field-0-is at c.in-Ok-Pipe.ensures.asks in
    let q = rw w.1 at c.pipe-outcome.ensures in
    let p = rw w.2 at q in
    let b = both (log_limit (map string_bytes c.args.words.now.items)) c.report-2.result (state c.args.world.now) (state c.pipe-outcome.new.world) (state c.report-2.new.world) name _ _ c.pipe-outcome.result.0 c.pipe-outcome.result.1
    (λ e. record { service = e.service; rx = e.rx.items; tx = e.tx.items }) c.a_link_reads_and_writes.ensures.talk p.without p.ran c.report-2.ensures.status c.report-2.ensures.warned in
    b.accounted

pub returns-clause-ends : goal.returns-clause-ends
returns-clause-ends g c =
    let state = g.W.World.state in
    let name = log_name (map string_bytes c.args.words.now.items) in
    let w = rw c.in-Ok-Pipe.field-0-is at c.in-Ok-Pipe.ensures.asks in
    let q = rw w.1 at c.pipe-outcome.ensures in
    let p = rw w.2 at q in
    let b = both (log_limit (map string_bytes c.args.words.now.items)) c.report-2.result (state c.args.world.now) (state c.pipe-outcome.new.world) (state c.report-2.new.world) name _ _ c.pipe-outcome.result.0 c.pipe-outcome.result.1
    (λ e. record { service = e.service; rx = e.rx.items; tx = e.tx.items }) c.a_link_reads_and_writes.ensures.talk p.without p.ran c.report-2.ensures.status c.report-2.ensures.warned in
    λ _. b.there

pub returns-clause-said : goal.returns-clause-said
returns-clause-said g c =
    let state = g.W.World.state in
    let name = log_name (map string_bytes c.args.words.now.items) in
    let w = rw c.in-Ok-Pipe.field-0-is at c.in-Ok-Pipe.ensures.asks in
    let q = rw w.1 at c.pipe-outcome.ensures in
    let p = rw w.2 at q in
    let b = both (log_limit (map string_bytes c.args.words.now.items)) c.report-2.result (state c.args.world.now) (state c.pipe-outcome.new.world) (state c.report-2.new.world) name _ _ c.pipe-outcome.result.0 c.pipe-outcome.result.1
    (λ e. record { service = e.service; rx = e.rx.items; tx = e.tx.items }) c.a_link_reads_and_writes.ensures.talk p.without p.ran c.report-2.ensures.status c.report-2.ensures.warned in
    λ _. b.facts.said

pub returns-clause-warned : goal.returns-clause-warned
returns-clause-warned g c =
    let state = g.W.World.state in
    let name = log_name (map string_bytes c.args.words.now.items) in
    let w = rw c.in-Ok-Pipe.field-0-is at c.in-Ok-Pipe.ensures.asks in
    let q = rw w.1 at c.pipe-outcome.ensures in
    let p = rw w.2 at q in
    let b = both (log_limit (map string_bytes c.args.words.now.items)) c.report-2.result (state c.args.world.now) (state c.pipe-outcome.new.world) (state c.report-2.new.world) name _ _ c.pipe-outcome.result.0 c.pipe-outcome.result.1
    (λ e. record { service = e.service; rx = e.rx.items; tx = e.tx.items }) c.a_link_reads_and_writes.ensures.talk p.without p.ran c.report-2.ensures.status c.report-2.ensures.warned in
    rw w.0 b.facts.warned

pub returns-clause-audits : goal.returns-clause-audits
returns-clause-audits g c =
    let state = g.W.World.state in
    let name = log_name (map string_bytes c.args.words.now.items) in
    let w = rw c.in-Ok-Pipe.field-0-is at c.in-Ok-Pipe.ensures.asks in
    let q = rw w.1 at c.pipe-outcome.ensures in
    let p = rw w.2 at q in
    let b = both (log_limit (map string_bytes c.args.words.now.items)) c.report-2.result (state c.args.world.now) (state c.pipe-outcome.new.world) (state c.report-2.new.world) name _ _ c.pipe-outcome.result.0 c.pipe-outcome.result.1
    (λ e. record { service = e.service; rx = e.rx.items; tx = e.tx.items }) c.a_link_reads_and_writes.ensures.talk p.without p.ran c.report-2.ensures.status c.report-2.ensures.warned in
    λ e. absurd (b.facts.no_audit e)

pub returns-clause-listing : goal.returns-clause-listing
returns-clause-listing g c =
    let w = rw c.in-Ok-Pipe.field-0-is at c.in-Ok-Pipe.ensures.asks in
    let only = pipe_only (command_of (map string_bytes c.args.words.now.items)) w.0 in
    λ e. absurd (not_both e only.1)

pub returns-clause-checking : goal.returns-clause-checking
returns-clause-checking g c =
    let w = rw c.in-Ok-Pipe.field-0-is at c.in-Ok-Pipe.ensures.asks in
    let only = pipe_only (command_of (map string_bytes c.args.words.now.items)) w.0 in
    λ e. absurd (not_both e only.0)

pub returns-clause-reads : goal.returns-clause-reads
returns-clause-reads g c =
    let state = g.W.World.state in
    let name = log_name (map string_bytes c.args.words.now.items) in
    let w = rw c.in-Ok-Pipe.field-0-is at c.in-Ok-Pipe.ensures.asks in
    let q = rw w.1 at c.pipe-outcome.ensures in
    let p = rw w.2 at q in
    reported_reads g.W.In.Source.reads g.W.In.Source.taken g.W.In.Source.left g.W.In.Source.faults (log_limit (map string_bytes c.args.words.now.items)) c.pipe-outcome.result.1
    (g.W.World.next_source c.args.world.now) (g.W.World.kept_source c.pipe-outcome.new.world) (g.W.World.kept_source c.report-2.new.world)
    (state c.args.world.now) (state c.pipe-outcome.new.world) (state c.report-2.new.world) name c.report-2.ensures.kept_sources
    (same_but c.pipe-outcome.result.0 (state c.pipe-outcome.new.world) (state c.report-2.new.world) c.report-2.ensures.warned) p.reads
