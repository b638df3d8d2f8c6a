-- How a log is opened, or is not, as an outcome of the program.
use Rattle.std.proofs.Common.{◌≡◌, ◌≢◌, ℕ, ◌<◌, ◌≤◌, List, Option, IfSome, refl, arith}
use Rattle.std.specs.Prelude.{Err}
use Rattle.demi_core.specs.Outside.{Rose}
use Rattle.demi_logq.specs.Logged.{Opened, StandsAs, LeftAs}
use Rattle.demi_logq.specs.declared.refusal.LogRefusal.{LogRefusal}
use Rattle.demi_logq.specs.declared.refusal.LogRefusal.TheVariants as refusal
use Rattle.demi_spec.specs.LogText.{entries}
use Rattle.demi_spec.specs.Record.{records}
use Rattle.demi_store.specs.Openings.{BeginsEntry}
use Rattle.demi_server.proofs.Opens.{at_moment, bad_entries, bad_record, left_part, left_same, opened_part, stands_still}
use Rattle.demi_cli.specs.Ended.{Unopened, refused_as}

-- no log was made of the disk
pub not_made : (r : LogRefusal) (b0 b1 : Option (List ℕ)) (h0 h1 f0 f1 : ℕ) → ((at : ℕ) → r ≡ refusal.BadLog at → IfSome b0 (λ b. entries b ≡ Err at)) → ((at : ℕ) → r ≡ refusal.BadLog at → at < h0)
    → LeftAs b0 b1 h0 h1 → (r ≢ refusal.Full) × (r ≢ refusal.Broken) → (r ≡ refusal.Failed → Rose f0 f1) → Unopened (refused_as r) (at_moment b0 h0 f0) (at_moment b1 h1 f1)
not_made (refusal.BadLog at) b0 b1 h0 h1 f0 f1 bad place left other rose =
    let less : at < h0 = place at refl in
    (bad_entries b0 at (bad at refl), (λ e. omega arith), left_same b0 b1 h0 h1 (omega arith) left)
not_made refusal.NoMemory b0 b1 h0 h1 f0 f1 bad place left other rose = left_part b0 b1 h0 h1 f0 f1 left
not_made refusal.Failed b0 b1 h0 h1 f0 f1 bad place left other rose = (rose refl, left_part b0 b1 h0 h1 f0 f1 left)
not_made refusal.Full b0 b1 h0 h1 f0 f1 bad place left other rose = absurd (other.0 refl)
not_made refusal.Broken b0 b1 h0 h1 f0 f1 bad place left other rose = absurd (other.1 refl)

-- a log was made, and no store over it
pub not_opened : (r : LogRefusal) (b0 b1 b2 : Option (List ℕ)) (h0 h1 h2 f0 f1 f2 : ℕ) (ends : List ℕ) → Opened b0 b1 h1 ends → StandsAs b0 b1 h0 h1 → b2 ≡ b1 → h2 ≡ h1 → f0 ≤ f1
    → ((at : ℕ) → r ≡ refusal.BadLog at → IfSome b1 (λ b. records b ≡ Err at)) → ((at : ℕ) → r ≡ refusal.BadLog at → BeginsEntry ends at)
    → (r ≢ refusal.Full) × (r ≢ refusal.Broken) → (r ≡ refusal.Failed → Rose f1 f2) → Unopened (refused_as r) (at_moment b0 h0 f0) (at_moment b2 h2 f2)
not_opened (refusal.BadLog at) b0 b1 b2 h0 h1 h2 f0 f1 f2 ends o stands bytes held later bad place other rose = bad_record b0 b1 b2 h0 h1 h2 f0 f2 ends at o stands bytes held (bad at refl) (place at refl)
not_opened refusal.NoMemory b0 b1 b2 h0 h1 h2 f0 f1 f2 ends o stands bytes held later bad place other rose =
    opened_part (at_moment b0 h0 f0) (at_moment b2 h2 f2) (stands_still b0 b1 b2 h0 h1 h2 f0 stands bytes held)
not_opened refusal.Failed b0 b1 b2 h0 h1 h2 f0 f1 f2 ends o stands bytes held later bad place other rose =
    let more = rose refl in
    (omega arith, opened_part (at_moment b0 h0 f0) (at_moment b2 h2 f2) (stands_still b0 b1 b2 h0 h1 h2 f0 stands bytes held))
not_opened refusal.Full b0 b1 b2 h0 h1 h2 f0 f1 f2 ends o stands bytes held later bad place other rose = absurd (other.0 refl)
not_opened refusal.Broken b0 b1 b2 h0 h1 h2 f0 f1 f2 ends o stands bytes held later bad place other rose = absurd (other.1 refl)
