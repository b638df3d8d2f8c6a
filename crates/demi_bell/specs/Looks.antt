-- What a contract sees of a patience.
use Rattle.std.specs.Prelude.{ℕ, ◌+◌, nat_le, if◌then◌else◌}

-- whose it is, and how many looks in a row found nothing since the last sleep
pub record Looks : Type 0 where
  pub who : ℕ
  pub vain : ℕ

-- after one more such look; with this many the sleeper listens, and one more puts it to sleep, from which it begins anew
abbrev pub after_one : ℕ → Looks → Looks
after_one most l = record { who = l.who; vain = if nat_le l.vain most then l.vain + 1 else 0 }
