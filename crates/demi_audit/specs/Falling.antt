-- The greatest version along a link.
use Rattle.std.specs.Prelude.{ℕ, max, List, [], ◌∷◌, Option, Some, None}
use Rattle.demi_spec.specs.Reply.{Reply}
use Rattle.demi_served.specs.Answers.{version_of}

-- the greater of two versions, where there are two
abbrev pub later_of : Option ℕ → Option ℕ → Option ℕ
later_of None b = b
later_of (Some a) None = Some a
later_of (Some a) (Some b) = Some (max a b)

-- the greatest version that replies name
abbrev pub greatest_of : List Reply → Option ℕ
greatest_of [] = None
greatest_of (r ∷ replies) = later_of (version_of r.answer) (greatest_of replies)
