-- Whether the sequence number of a reply is right.
use Rattle.std.specs.Prelude.{◌≡◌, ℕ, zero, suc, ◌+◌, ◌<◌, ◌≤◌, ◌^◌, Bool, false, not, ◌&&◌, ◌==◌, nat_lt, nat_le, max, if◌then◌else◌, List, [], ◌∷◌, length, take, sum, get_or, count_by}
use Rattle.std.specs.List.{list_any}
use Rattle.demi_spec.specs.Reply.{Reply}
use Rattle.demi_served.specs.Served.{same_worker}
use Rattle.demi_audit.specs.Verdict.{repeats, lags}
use Rattle.demi_audit.specs.Hearing.{height}
use Rattle.demi_audit.specs.declared.heard.AnswerKind.{AnswerKind}
use Rattle.demi_audit.specs.declared.heard.AnswerKind.TheVariants as kind
use Rattle.demi_audit.specs.declared.heard.HeardReply.{HeardReply}
use Rattle.demi_audit.specs.declared.places.Places.{Places}

-- It is from 1 to the number of its worker's replies; no earlier reply has the same; and no reply of its worker with a
-- lower number has a greater version.
abbrev pub is_in_turn : List Reply → List Reply → Reply → Bool
is_in_turn all before r =
    nat_lt 0 r.sequence
    && (nat_le r.sequence (count_by (same_worker r) all)
    && (not (list_any (repeats r) before)
    && not (list_any (lags r) all)))

-- how many replies a worker gave
abbrev pub count_of : ℕ → List HeardReply → ℕ
count_of worker heard = count_by (λ r. r.worker == worker) heard

-- whether a reply has this worker and this number
abbrev pub is_number : ℕ → ℕ → HeardReply → Bool
is_number worker sequence r = r.worker == worker && r.sequence == sequence

-- the version of a reply that has this worker and this number, else 0
abbrev pub height_at : ℕ → ℕ → HeardReply → ℕ
height_at worker sequence r = if is_number worker sequence r then height r.kind r.version else 0

-- the greatest version of the replies with this worker and this number
abbrev pub greatest_at : ℕ → ℕ → List HeardReply → ℕ
greatest_at worker sequence [] = 0
greatest_at worker sequence (r ∷ heard) = max (height_at worker sequence r) (greatest_at worker sequence heard)

-- the greatest of so many numbers
abbrev pub most_before : (ℕ → ℕ) → ℕ → ℕ
most_before f zero = 0
most_before f (suc n) = max (most_before f n) (f n)

-- the greatest version of the replies with this worker and a lower number
abbrev pub greatest_below : List HeardReply → ℕ → ℕ → ℕ
greatest_below heard worker sequence = most_before (λ s. greatest_at worker s heard) sequence

-- where a table by worker and number has its place for both: each worker has a place for each of the numbers up to
-- that of its replies, from 0
abbrev pub place_at : Places → ℕ → ℕ → ℕ
place_at p worker sequence = get_or p.starts.items worker 0 + sequence

abbrev pub HasPlace : Places → ℕ → ℕ → Type 0
HasPlace p worker sequence = (worker < 256) × (sequence ≤ get_or p.counts.items worker 0)

-- where each worker's places begin
abbrev pub AreStarts : List ℕ → List ℕ → Type 0
AreStarts counts starts = (w : ℕ) → w < length starts → get_or starts w 0 ≡ w + sum (take w counts)

-- the places for these replies
pub record IsPlacing (p : Places) (heard : List HeardReply) : Type 0 where
  pub workers : length p.counts.items ≡ 256
  pub starts_count : length p.starts.items ≡ 256
  pub counts : (w : ℕ) → w < 256 → get_or p.counts.items w 0 ≡ count_of w heard
  pub total : sum p.counts.items ≡ length heard
  pub fits : length heard + 256 < 2 ^ 64
  pub starts : AreStarts p.counts.items p.starts.items

-- a table has at each place what a function of the worker and the number says
abbrev pub IsTable : {X : Type 0} → Places → (ℕ → ℕ → X) → List X → Type 0
IsTable {X} p f table = (w s : ℕ) (d : X) → HasPlace p w s → get_or table (place_at p w s) d ≡ f w s

-- whether one of these replies has the worker and the number
abbrev pub was_given : List HeardReply → ℕ → ℕ → Bool
was_given heard worker sequence = list_any (is_number worker sequence) heard

-- whether an answer names a version that is below another
abbrev pub is_late : AnswerKind → ℕ → ℕ → Bool
is_late kind.Stored version greatest = nat_lt version greatest
is_late kind.Found version greatest = nat_lt version greatest
is_late kind.Missing version greatest = nat_lt version greatest
is_late kind.Full version greatest = nat_lt version greatest
is_late (kind.Refused code) version greatest = false
is_late kind.Bye version greatest = false

-- whether the number of a reply is right, by the greatest version below it
abbrev pub turn_of : List HeardReply → List HeardReply → HeardReply → Bool
turn_of heard before r =
    nat_lt 0 r.sequence
    && (nat_le r.sequence (count_of r.worker heard)
    && (not (was_given before r.worker r.sequence)
    && not (is_late r.kind r.version (greatest_below heard r.worker r.sequence))))
