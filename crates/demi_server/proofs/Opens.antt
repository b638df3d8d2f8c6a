-- How a log is opened as a store, or is not.
use Rattle.std.proofs.Common.{◌≡◌, ◌≢◌, ℕ, zero, suc, ◌+◌, ◌<◌, ◌≤◌, List, [], ◌∷◌, length, map, Bool, true, false, Option, Some, None, IfSome, refl, ap, sym, ◌∙◌, arith, subst, inl, inr}
use Rattle.std.specs.Prelude.{Ok, Err, ◌==◌, if◌then◌else◌}
use Rattle.std.proofs.lemmas.Bool.Decides.{nat_tests}
use Rattle.std.specs.Io.KnownBytes.{append_known}
use Rattle.demi_core.specs.Outside.{Rose}
use Rattle.demi_core.specs.World.{Log}
use Rattle.demi_logq.specs.Logged.{Holds, Opened, StandsAs, LeftAs, ends_from, end_of, place_of}
use Rattle.demi_logq.specs.declared.refusal.LogRefusal.{LogRefusal}
use Rattle.demi_logq.specs.declared.refusal.LogRefusal.TheVariants as refusal
use Rattle.demi_logq.proofs.Entry.{place_next, end_part}
use Rattle.demi_logq.proofs.Holding.{end_is}
use Rattle.demi_spec.specs.LogText.{header, entries}
use Rattle.demi_spec.specs.Record.{Record, payload, records, records_in}
use Rattle.demi_store.specs.Openings.{BeginsEntry}
use Rattle.demi_server.specs.Logs.{HadRecords, HeadedInPart, IsBad, Unmade, contents, contents_of, opened_log, refused_as}
use Rattle.demi_server.proofs.Growth.{front_grown}

-- a log at a moment
abbrev pub at_moment : Option (List ℕ) → ℕ → ℕ → Log
at_moment bytes held faults = record { held = held; bytes = bytes; faults = faults }

-- and it is as it was, or has its header
headed_part : (b : Bool) (log kept : Log) → (b ≡ true → log.held ≡ 0) → contents_of kept ≡ contents (if b then append_known log.bytes header else log.bytes) (if b then 8 else log.held) → HeadedInPart log kept
headed_part false log kept empty same = inl same
headed_part true log kept empty same =
    let none : log.held ≡ 0 = empty refl in
    inr (none, (8, same ∙ ap (λ n. contents (append_known log.bytes header) (n + 8)) (sym none)))

pub opened_part : (log kept : Log) → contents_of kept ≡ contents_of (opened_log log) → HeadedInPart log kept
opened_part log kept same = headed_part (log.held == 0) log kept (λ e. let f = e in grind (arith, nat_tests)) same

-- a log that is just its header has no entry
pub none_held : (payloads : List (List ℕ)) → end_of payloads ≡ 8 → payloads ≡ []
none_held [] e = refl
none_held (p ∷ payloads) e =
    let some : 0 < length (p ∷ payloads) = omega arith in
    let next : end_of (p ∷ []) ≡ 8 + (4 + length p) = place_next (p ∷ payloads) 0 some in
    let within : end_of (p ∷ []) ≤ end_of (p ∷ payloads) = end_part (p ∷ payloads) 1 in
    absurd (omega (arith, next, within, e))

no_ends : (b0 b1 : Option (List ℕ)) (h0 h1 : ℕ) (ends : List ℕ) → h0 ≡ 0 → Opened b0 b1 h1 ends → StandsAs b0 b1 h0 h1 → ends ≡ []
no_ends b0 b1 h0 h1 ends empty o stands =
    o.holds.places ∙ ap (ends_from 8) (none_held o.payloads (sym o.whole ∙ (stands.1 empty).1))

pub none_of : (rs : List Record) → length rs ≡ 0 → rs ≡ []
none_of [] e = refl
none_of (r ∷ rs) e = absurd (omega arith)

no_bytes : (b : List ℕ) → length b ≡ 0 → b ≡ []
no_bytes [] e = refl
no_bytes (x ∷ b) e = absurd (omega arith)

-- an empty log has no records
pub read_none : (told : Option (List ℕ)) (rs : List Record) → IfSome told (λ b. length b ≡ 0) → rs ≡ [] → IfSome told (λ b. records b ≡ Ok rs)
unfolding entries
read_none None rs long none = tt
read_none (Some b) rs long none = ap records (no_bytes b long) ∙ ap Ok (sym none)

-- what was read is what was there
pub had_records : (b0 b1 b2 : Option (List ℕ)) (h0 h1 faults : ℕ) (ends ends' : List ℕ) (rs : List Record) → IfSome b0 (λ b. length b ≡ h0) → Opened b0 b1 h1 ends → StandsAs b0 b1 h0 h1
    → IfSome b1 (λ b. records b ≡ Ok rs) → length rs ≡ length ends → ends' ≡ ends → Holds b2 ends' (map payload rs) → HadRecords (at_moment b0 h0 faults) rs
had_records b0 b1 b2 zero h1 faults ends ends' rs long o stands read count same holds =
    let none : rs ≡ [] = none_of rs (count ∙ ap (λ (l : List ℕ). length l) (no_ends b0 b1 zero h1 ends refl o stands)) in
    record { read = read_none b0 rs long none; size = inl (refl, none) }
had_records b0 b1 b2 (suc n) h1 faults ends ends' rs long o stands read count same holds =
    let is = stands.0 (omega arith) in
    let end : place_of ends (length ends) ≡ end_of (map payload rs) = ap (λ (l : List ℕ). place_of l (length l)) (sym same) ∙ end_is b2 ends' (map payload rs) holds in
    record {
      read = subst (λ (b : Option (List ℕ)). IfSome b (λ t. records t ≡ Ok rs)) is.0 read;
      size = inr (sym is.1 ∙ o.whole ∙ sym (end_is b1 ends o.payloads o.holds) ∙ end);
    }

stands_by : (t : Bool) (b0 b1 : Option (List ℕ)) (h0 h1 : ℕ) → (t ≡ true → h0 ≡ 0) → (t ≡ false → 0 < h0) → StandsAs b0 b1 h0 h1
    → contents b1 h1 ≡ contents (if t then append_known b0 header else b0) (if t then 8 else h0)
stands_by true b0 b1 h0 h1 none some stands = let is = stands.1 (none refl) in ap (λ (b : Option (List ℕ)). contents b h1) is.0 ∙ ap (contents (append_known b0 header)) is.1
stands_by false b0 b1 h0 h1 none some stands = let is = stands.0 (some refl) in ap (λ (b : Option (List ℕ)). contents b h1) is.0 ∙ ap (contents b0) is.1

pub stands_opened : (b0 b1 : Option (List ℕ)) (h0 h1 faults : ℕ) → StandsAs b0 b1 h0 h1 → contents b1 h1 ≡ contents_of (opened_log (at_moment b0 h0 faults))
stands_opened b0 b1 h0 h1 faults stands = stands_by (h0 == 0) b0 b1 h0 h1 (λ e. let f = e in grind (arith, nat_tests)) (λ e. let f = e in grind (arith, nat_tests)) stands

-- the same where no bytes have changed since
pub stands_still : (b0 b1 b2 : Option (List ℕ)) (h0 h1 h2 faults : ℕ) → StandsAs b0 b1 h0 h1 → b2 ≡ b1 → h2 ≡ h1 → contents b2 h2 ≡ contents_of (opened_log (at_moment b0 h0 faults))
stands_still b0 b1 b2 h0 h1 h2 faults stands bytes held = ap (λ (b : Option (List ℕ)). contents b h2) bytes ∙ ap (contents b1) held ∙ stands_opened b0 b1 h0 h1 faults stands

pub left_part : (b0 b1 : Option (List ℕ)) (h0 h1 f0 f1 : ℕ) → LeftAs b0 b1 h0 h1 → HeadedInPart (at_moment b0 h0 f0) (at_moment b1 h1 f1)
left_part b0 b1 h0 h1 f0 f1 (inl same) = inl (ap (λ (b : Option (List ℕ)). contents b h1) same.0 ∙ ap (contents b0) same.1)
left_part b0 b1 h0 h1 f0 f1 (inr part) = inr (part.0, front_grown b0 b1 h0 h1 header part.1)

pub left_same : (b0 b1 : Option (List ℕ)) (h0 h1 : ℕ) → 0 < h0 → LeftAs b0 b1 h0 h1 → contents b1 h1 ≡ contents b0 h0
left_same b0 b1 h0 h1 some (inl same) = ap (λ (b : Option (List ℕ)). contents b h1) same.0 ∙ ap (contents b0) same.1
left_same b0 b1 h0 h1 some (inr part) = absurd (let e = part.0 in omega arith)

pub bad_entries : (told : Option (List ℕ)) (at : ℕ) → IfSome told (λ b. entries b ≡ Err at) → IfSome told (λ b. records b ≡ Err at)
bad_entries None at bad = tt
bad_entries (Some b) at bad = ap records_in bad

-- no log was made of the disk
pub not_made : (r : LogRefusal) (b0 b1 : Option (List ℕ)) (h0 h1 f0 f1 : ℕ) → ((at : ℕ) → r ≡ refusal.BadLog at → IfSome b0 (λ b. entries b ≡ Err at)) → ((at : ℕ) → r ≡ refusal.BadLog at → at < h0)
    → LeftAs b0 b1 h0 h1 → (r ≢ refusal.Full) × (r ≢ refusal.Broken) → (r ≡ refusal.Failed → Rose f0 f1) → Unmade (refused_as r) (at_moment b0 h0 f0) (at_moment b1 h1 f1)
not_made (refusal.BadLog at) b0 b1 h0 h1 f0 f1 bad place left other rose =
    let less : at < h0 = place at refl in
    (bad_entries b0 at (bad at refl), (λ e. omega arith), left_same b0 b1 h0 h1 (omega arith) left)
not_made refusal.NoMemory b0 b1 h0 h1 f0 f1 bad place left other rose = left_part b0 b1 h0 h1 f0 f1 left
not_made refusal.Failed b0 b1 h0 h1 f0 f1 bad place left other rose = (rose refl, left_part b0 b1 h0 h1 f0 f1 left)
not_made refusal.Full b0 b1 h0 h1 f0 f1 bad place left other rose = absurd (other.0 refl)
not_made refusal.Broken b0 b1 h0 h1 f0 f1 bad place left other rose = absurd (other.1 refl)

-- an entry is no record
pub bad_record : (b0 b1 b2 : Option (List ℕ)) (h0 h1 h2 f0 f2 : ℕ) (ends : List ℕ) (at : ℕ) → Opened b0 b1 h1 ends → StandsAs b0 b1 h0 h1 → b2 ≡ b1 → h2 ≡ h1 → IfSome b1 (λ b. records b ≡ Err at) → BeginsEntry ends at
    → IsBad (at_moment b0 h0 f0) (at_moment b2 h2 f2) at
bad_record b0 b1 b2 zero h1 h2 f0 f2 ends at o stands bytes held bad begins =
    let less : begins.0 < length ends = begins.1 in
    absurd (let none : length ends ≡ 0 = ap (λ (l : List ℕ). length l) (no_ends b0 b1 zero h1 ends refl o stands) in omega (arith, less, none))
bad_record b0 b1 b2 (suc n) h1 h2 f0 f2 ends at o stands bytes held bad begins =
    let is = stands.0 (omega arith) in
    (subst (λ (b : Option (List ℕ)). IfSome b (λ t. records t ≡ Err at)) is.0 bad, (λ e. omega arith), ap (λ (b : Option (List ℕ)). contents b h2) (bytes ∙ is.0) ∙ ap (contents b0) (held ∙ is.1))

-- a log was made, and no store over it
pub not_opened : (r : LogRefusal) (b0 b1 b2 : Option (List ℕ)) (h0 h1 h2 f0 f1 f2 : ℕ) (ends : List ℕ) → Opened b0 b1 h1 ends → StandsAs b0 b1 h0 h1 → b2 ≡ b1 → h2 ≡ h1 → f0 ≤ f1
    → ((at : ℕ) → r ≡ refusal.BadLog at → IfSome b1 (λ b. records b ≡ Err at)) → ((at : ℕ) → r ≡ refusal.BadLog at → BeginsEntry ends at)
    → (r ≢ refusal.Full) × (r ≢ refusal.Broken) → (r ≡ refusal.Failed → Rose f1 f2) → Unmade (refused_as r) (at_moment b0 h0 f0) (at_moment b2 h2 f2)
not_opened (refusal.BadLog at) b0 b1 b2 h0 h1 h2 f0 f1 f2 ends o stands bytes held later bad place other rose = bad_record b0 b1 b2 h0 h1 h2 f0 f2 ends at o stands bytes held (bad at refl) (place at refl)
not_opened refusal.NoMemory b0 b1 b2 h0 h1 h2 f0 f1 f2 ends o stands bytes held later bad place other rose =
    opened_part (at_moment b0 h0 f0) (at_moment b2 h2 f2) (stands_still b0 b1 b2 h0 h1 h2 f0 stands bytes held)
not_opened refusal.Failed b0 b1 b2 h0 h1 h2 f0 f1 f2 ends o stands bytes held later bad place other rose =
    let more = rose refl in
    (omega arith, opened_part (at_moment b0 h0 f0) (at_moment b2 h2 f2) (stands_still b0 b1 b2 h0 h1 h2 f0 stands bytes held))
not_opened refusal.Full b0 b1 b2 h0 h1 h2 f0 f1 f2 ends o stands bytes held later bad place other rose = absurd (other.0 refl)
not_opened refusal.Broken b0 b1 b2 h0 h1 h2 f0 f1 f2 ends o stands bytes held later bad place other rose = absurd (other.1 refl)
