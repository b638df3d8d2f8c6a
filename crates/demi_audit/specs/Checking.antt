-- What a check of a transcript answers.
use Rattle.std.specs.Prelude.{◌≡◌, ℕ, ◌<◌, Bool, false, List, length, get_or, Option, Some, None, Ok, Err}
use Rattle.std.specs.List.{list_any}
use Rattle.demi_spec.specs.Reply as spoken
use Rattle.demi_served.specs.Talks.{Run}
use Rattle.demi_served.specs.Served.{stored_as}
use Rattle.demi_audit.specs.declared.checking.CheckRefusal.{CheckRefusal}
use Rattle.demi_audit.specs.declared.checking.CheckRefusal.TheVariants.{BadTranscript, Reply, Entry, NoMemory}
use Rattle.demi_audit.specs.Transcript.{transcript}
use Rattle.demi_audit.specs.Verdict.{Fault, ReplyAt, EntryAt, Heard, HeardAll, first_fault, said}

-- a reply that was found, or else what is found later
abbrev pub reply_fault : Option (ℕ × ℕ) → Option Fault → Option Fault
reply_fault None later = later
reply_fault (Some place) later = Some (ReplyAt place.0 place.1)

-- the versions that stored replies name are marked
abbrev pub MarksStored : List Bool → List spoken.Reply → Type 0
MarksStored marks replies = (v : ℕ) → v < length marks → get_or marks v false ≡ list_any (stored_as v) replies

-- The text is a transcript, and this is the first fault of its session, if any. What was heard of it is determined.
pub record HasFault (text : List ℕ) (fault : Option Fault) : Type 0 where
  pub run : Run
  pub read : transcript text ≡ Ok run
  pub heard : List Heard
  pub of : HeardAll run.links heard
  pub only : (other : List Heard) → HeardAll run.links other → other ≡ heard
  pub is : first_fault run heard ≡ fault

-- a transcript of so many links, with so many replies at the front of their outputs, and so many records
pub record Counts (text : List ℕ) (links replies records : ℕ) : Type 0 where
  pub run : Run
  pub read : transcript text ≡ Ok run
  pub heard : List Heard
  pub of : HeardAll run.links heard
  pub links_are : links ≡ length run.links
  pub replies_are : replies ≡ length (said heard)
  pub records_are : records ≡ length run.records

-- a refusal names this fault
abbrev pub Says : CheckRefusal → Option Fault → Type 0
Says (BadTranscript at) fault = ⊥
Says (Reply link index) fault = fault ≡ Some (ReplyAt link index)
Says (Entry version) fault = fault ≡ Some (EntryAt version)
Says NoMemory fault = Unit {0}

-- why a text is refused
abbrev pub Refuses : List ℕ → CheckRefusal → Type 0
Refuses text (BadTranscript at) = transcript text ≡ Err at
Refuses text (Reply link index) = HasFault text (Some (ReplyAt link index))
Refuses text (Entry version) = HasFault text (Some (EntryAt version))
Refuses text NoMemory = Unit {0}
