-- The log of a transcript, as it is looked at.
use Rattle.std.specs.Prelude.{◌≡◌}
use Rattle.demi_spec.specs.Record.{Record}
use Rattle.demi_served.specs.Talks.{Run}
use Rattle.demi_audit.specs.declared.book.Book.{Book}
use Rattle.demi_audit.specs.declared.book.Entry.{Entry}
use Rattle.demi_audit.specs.Entries.{Logs}
use Rattle.demi_audit.specs.Past.{PastOf}

abbrev pub as_record : Entry → Record
as_record e = record { link = e.link; index = e.index; key = e.key.now; value = e.value.now }

-- It has the records of a session, and knows which of them are old and how many there may be.
pub record IsBook (b : Book) (run : Run) : Type 0 where
  pub log : Logs b.text.now b.ends.items run.records
  pub past : PastOf b.past run.records
  pub old : run.old ≡ b.old
  pub limit : run.limit ≡ b.limit
