-- What is looked at to judge the replies of a transcript.
use Rattle.std.specs.Prelude.{◌≡◌, ℕ, ◌<◌, false, length, take, get_or}
use Rattle.std.specs.List.{AllByRecursion}
use Rattle.demi_served.specs.Talks.{Run}
use Rattle.demi_audit.specs.Book.{IsBook}
use Rattle.demi_audit.specs.Hearing.{StandsIn, replies_by, reply_by}
use Rattle.demi_audit.specs.Turns.{is_in_turn}
use Rattle.demi_audit.specs.declared.heard.HeardReply.{HeardReply}
use Rattle.demi_audit.specs.declared.judging.Case.{Case}

-- It is that of a session: its log, and the replies that were heard of it.
pub record IsCase (c : Case) (run : Run) : Type 0 where
  pub book : IsBook c.book run
  pub inside : AllByRecursion (StandsIn (length c.text.now)) c.heard.items
  pub count : length c.turns.items ≡ length c.heard.items
  pub turns : (i : ℕ) (d : HeardReply) → i < length c.heard.items
      → get_or c.turns.items i false ≡ is_in_turn (replies_by c.text.now c.heard.items) (replies_by c.text.now (take i c.heard.items)) (reply_by c.text.now (get_or c.heard.items i d))
