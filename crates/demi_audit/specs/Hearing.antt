-- What was heard of a link, and what it stands for.
use Rattle.std.specs.Prelude.{◌≡◌, ◌+◌, ◌≤◌, ℕ, nat_lt, List, [], ◌∷◌, ◌++◌, length, map, flat_map, take, drop}
use Rattle.std.specs.List.{AllByRecursion}
use Rattle.demi_spec.specs.Reply as spoken
use Rattle.demi_spec.specs.Reply.{Answer, Reply, IsReply}
use Rattle.demi_audit.specs.Transcript.{part}
use Rattle.demi_audit.specs.Verdict.{Heard, NoReply}
use Rattle.demi_audit.specs.declared.heard.AnswerKind.{AnswerKind}
use Rattle.demi_audit.specs.declared.heard.AnswerKind.TheVariants as kind
use Rattle.demi_audit.specs.declared.heard.HeardReply.{HeardReply}
use Rattle.demi_audit.specs.declared.hearing.LinkHeard.{LinkHeard}

-- the answer of this kind, with this version and these bytes
abbrev pub answer_by : AnswerKind → ℕ → List ℕ → Answer
answer_by kind.Stored version bytes = spoken.Stored version bytes
answer_by kind.Found version bytes = spoken.Found version bytes
answer_by kind.Missing version bytes = spoken.Missing version
answer_by kind.Full version bytes = spoken.Full version
answer_by (kind.Refused code) version bytes = spoken.Refused code
answer_by kind.Bye version bytes = spoken.Bye

-- the reply whose bytes stand in this text
abbrev pub reply_by : List ℕ → HeardReply → Reply
reply_by text r = record { worker = r.worker; sequence = r.sequence; answer = answer_by r.kind r.version (take r.length (drop r.from text)) }

abbrev pub replies_by : List ℕ → List HeardReply → List Reply
replies_by text heard = map (reply_by text) heard

-- what stands where there is no reply
abbrev pub no_reply : HeardReply
no_reply = record { worker = 0; sequence = 0; kind = kind.Stored; version = 0; from = 0; length = 0 }

-- the version that an answer of this kind names, or 0
abbrev pub height : AnswerKind → ℕ → ℕ
height kind.Stored version = version
height kind.Found version = version
height kind.Missing version = version
height kind.Full version = version
height (kind.Refused code) version = 0
height kind.Bye version = 0

-- the bytes of a reply stand inside a text of this length
abbrev pub StandsIn : ℕ → HeardReply → Type 0
StandsIn size r = r.from + r.length ≤ size

-- These replies were heard of the part of a text that begins there and is so long.
pub record Hears (text : List ℕ) (from size : ℕ) (l : LinkHeard) (heard : List HeardReply) : Type 0 where
  pub rest : List ℕ
  pub count : l.count ≡ length heard
  pub fits : AllByRecursion IsReply (replies_by text heard)
  pub inside : AllByRecursion (StandsIn (length text)) heard
  pub text_is : part text from size ≡ flat_map spoken.spelling (replies_by text heard) ++ rest
  pub none : NoReply rest
  pub more : l.more ≡ nat_lt 0 (length rest)

-- The replies of one link after the other: as many as are counted for each, and whether bytes follow them.
abbrev pub Follows : List ℕ → List HeardReply → List LinkHeard → List Heard → Type 0
Follows text heard [] [] = heard ≡ []
Follows text heard [] (h ∷ all) = ⊥
Follows text heard (l ∷ links) [] = ⊥
Follows text heard (l ∷ links) (h ∷ all) =
    (replies_by text (take l.count heard) ≡ h.talk.replies) × (l.count ≤ length heard) × (l.more ≡ nat_lt 0 (length h.rest))
    × Follows text (drop l.count heard) links all
