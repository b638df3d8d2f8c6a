-- What stands at the front of a text of replies: a reply, a front of one, or neither.
use Rattle.std.specs.Prelude.{◌≡◌, ℕ, ◌+◌, ◌<◌, List, [], ◌∷◌, ◌++◌, length, take, drop}
use Rattle.demi_spec.specs.Reply as spoken
use Rattle.demi_spec.specs.Reply.{Answer, Stored, Found, Missing, Refused, Bye, Full, IsReply, spelling}
use Rattle.demi_frame.specs.declared.reply.Reply.{Reply}

-- the kind of an answer, the version in its frame, and the bytes in its frame
abbrev pub kind_of : Answer → ℕ
kind_of (Stored version value) = 0x81
kind_of (Found version value) = 0x82
kind_of (Missing version) = 0x83
kind_of (Refused code) = 0x84
kind_of Bye = 0x85
kind_of (Full version) = 0x86

abbrev pub version_in : Answer → ℕ
version_in (Stored version value) = version
version_in (Found version value) = version
version_in (Missing version) = version
version_in (Refused code) = 0
version_in Bye = 0
version_in (Full version) = version

abbrev pub bytes_in : Answer → List ℕ
bytes_in (Stored version value) = value
bytes_in (Found version value) = value
bytes_in (Missing version) = []
bytes_in (Refused code) = code ∷ []
bytes_in Bye = []
bytes_in (Full version) = []

-- A reply stands at the front of the bytes. These are its fields, the place of its bytes, and how many bytes it has.
pub record ReadsBack (bytes : List ℕ) (said : Reply) (used : ℕ) : Type 0 where
  pub reply : spoken.Reply
  pub rest : List ℕ
  pub text : bytes ≡ spelling reply ++ rest
  pub fits : IsReply reply
  pub kind : said.kind ≡ kind_of reply.answer
  pub worker : said.worker ≡ reply.worker
  pub sequence : said.sequence ≡ reply.sequence
  pub version : said.version ≡ version_in reply.answer
  pub value : take said.length (drop said.from bytes) ≡ bytes_in reply.answer
  pub size : said.length ≡ length (bytes_in reply.answer)
  pub place : said.from ≡ 22
  pub count : used ≡ 22 + said.length

-- a reply begins with the bytes, and has more
pub record BeginsReply (bytes : List ℕ) : Type 0 where
  pub reply : spoken.Reply
  pub more : List ℕ
  pub text : spelling reply ≡ bytes ++ more
  pub fits : IsReply reply
  pub some : 0 < length more

-- the bytes do not begin with a reply, and no reply begins with them
pub record IsNoReply (bytes : List ℕ) : Type 0 where
  pub whole : (r : spoken.Reply) (rest : List ℕ) → IsReply r → bytes ≡ spelling r ++ rest → ⊥
  pub begun : (r : spoken.Reply) (more : List ℕ) → IsReply r → spelling r ≡ bytes ++ more → ⊥
