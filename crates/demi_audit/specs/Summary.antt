-- What sums up a bench: the requests of its inputs, and its log.
use Rattle.std.specs.Prelude.{◌≡◌, ℕ, true, false, Bool, List, ◌++◌, length, flat_map, count_by, codes}
use Rattle.std.specs.Fmt.{decimal}
use Rattle.demi_spec.specs.Request.{Request, Put, Get, End, AllGoOn, spelling}
use Rattle.demi_spec.specs.Input.{parse}
use Rattle.demi_audit.specs.declared.summing.Tally.{Tally}

-- the kinds of requests
abbrev pub is_put : Request → Bool
is_put (Put key value) = true
is_put other = false

abbrev pub is_get : Request → Bool
is_get (Get key) = true
is_get other = false

abbrev pub is_end : Request → Bool
is_end End = true
is_end other = false

-- the requests of an input that has ended, and those of several
abbrev pub requests_of : List ℕ → List Request
requests_of input = (parse input true).requests

abbrev pub requests_of_all : List (List ℕ) → List Request
requests_of_all inputs = flat_map requests_of inputs

-- So many of these requests are puts, gets and end frames.
pub record Tallies (requests : List Request) (t : Tally) : Type 0 where
  pub puts : t.puts ≡ count_by is_put requests
  pub gets : t.gets ≡ count_by is_get requests
  pub ends : t.ends ≡ count_by is_end requests

-- Of an input these were counted, and these bytes are left.
pub record CountedTo (input left : List ℕ) (t : Tally) : Type 0 where
  pub requests : List Request
  pub text : input ≡ flat_map spelling requests ++ left
  pub go_on : AllGoOn requests
  pub tallies : Tallies requests t

-- `links L requests R puts P gets G ends E records N log B` and a newline
abbrev pub line_of : ℕ → ℕ → ℕ → ℕ → ℕ → ℕ → ℕ → List ℕ
line_of links requests puts gets ends records size =
    codes "links " ++ decimal links ++ codes " requests " ++ decimal requests ++ codes " puts " ++ decimal puts ++ codes " gets " ++ decimal gets
    ++ codes " ends " ++ decimal ends ++ codes " records " ++ decimal records ++ codes " log " ++ decimal size ++ codes "\n"

-- this line of the inputs of all links, and of a log of so many records and bytes
abbrev pub summary_line : List (List ℕ) → ℕ → ℕ → List ℕ
summary_line inputs records size =
    let all = requests_of_all inputs in
    line_of (length inputs) (length all) (count_by is_put all) (count_by is_get all) (count_by is_end all) records size
