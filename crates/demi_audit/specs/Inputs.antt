-- An input in memory, whose requests are handed out one after another.
use Rattle.std.specs.Prelude.{◌≡◌, ℕ, ◌≤◌, true, List, ◌++◌, length, drop, Some, None}
use Rattle.demi_spec.specs.Request.{Request, Put, Get, End, GoesOn}
use Rattle.demi_spec.specs.Input.{Clean, Refused, Ends, Takes, front}
use Rattle.demi_audit.specs.declared.input_reader.InputReader.{InputReader}
use Rattle.demi_audit.specs.declared.input_reader.Next.{Next}
use Rattle.demi_audit.specs.declared.input_reader.Next.TheVariants as next

-- the bytes that were not handed out: those that wait in the decoder, and those that it was not fed
abbrev pub left : InputReader → List ℕ
left r = r.decoder.rest ++ drop r.fed r.input.now

-- a reader that may be asked for what stands next
pub record IsReader (r : InputReader) : Type 0 where
  pub stop : r.decoder.stop ≡ None
  pub within : r.fed ≤ length r.input.now

-- a put or a get was handed out that stood at the front of what was left
pub record HandsOut (old new : InputReader) (request : Request) : Type 0 where
  pub takes : Takes (left old) request (left new)
  pub goes_on : GoesOn request
  pub last : new.decoder.last ≡ Some request
  pub reader : IsReader new
  pub input : new.input.now ≡ old.input.now

-- what stood at the front of what was left
abbrev pub IsNext : Next → InputReader → InputReader → Type 0
IsNext next.Put old new = (key value : List ℕ) × HandsOut old new (Put key value)
IsNext next.Get old new = (key : List ℕ) × HandsOut old new (Get key)
IsNext next.End old new = Takes (left old) End (left new)
IsNext (next.Refused code) old new = front true (left old) ≡ Ends (Refused code)
IsNext next.Clean old new = front true (left old) ≡ Ends Clean
