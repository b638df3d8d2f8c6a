-- What a decoder has read of an input, in whatever pieces it was fed.
use Rattle.std.specs.Prelude.{◌≡◌, ℕ, false, List, [], ◌∷◌, ◌++◌, flat_map, Option, Some, None}
use Rattle.demi_spec.specs.Request.{Request, End, spelling, AllGoOn}
use Rattle.demi_spec.specs.Input.{Ending, EndFrame, Clean, Refused, Ends, front}
use Rattle.demi_frame.specs.declared.decoder.Step.{Step}
use Rattle.demi_frame.specs.declared.decoder.Step.TheVariants as step
use Rattle.demi_frame.specs.Decoding.{Decoding}

-- Requests were handed out that go on; or the last of them is the end request; or what follows them is refused.
abbrev pub StopsAt : List Request → List ℕ → Option Step → Type 0
StopsAt handed rest None = AllGoOn handed
StopsAt handed rest (Some step.End) = (before : List Request) × (handed ≡ before ++ End ∷ []) × AllGoOn before
StopsAt handed rest (Some (step.Refused code)) = AllGoOn handed × (front false rest ≡ Ends (Refused code))
StopsAt handed rest (Some other) = ⊥

-- These bytes were fed and these requests handed out: their spellings follow each other at the front of the bytes.
pub record HasRead (fed : List ℕ) (handed : List Request) (d : Decoding) : Type 0 where
  pub text : fed ≡ flat_map spelling handed ++ d.rest
  pub stops : StopsAt handed d.rest d.stop

-- what one call of `next` handed out: a put or a get, or the end request where it had not come
abbrev pub handed_out : Option Step → Step → Option Request → List Request
handed_out (Some stop) found last = []
handed_out None step.End last = End ∷ []
handed_out None step.Put (Some request) = request ∷ []
handed_out None step.Get (Some request) = request ∷ []
handed_out None found last = []

-- how the input ends, by the code that `finish` answered
abbrev pub ending_of : Option Step → Option ℕ → Ending
ending_of (Some step.End) code = EndFrame
ending_of stop (Some code) = Refused code
ending_of stop None = Clean
