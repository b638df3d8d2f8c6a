-- What a link notes of its steps.
use Rattle.std.specs.Prelude.{ℕ, ◌++◌, [], ◌∷◌, Option, Some, None}
use Rattle.demi_spec.specs.Request.{Request}
use Rattle.demi_spec.specs.Input.{Request_of}
use Rattle.demi_streamq.specs.declared.rx_out.RxOut.{RxOut}
use Rattle.demi_link.specs.Talks.{TalkValue}

-- the decoder handed out this request, which is at hand
abbrev pub after_found : TalkValue → Option Request → TalkValue
after_found k (Some request) = record k { handed = k.handed ++ request ∷ []; request = Request_of request }
after_found k None = k

-- the pop at this place came to this outcome
abbrev pub after_taken : TalkValue → ℕ → RxOut → TalkValue
after_taken k place outcome = record k { outs = k.outs ++ (place, outcome) ∷ [] }
