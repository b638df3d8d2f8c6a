-- How the text of a link ends, whether it is known to have ended or not.
use Rattle.std.proofs.Common.{◌≡◌, ℕ, ◌+◌, ◌<◌, Bool, true, false, List, [], ◌∷◌, ◌++◌, Some, None, Option, IfSome, flat_map, length, arith, ◌∙◌, sym, subst, cond, nat_lt, inl, inr, take, drop, append-nil}
use Rattle.std.proofs.lemmas.Bool.Decides.{nat_tests}
use Rattle.std.proofs.lemmas.Bool.{cases_lt}
use Rattle.demi_frame.specs.Reading.{StopsAt}
use Rattle.demi_frame.specs.declared.decoder.Step.{Step}
use Rattle.demi_spec.specs.Request.{AllGoOn, End, Get, Put, Request, spelling}
use Rattle.demi_spec.specs.Input.{Clean, EndFrame, Ends, Parses, Refused, Whole, code_of_head, cut_short, front, front_of_content, head_key, head_kind, head_value, request_of}
use Rattle.demi_spec.proofs.Fronts.{by_head}
use Rattle.demi_spec.proofs.Parsing.{read_on}
use Rattle.demi_streamq.specs.RxKept.{IsEnd, all_bytes}
use Rattle.demi_link.specs.Ends.{IsDone}
use Rattle.demi_link.specs.Fitting.{Fits, IsFinal}
use Rattle.demi_link.specs.Heard.{LastCame}
use Rattle.demi_link.specs.Sights.{Sight}
use Rattle.demi_link.specs.Talks.{DeskValue}
use Rattle.demi_link.specs.declared.phase.Cause.{Cause}
use Rattle.demi_link.specs.declared.phase.Cause.TheVariants as cause
use Rattle.demi_link.specs.declared.phase.Phase.TheVariants.{Over}
use Rattle.demi_closed.specs.TextEnds.{ending_of}

cut_test : (t ended : Bool) (q : Request) (r : List ℕ) → cond t (Ends (cut_short ended)) (Whole q r) ≡ Ends EndFrame → ⊥
cut_test true true q r h = cc
cut_test true false q r h = cc
cut_test false ended q r h = cc

content_goes_on : (ended : Bool) (kind key value : ℕ) (content : List ℕ) (o : Option ℕ) → front_of_content ended kind key value content o ≡ Ends EndFrame → ⊥
content_goes_on ended kind key value content (Some code) h = cc
content_goes_on ended kind key value content None h = cut_test (nat_lt (length content) (key + value)) ended (request_of kind (take key content) (take value (drop key content))) (drop (key + value) content) h

few_go_on : (ended : Bool) (bytes : List ℕ) → length bytes < 6 → front ended bytes ≡ Ends EndFrame → ⊥
unfolding front
few_go_on true bytes less is = grind (arith, nat_tests)
few_go_on false bytes less is = grind (arith, nat_tests)

-- an end frame stands among the requests, and is no way in which what follows them ends
goes_on : (ended : Bool) (bytes : List ℕ) → front ended bytes ≡ Ends EndFrame → ⊥
goes_on ended bytes is = elim (cases_lt (length bytes) 6) [
  | inl less ↦ few_go_on ended bytes less is
  | inr more ↦ content_goes_on ended (head_kind bytes) (head_key bytes) (head_value bytes) (drop 6 bytes) (code_of_head (head_kind bytes) (head_key bytes) (head_value bytes)) (sym (by_head bytes more ended) ∙ is)
]

end_frame_at : (b : Bool) (requests : List Request) (bytes : List ℕ) → Parses requests EndFrame true bytes → Parses requests EndFrame b bytes
end_frame_at b [] bytes p = absurd (goes_on true bytes p)
end_frame_at b (End ∷ requests) bytes p = p
end_frame_at b (Put key value ∷ requests) bytes p = (p.0, (p.1.0, p.1.1, end_frame_at b requests p.1.0 p.1.2))
end_frame_at b (Get key ∷ requests) bytes p = (p.0, (p.1.0, p.1.1, end_frame_at b requests p.1.0 p.1.2))

-- what a decoder refused is refused also where more may come
refused_open : (fed rest : List ℕ) (handed : List Request) (code : ℕ) → fed ≡ flat_map spelling handed ++ rest → AllGoOn handed × (front false rest ≡ Ends (Refused code)) → Parses handed (Refused code) false fed
refused_open fed rest handed code text stops =
    let p : Parses (handed ++ []) (Refused code) false (flat_map spelling handed ++ rest) = read_on handed [] (Refused code) false rest stops.0 stops.1 in
    subst (λ (t : List ℕ). Parses handed (Refused code) false t) (sym text) (subst (λ (l : List Request). Parses l (Refused code) false (flat_map spelling handed ++ rest)) (append-nil handed) p)

module _ (ports : ℕ) (s : Sight) (d : DeskValue) where
  refused_at : (b : Bool) → (LastCame IsEnd d.talk.outs → b ≡ true) → (code : ℕ) → Fits ports s d (Over (cause.Refused code)) → Parses d.talk.handed (Refused code) b (all_bytes d.talk.outs)
  refused_at true came code f = f.agrees.4
  refused_at false came code f =
      elim (subst (λ (r : Option ℕ). IfSome r (λ x. IsFinal x d)) f.agrees.5 f.keeps.final) [
        | inl stop ↦ refused_open (all_bytes d.talk.outs) d.decoder.rest d.talk.handed code f.keeps.read.text (subst (λ (o : Option Step). StopsAt d.talk.handed d.decoder.rest o) stop f.keeps.read.stops)
        | inr last ↦ absurd (let no : false ≡ true = came last in cc)
      ]

  -- what was read ends as the cause says, where the input counts as ended if the link heard its end
  pub ends_at : (b : Bool) → (LastCame IsEnd d.talk.outs → b ≡ true) → (c : Cause) → Fits ports s d (Over c) → IsDone c → Parses d.talk.handed (ending_of c) b (all_bytes d.talk.outs)
  ends_at b came cause.Clean f done = subst (λ (x : Bool). Parses d.talk.handed Clean x (all_bytes d.talk.outs)) (sym (came f.agrees.7)) f.agrees.4
  ends_at b came cause.Bye f done = end_frame_at b d.talk.handed (all_bytes d.talk.outs) f.agrees.4
  ends_at b came (cause.Refused code) f done = refused_at b came code f
  ends_at b came cause.ReadFault f done = absurd done
  ends_at b came cause.WriteFault f done = absurd done
  ends_at b came cause.LogFault f done = absurd done
  ends_at b came cause.NoMemory f done = absurd done
  ends_at b came cause.Lost f done = absurd done
