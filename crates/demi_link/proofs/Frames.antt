-- What a decoder found, and the codes of refused ends.
use Rattle.std.specs.Prelude.{◌≡◌, ℕ, ◌+◌, ◌≤◌, ◌==◌, nat_lt, cond, Bool, true, false, List, [], ◌∷◌, ◌++◌, Option, Some, None, IfSome, length, drop, refl, take}
use Rattle.std.proofs.Common.{sym, ◌∙◌, ap, arith, subst, append-nil}
use Rattle.demi_frame.specs.Decoding.{Consumes, Decoding, finish_of, next_at, next_of}
use Rattle.demi_frame.specs.Reading.{HasRead, ending_of, handed_out}
use Rattle.demi_frame.specs.declared.decoder.Step.{Step}
use Rattle.demi_frame.specs.declared.decoder.Step.TheVariants as step
use Rattle.demi_frame.proofs.ReadOn.{read_end}
use Rattle.demi_spec.specs.Request.{Request, Put, Get, End, GoesOn, IsRequest}
use Rattle.demi_spec.specs.Input.{Ending, EndFrame, Clean, Refused, Open, Front, Whole, Ends, Parses, Takes, code_of_head, cut_short, front, front_of_content, head_kind, head_key, head_value, request_of}

some_nat : {m n : ℕ} → Some m ≡ Some n → m ≡ n
some_nat e = cc

-- a code from 1 to 5
abbrev pub IsCode : ℕ → Type 0
IsCode code = (1 ≤ code) × (code ≤ 5)

bound : (m code : ℕ) → 1 ≤ m → m ≤ 5 → m ≡ code → IsCode code
bound m code a b e = (omega arith, omega arith)

head_code : (a b c d : Bool) (code : ℕ) → cond a (Some 1) (cond b (Some 2) (cond c (Some 3) (cond d (Some 4) None))) ≡ Some code → IsCode code
head_code true b c d code e = bound 1 code (omega arith) (omega arith) (some_nat e)
head_code false true c d code e = bound 2 code (omega arith) (omega arith) (some_nat e)
head_code false false true d code e = bound 3 code (omega arith) (omega arith) (some_nat e)
head_code false false false true code e = bound 4 code (omega arith) (omega arith) (some_nat e)
head_code false false false false code e = absurd (cc)

refused_is : {m n : ℕ} → Ends (Refused m) ≡ Ends (Refused n) → m ≡ n
refused_is e = cc

cut_code : (ended : Bool) (code : ℕ) → Ends (cut_short ended) ≡ Ends (Refused code) → IsCode code
cut_code true code e = bound 5 code (omega arith) (omega arith) (refused_is e)
cut_code false code e = absurd (cc)

content_code : (ended : Bool) (kind key value : ℕ) (content : List ℕ) (c : Option ℕ) (code : ℕ) → ((n : ℕ) → c ≡ Some n → IsCode n) → front_of_content ended kind key value content c ≡ Ends (Refused code) → IsCode code
content_code ended kind key value content (Some n) code is e = subst IsCode (refused_is e) (is n refl)
content_code ended kind key value content None code is e = go (nat_lt (length content) (key + value)) e
  where
    go : (b : Bool) → cond b (Ends (cut_short ended)) (Whole (request_of kind (take key content) (take value (drop key content))) (drop (key + value) content)) ≡ Ends (Refused code) → IsCode code
    go true e = cut_code ended code e
    go false e = absurd (cc)

front_code : (ended : Bool) (bytes : List ℕ) (code : ℕ) → front ended bytes ≡ Ends (Refused code) → IsCode code
unfolding front
front_code ended bytes code e = go (length bytes == 0) (nat_lt (length bytes) 6) e
  where
    none : (b : Bool) → Ends (cond b Clean Open) ≡ Ends (Refused code) → IsCode code
    none true e = absurd (cc)
    none false e = absurd (cc)

    go : (a b : Bool) → cond a (Ends (cond ended Clean Open)) (cond b (Ends (cut_short ended)) (front_of_content ended (head_kind bytes) (head_key bytes) (head_value bytes) (drop 6 bytes) (code_of_head (head_kind bytes) (head_key bytes) (head_value bytes)))) ≡ Ends (Refused code) → IsCode code
    go true b e = none ended e
    go false true e = cut_code ended code e
    go false false e = content_code ended (head_kind bytes) (head_key bytes) (head_value bytes) (drop 6 bytes) (code_of_head (head_kind bytes) (head_key bytes) (head_value bytes)) code (λ n same. head_code _ _ _ _ n same) e

-- a text that ends refused has a code from 1 to 5
pub parses_code : (requests : List Request) (bytes : List ℕ) (code : ℕ) → Parses requests (Refused code) true bytes → IsCode code
parses_code [] bytes code p = front_code true bytes code p
parses_code (End ∷ requests) bytes code p = absurd (no p.1)
  where
    no : Refused code ≡ EndFrame → ⊥
    no e = absurd (cc)
parses_code (Put key value ∷ requests) bytes code p = parses_code requests p.1.0 code p.1.2
parses_code (Get key ∷ requests) bytes code p = parses_code requests p.1.0 code p.1.2

-- after a frame that is refused
pub read_refused : (d : Decoding) (fed : List ℕ) (handed : List Request) (code : ℕ) → d.stop ≡ Some (step.Refused code) → HasRead fed handed d → Parses handed (Refused code) true fed
read_refused d fed handed code e h = subst (λ (x : Ending). Parses handed x true fed) (ap (λ (s : Option Step). ending_of s (Some code)) e)
    (read_end d fed handed (Some code) (λ none. absurd (no (sym e ∙ none))) (sym (ap (finish_of d) e)) h)
  where
    no : Some (step.Refused code) ≡ None → ⊥
    no x = absurd (cc)

-- after the end frame
pub read_bye : (d : Decoding) (fed : List ℕ) (handed : List Request) → d.stop ≡ Some step.End → HasRead fed handed d → Parses handed EndFrame true fed
read_bye d fed handed e h = subst (λ (x : Ending). Parses handed x true fed) (ap (λ (s : Option Step). ending_of s None) e)
    (read_end d fed handed None (λ none. absurd (no (sym e ∙ none))) (sym (ap (finish_of d) e)) h)
  where
    no : Some step.End ≡ None → ⊥
    no x = absurd (cc)

-- what a call of `next` handed out, where the input had not ended
abbrev pub NextReads : Decoding → Step → Decoding → Type 0
NextReads old found new = (fed : List ℕ) (handed : List Request) → HasRead fed handed old → HasRead fed (handed ++ handed_out old.stop found new.last) new

-- it found no more
pub next_more : (old new : Decoding) (fed : List ℕ) (handed : List Request) → old.stop ≡ None → NextReads old step.More new → HasRead fed handed old → HasRead fed handed new
next_more old new fed handed stop reads h = subst (λ (l : List Request). HasRead fed l new) (ap (λ (s : Option Step). handed ++ handed_out s step.More new.last) stop ∙ append-nil handed) (reads fed handed h)

-- it found the end frame
pub next_end : (old new : Decoding) (fed : List ℕ) (handed : List Request) → old.stop ≡ None → NextReads old step.End new → HasRead fed handed old → HasRead fed (handed ++ End ∷ []) new
next_end old new fed handed stop reads h = subst (λ (l : List Request). HasRead fed l new) (ap (λ (s : Option Step). handed ++ handed_out s step.End new.last) stop) (reads fed handed h)

-- it found a frame that is refused
pub next_refused : (old new : Decoding) (code : ℕ) (fed : List ℕ) (handed : List Request) → old.stop ≡ None → NextReads old (step.Refused code) new → HasRead fed handed old → HasRead fed handed new
next_refused old new code fed handed stop reads h = subst (λ (l : List Request). HasRead fed l new) (ap (λ (s : Option Step). handed ++ handed_out s (step.Refused code) new.last) stop ∙ append-nil handed) (reads fed handed h)

-- the put that was handed out
pub record IsPutOut (old new : Decoding) (fed : List ℕ) (handed : List Request) : Type 0 where
  pub key : List ℕ
  pub value : List ℕ
  pub last : new.last ≡ Some (Put key value)
  pub fits : IsRequest (Put key value)
  pub read : HasRead fed (handed ++ Put key value ∷ []) new
  pub stop : new.stop ≡ None

put_last : (d new : Decoding) (f : Front) → (step.Put, new) ≡ next_at d f → (key : List ℕ) × (value : List ℕ) × (new.last ≡ Some (Put key value))
put_last d new (Whole (Put key value) rest) e = (key, value, ap (λ (x : Step × Decoding). x.1.last) e)
put_last d new (Whole (Get key) rest) e = absurd (no (ap (λ (x : Step × Decoding). x.0) e))
  where
    no : step.Put ≡ step.Get → ⊥
    no x = absurd (cc)
put_last d new (Whole End rest) e = absurd (no (ap (λ (x : Step × Decoding). x.0) e))
  where
    no : step.Put ≡ step.End → ⊥
    no x = absurd (cc)
put_last d new (Ends (Refused code)) e = absurd (no (ap (λ (x : Step × Decoding). x.0) e))
  where
    no : step.Put ≡ step.Refused code → ⊥
    no x = absurd (cc)
put_last d new (Ends EndFrame) e = absurd (no (ap (λ (x : Step × Decoding). x.0) e))
  where
    no : step.Put ≡ step.More → ⊥
    no x = absurd (cc)
put_last d new (Ends Clean) e = absurd (no (ap (λ (x : Step × Decoding). x.0) e))
  where
    no : step.Put ≡ step.More → ⊥
    no x = absurd (cc)
put_last d new (Ends Open) e = absurd (no (ap (λ (x : Step × Decoding). x.0) e))
  where
    no : step.Put ≡ step.More → ⊥
    no x = absurd (cc)

get_last : (d new : Decoding) (f : Front) → (step.Get, new) ≡ next_at d f → (key : List ℕ) × (new.last ≡ Some (Get key))
get_last d new (Whole (Get key) rest) e = (key, ap (λ (x : Step × Decoding). x.1.last) e)
get_last d new (Whole (Put key value) rest) e = absurd (no (ap (λ (x : Step × Decoding). x.0) e))
  where
    no : step.Get ≡ step.Put → ⊥
    no x = absurd (cc)
get_last d new (Whole End rest) e = absurd (no (ap (λ (x : Step × Decoding). x.0) e))
  where
    no : step.Get ≡ step.End → ⊥
    no x = absurd (cc)
get_last d new (Ends (Refused code)) e = absurd (no (ap (λ (x : Step × Decoding). x.0) e))
  where
    no : step.Get ≡ step.Refused code → ⊥
    no x = absurd (cc)
get_last d new (Ends EndFrame) e = absurd (no (ap (λ (x : Step × Decoding). x.0) e))
  where
    no : step.Get ≡ step.More → ⊥
    no x = absurd (cc)
get_last d new (Ends Clean) e = absurd (no (ap (λ (x : Step × Decoding). x.0) e))
  where
    no : step.Get ≡ step.More → ⊥
    no x = absurd (cc)
get_last d new (Ends Open) e = absurd (no (ap (λ (x : Step × Decoding). x.0) e))
  where
    no : step.Get ≡ step.More → ⊥
    no x = absurd (cc)

pub next_put : (old new : Decoding) (fed : List ℕ) (handed : List Request) → old.stop ≡ None → (step.Put, new) ≡ next_of old old.stop → Consumes old.rest new step.Put → NextReads old step.Put new → HasRead fed handed old → IsPutOut old new fed handed
next_put old new fed handed stop is consumes reads h =
    let out = put_last old new (front false old.rest) (is ∙ ap (next_of old) stop) in
    record {
      key = out.0;
      value = out.1;
      last = out.2;
      fits = (subst (λ (o : Option Request). IfSome o (λ r. GoesOn r)) out.2 (going new.last consumes.0));
      read = subst (λ (l : List Request). HasRead fed l new) (ap (λ (s : Option Step). handed ++ handed_out s step.Put new.last) stop ∙ ap (λ (o : Option Request). handed ++ handed_out None step.Put o) out.2) (reads fed handed h);
      stop = consumes.2;
    }
  where
    going : (o : Option Request) → IfSome o (λ r. Takes old.rest r new.rest × GoesOn r) → IfSome o (λ r. GoesOn r)
    going None g = tt
    going (Some r) g = g.1

-- the get that was handed out
pub record IsGetOut (old new : Decoding) (fed : List ℕ) (handed : List Request) : Type 0 where
  pub key : List ℕ
  pub last : new.last ≡ Some (Get key)
  pub fits : IsRequest (Get key)
  pub read : HasRead fed (handed ++ Get key ∷ []) new
  pub stop : new.stop ≡ None

pub next_get : (old new : Decoding) (fed : List ℕ) (handed : List Request) → old.stop ≡ None → (step.Get, new) ≡ next_of old old.stop → Consumes old.rest new step.Get → NextReads old step.Get new → HasRead fed handed old → IsGetOut old new fed handed
next_get old new fed handed stop is consumes reads h =
    let out = get_last old new (front false old.rest) (is ∙ ap (next_of old) stop) in
    record {
      key = out.0;
      last = out.1;
      fits = (subst (λ (o : Option Request). IfSome o (λ r. GoesOn r)) out.1 (going new.last consumes.0));
      read = subst (λ (l : List Request). HasRead fed l new) (ap (λ (s : Option Step). handed ++ handed_out s step.Get new.last) stop ∙ ap (λ (o : Option Request). handed ++ handed_out None step.Get o) out.1) (reads fed handed h);
      stop = consumes.2;
    }
  where
    going : (o : Option Request) → IfSome o (λ r. Takes old.rest r new.rest × GoesOn r) → IfSome o (λ r. GoesOn r)
    going None g = tt
    going (Some r) g = g.1
