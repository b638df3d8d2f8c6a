-- What the store said at a place stays as it is, whatever is asked and told later.
use Rattle.std.proofs.Common.{◌≡◌, ℕ, Bool, true, ◌<◌, List, [], ◌∷◌, ◌++◌, length, arith, ◌∙◌, ap, sym, subst}
use Rattle.std.specs.Prelude.{◌↔◌}
use Rattle.demi_port_core.specs.History.{AllAbove}
use Rattle.demi_port_core.specs.Trails.{NoneBelow, Behind}
use Rattle.demi_port_core.specs.declared.trail.Trail.{Trail}
use Rattle.demi_spec.specs.Reply.{Answer, Stored, Found, Missing, Refused, Bye, Full}
use Rattle.demi_store.specs.History.{Said, Told, struck_at}
use Rattle.demi_store.specs.Laws.{StoreBasis, ValueIs, said_to}
use Rattle.demi_store.specs.Steady.{result_steady, struck_steady}
use Rattle.demi_store.specs.declared.ask.StoreAsk.{StoreAsk}
use Rattle.demi_store.specs.declared.told.StoreTold.{StoreTold}
use Rattle.demi_served.specs.Asking.{IsSaid, IsRepliedAs, IsToldTo}
use Rattle.demi_served.proofs.Lists.{some_is, get_within, get_left}

said_same : (b : StoreBasis) (h more : List StoreAsk) (t later : List (ℕ × StoreTold)) (p : ℕ) (a : StoreAsk)
    → p < length h → AllAbove p later → said_to b (h ++ more) (t ++ later) p a ≡ said_to b h t p a
said_same b h more t later p a less above = result_steady b.limit b.records (struck_at t) (struck_at (t ++ later)) h more p a (omega arith) (λ q few. struck_steady t later p q above few)

-- what was said stays said
pub still_said : (b : StoreBasis) (h more : List StoreAsk) (t later : List (ℕ × StoreTold)) (p : ℕ) (x : Said)
    → AllAbove p later → IsSaid b h t p x → IsSaid b (h ++ more) (t ++ later) p x
still_said b h more t later p x above said = record {
  asked = said.asked;
  here = get_left h more p said.asked said.here;
  result = said_same b h more t later p said.asked (get_within h p said.asked said.here) above ∙ said.result;
}

was_said : (b : StoreBasis) (h more : List StoreAsk) (t later : List (ℕ × StoreTold)) (p : ℕ) (o x : Said)
    → AllAbove p later → IsSaid b h t p o → IsSaid b (h ++ more) (t ++ later) p x → IsSaid b h t p x
was_said b h more t later p o x above was now =
    let same : was.asked ≡ now.asked = some_is (sym (get_left h more p was.asked was.here) ∙ now.here) in
    record {
      asked = was.asked;
      here = was.here;
      result = sym (said_same b h more t later p was.asked (get_within h p was.asked was.here) above)
          ∙ ap (λ (s : StoreAsk). said_to b (h ++ more) (t ++ later) p s) same ∙ now.result;
    }

pub steady : (b : StoreBasis) (h more : List StoreAsk) (t later : List (ℕ × StoreTold)) (p : ℕ) (o x : Said)
    → IsSaid b h t p o → AllAbove p later → (IsSaid b (h ++ more) (t ++ later) p x ↔ IsSaid b h t p x)
steady b h more t later p o x was above = (was_said b h more t later p o x above was, still_said b h more t later p x above)

all_above : (p floor : ℕ) (l : List (ℕ × StoreTold)) → p < floor → NoneBelow floor l → AllAbove p l
all_above p floor [] low h = tt
all_above p floor (t ∷ ts) low h = let k = h.0 in (omega arith, all_above p floor ts low h.1)

-- what a pass knew to be said is said by all that it knows later, and by the closed history
pub grown_said : (b : StoreBasis) (known later : Trail StoreAsk StoreTold) (p : ℕ) (x : Said) → Behind later known
    → p < known.floor → IsSaid b known.heard known.told p x → IsSaid b later.heard later.told p x
grown_said b known later p x grows low said =
    subst (λ (t : List (ℕ × StoreTold)). IsSaid b later.heard t p x) (sym grows.told.1) (subst (λ (h : List StoreAsk). IsSaid b h (known.told ++ grows.told.0) p x) (sym grows.heard.1)
    (still_said b known.heard grows.heard.0 known.told grows.told.0 p x (all_above p known.floor grows.told.0 low grows.told.2) said))

pub closed_said : (b : StoreBasis) (known end : Trail StoreAsk StoreTold) (history : List StoreAsk) (p : ℕ) (x : Said)
    → end.heard ≡ history → Behind end known → p < known.floor → IsSaid b known.heard known.told p x
    → IsSaid b history end.told p x
closed_said b known end history p x all behind low said = subst (λ (h : List StoreAsk). IsSaid b h end.told p x) all (grown_said b known end p x behind low said)

-- the same of what is told
pub grown_told : (b : StoreBasis) (known later : Trail StoreAsk StoreTold) (p : ℕ) (a : Answer) → Behind later known
    → p < known.floor
    → IsToldTo b known.heard known.told p a → IsToldTo b later.heard later.told p a
grown_told b known later p a grows low t = (t.0, grown_said b known later p (Told t.0) grows low t.1, t.2)

pub closed_told : (b : StoreBasis) (known end : Trail StoreAsk StoreTold) (history : List StoreAsk) (p : ℕ)
    (a : Answer) → end.heard ≡ history
    → Behind end known → p < known.floor → IsToldTo b known.heard known.told p a → IsToldTo b history end.told p a
closed_told b known end history p a all behind low t = (t.0, closed_said b known end history p (Told t.0) all behind low t.1, t.2)

-- where the log tells its bytes, what is told is what is said
pub exact : (told : Bool) (said a : Answer) → told ≡ true → IsRepliedAs told said a → said ≡ a
exact told (Found v value) a e r = ap (Found v) (sym (subst (λ c. ValueIs c value r.0) e r.2)) ∙ sym r.1
exact told (Stored v value) a e r = sym r
exact told (Missing v) a e r = sym r
exact told (Full v) a e r = sym r
exact told (Refused code) a e r = sym r
exact told Bye a e r = sym r
