-- What the other links of a worker do is beside a link.
use Rattle.std.proofs.Common.{◌≢◌, ℕ, ◌+◌, ◌≤◌, List, [], ◌∷◌, ◌++◌, length, refl, ◌∙◌, ap, sym, le_refl, le_trans, append_assoc, append-nil}
use Rattle.demi_port_core.specs.Trails.{Behind, NoneBelow}
use Rattle.demi_port_core.specs.declared.trail.Trail.{Trail}
use Rattle.demi_spec.specs.Input.{Asked}
use Rattle.demi_store.specs.declared.ask.StoreAsk.{StoreAsk}
use Rattle.demi_store.specs.declared.op.StoreOp.{StoreOp}
use Rattle.demi_store.specs.declared.told.StoreTold.{StoreTold}
use Rattle.demi_served.specs.Keeps.{Draw, Worker}
use Rattle.demi_served.specs.Steps.{after_draw, after_ask, after_handing, GoesBeside}
use Rattle.demi_served.proofs.Lists.{all_append}

itself : (known : Trail StoreAsk StoreTold) → Behind known known
itself known = record { heard = ([], sym (append-nil known.heard)); told = ([], sym (append-nil known.told), tt); floor = le_refl _ }

pub beside_none : (link : ℕ) (w : Worker) → GoesBeside link w w
beside_none link w = record { submitted = ([], sym (append-nil w.submitted)); draws = ([], sym (append-nil w.draws), tt); known = itself w.known }

none_below_less : (p q : ℕ) (a : List (ℕ × StoreTold)) → p ≤ q → NoneBelow q a → NoneBelow p a
none_below_less p q [] le x = tt
none_below_less p q (t ∷ ts) le x = (le_trans le x.0, none_below_less p q ts le x.1)

none_below_append : (p : ℕ) (a b : List (ℕ × StoreTold)) → NoneBelow p a → NoneBelow p b → NoneBelow p (a ++ b)
none_below_append p [] b x y = y
none_below_append p (t ∷ ts) b x y = (x.0, none_below_append p ts b x.1 y)

behind_more : (w d v : Trail StoreAsk StoreTold) → Behind w d → Behind d v → Behind w v
behind_more w d v a b = record {
  heard = (b.heard.0 ++ a.heard.0, a.heard.1 ∙ ap (λ (l : List StoreAsk). l ++ a.heard.0) b.heard.1 ∙ append_assoc v.heard b.heard.0 a.heard.0);
  told = (
    b.told.0 ++ a.told.0,
    a.told.1 ∙ ap (λ (l : List (ℕ × StoreTold)). l ++ a.told.0) b.told.1 ∙ append_assoc v.told b.told.0 a.told.0,
    none_below_append v.floor b.told.0 a.told.0 b.told.2 (none_below_less v.floor d.floor a.told.0 b.floor a.told.2),
  );
  floor = le_trans b.floor a.floor;
}

pub beside_on : (link : ℕ) (u v w : Worker) → GoesBeside link u v → GoesBeside link v w → GoesBeside link u w
beside_on link u v w a b = record {
  submitted = (a.submitted.0 ++ b.submitted.0, b.submitted.1 ∙ ap (λ (l : List (ℕ × (ℕ × StoreAsk))). l ++ b.submitted.0) a.submitted.1 ∙ append_assoc u.submitted a.submitted.0 b.submitted.0);
  draws = (a.draws.0 ++ b.draws.0, b.draws.1 ∙ ap (λ (l : List Draw). l ++ b.draws.0) a.draws.1 ∙ append_assoc u.draws a.draws.0 b.draws.0, all_append (λ d. d.link ≢ link) a.draws.0 b.draws.0 a.draws.2 b.draws.2);
  known = behind_more w.known v.known u.known b.known a.known;
}

pub beside_drawn : (link other index : ℕ) (w : Worker) (q : Asked) → other ≢ link
    → GoesBeside link w (after_draw w other index q)
beside_drawn link other index w q differ = record { submitted = ([], sym (append-nil w.submitted)); draws = (record { link = other; index = index; request = q } ∷ [], refl, (differ, tt)); known = itself w.known }

pub beside_asked : (link other index : ℕ) (w : Worker) (q : Asked) (op : StoreOp) (p t : ℕ) → other ≢ link
    → GoesBeside link w (after_ask w other index q op p t)
beside_asked link other index w q op p t differ = record { submitted = ((p, (t, record { sequence = length w.draws + 1; op = op })) ∷ [], refl); draws = (record { link = other; index = index; request = q } ∷ [], refl, (differ, tt)); known = itself w.known }

pub beside_handed : (link : ℕ) (w : Worker) (known : Trail StoreAsk StoreTold) → Behind known w.known
    → GoesBeside link w (after_handing w known)
beside_handed link w known h = record { submitted = ([], sym (append-nil w.submitted)); draws = ([], sym (append-nil w.draws), tt); known = h }
