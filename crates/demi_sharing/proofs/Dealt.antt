-- How numbers are dealt out and taken up, one operation after another.
use Rattle.std.proofs.Common.{◌≡◌, ℕ, ◌+◌, List, [], ◌∷◌, ◌++◌, Bool, true, false, None, Some, inl, length, length-append, refl, arith, ap, sym, subst, ◌∙◌}
use Rattle.demi_port_core.specs.History.{Among}
use Rattle.demi_port_core.specs.declared.place.QToken.{QToken}
use Rattle.demi_memq.specs.Counting.{result_at}
use Rattle.demi_memq.specs.declared.op.MemOp.TheVariants.{Close, Pop, Queue}
use Rattle.demi_memq.specs.declared.out.MemOut.TheVariants.{Closed, Opened, Shut}
use Rattle.demi_pdpix.specs.Kinds.{kind_of}
use Rattle.demi_pdpix.specs.Owing.{due_at, one_more_at}
use Rattle.demi_pdpix.specs.Seen.{IsOf}
use Rattle.demi_pdpix.specs.declared.kind.PortKind.{PortKind}
use Rattle.demi_pdpix.specs.declared.kind.PortKind.TheVariants.{Memory}
use Rattle.demi_link.specs.Sights.{Side, side_of}
use Rattle.demi_context.specs.ContextPorts.{Caller, OwesLess, OwesSame, SameButMemory, Whole, more_at}
use Rattle.demi_context.proofs.ContextOwing.{along}
use Rattle.demi_sharing.proofs.Acts.{acts_none, acts_on}
use Rattle.demi_sharing.proofs.Doing.{does_append}
use Rattle.demi_sharing.proofs.Links.{placed_more, zip_one_more}
use Rattle.demi_sharing.specs.Acting.{Acts, Began, Came, HasBegun, Pops, PopsOne, Pushes}
use Rattle.demi_sharing.specs.Dealing.{DealsOut, Deed, Does, IsPopOf, IsPushOf, MemSide, Shares, TakesUp}
use Rattle.demi_sharing.specs.Setting.{IsSetOut}
use Rattle.demi_sharing.specs.Taking.{TookUp}

pub no_pushes : (c : Caller) → Pushes 0 c c
no_pushes c = record { deeds = []; are = tt; count = refl; acts = acts_none c }

pub pushes_more : (n : ℕ) (a b c : Caller) → Pushes n a b → ((d : Deed) × IsPushOf n d × Acts (d ∷ []) b c) → Pushes (n + 1) a c
pushes_more n a b c p one = record {
  deeds = p.deeds ++ one.0 ∷ [];
  are = let e : n ≡ 0 + length p.deeds = (let m = p.count in omega arith) in placed_more IsPushOf 0 p.deeds one.0 p.are (subst (λ k. IsPushOf k one.0) e one.1);
  count = let long = length-append p.deeds (one.0 ∷ []) in let m = p.count in omega arith;
  acts = acts_on p.deeds (one.0 ∷ []) a b c p.acts one.2;
}

pub no_pops : (c : Caller) → Pops [] c c
no_pops c = record { deeds = []; are = tt; acts = acts_none c }

pub pops_more : (ns : List ℕ) (n : ℕ) (a b c : Caller) → Pops ns a b → PopsOne (Some n) b c → Pops (ns ++ n ∷ []) a c
pops_more ns n a b c p one = record {
  deeds = p.deeds ++ one.0 ∷ [];
  are = zip_one_more IsPopOf ns p.deeds n one.0 p.are one.1;
  acts = acts_on p.deeds (one.0 ∷ []) a b c p.acts one.2;
}

pub takes_up : (ns : List ℕ) (a b c : Caller) → Pops ns a b → PopsOne None b c → TakesUp ns (side_of a.memory) (side_of c.memory)
takes_up ns a b c p last = record {
  pops = p.deeds;
  are = p.are;
  did = does_append p.deeds ((Pop 0, Closed) ∷ []) (side_of a.memory) (side_of b.memory) (side_of c.memory) p.acts.did last.did;
}

-- the queue was asked for first of all, and came
came_first : (token place : ℕ) (b m : Caller) → (side_of b.memory).submitted ≡ (place, (token, Queue)) ∷ [] → Came token (Opened 0) b m
    → Does (Queue, Opened 0) (record (side_of b.memory) { submitted = [] }) (side_of m.memory)
came_first token place b m asked r =
    let there : Among (place, (token, Queue)) (side_of b.memory).submitted = subst (Among (place, (token, Queue))) (sym asked) (inl refl) in
    record {
      place = place;
      token = token;
      submitted = r.submitted ∙ asked;
      grows = r.grows;
      came = subst (λ (k : ℕ). result_at 1024 (side_of m.memory).known.heard k ≡ Some (Opened 0)) (sym (r.own place Queue there)) r.came;
    }

pub deals : (links token place : ℕ) (b m n e : Caller) → (side_of b.memory).submitted ≡ (place, (token, Queue)) ∷ [] → Came token (Opened 0) b m → Pushes links m n
    → Acts ((Close 0, Shut) ∷ []) n e → (p : MemSide) × (p.submitted ≡ []) × DealsOut links p (side_of e.memory)
deals links token place b m n e asked r p s = (
  record (side_of b.memory) { submitted = [] },
  refl,
  record {
    pushes = p.deeds;
    are = p.are;
    many = p.count;
    did = (side_of m.memory, came_first token place b m asked r, does_append p.deeds ((Close 0, Shut) ∷ []) (side_of m.memory) (side_of n.memory) (side_of e.memory) p.acts.did s.did);
  },
)

-- the first worker began
pub began_first : (d : Whole) (number links : ℕ) (t : QToken) (c e : Caller) → IsSetOut d number (Some t) c → IsOf d e
    → ((p : MemSide) × (p.submitted ≡ []) × DealsOut links p (side_of e.memory)) → SameButMemory c e → OwesLess Memory 1 c e → Began d number true links e
began_first d number links t c e was of dealt same owes =
    let kind : kind_of d t.port ≡ Memory = ap (kind_of d) was.memory.0 in
    record {
      memory = dealt;
      store = ap (λ (x : Side _ _). x.submitted) same.0 ∙ was.store;
      rx = λ k. ap (λ (x : Side _ _). x.submitted) (same.1 k) ∙ was.rx k;
      tx = λ k. ap (λ (x : Side _ _). x.submitted) (same.2 k) ∙ was.tx k;
      owes = (of, owes number (due_at d []) (along number (one_more_at (kind_of d t.port) (due_at d [])) (more_at Memory 1 (due_at d [])) c (λ k. ap (λ (here : PortKind). one_more_at here (due_at d []) k) kind) was.owes.1));
    }

-- another did nothing
pub began_other : (d : Whole) (number links : ℕ) (c : Caller) → IsSetOut d number None c → Began d number false links c
began_other d number links c was = record {
  memory = was.memory;
  store = was.store;
  rx = was.rx;
  tx = was.tx;
  owes = was.owes;
}

shares : (first : Bool) (links : ℕ) (ns : List ℕ) (m q : MemSide) → HasBegun first links m → TakesUp ns m q → Shares first links ns q
shares true links ns m q b t = (b.0, m, b.1, b.2, t)
shares false links ns m q b t = (m, b, t)

-- and took up links
pub took_up : (d : Whole) (number : ℕ) (first : Bool) (links : ℕ) (ns : List ℕ) (c e : Caller) → Began d number first links c → IsOf d e
    → TakesUp ns (side_of c.memory) (side_of e.memory) → SameButMemory c e → OwesSame c e → TookUp d number first links ns e
took_up d number first links ns c e b of t same owes = record {
  memory = shares first links ns (side_of c.memory) (side_of e.memory) b.memory t;
  store = ap (λ (x : Side _ _). x.submitted) same.0 ∙ b.store;
  rx = λ k. ap (λ (x : Side _ _). x.submitted) (same.1 k) ∙ b.rx k;
  tx = λ k. ap (λ (x : Side _ _). x.submitted) (same.2 k) ∙ b.tx k;
  owes = (of, owes number (due_at d []) b.owes.1);
}
