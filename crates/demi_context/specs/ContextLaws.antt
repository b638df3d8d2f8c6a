-- By calls of one name, what links of other names have is left as it is.
use Rattle.std.specs.Prelude.{◌≡◌, ◌≢◌, ℕ, ◌+◌, ◌*◌, refl, length}
use Rattle.std.proofs.Common.{◌∙◌, ap}
use Rattle.demi_served.proofs.Beside.{beside_none, beside_on}
use Rattle.demi_link.specs.Sights.{LeavesBe, Sight, worker_of}
use Rattle.demi_context.specs.ContextPorts.{Whole}
use Rattle.demi_context.specs.ContextSights.{ContextValue, Goes, ports_of, sight_of}

pub leaves_self : (link : ℕ) (s : Sight) → LeavesBe link s s
leaves_self link s = record { heap = refl; base = refl; number = refl; worker = beside_none link (worker_of s); keeps = λ k. k; rx = refl; tx = refl; out = refl; due = refl }

pub leaves_on : (link : ℕ) (a b c : Sight) → LeavesBe link a b → LeavesBe link b c → LeavesBe link a c
leaves_on link a b c first second = record {
  heap = second.heap ∙ first.heap;
  base = second.base ∙ first.base;
  number = second.number ∙ first.number;
  worker = beside_on link (worker_of a) (worker_of b) (worker_of c) first.worker second.worker;
  keeps = λ k. second.keeps (first.keeps k);
  rx = second.rx ∙ first.rx;
  tx = second.tx ∙ first.tx;
  out = second.out ∙ first.out;
  due = second.due ∙ first.due;
}

pub goes_self : (n : ℕ) (c : ContextValue) → Goes n c c
goes_self n c = record { demi = refl; number = refl; memory = refl; others = λ link other. leaves_self link (sight_of c link) }

pub goes_on : (n : ℕ) (a b c : ContextValue) → Goes n a b → Goes n b c → Goes n a c
goes_on n a b c first second = record {
  demi = second.demi ∙ first.demi;
  number = second.number ∙ first.number;
  memory = second.memory ∙ first.memory;
  others = λ link other. leaves_on link (sight_of a link) (sight_of b link) (sight_of c link) (first.others link other) (second.others link other);
}

pub goes_ports : (n : ℕ) (a b : ContextValue) → Goes n a b → ports_of b ≡ ports_of a
goes_ports n a b g = ap (λ (d : Whole). 3 + 2 * length d.rx) g.demi

pub goes_beside : (n : ℕ) (a b : ContextValue) → Goes n a b → (link : ℕ) → n ≢ link → LeavesBe link (sight_of a link) (sight_of b link)
goes_beside n a b g = g.others
