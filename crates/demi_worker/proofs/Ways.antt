-- Ways of a context by some names.
use Rattle.std.specs.Prelude.{◌≡◌, ℕ, List, [], ◌∷◌, refl}
use Rattle.std.proofs.Common.{◌∙◌}
use Rattle.demi_port_core.specs.History.{Among, Within}
use Rattle.demi_port_core.proofs.Lists.{each_more}
use Rattle.demi_sched.specs.Going.{GoesWithin}
use Rattle.demi_sched.proofs.Names.{stays_by}

module _ {C : Type 0} (goes : ℕ → C → C → Type 0) where
  pub wider : (xs ys : List ℕ) (a b : C) → Within xs ys → GoesWithin goes xs a b → GoesWithin goes ys a b
  wider xs ys a b w g = (g.0, each_more (λ n. Among n xs) (λ n. Among n ys) g.0 w g.1, g.2)

  pub by_one : (self : (n : ℕ) (a : C) → goes n a a) (names : List ℕ) (n : ℕ) (a b : C) → Among n names → goes n a b → GoesWithin goes names a b
  by_one self names n a b h step = (n ∷ [], (h, tt), (b, step, λ m. self m b))

  pub by_all : (names : List ℕ) (a b : C) → ((n : ℕ) → goes n a b) → GoesWithin goes names a b
  by_all names a b step = ([], tt, step)

  pub same_ports : (ports : C → ℕ) → ((n : ℕ) (a b : C) → goes n a b → ports b ≡ ports a) → (names : List ℕ) (a b : C) → GoesWithin goes names a b → ports b ≡ ports a
  same_ports ports law names a b g = stays_by goes (λ (x : C). ports x ≡ ports a) (λ n x y e step. law n x y step ∙ e) g.0 a b g.2 refl
