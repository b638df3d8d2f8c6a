-- What waits in chains, one a queue, whose nodes are of one pool.
use Rattle.std.specs.Prelude.{◌≡◌, ℕ, List, [], ◌∷◌, map, slice_index_or, Option, Some, None}
use Rattle.demi_port_core.specs.History.{Each}
use Rattle.demi_memq.specs.Counting.{beside}

-- the items that wait, each beside its queue, in the order in which they came; how many queues there are, and how many items find room
pub record ChainsValue (X : Type 0) : Type 0 where
  pub items : List (ℕ × X)
  pub queues : ℕ
  pub room : ℕ

-- none of the nodes has an item
abbrev pub AllFree : {X : Type 0} → List (Option X) → Type 0
AllFree nodes = Each (λ o. o ≡ None) nodes

-- none of the lists has a node
abbrev pub AllEmpty : {X : Type 0} → List (List X) → Type 0
AllEmpty lists = Each (λ l. l ≡ []) lists

-- the nodes of each queue have its items in their order
abbrev pub ChainsHold : {X : Type 0} → List (ℕ × X) → List (List (Option X)) → Type 0
ChainsHold items chains = (q : ℕ) → slice_index_or chains q [] ≡ map Some (beside q items)
