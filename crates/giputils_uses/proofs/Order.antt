-- What a caller can show of a heap in order: its laws, and no more. The mutants of this file try to show more: they
-- leave out that a lone key is told to be in order.
use Rattle.std.proofs.Common.{ℕ, Bool, [], ◌∷◌}
use Rattle.giputils_heap.specs.InOrder.{IsInOrder}
use Rattle.giputils_heap.specs.Tree.{IsTree}
use Rattle.giputils_heap.proofs.OrderLaws.{IsInOrder-empty}

-- a heap that holds nothing is in order
no_keys_are_in_order : (R : ℕ → ℕ → Bool) → IsInOrder R []
no_keys_are_in_order R = IsInOrder-empty R

-- a heap of a lone key, which is a tree, is in order where that is told
lone_key_is_in_order : (R : ℕ → ℕ → Bool) → IsTree R (1 ∷ []) → IsInOrder R (1 ∷ []) → IsInOrder R (1 ∷ [])
-- by what is told
lone_key_is_in_order R tree told = told
