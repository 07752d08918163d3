-- A vector as the list of its items.
use Rattle.std.specs.Prelude.{◌≡◌, ℕ, ◌<◌, ◌^◌, ℤ, pos, negsuc, List, [], ◌∷◌, ◌++◌, length, max, All}
use Rattle.std.specs.Borrow.{MutBor}
use Rattle.std.specs.declared.vec.IntoIter.{IntoIter}
use Rattle.std.specs.Vec.Iter.{into_iter_items, into_iter_len, into_iter_steps}
use Rattle.std.specs.Iterator.Runs.{EveryRun, ItemsAre}
use Rattle.std.specs.List.{swap_remove as swap_remove_or}

-- the place that a signed index names, where it is at least 0
abbrev pub place : ℤ → ℕ
place (pos n) = n
place (negsuc n) = 0

-- a signed index is at least 0, and below the length
abbrev pub IsPlace : ℤ → ℕ → Type 0
IsPlace i len = (i ≡ pos (place i)) × (place i < len)

module _ {X : Type 0} where
  -- the list with its last item in the place of item i, and one shorter
  abbrev pub swap_remove : List X → ℕ → List X
  swap_remove [] i = []
  swap_remove (x ∷ xs) i = swap_remove_or (x ∷ xs) i x

  -- new is old, followed by as many defaults as it takes to have `size` items
  pub record FilledTo (is_default : X → Type 0) (size : ℕ) (old new : List X) : Type 0 where
    pub fill : List X
    pub items : new ≡ old ++ fill
    pub len : length new ≡ max (length old) size
    pub defaults : All is_default fill

-- the iterator gives the items of g, in order
abbrev pub Iterates : {X Z : Type 0} → List X → IntoIter X Z → Type 0
Iterates {X} {Z} g it =
    (into_iter_items it ≡ g) × (into_iter_len it ≡ length g) × (into_iter_len it < 2 ^ 64)
    × EveryRun (into_iter_steps {X = X} {Z = Z}) (λ p. ItemsAre p (into_iter_items p.from))

-- a call that is lent the state s answers x, and leaves the state s'
pub record Draws {G X : Type 0} (post : MutBor G → X → MutBor G → Type 0) (s : G) (x : X) (s' : G) : Type 0 where
  pub lent : MutBor G
  pub shows : lent.now ≡ s
  pub left : MutBor G
  pub answers : post lent x left
  pub leaves : left.now ≡ s'
