-- Keys by their numbers, each with a rank.
use Rattle.std.specs.Prelude.{ℕ, ◌≤◌, List, IsTrue}
use Rattle.giputils.specs.Comparers.{rank_of}
use Rattle.giputils.specs.Keys.{is_held}

-- k is one of the keys, and none of them has a greater rank
pub record HasGreatestRank (ranks keys : List ℕ) (k : ℕ) : Type 0 where
  pub held : IsTrue (is_held (λ n. n) keys k)
  pub greatest : (other : ℕ) → IsTrue (is_held (λ n. n) keys other) → rank_of ranks other ≤ rank_of ranks k
