-- Variables of a solver, by their numbers, each with a score.
use Rattle.std.specs.Prelude.{ℕ, ◌+◌, List, min, slice_index, slice_set}
use Rattle.giputils_uses.specs.Ranked.{HasGreatestRank}

-- the variables that may be picked, and the score of each variable
pub record Order : Type 0 where
  pub queued : List ℕ
  pub scores : List ℕ

-- v may be picked, and no such variable has a greater score
abbrev pub IsMostActive : Order → ℕ → Type 0
IsMostActive order v = HasGreatestRank order.scores order.queued v

-- the scores with that of v one greater, up to the greatest number of 32 bits
abbrev pub bumped : List ℕ → ℕ → List ℕ
bumped scores v = slice_set scores v (min (slice_index scores v + 1) 4294967295)
