-- The order of variables by their scores: the greater score comes first, and of one score the greater number.
use Rattle.std.specs.Prelude.{ℕ, nat_le, Bool, ◌&&◌, ◌||◌, List, get_or}
use lib.Ieee.{Float, eq, lt, of_bits, binary64}

-- the score of a variable: 0 past the table's end
abbrev pub score_of : List Float → ℕ → Float
score_of scores variable = get_or scores variable (of_bits binary64 0)

-- the greater score comes first, and of one score the greater number
abbrev pub by_score : List Float → ℕ → ℕ → Bool
by_score scores s o =
    lt (score_of scores o) (score_of scores s)
    || (eq (score_of scores s) (score_of scores o) && nat_le o s)
