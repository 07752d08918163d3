-- Rows of a table of bits, each a list of truth values.
use Rattle.std.specs.Prelude.{ℕ, Bool, List, [], slice_index_or, slice_set}
use Rattle.giputils.specs.Logic.{or_of}

-- the rows, but that row `to` has the true places of row `from` too
abbrev pub joined : List (List Bool) → ℕ → ℕ → List (List Bool)
joined rows from to = slice_set rows to (or_of (slice_index_or rows to []) (slice_index_or rows from []))
