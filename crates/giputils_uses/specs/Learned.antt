-- Clauses by their indexes.
use Rattle.std.specs.Prelude.{ℕ, Bool, List, Option}
use Rattle.std.specs.Option.{option_flatten}
use Rattle.giputils.specs.Allocator.{live_at}

-- the clause of a live slot, if it has not been moved out
abbrev pub clause_at : {C : Type 0} → List (Option C × Bool) → ℕ → Option C
clause_at slots i = option_flatten (live_at slots i)
