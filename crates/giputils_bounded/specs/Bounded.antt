-- What a contract sees of a bounded heap.
use Rattle.std.specs.Prelude.{ℕ, List}

-- the held keys, each once and in an open order, and the number that those of all keys are below
pub record Bounded (T : Type 0) : Type 0 where
  pub keys : List T
  pub bound : ℕ
