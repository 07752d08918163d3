-- Circuits with further latches and gates.
use Rattle.std.specs.Prelude.{◌≡◌, ℕ, ◌+◌, ◌++◌, ◌&&◌, Bool, true, List, [], ◌∷◌, length, IsTrue}
use lib.Dec.{eqb}
use Rattle.gipmc_circuits.specs.declared.circuit.And.{And}
use Rattle.gipmc_circuits.specs.declared.circuit.Circuit.{Circuit}
use Rattle.gipmc_circuits.specs.declared.circuit.Latch.{Latch}
use Rattle.gipmc_circuits.specs.Encoding.{literal_below}

-- the outputs are numbered from n on, and each operand is below its gate's
abbrev pub are_stacked : List And → ℕ → Bool
are_stacked [] n = true
are_stacked (g ∷ gates) n =
    (literal_below n g.left && literal_below n g.right) && (eqb g.output n && are_stacked gates (g.output + 1))

-- the latches' variables are the numbers from n on
abbrev pub are_numbered : List Latch → ℕ → Bool
are_numbered [] n = true
are_numbered (l ∷ latches) n = eqb l.variable n && are_numbered latches (n + 1)

-- e is c with further latches, numbered from n on, and further gates, numbered behind them
pub record IsWidened (n : ℕ) (c : Circuit) (e : Circuit) : Type 0 where
  pub more_latches : List Latch
  pub more_gates : List And
  pub latches : e.latches.items ≡ c.latches.items ++ more_latches
  pub gates : e.gates.items ≡ c.gates.items ++ more_gates
  pub constraints : e.constraints.items ≡ c.constraints.items
  pub numbered : IsTrue (are_numbered more_latches n)
  pub stacked : IsTrue (are_stacked more_gates (n + length more_latches))
