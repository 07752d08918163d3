-- What latches hold at each moment of a trace.
use Rattle.std.specs.Prelude.{◌≡◌, ℕ, ◌+◌, Bool, List, length, map, slice_get, Some}
use Rattle.std.specs.declared.alloc.Global.{Global}
use Rattle.std.specs.declared.vec.Vec.{Vec}
use Rattle.gipsat_cnf.specs.Formulas.{Assignment}
use Rattle.gipmc_circuits.specs.Prelude.{Follows, IsTrace}
use Rattle.gipmc_circuits.specs.declared.circuit.Circuit.{Circuit}
use Rattle.gipmc_circuits.specs.declared.trace.Trace.{Trace}

-- what each latch holds
abbrev pub held : Circuit → Assignment → List Bool
held c a = map (λ l. a l.variable) c.latches.items

-- each row is what the latches hold at its moment
abbrev pub AreHeld : Circuit → (ℕ → Assignment) → List (Vec Bool Global) → Type 0
AreHeld c t rows = (i : ℕ) (row : Vec Bool Global) → slice_get rows i ≡ Some row → row.items ≡ held c (t i)

-- the circuit has a trace that follows what the witness lists, and the rows are what its latches hold at each moment
abbrev pub Shows : Circuit → Trace → List (Vec Bool Global) → Type 0
Shows c trace rows =
    (n : ℕ) × (t : ℕ → Assignment) × (length rows ≡ n + 1) × (length trace.inputs.items ≡ n + 1) × IsTrace c n t
    × Follows c trace t × AreHeld c t rows
