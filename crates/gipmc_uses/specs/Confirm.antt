-- Circuits that fail, as texts.
use Rattle.std.specs.Prelude.{◌≡◌, ℕ, List, slice_get, Some, IsTrue}
use Rattle.gipsat_cnf.specs.Literals.{Lit}
use Rattle.gipmc_aiger.specs.Circuits.{Writes}
use Rattle.gipmc_circuits.specs.declared.circuit.Circuit.{Circuit}
use Rattle.gipmc_circuits.specs.declared.trace.Trace.{Trace}
use Rattle.gipmc_circuits.specs.Prelude.{FailsAfter, FailsBy, is_well_formed}

-- the circuit fails by the trace, at the bad literal at a place
abbrev pub FailsAt : Circuit → ℕ → Trace → Type 0
FailsAt c place trace = (bad : Lit) × (slice_get c.bads.items place ≡ Some bad) × FailsBy c bad trace

-- the bytes write a well-formed circuit, and one of its bad literals is true after some transitions
abbrev pub Fails : List ℕ → Type 0
Fails bytes =
    (c : Circuit) × Writes bytes c × IsTrue (is_well_formed c) × (place : ℕ) × (bad : Lit)
    × (slice_get c.bads.items place ≡ Some bad) × (n : ℕ) × FailsAfter c bad n
