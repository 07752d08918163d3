-- The properties of a kind.
use Rattle.std.specs.Prelude.{ℕ, ◌<◌, Option, Some, None, length}
use Rattle.gipmc_aiger.specs.declared.problem.Problem.{Problem}
use Rattle.gipmc_task.specs.declared.kind.PropertyKind.{PropertyKind}
use Rattle.gipmc_task.specs.declared.kind.PropertyKind.TheVariants.{Bad, Justice}

-- how many properties of a kind the problem has
abbrev pub count_of : Problem → PropertyKind → ℕ
count_of p Bad = length p.netlist.circuit.bads.items
count_of p Justice = length p.liveness.justice.items

-- of so many there is the one at the place that is asked for, or one at all
abbrev pub IsAmong : ℕ → Option ℕ → Type 0
IsAmong count None = 0 < count
IsAmong count (Some place) = place < count
