-- There is a value for each name, and those so far are the model's.
use Rattle.std.proofs.Common.{◌≡◌, ◌<◌, ℕ, Some, length}
use Rattle.std.specs.Prelude.{slice_get}
use Rattle.gipsat_cnf.specs.Models.{assignment_in}
use Rattle.gipsat_answers.specs.Names.{name_in}
use Rattle.gipsat_answers.proofs.names.values_under.Given as goal

abbrev pub invariant-loop-variable : goal.invariant-loop-variable
invariant-loop-variable l = record {
  room : (i n : ℕ) → slice_get l.names i ≡ Some n → n < length l.values.items;
  values : (v : ℕ) → v < l.variable → assignment_in l.values.items (name_in l.names v) ≡ assignment_in l.model v;
}
