use Rattle.std.proofs.Common.{◌≡◌, ◌+◌, ◌-◌, ◌≤◌, length}
use Rattle.gipsat_encodings.specs.Outputs.{AreFresh}
use Rattle.gipsat_encodings.proofs.sums.fresh_many.Given as goal

abbrev pub invariant-loop-made : goal.invariant-loop-made
invariant-loop-made l = record {
  within : length l.made.items ≤ l.len;
  next : l.variables ≡ l.fn.variables + length l.made.items;
  fresh : AreFresh l.fn.variables l.made.items;
}

abbrev pub decreases-loop-made : goal.decreases-loop-made
decreases-loop-made l = l.len - length l.made.items
