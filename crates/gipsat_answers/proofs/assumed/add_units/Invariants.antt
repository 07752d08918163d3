-- The clauses before, and those of the literals so far.
use Rattle.std.proofs.Common.{◌≡◌, ◌++◌, take}
use Rattle.gipsat_answers.specs.Assumed.{units}
use Rattle.gipsat_answers.proofs.assumed.add_units.Given as goal

abbrev pub invariant-loop-l : goal.invariant-loop-l
invariant-loop-l l = l.clauses ≡ l.initial.clauses ++ units (take l.l-index l.literals)
