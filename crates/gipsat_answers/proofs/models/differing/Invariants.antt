-- The literals so far.
use Rattle.std.proofs.Common.{◌≡◌, take}
use Rattle.gipsat_cnf.specs.Models.{assignment_in}
use Rattle.gipsat_answers.specs.Enumeration.{differing}
use Rattle.gipsat_answers.proofs.models.differing.Given as goal

abbrev pub invariant-loop-l : goal.invariant-loop-l
invariant-loop-l l = l.clause.items ≡ differing (assignment_in l.model) (take l.l-index l.projection)
