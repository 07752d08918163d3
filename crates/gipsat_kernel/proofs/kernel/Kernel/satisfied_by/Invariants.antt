use Rattle.gipsat_cnf.specs.Models.{assignment_in}
use Rattle.gipsat_kernel.proofs.Originals.{AreSatisfied}
use Rattle.gipsat_kernel.proofs.kernel.Kernel.satisfied_by.Given as goal

abbrev pub invariant-loop-id : goal.invariant-loop-id
invariant-loop-id l = AreSatisfied (assignment_in l.values) l.self-inside.original.items l.self-inside.clauses l.id
