use Rattle.std.proofs.Common.{◌≡◌, map, take}
use Rattle.gipsat_cnf.specs.Literals.{negated}
use Rattle.gipsat_encodings.proofs.gates.negations.Given as goal

abbrev pub invariant-loop-l : goal.invariant-loop-l
invariant-loop-l l = l.negations.items ≡ map negated (take l.l-index l.literals)
