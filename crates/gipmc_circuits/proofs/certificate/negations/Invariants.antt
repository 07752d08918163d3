use Rattle.std.proofs.Common.{◌≡◌, map, take}
use Rattle.gipsat_cnf.specs.Literals.{negated}
use Rattle.gipmc_circuits.specs.Encoding.{shifted}
use Rattle.gipmc_circuits.proofs.certificate.negations.Given as goal

abbrev pub invariant-loop-place : goal.invariant-loop-place
invariant-loop-place l = l.all.items ≡ map (λ x. negated (shifted l.offset x)) (take l.place l.clause)
