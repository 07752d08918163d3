-- The clauses so far, by their numbers.
use Rattle.std.proofs.Common.{◌≡◌, take}
use Rattle.gipsat_cnf.specs.Formulas.{Assignment, satisfies}
use Rattle.gipsat_drat.specs.Numbers.{by_number}
use Rattle.gipsat_drat.proofs.numbering.numbered_by.Given as goal

abbrev pub invariant-loop-place : goal.invariant-loop-place
invariant-loop-place l =
    (a : Assignment) → satisfies (by_number l.numbering.numbers.items a) l.made ≡ satisfies a (take l.place l.formula)
