-- The literals of the clauses so far.
use Rattle.std.proofs.Common.{◌≡◌, take}
use Rattle.gipsat_answers.specs.Assumed.{literals_of}
use Rattle.gipsat_answers.proofs.assumed.literals_of.Given as goal

abbrev pub invariant-loop-place : goal.invariant-loop-place
invariant-loop-place l = l.literals.items ≡ literals_of (take l.place l.clauses)
