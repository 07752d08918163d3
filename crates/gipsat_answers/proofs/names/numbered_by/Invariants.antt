-- The clauses so far, under their names.
use Rattle.std.proofs.Common.{◌≡◌, take}
use Rattle.gipsat_answers.specs.Names.{named}
use Rattle.gipsat_answers.proofs.names.numbered_by.Given as goal

abbrev pub invariant-loop-place : goal.invariant-loop-place
invariant-loop-place l = named l.names l.made ≡ take l.place l.clauses
