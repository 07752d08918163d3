use Rattle.gipsat_plain.proofs.search.+decide.Given as goal

abbrev pub decreases-decide : goal.decreases-decide
decreases-decide l = l.left
