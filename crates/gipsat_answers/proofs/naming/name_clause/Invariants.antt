-- As many literals as those so far.
use Rattle.std.proofs.Common.{◌≡◌, length}
use Rattle.gipsat_answers.proofs.naming.name_clause.Given as goal

abbrev pub invariant-loop-l : goal.invariant-loop-l
invariant-loop-l l = length l.named.items ≡ l.l-index
