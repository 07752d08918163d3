-- No name is given.
use Rattle.std.proofs.Common.{◌≡◌}
use Rattle.gipsat_answers.proofs.proof.names.Names.move_up.Given as goal

abbrev pub invariant-loop-id : goal.invariant-loop-id
invariant-loop-id l = l.self.last ≡ l.fn.self.last
