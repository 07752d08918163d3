use Rattle.std.proofs.Common.{◌≡◌}
use Rattle.gipsat_uses.proofs.pages.searched.find_model.Given as goal

abbrev pub invariant-loop : goal.invariant-loop
invariant-loop l = l.kernel ≡ l.fn.kernel
