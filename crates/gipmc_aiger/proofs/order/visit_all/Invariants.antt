-- What is open leads to what waits behind it.
use Rattle.gipmc_aiger.specs.Defects.{IsStack}
use Rattle.gipmc_aiger.proofs.order.visit_all.Given as goal

abbrev pub invariant-loop : goal.invariant-loop
invariant-loop l = IsStack l.gates l.visits l.waiting.items
