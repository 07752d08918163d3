-- What is known of the problem is known of the one that the bytes write.
use Rattle.gipmc.proofs.search.search_for.Goals as goal

pub returns : goal.returns
returns c = (c.in_ok-problem.problem, c.in_ok-problem.ensures, c.in_ok-found.ensures)
