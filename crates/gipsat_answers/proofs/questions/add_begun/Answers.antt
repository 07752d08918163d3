-- Clauses under new numbers were added.
use Rattle.std.proofs.Common.{length, subst, sym}
use Rattle.gipsat_cnf.specs.Lists.{AreAllBelow}
use Rattle.gipsat_answers.proofs.Below.{AreAllBelow-append}
use Rattle.gipsat_answers.proofs.Renaming.{named-added}
use Rattle.gipsat_answers.proofs.questions.add_begun.Goals as goal

pub returns-clause-added : goal.returns-clause-added
returns-clause-added c =
    let same = rw c.in-Some.is at c.in_ok-clauses.ensures.formula in (
      c.in_ok-read.read,
      c.in_ok-read.ensures,
      named-added c.args.names.now c.args.solver.now.formula c.in-Some.clauses c.add_clauses.new.solver.formula c.in_ok-read.read
          c.in_ok-add_clauses.ensures.formula same,
    )

pub returns-clause-below : goal.returns-clause-below
returns-clause-below c =
    let n = length c.args.names.now in
    let more = rw c.in-Some.is at c.in_ok-clauses.ensures.below in
    subst (AreAllBelow n) (sym c.in_ok-add_clauses.ensures.formula)
    (AreAllBelow-append n c.args.solver.now.formula c.in-Some.clauses c.requires.below more)
