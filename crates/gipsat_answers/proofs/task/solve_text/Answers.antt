-- No clause of a text has a variable past those of the text.
use Rattle.gipsat_dimacs.specs.declared.rule.HeaderRule.TheVariants.{Strict}
use Rattle.gipsat_answers.proofs.Below.{input-below}
use Rattle.gipsat_answers.proofs.task.solve_text.Goals as goal

pub returns-in_err-instance-clause-named : goal.returns-in_err-instance-clause-named
returns-in_err-instance-clause-named g c = input-below Strict (g.R.Read.remaining c.args.reader.now)

pub returns-clause-named : goal.returns-clause-named
returns-clause-named g c = input-below Strict (g.R.Read.remaining c.args.reader.now)
