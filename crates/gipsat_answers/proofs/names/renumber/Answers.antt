-- The formula as it is, or under new numbers.
use Rattle.std.proofs.Common.{ap, ◌∙◌}
use Rattle.gipsat_answers.specs.Names.{named}
use Rattle.gipsat_answers.proofs.Renaming.{named-none, AreNamesOf-none}
use Rattle.gipsat_answers.proofs.names.renumber.Goals as goal

pub returns-clause-names : goal.returns-clause-names
returns-clause-names c = AreNamesOf-none c.args.clauses c.new.result.items c.new.ensures.items

pub returns-clause-formula : goal.returns-clause-formula
returns-clause-formula c = ap (λ names. named names c.args.clauses) c.new.ensures.items ∙ named-none c.args.clauses
