-- The clauses and the assumptions are of the variables of the text.
use Rattle.gipsat_answers.proofs.Below.{input-named}
use Rattle.gipsat.proofs.solve.read_assuming.Goals as goal

pub returns-in-Ok-assume-clause-named : goal.returns-in-Ok-assume-clause-named
returns-in-Ok-assume-clause-named g c =
    input-named c.args.options.now.rule (g.R.Read.remaining c.args.reader.now) c.in-Ok.instance.variables
    c.in-Ok.instance.clauses c.args.assumed.now c.in-Ok.ensures.ok c.if-not-are_named.ensures.named
