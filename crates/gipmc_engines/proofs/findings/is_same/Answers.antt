-- Literals of one number are the same.
use Rattle.std.proofs.Common.{sym, ◌∙◌}
use Rattle.std.proofs.lemmas.Bool.{eqb-true}
use Rattle.gipsat_cnf.proofs.LiteralLemmas.{code-injective}
use Rattle.gipmc_engines.proofs.findings.is_same.Goals as goal

pub returns : goal.returns
returns c sure =
    code-injective c.args.l c.args.other (sym c.code.ensures.value ∙ eqb-true _ _ sure ∙ c.code-2.ensures.value)
