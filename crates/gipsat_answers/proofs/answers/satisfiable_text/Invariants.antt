-- The text so far, and what is to come.
use Rattle.std.proofs.Common.{◌≡◌, ◌++◌, ◌-◌, codes}
use Rattle.gipsat_cnf.specs.Formulas.{Assignment}
use Rattle.gipsat_answers.specs.Answers.{laid_out, value_words, values_text}
use Rattle.gipsat_answers.specs.Names.{first_names, names_from, AreNamedValues}
use Rattle.gipsat_answers.proofs.answers.satisfiable_text.Given as goal

abbrev pub invariant-loop-variable : goal.invariant-loop-variable
invariant-loop-variable l = (a : Assignment) → AreNamedValues l.names l.variables l.model a →
    l.text.items ++ laid_out l.column (value_words a (names_from l.names l.variable (l.variables - l.variable)))
    ≡ codes "s SATISFIABLE\n" ++ values_text a (first_names l.names l.variables)
