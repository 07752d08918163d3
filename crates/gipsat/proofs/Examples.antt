-- Worked examples of what is read, and of what is answered to it.
use Rattle.std.proofs.Common.{[], ◌∷◌, refl, codes, Some, None, true, false}
use Rattle.std.specs.Fmt.{digits}
use Rattle.std.proofs.lemmas.Bool.{false≢true}
use Rattle.gipsat_dimacs.specs.Inputs.{HasForm, WritesNone, HasClauses, IsRefusedAt}
use Rattle.gipsat_dimacs.specs.Texts.{Problem}
use Rattle.gipsat_dimacs.specs.declared.rule.HeaderRule.TheVariants as rule
use Rattle.gipsat_answers.specs.declared.answers.Verdict.TheVariants.{Satisfiable, Unsatisfiable, Unknown}
use Rattle.gipsat.specs.Answered.{AreQuestionsAnswered, IsProblemAnswered, WritesOne}

-- a text of one clause; of an input whose bytes are not known nothing is said
form : HasForm rule.Strict (Some (codes "p cnf 1 1\n1 0\n"))
form = refl

form-unknown : HasForm rule.Strict None
form-unknown = tt

form-refused : HasForm rule.Strict (Some (codes "p cnf 1 1\n2 0\n")) → ⊥
form-refused has = false≢true has

other_form : WritesNone rule.Strict (Some (codes "p cnf 1 1\n2 0\n"))
other_form = refl

-- a clause is lacking when the second line ends
refused-at_the_end : IsRefusedAt rule.Strict (Some (codes "p cnf 1 2\n1 0")) 2
refused-at_the_end = (codes "p cnf 1 2\n1 0", [], refl, refl, refl)

clauses : HasClauses rule.Strict (Some (codes "p cnf 1 1\n1 0\n")) ((record { variable = 0; positive = true } ∷ []) ∷ [])
clauses = refl

-- a problem that something satisfies, and one of a clause without literals
abbrev of_one : Problem
of_one = record { variables = 1; clauses = (record { variable = 0; positive = true } ∷ []) ∷ [] }

abbrev of_none : Problem
of_none = record { variables = 1; clauses = [] ∷ [] }

model : WritesOne true of_one Satisfiable (Some (codes "c\n")) (Some (codes "c\ns SATISFIABLE\nv 1 0\n"))
unfolding digits
model = ((λ v. true), refl, refl)

model-none : WritesOne true of_none Satisfiable None None → ⊥
model-none (a, sat, appends) = false≢true sat

no_model : WritesOne true of_none Unsatisfiable (Some []) (Some (codes "s UNSATISFIABLE\n"))
no_model = ((λ (a, sat). false≢true sat), refl)

no_model-one : WritesOne true of_one Unsatisfiable (Some []) (Some (codes "s UNSATISFIABLE\n")) → ⊥
no_model-one (none, appends) = none ((λ v. true), refl)

unknown : WritesOne true of_one Unknown (Some []) (Some (codes "s UNKNOWN\n"))
unknown = refl

-- what was answered to a text: one answer to a formula, without values, or a reply to each question
answered : IsProblemAnswered rule.Strict false None [] None Satisfiable (Some (codes "p cnf 1 1\n1 0\n"))
    (Some []) (Some (codes "s SATISFIABLE\n"))
answered = (refl, ((λ v. true), refl, refl))

answered-other : IsProblemAnswered rule.Strict false None [] None Unsatisfiable (Some (codes "p cnf 1 1\n1 0\n"))
    None None → ⊥
answered-other (form, (none, appends)) = none ((λ v. true), refl)

answered-assuming : IsProblemAnswered rule.Strict false None (record { variable = 0; positive = false } ∷ []) None Unsatisfiable
    (Some (codes "p cnf 1 1\n0\n")) None None
answered-assuming = (refl, ((λ (a, sat). false≢true sat), tt))

replied-other_form : AreQuestionsAnswered false 9 Unsatisfiable (Some (codes "p cnf 1 1\n1 0\n")) None None → ⊥
replied-other_form (form, replied) = false≢true form
