-- Worked examples: texts of answers, models, questions, and variables under other names.
use Rattle.std.proofs.Common.{◌≡◌, ◌==◌, ℕ, zero, suc, Bool, true, false, [], ◌∷◌, refl, codes, Some, None, ⊎_elim, inl, inr, arith}
use Rattle.std.specs.Fmt.{digits}
use Rattle.std.proofs.lemmas.Bool.{false≢true}
use Rattle.std.specs.Option.{option_map}
use Rattle.gipsat_cnf.specs.Prelude.{Lit, satisfies}
use Rattle.gipsat_dimacs.specs.Texts.{Problem}
use Rattle.gipsat_answers.specs.Answers.{IsRightText, laid_out, values_text, verdict_status}
use Rattle.gipsat_answers.specs.Assumed.{assuming, first_variables, literals_in}
use Rattle.gipsat_answers.specs.Enumeration.{IsModelsText, IsRightVerdict, differing, first_verdict}
use Rattle.gipsat_answers.specs.Names.{first_names, name_in, named, numbers_below}
use Rattle.gipsat_answers.specs.Questions.{AreAskedOf, AreRightReplies, AsksSoFar, IsRightReply, Question, cubes_asked, is_header, is_silent, part_in, questions_of, verdict_with}
use Rattle.gipsat_answers.specs.declared.answers.Verdict.TheVariants.{Satisfiable, Unsatisfiable, Unknown, Stopped}

-- the values of two variables
of_two : values_text (λ k. k == 1) (numbers_below 2) ≡ codes "v -1 2 0\n"
unfolding digits
of_two = refl

-- a word that ends at the 78th byte, and one that does not
full_line : laid_out 75 (codes "-1" ∷ codes "0" ∷ []) ≡ codes " -1\nv 0\n"
full_line = refl

next_line : laid_out 76 (codes "-1" ∷ codes "0" ∷ []) ≡ codes "\nv -1 0\n"
next_line = refl

status-some : verdict_status Satisfiable ≡ 10
status-some = refl

status-none : verdict_status Unsatisfiable ≡ 20
status-none = refl

status-stopped : verdict_status Stopped ≡ 0
status-stopped = refl

abbrev yes : ℕ → Lit
yes v = record { variable = v; positive = true }

abbrev not_ : ℕ → Lit
not_ v = record { variable = v; positive = false }

-- literals that a text names, with or without a 0 behind them
literals : literals_in (codes "1 -2") ≡ Some (yes 0 ∷ not_ 1 ∷ [])
literals = refl

literals-ended : literals_in (codes "-2 0") ≡ Some (not_ 1 ∷ [])
literals-ended = refl

literals-none : literals_in [] ≡ Some []
literals-none = refl

literals-refused : literals_in (codes "1 x") ≡ None
literals-refused = refl

-- x0 or x1
abbrev either : Problem
either = record { variables = 2; clauses = (yes 0 ∷ yes 1 ∷ []) ∷ [] }

assumed : (assuming (not_ 0 ∷ []) either).clauses ≡ (yes 0 ∷ yes 1 ∷ []) ∷ (not_ 0 ∷ []) ∷ []
assumed = refl

first-two : first_variables 2 ≡ yes 0 ∷ yes 1 ∷ []
first-two = refl

-- the clause that excludes x1 alone, by both variables and by x1
other : differing (λ k. k == 1) (yes 0 ∷ yes 1 ∷ []) ≡ yes 0 ∷ not_ 1 ∷ []
other = refl

other-projected : differing (λ k. k == 1) (not_ 1 ∷ []) ≡ not_ 1 ∷ []
other-projected = refl

-- two models that differ in x0, behind which there is no other
models : IsModelsText false (yes 0 ∷ []) ⊥ 3 either (codes "s SATISFIABLE\ns SATISFIABLE\ns UNSATISFIABLE\n")
models = inl (
  (λ k. k == 1),
  refl,
  (
    codes "s SATISFIABLE\ns UNSATISFIABLE\n",
    refl,
    inl ((λ k. true), refl, (codes "s UNSATISFIABLE\n", refl, inr (inl ((λ (a, sat). by_values (a 0) (a 1) sat), refl)))),
  ),
)
  where
    by_values : (b c : Bool) → satisfies (λ v. elim v [ zero ↦ b | suc n ↦ c ])
        ((yes 0 ∷ yes 1 ∷ []) ∷ (yes 0 ∷ []) ∷ (not_ 0 ∷ []) ∷ []) ≡ true → ⊥
    by_values true c sat = false≢true sat
    by_values false true sat = false≢true sat
    by_values false false sat = false≢true sat

models-open : IsModelsText false [] ⊥ 1 either (codes "s UNKNOWN\n") → ⊥
models-open tells = ⊎_elim (λ (a, sat, (rest, is, more)). absurd cc)
    (λ others. ⊎_elim (λ (none, is). none ((λ k. true), refl)) (λ (open_, is). open_) others) tells

models-enough : IsModelsText false [] ⊥ 0 either []
models-enough = refl

verdict-some : IsRightVerdict either Satisfiable
verdict-some = ((λ k. true), refl)

verdict-none : IsRightVerdict either Unsatisfiable → ⊥
verdict-none none = none ((λ k. true), refl)

first-no_model : first_verdict 0 Unsatisfiable ≡ Unsatisfiable
first-no_model = refl

first-last : first_verdict 2 Unsatisfiable ≡ Satisfiable
first-last = refl

-- values that are right, and an answer that is open: as many clauses were learned as the limit says
text-values : IsRightText true either 5 (record { formula = either.clauses; learned = 0; given = 0 }) Satisfiable (codes "s SATISFIABLE\nv -1 2 0\n")
unfolding digits
text-values = ((λ k. k == 1), refl, refl)

text-open : IsRightText true either 5 (record { formula = either.clauses; learned = 5; given = 0 }) Unknown (codes "s UNKNOWN\n")
text-open = (refl, refl)

text-too_early : IsRightText true either 5 (record { formula = either.clauses; learned = 4; given = 0 }) Unknown (codes "s UNKNOWN\n") → ⊥
text-too_early (spent, is) = absurd cc

-- two questions, each of the clauses before it
asked : questions_of (codes "c\np inccnf\n1 2 0\na -1 0\n-2\n0\na 0\n")
    ≡ Some (record { formula = (yes 0 ∷ yes 1 ∷ []) ∷ []; assumed = not_ 0 ∷ [] }
    ∷ record { formula = (yes 0 ∷ yes 1 ∷ []) ∷ (not_ 1 ∷ []) ∷ []; assumed = [] } ∷ [])
asked = refl

-- a question over the ends of lines, with comments, and a clause behind it
asked-lines : questions_of (codes "p inccnf\na -1 c 0\n\nc 2\n2\n0 c 1\n1 0\na 0")
    ≡ Some (record { formula = []; assumed = not_ 0 ∷ yes 1 ∷ [] } ∷ record { formula = (yes 0 ∷ []) ∷ []; assumed = [] } ∷ [])
asked-lines = refl

-- clauses beside cubes are passed over
cubes-read : option_map cubes_asked (questions_of (codes "p inccnf\na 1 -2 0\n1 2 0\na\n0\n"))
    ≡ Some ((yes 0 ∷ not_ 1 ∷ []) ∷ [] ∷ [])
cubes-read = refl

asked-cut_off : questions_of (codes "p inccnf\n1 0\na 1\n") ≡ None
asked-cut_off = refl

asked-twice : questions_of (codes "p inccnf\na 1\na 2 0\n") ≡ None
asked-twice = refl

asked-behind : questions_of (codes "p inccnf\na 1 0 2 0\n") ≡ None
asked-behind = refl

asked-behind_lines : questions_of (codes "p inccnf\na 1\n0 2 0\n") ≡ None
asked-behind_lines = refl

-- what a line of a question says
part : part_in (codes " 1 -2") ≡ Some (yes 0 ∷ not_ 1 ∷ [], false)
part = refl

part-ended : part_in (codes "-2 0 c 1") ≡ Some (not_ 1 ∷ [], true)
part-ended = refl

part-nothing : part_in [] ≡ Some ([], false)
part-nothing = refl

part-zeros : part_in (codes "0 0") ≡ None
part-zeros = refl

part-word : part_in (codes "1 x 0") ≡ None
part-word = refl

part-header : part_in (codes "p cnf 1 1") ≡ None
part-header = refl

part-end_of_text : part_in (codes "% 0") ≡ None
part-end_of_text = refl

-- a question that has not its 0 behind the first of two lines
so_far : AsksSoFar (codes "a 1" ∷ codes "0" ∷ []) (yes 0 ∷ []) false (codes "0" ∷ [])
so_far formula begun = refl

so_far-ended : AsksSoFar (codes "a 1" ∷ codes "0" ∷ []) (yes 0 ∷ []) true []
so_far-ended formula begun = refl

asked-none : questions_of (codes "p inccnf\n1 0\n") ≡ Some []
asked-none = refl

asked-open_clause : questions_of (codes "p inccnf\n1\na 0\n") ≡ None
asked-open_clause = refl

asked-formula : questions_of (codes "p cnf 1 1\n1 0\n") ≡ None
asked-formula = refl

header : is_header (codes "p inccnf") ≡ true
header = refl

header-counts : is_header (codes "p inccnf 2 3") ≡ false
header-counts = refl

silent : is_silent (codes "comment") ≡ true
silent = refl

silent-not : is_silent (codes "1 0") ≡ false
silent-not = refl

-- a model among open ones counts, and an open one among those without a model
with-model : verdict_with (Some Unknown) Satisfiable ≡ Satisfiable
with-model = refl

with-open : verdict_with (Some Unsatisfiable) Unknown ≡ Unknown
with-open = refl

with-none : verdict_with (Some Stopped) Unsatisfiable ≡ Stopped
with-none = refl

-- names of two variables; a third one keeps its number
name : name_in (4 ∷ 7 ∷ []) 1 ≡ 7
name = refl

name-past : name_in (4 ∷ 7 ∷ []) 2 ≡ 2
name-past = refl

of_names : first_names (4 ∷ 7 ∷ []) 2 ≡ 4 ∷ 7 ∷ []
of_names = refl

under_names : named (4 ∷ 7 ∷ []) ((yes 0 ∷ not_ 1 ∷ []) ∷ []) ≡ (yes 4 ∷ not_ 7 ∷ []) ∷ []
under_names = refl

-- a question of either; an open reply, for which as many clauses were learned as the limit says
abbrev question : Question
question = record { formula = either.clauses; assumed = [] }

reply-open : IsRightReply false 5 5 false question Unknown (codes "s UNKNOWN\n")
reply-open = (refl, refl)

reply-too_early : IsRightReply false 5 4 false question Unknown (codes "s UNKNOWN\n") → ⊥
reply-too_early (spent, is) = absurd cc

-- the limit is one of each question, and seven clauses were learned for two
replies : AreRightReplies false 5 7 true (question ∷ question ∷ []) (codes "s UNKNOWN\ns UNKNOWN\n")
replies = (
  Unknown,
  (
    5,
    (
      2,
      (
        codes "s UNKNOWN\n",
        (
          codes "s UNKNOWN\n",
          refl,
          refl,
          omega arith,
          (refl, refl),
          (
            Stopped,
            (2, (0, (codes "s UNKNOWN\n", ([], refl, refl, omega arith, (refl, refl), (refl, refl))))),
          ),
        ),
      ),
    ),
  ),
)

replies-none : AreRightReplies false 5 1 true [] [] → ⊥
replies-none (is, learned) = absurd cc

-- a question of a formula's first clause, and of a clause that the formula has not
asked_of-first : AreAskedOf ((yes 0 ∷ yes 1 ∷ []) ∷ (not_ 1 ∷ []) ∷ []) (question ∷ [])
asked_of-first = (((not_ 1 ∷ []) ∷ [], refl), tt)

asked_of-other : AreAskedOf ((not_ 1 ∷ []) ∷ []) (question ∷ []) → ⊥
asked_of-other ((more, is), others) = absurd cc
