-- Several models of a problem, one after another.
use Rattle.std.specs.Prelude.{◌≡◌, ℕ, zero, suc, Bool, not, ◌==◌, if◌then◌else◌, List, [], ◌∷◌, ◌++◌, map, codes, ⊤, IsTrue, Option, ◌⊎◌}
use Rattle.std.specs.Io.KnownBytes.{Appends}
use Rattle.gipsat_cnf.specs.Prelude.{Assignment, Clause, Formula, IsSatisfiable, Lit, satisfies}
use Rattle.gipsat_dimacs.specs.Texts.{Problem}
use Rattle.gipsat_answers.specs.Answers.{witness_text}
use Rattle.gipsat_answers.specs.Names.{numbers_below}
use Rattle.gipsat_answers.specs.declared.answers.Verdict.{Verdict}
use Rattle.gipsat_answers.specs.declared.answers.Verdict.TheVariants.{Satisfiable, Unsatisfiable, Unknown, Stopped}

-- the literal of the same variable that is false
abbrev pub false_literal : Assignment → Lit → Lit
false_literal a l = record { variable = l.variable; positive = not (a l.variable) }

-- the clause that not all of these literals' variables have the values that they have here
abbrev pub differing : Assignment → List Lit → Clause
differing a projection = map (false_literal a) projection

-- the problem with a clause more
abbrev pub with_clause : Problem → Clause → Problem
with_clause problem clause = record problem { clauses = problem.clauses ++ clause ∷ [] }

-- the text of a model
abbrev pub model_text : Bool → Assignment → Problem → List ℕ
model_text witness a problem = codes "s SATISFIABLE\n" ++ witness_text witness a (numbers_below problem.variables)

-- the text of n models, each of which differs from those before it on the projection; of fewer where there is no other,
-- which is told, or where it is open
abbrev pub IsModelsText : Bool → List Lit → Type 0 → ℕ → Problem → List ℕ → Type 0
IsModelsText witness projection Open zero problem text = text ≡ []
IsModelsText witness projection Open (suc n) problem text =
    ((a : Assignment) × IsTrue (satisfies a problem.clauses)
    × ((rest : List ℕ) × (text ≡ model_text witness a problem ++ rest)
    × IsModelsText witness projection Open n (with_clause problem (differing a projection)) rest))
    ⊎ (¬ (IsSatisfiable problem.clauses) × (text ≡ codes "s UNSATISFIABLE\n"))
    ⊎ (Open × (text ≡ codes "s UNKNOWN\n"))

-- as many clauses were learned as the limit says, or the search was stopped
abbrev pub IsOpen : ℕ → ℕ → Bool → Type 0
IsOpen limit learned stop = (learned ≡ limit) ⊎ IsTrue stop

-- a formula has the clauses of another one, and maybe more behind them
abbrev pub Extends : Formula → Formula → Type 0
Extends formula longer = (more : Formula) × (longer ≡ formula ++ more)

-- a writer that held the one holds the other after the text of n models
abbrev pub WritesModels : Bool → List Lit → Type 0 → ℕ → Problem → Option (List ℕ) → Option (List ℕ) → Type 0
WritesModels witness projection Open n problem old new =
    (text : List ℕ) × IsModelsText witness projection Open n problem text × Appends old new text

-- one answer was written, and after a model the formula is the problem's with the clause that excludes it
abbrev pub WritesNext : Bool → List Lit → Type 0 → Problem → Verdict → Formula → Option (List ℕ) → Option (List ℕ) → Type 0
WritesNext witness projection Open problem Satisfiable next old new =
    (a : Assignment) × IsTrue (satisfies a problem.clauses) × Appends old new (model_text witness a problem)
    × (next ≡ problem.clauses ++ differing a projection ∷ [])
WritesNext witness projection Open problem Unsatisfiable next old new =
    ¬ (IsSatisfiable problem.clauses) × Appends old new (codes "s UNSATISFIABLE\n")
WritesNext witness projection Open problem Unknown next old new = Open × Appends old new (codes "s UNKNOWN\n")
WritesNext witness projection Open problem Stopped next old new = Open × Appends old new (codes "s UNKNOWN\n")

-- the verdict of a problem: of the others nothing is said
abbrev pub IsRightVerdict : Problem → Verdict → Type 0
IsRightVerdict problem Satisfiable = IsSatisfiable problem.clauses
IsRightVerdict problem Unsatisfiable = ¬ (IsSatisfiable problem.clauses)
IsRightVerdict problem Unknown = ⊤
IsRightVerdict problem Stopped = ⊤

-- the first verdict after so many models, by the last one
abbrev pub first_verdict : ℕ → Verdict → Verdict
first_verdict models last = if models == 0 then last else Satisfiable
