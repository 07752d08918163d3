-- Models and cores under assumptions, which are literals.
use Rattle.std.specs.Prelude.{Bool, List, IsTrue}
use Rattle.std.specs.List.{list_all}
use Rattle.gipsat_cnf.specs.Formulas.{Assignment, Formula, Has, is_true, satisfies}
use Rattle.gipsat_cnf.specs.Literals.{Lit}
use Rattle.gipsat_cnf.specs.Models.{assignment_in}

-- each of the literals is true
abbrev pub makes_true : Assignment → List Lit → Bool
makes_true a literals = list_all (is_true a) literals

-- an assignment satisfies the formula and makes each of the literals true
abbrev pub IsSatisfiableUnder : Formula → List Lit → Type 0
IsSatisfiableUnder formula literals = (a : Assignment) × IsTrue (satisfies a formula) × IsTrue (makes_true a literals)

-- a model of the formula that makes each assumption true
abbrev pub IsModelUnder : Formula → List Lit → List Bool → Type 0
IsModelUnder formula assumed model =
    IsTrue (satisfies (assignment_in model) formula) × IsTrue (makes_true (assignment_in model) assumed)

-- the core is a subset of the assumptions that is unsatisfiable together with the formula
pub record IsCore (formula : Formula) (assumed core : List Lit) : Type 0 where
  pub among : (l : Lit) → Has core l → Has assumed l
  pub refuted : ¬ (IsSatisfiableUnder formula core)
