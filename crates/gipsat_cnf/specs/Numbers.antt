-- Lists of truth values as numbers, so that all of one length can be counted through.
use Rattle.std.specs.Prelude.{ℕ, ◌+◌, ◌*◌, ◌≡◌, ◌<◌, Bool, List, [], ◌∷◌, if◌then◌else◌, length}
use Rattle.gipsat_cnf.specs.Assumptions.{IsModelUnder}
use Rattle.gipsat_cnf.specs.Formulas.{Formula}
use Rattle.gipsat_cnf.specs.Literals.{Lit}

-- the number whose binary digits these are, the lowest first
abbrev pub number : List Bool → ℕ
number [] = 0
number (b ∷ bits) = (if b then 1 else 0) + 2 * number bits

-- no list of this length whose number is below another one is a model that makes the assumptions true
abbrev pub NoneBelow : Formula → List Lit → ℕ → ℕ → Type 0
NoneBelow formula assumed len n =
    (values : List Bool) → length values ≡ len → number values < n → ¬ (IsModelUnder formula assumed values)
