-- Literals that have the values of gates, and of an exclusive or of many.
use Rattle.std.specs.Prelude.{◌≡◌, Bool, false, not, List, [], ◌∷◌, if◌then◌else◌}
use Rattle.std.specs.Bool.{beq}
use Rattle.gipsat_cnf.specs.Prelude.{Assignment, Lit, is_true, makes_true, satisfies_clause}

-- whether one of the two is true, and the other is not
abbrev pub differ : Bool → Bool → Bool
differ x y = not (beq x y)

-- the output is true exactly if each of the literals is
abbrev pub IsAnd : Lit → List Lit → Assignment → Type 0
IsAnd output literals a = is_true a output ≡ makes_true a literals

-- the output is true exactly if one of the literals is
abbrev pub IsOr : Lit → List Lit → Assignment → Type 0
IsOr output literals a = is_true a output ≡ satisfies_clause a literals

-- the output is true exactly if the two differ
abbrev pub IsXor : Lit → Lit → Lit → Assignment → Type 0
IsXor output l m a = is_true a output ≡ differ (is_true a l) (is_true a m)

-- the output is the one literal where the condition is true, and else the other one
abbrev pub IsChoice : Lit → Lit → Lit → Lit → Assignment → Type 0
IsChoice output condition first other a =
    is_true a output ≡ (if is_true a condition then is_true a first else is_true a other)

-- whether an odd number of the literals is true
abbrev pub parity : Assignment → List Lit → Bool
parity a [] = false
parity a (l ∷ literals) = differ (is_true a l) (parity a literals)

-- an odd number of the literals is true, or an even one
abbrev pub HasParity : List Lit → Bool → Assignment → Type 0
HasParity literals odd a = parity a literals ≡ odd
