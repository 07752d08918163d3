-- What two clauses and an assumption say of three variables.
use Rattle.std.proofs.Common.{◌≡◌, Bool, true, false, ◌&&◌, ◌||◌, [], ◌∷◌, IsTrue, refl}
use Rattle.std.specs.Bool.{beq}
use Rattle.std.proofs.lemmas.Bool.{false≢true}
use Rattle.gipsat_cnf.specs.Prelude.{Assignment, makes_true, satisfies}

by_values : (x y z : Bool) → ((beq x true || (beq y true || false)) && ((beq x false || (beq z false || false)) && true)) ≡ true
    → (beq z true && true) ≡ true → y ≡ true
by_values x true z sat all = refl
by_values true false true sat all = absurd (false≢true sat)
by_values true false false sat all = absurd (false≢true all)
by_values false false z sat all = absurd (false≢true sat)

-- where c is true, a is false, and so b is true
pub second-is_true : (a : Assignment)
    → IsTrue (satisfies a ((record { variable = 0; positive = true } ∷ record { variable = 1; positive = true } ∷ [])
    ∷ (record { variable = 0; positive = false } ∷ record { variable = 2; positive = false } ∷ []) ∷ []))
    → IsTrue (makes_true a (record { variable = 2; positive = true } ∷ [])) → IsTrue (a 1)
second-is_true a sat all = by_values (a 0) (a 1) (a 2) sat all
