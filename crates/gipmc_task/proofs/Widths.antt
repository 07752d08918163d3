-- Rows of a width, by its test.
use Rattle.std.proofs.Common.{◌≡◌, ℕ, true, List, [], ◌∷◌, Vec, Bool, length, IsTrue, arith}
use Rattle.std.specs.Prelude.{◌==◌}
use Rattle.std.specs.declared.alloc.Global.{Global}
use Rattle.std.proofs.lemmas.Bool.{and_parts}
use Rattle.gipmc_aiger.specs.Lists.{Every}
use Rattle.gipmc_circuits.specs.Traces.{have_width}

-- two numbers that pass the test are equal
pub same_of_test : (m n : ℕ) → (m == n) ≡ true → m ≡ n
same_of_test m n is = grind (arith, is)

-- rows that pass the test of their width have it
pub every_row : (n : ℕ) (rows : List (Vec Bool Global)) → IsTrue (have_width n rows)
    → Every (λ row. length row.items ≡ n) rows
every_row n [] all = tt
every_row n (row ∷ rows) all =
    let (one, others) = and_parts (length row.items == n) (have_width n rows) all in
    (same_of_test (length row.items) n one, every_row n rows others)
