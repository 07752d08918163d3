-- The text of an invariant: clauses over latches in the DIMACS form. The latch at place n has number n + 1.
use Rattle.std.specs.Prelude.{ℕ, ◌==◌, Bool, false, not, List, [], ◌∷◌, ◌++◌, length, get_or, filter, map, codes, decimal, Option, Some, None, if◌then◌else◌}
use Rattle.std.specs.declared.alloc.Global.{Global}
use Rattle.std.specs.declared.vec.Vec.{Vec}
use Rattle.std.specs.Str.{byte}
use Rattle.gipsat_cnf.specs.Prelude.{Clause, Formula, Lit, Word, clause_line, header_of, item_of}
use Rattle.gipsat_cnf.specs.declared.dimacs.Item.{Item}
use Rattle.gipsat_cnf.specs.declared.dimacs.Item.TheVariants.{Literal, End}
use Rattle.gipmc_circuits.specs.WellFormed.{latch_variables}
use Rattle.gipmc_circuits.specs.declared.circuit.Circuit.{Circuit}
use Rattle.giputils_text.specs.Lines.{pieces, space, text_lines}
use Rattle.gipmc_aiger.specs.Reading.{◌>>=◌}

-- a line for each clause
abbrev pub clause_lines : List (Vec Lit Global) → List ℕ
clause_lines [] = []
clause_lines (clause ∷ clauses) = clause_line clause.items ++ clause_lines clauses

-- the text of an invariant: the header with the numbers of latches and clauses, and the clauses
abbrev pub invariant_text : ℕ → List (Vec Lit Global) → List ℕ
invariant_text latches clauses =
    codes "p cnf " ++ decimal latches ++ codes " " ++ decimal (length clauses) ++ codes "\n" ++ clause_lines clauses

-- a line that is a comment: it begins with a `c`
abbrev pub is_comment : List ℕ → Bool
is_comment [] = false
is_comment (first ∷ rest) = first == byte "c"

-- the lines of a text but for its comments
abbrev pub uncommented_lines : List ℕ → List (List ℕ)
uncommented_lines text = filter (λ line. not (is_comment line)) (text_lines text)

-- the literal that a word was read as; none is the 0 that ends a clause
abbrev pub item_view : Option Lit → Item
item_view None = End
item_view (Some l) = Literal l

-- the clause that some items write: literals, and an end behind them
abbrev pub clause_of : List (Option Item) → Option Clause
clause_of [] = None
clause_of (None ∷ items) = None
clause_of (Some End ∷ items) = if length items == 0 then Some [] else None
clause_of (Some (Literal l) ∷ items) = clause_of items >>= λ clause. Some (l ∷ clause)

-- the clause that some words write, for so many latches
abbrev pub clause_in : ℕ → List Word → Option Clause
clause_in latches words = clause_of (map (item_of latches) words)

-- the clauses that some lines write, one each
abbrev pub clauses_in : ℕ → List (List ℕ) → Option Formula
clauses_in latches [] = Some []
clauses_in latches (line ∷ lines) =
    clause_in latches (pieces space line) >>= λ clause. clauses_in latches lines >>= λ clauses. Some (clause ∷ clauses)

-- the number of clauses that a header names, if it names so many latches
abbrev pub clause_count_in : ℕ → List ℕ → Option ℕ
clause_count_in latches line = header_of (pieces space line) >>= λ n. if n.0 == latches then Some n.1 else None

-- the number of clauses that a first line names, and the lines behind it
abbrev pub clause_count_at : ℕ → List (List ℕ) → Option (ℕ × List (List ℕ))
clause_count_at latches [] = None
clause_count_at latches (line ∷ lines) = clause_count_in latches line >>= λ count. Some (count, lines)

-- the clauses, if there are so many
abbrev pub counted : ℕ → Formula → Option Formula
counted count clauses = if length clauses == count then Some clauses else None

-- the clauses that some lines write behind a header
unfoldable pub invariant_in : ℕ → List (List ℕ) → Option Formula
invariant_in latches lines = do
  count ← clause_count_at latches lines
  clauses ← clauses_in latches count.1
  counted count.0 clauses

-- the invariant that a text writes for so many latches, if it has the form: the variable of a literal is the place of a
-- latch
abbrev pub invariant_of : ℕ → List ℕ → Option Formula
invariant_of latches text = invariant_in latches (uncommented_lines text)

-- some clauses without where they lie in memory
abbrev pub clauses_view : List (Vec Lit Global) → Formula
clauses_view clauses = map (λ clause. clause.items) clauses

-- a literal over places of latches, over their variables
abbrev pub over_variables : List ℕ → Lit → Lit
over_variables variables l = record { variable = get_or variables l.variable 0; positive = l.positive }

-- the invariant over the variables of the circuit that a text writes for it, if it has the form
abbrev pub invariant_for : Circuit → List ℕ → Option Formula
invariant_for c text =
    invariant_of (length c.latches.items) text >>= λ clauses.
    Some (map (map (over_variables (latch_variables c))) clauses)
