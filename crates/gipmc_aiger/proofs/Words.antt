-- One word too many.
use Rattle.std.proofs.Common.{◌≡◌, ℕ, List, ◌∷◌, map, Option, Some, None, arith, refl, ap, sym, ◌∙◌}
use Rattle.giputils_text.specs.Lines.{pieces, space}
use Rattle.giputils_text.proofs.Pieces.{pieces-cons}
use Rattle.gipsat_cnf.specs.Prelude.{Clause, Word, header_of, item_of}
use Rattle.gipsat_cnf.specs.declared.dimacs.Item.{Item}
use Rattle.gipsat_cnf.specs.declared.dimacs.Item.TheVariants.{End}
use Rattle.gipmc_aiger.specs.Invariants.{clause_in, clause_of}
use Rattle.gipmc_aiger.proofs.Fronts.{with_items}

-- more than four words are no header
pub header_of-more : (p cnf latches clauses : Word) (rest : List ℕ)
    → header_of (p ∷ cnf ∷ latches ∷ clauses ∷ pieces space rest) ≡ None
header_of-more p cnf latches clauses rest = let (first, more, e) = pieces-cons space rest in rw e refl

-- an item behind the end of a clause is one too many
too_many : (item : Option Item) (items : List (Option Item)) → clause_of (Some End ∷ item ∷ items) ≡ None
too_many item items = grind arith

-- words behind the end of a clause are too many
pub clause_in-more : (front : Clause) (latches : ℕ) (words : List Word) (total : Option Clause) (word : Word) (rest : List ℕ)
    → with_items front (clause_in latches words) ≡ total → words ≡ word ∷ pieces space rest → item_of latches word ≡ Some End
    → total ≡ None
clause_in-more front latches words total word rest so_far split ends =
    let (first, more, e) = pieces-cons space rest in
    let none : clause_in latches words ≡ None =
    rw (split, e, ends) (too_many (item_of latches first) (map (item_of latches) more)) in
    sym so_far ∙ ap (λ read. with_items front read) none
