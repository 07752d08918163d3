-- Worked examples of the steps of a proof.
use Rattle.std.proofs.Common.{◌≡◌, ℕ, true, false, [], ◌∷◌, codes, refl}
use Rattle.std.specs.Fmt.{digits}
use Rattle.std.specs.Prelude.{◌^◌}
use Rattle.gipsat_cnf.specs.Literals.{Lit}
use Rattle.gipsat_dimacs.specs.Writer.{clause_line}
use Rattle.gipsat_answers.specs.Steps.{end_bytes, step_bytes}
use Rattle.gipsat_answers.specs.Lrat.{hints_of, lrat_added, lrat_deleted}
use Rattle.gipsat_answers.specs.declared.proof.writer.Form.TheVariants.{Drat, Lrat}
use Rattle.gipsat_answers.specs.declared.proof.writer.Format.TheVariants.{Text, Binary}
use Rattle.giputils_text.specs.Groups.{groups}

abbrev yes : ℕ → Lit
yes v = record { variable = v; positive = true }

abbrev not_ : ℕ → Lit
not_ v = record { variable = v; positive = false }

-- variable k of a formula is k + 1 in a proof
line : clause_line (yes 0 ∷ not_ 11 ∷ []) ≡ codes "1 -12 0\n"
unfolding digits
line = refl

line-empty : clause_line [] ≡ codes "0\n"
line-empty = refl

line-deleted : step_bytes Text true (yes 0 ∷ []) ≡ codes "d 1 0\n"
unfolding digits
line-deleted = refl

-- variables 63, negated, and 8193
bytes : step_bytes Binary true (not_ 62 ∷ yes 8192 ∷ []) ≡ 100 ∷ 127 ∷ 130 ∷ 128 ∷ 1 ∷ 0 ∷ []
bytes = refl

-- the greatest literal has five groups
groups-greatest : groups 4 (2 ^ 33) ≡ 128 ∷ 128 ∷ 128 ∷ 128 ∷ 32 ∷ []
groups-greatest = refl

-- the empty clause stands at the end where nothing satisfies the formula, and there alone
end-unsatisfiable : end_bytes Drat Text true ≡ codes "0\n"
end-unsatisfiable = refl

end-unsatisfiable_bytes : end_bytes Drat Binary true ≡ 97 ∷ 0 ∷ []
end-unsatisfiable_bytes = refl

end-open : end_bytes Drat Binary false ≡ []
end-open = refl

end-told : end_bytes Lrat Text true ≡ []
end-told = refl

-- the clause with the id 1 was freed, and those with 2 and 0 were resolved in this order
names : hints_of (4 ∷ 0 ∷ 7 ∷ []) (2 ∷ 0 ∷ []) ≡ 4 ∷ 7 ∷ []
names = refl

named : lrat_added Text 9 (yes 0 ∷ not_ 11 ∷ []) (4 ∷ 7 ∷ []) ≡ codes "9 1 -12 0 4 7 0\n"
unfolding digits
named = refl

named_bytes : lrat_added Binary 300 (not_ 0 ∷ []) (4 ∷ 7 ∷ []) ≡ 97 ∷ 172 ∷ 2 ∷ 3 ∷ 0 ∷ 8 ∷ 14 ∷ 0 ∷ []
named_bytes = refl

freed : lrat_deleted Text 9 7 ≡ codes "9 d 7 0\n"
unfolding digits
freed = refl

freed_bytes : lrat_deleted Binary 9 7 ≡ 100 ∷ 7 ∷ 0 ∷ []
freed_bytes = refl
