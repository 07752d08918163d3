-- What is told of a formula that proofs of its parts refute.
use Rattle.std.proofs.Common.{ℕ, List, Option, Some, None, IfSome, IsTrue, refl, sym, subst}
use Rattle.std.specs.Prelude.{is_some}
use Rattle.std.specs.Io.KnownBytes.{Appends}
use Rattle.gipsat_cnf.specs.Formulas.{Formula, IsSatisfiable}
use Rattle.gipsat_command.specs.Statuses.{TellsVerified}
use Rattle.gipsat_dimacs.specs.Inputs.{Writes}
use Rattle.gipsat_dimacs.specs.Texts.{Problem}
use Rattle.gipsat_dimacs.specs.declared.rule.HeaderRule.TheVariants.{Strict}
use Rattle.gipsat_drat.specs.Held.{Held, IsConsistent, Keeps, held_of}
use Rattle.gipsat_drat.specs.Outcomes.{WritesOutcome, outcome_text}
use Rattle.gipsat_drat.specs.declared.error.Outcome.TheVariants.{Verified}

-- where what is held at last is refuted, so is the formula
pub refuted : (formula : Formula) (begun joined covered : Held) → Keeps (held_of formula) begun → Keeps begun joined → Keeps joined covered
    → (¬ (IsConsistent covered)) → ¬ (IsSatisfiable formula)
refuted formula begun joined covered begins joins covers none = λ sat. none (covers (joins (begins (sat, refl))))

-- where the formula that an input writes is refuted, and the line is written, that is told
pub told_verified : (input old new : Option (List ℕ)) (problem : Problem) → Writes Strict input problem
    → (¬ (IsSatisfiable problem.clauses)) → Appends old new (outcome_text Verified) → TellsVerified input old new
told_verified None old new problem writes none wrote = (tt, tt)
told_verified (Some text) old new problem writes none wrote = (
  subst (λ found. IsTrue (is_some found)) (sym writes) refl,
  subst (λ found. IfSome found (λ p. WritesOutcome p Verified old new)) (sym writes) (none, wrote),
)
