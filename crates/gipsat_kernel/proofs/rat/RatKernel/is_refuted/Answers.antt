use Rattle.std.proofs.Common.{◌≡◌, true, false, subst, arith}
use Rattle.std.specs.Prelude.{slice_index_or}
use Rattle.std.proofs.lemmas.Grind.{common_steps}
use Rattle.gipsat_cnf.specs.Formulas.{IsSatisfiable}
use Rattle.gipsat_kernel.specs.Kernel.{original_among}
use Rattle.gipsat_kernel.proofs.RatLemmas.{Implies-flagged}
use Rattle.gipsat_kernel.proofs.Verdicts.{OnTrue-empty, refutes}
use Rattle.gipsat_kernel.proofs.rat.RatKernel.is_refuted.Goals as goal

pub returns-then-flag_at : goal.returns-then-flag_at
returns-then-flag_at c =
    let flagged : slice_index_or c.self.inside.held.items c.args.id false ≡ true = grind (arith, common_steps) in
    OnTrue-empty c.is_empty.result c.clause.result.now c.is_empty.ensures
    (λ none. subst (λ f. ¬ (IsSatisfiable f)) c.self.view_is
    (refutes (original_among c.self.inside.held.items c.self.inside.clauses) c.clause.result.now none
    (Implies-flagged c.self.inside.held.items c.self.inside.clauses c.args.id c.clause.result.now flagged c.clause.ensures)))
