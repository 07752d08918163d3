use Rattle.std.proofs.Common.{subst}
use Rattle.gipsat_cnf.specs.Formulas.{IsSatisfiable}
use Rattle.gipsat_kernel.specs.Kernel.{original_among}
use Rattle.gipsat_kernel.proofs.Verdicts.{OnTrue-empty, refutes}
use Rattle.gipsat_kernel.proofs.kernel.Kernel.is_refuted.Goals as goal

pub returns-then-id-len : goal.returns-then-id-len
returns-then-id-len c =
    OnTrue-empty c.is_empty.result c.clause.result.now c.is_empty.ensures
    (λ none. subst (λ f. ¬ (IsSatisfiable f)) c.self.view_is
    (refutes (original_among c.self.inside.original.items c.self.inside.clauses) c.clause.result.now none (c.self.invariant.implied c.args.id c.clause.result.now c.clause.ensures)))
