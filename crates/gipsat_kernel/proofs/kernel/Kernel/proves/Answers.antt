use Rattle.std.proofs.Common.{subst}
use Rattle.gipsat_cnf.specs.Formulas.{Implies}
use Rattle.gipsat_kernel.proofs.Resolution.{Implies-had}
use Rattle.gipsat_kernel.proofs.Verdicts.{OnTrue-then}
use Rattle.gipsat_kernel.proofs.kernel.Kernel.proves.Goals as goal

pub returns-then-id-len-clause-follows : goal.returns-then-id-len-clause-follows
returns-then-id-len-clause-follows c =
    let implied : Implies c.args.self.now c.clause.result.now =
    subst (λ f. Implies f c.clause.result.now) c.self.view_is (c.self.invariant.implied c.args.id c.clause.result.now c.clause.ensures)
    in
    OnTrue-then c.is_part.result (λ had. Implies-had c.args.self.now c.clause.result.now c.args.clause.now had implied) c.is_part.ensures
