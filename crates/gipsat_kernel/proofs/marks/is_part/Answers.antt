use Rattle.gipsat_kernel.proofs.Marking.{AreHadBy-marked}
use Rattle.gipsat_kernel.proofs.Verdicts.{OnTrue-then}
use Rattle.gipsat_kernel.proofs.marks.is_part.Goals as goal

pub returns-clause-part : goal.returns-clause-part
returns-clause-part c =
    OnTrue-then c.are_marked-all.result
    (λ marked. AreHadBy-marked c.args.others.now c.args.clause.now c.mark_known.new.flags.items c.mark_known.ensures marked) c.are_marked-all.ensures
