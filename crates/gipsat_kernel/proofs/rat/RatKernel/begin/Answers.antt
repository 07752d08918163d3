use Rattle.std.proofs.Common.{◌≡◌, true, false, arith}
use Rattle.std.specs.Prelude.{slice_index_or}
use Rattle.std.proofs.lemmas.Grind.{common_steps}
use Rattle.gipsat_kernel.proofs.RatLemmas.{IsRatKernel-begun}
use Rattle.gipsat_kernel.proofs.rat.RatKernel.begin.Goals as goal

pub invariant_of-self-2 : goal.invariant_of-self-2
invariant_of-self-2 c =
    let flagged : slice_index_or c.self.inside.held.items c.args.id false ≡ true = grind (arith, common_steps) in
    IsRatKernel-begun c.self.inside.held.items c.self.inside.clauses c.self.inside.noted c.add_all.new.self c.args.id c.clause.result.now c.self.invariant.as_many c.self.invariant.covers
    flagged c.clause.ensures c.in_ok-add_all.ensures
