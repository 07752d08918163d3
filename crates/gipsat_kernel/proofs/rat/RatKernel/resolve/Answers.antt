use Rattle.std.proofs.Common.{◌≡◌, true, false, subst, arith}
use Rattle.std.specs.Prelude.{slice_index_or}
use Rattle.std.proofs.lemmas.Grind.{common_steps}
use Rattle.gipsat_kernel.specs.Marks.{KeepsMarksBut}
use Rattle.gipsat_kernel.proofs.RatLemmas.{IsRatKernel-resolved}
use Rattle.gipsat_kernel.proofs.rat.RatKernel.resolve.Goals as goal

pub invariant_of-self-2 : goal.invariant_of-self-2
invariant_of-self-2 c =
    let flagged : slice_index_or c.self.inside.held.items c.args.id false ≡ true = grind (arith, common_steps) in
    IsRatKernel-resolved c.self.inside.held.items c.self.inside.clauses c.self.inside.noted c.self.inside.marks c.remove.new.self c.add_but.new.self c.self.inside.is_open
    c.args.pivot c.args.id c.clause.result.now c.if-not-self.false flagged c.clause.ensures
    (subst (λ l. KeepsMarksBut l c.self.inside.marks c.remove.new.self) c.negated-opposite.ensures c.remove.ensures)
    c.in_ok-add_but.ensures.grows c.in_ok-add_but.ensures.marked c.self.invariant
