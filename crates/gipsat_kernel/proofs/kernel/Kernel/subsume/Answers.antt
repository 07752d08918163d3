use Rattle.std.proofs.Common.{◌≢◌, set, true, false, subst, arith, ◌∙◌}
use Rattle.std.proofs.lemmas.List.{length-set}
use Rattle.gipsat_cnf.specs.Simplifying.{SaysSame}
use Rattle.gipsat_kernel.specs.Kernel.{original_among}
use Rattle.gipsat_kernel.proofs.Kernels.{IsKernel-same, SaysSame-subsumed}
use Rattle.gipsat_kernel.proofs.kernel.Kernel.subsume.Goals as goal

pub invariant_of-self-2 : goal.invariant_of-self-2
invariant_of-self-2 c =
    let fs = c.self.inside.original.items in
    let other : c.args.by ≢ c.args.id = λ same. absurd (omega (arith, same)) in
    IsKernel-same c.self.inside.original.items (set (set fs c.args.by true) c.args.id false) c.self.inside.clauses c.self.inside.marks _ c.self.inside.is_open
    (length-set (set fs c.args.by true) c.args.id false ∙ length-set fs c.args.by true)
    (SaysSame-subsumed c.self.inside.original.items c.self.inside.clauses c.self.inside.marks c.self.inside.is_open c.args.id c.args.by
    c.clause-2.result.now c.clause.result.now other c.clause-2.ensures c.clause.ensures c.if-not-is_part.ensures c.self.invariant) c.self.invariant

pub returns : goal.returns
returns c =
    let fs = c.self.inside.original.items in
    let other : c.args.by ≢ c.args.id = λ same. absurd (omega (arith, same)) in
    subst (λ old. SaysSame old (original_among (set (set fs c.args.by true) c.args.id false) c.self.inside.clauses)) c.self.view_is
    (SaysSame-subsumed c.self.inside.original.items c.self.inside.clauses c.self.inside.marks c.self.inside.is_open c.args.id c.args.by
    c.clause-2.result.now c.clause.result.now other c.clause-2.ensures c.clause.ensures c.if-not-is_part.ensures c.self.invariant)
