use Rattle.std.proofs.Common.{◌≡◌, ◌≤◌, length, true, false, sym, ap, ◌∙◌, arith}
use Rattle.std.specs.Prelude.{slice_index_or}
use Rattle.std.proofs.lemmas.Grind.{common_steps}
use Rattle.gipsat_cnf.specs.Prelude.{assignment_in, satisfies}
use Rattle.gipsat_kernel.proofs.Originals.{AreSatisfied-all, AreSatisfied-derived, AreSatisfied-next, unsatisfied_original}
use Rattle.gipsat_kernel.proofs.kernel.Kernel.satisfied_by.Goals as goal

pub loop-id-preserved-then-not-index : goal.loop-id-preserved-then-not-index
loop-id-preserved-then-not-index c =
    let derived : slice_index_or c.self.inside.original.items c.loop-id.id false ≡ false = grind (arith, common_steps) in
    AreSatisfied-derived (assignment_in c.args.values.now) c.self.inside.original.items c.self.inside.clauses c.loop-id.id derived c.loop-id.invariant

pub loop-id-preserved : goal.loop-id-preserved
loop-id-preserved c =
    AreSatisfied-next (assignment_in c.args.values.now) c.self.inside.original.items c.self.inside.clauses c.loop-id.id c.clause.result.now c.clause.ensures
    (sym c.satisfies_clause.ensures ∙ c.if-not-satisfies_clause.false) c.loop-id.invariant

pub returns-then-not-satisfies_clause : goal.returns-then-not-satisfies_clause
returns-then-not-satisfies_clause c =
    let flagged : slice_index_or c.self.inside.original.items c.loop-id.id false ≡ true = grind (arith, common_steps) in
    sym (ap (satisfies (assignment_in c.args.values.now)) (sym c.self.view_is)
    ∙ unsatisfied_original (assignment_in c.args.values.now) c.self.inside.original.items c.self.inside.clauses c.loop-id.id c.clause.result.now flagged c.clause.ensures
    (sym c.satisfies_clause.ensures ∙ c.if-not-satisfies_clause.true))

pub returns : goal.returns
returns c =
    let all : length c.self.inside.clauses ≤ c.loop-id.id = omega arith in
    sym (ap (satisfies (assignment_in c.args.values.now)) (sym c.self.view_is)
    ∙ AreSatisfied-all (assignment_in c.args.values.now) c.self.inside.original.items c.self.inside.clauses c.loop-id.id all c.loop-id.invariant)
