use Rattle.std.proofs.Common.{◌≡◌, ◌+◌, length, arith}
use Rattle.std.proofs.lemmas.Grind.{common_steps}
use Rattle.gipsat_cnf.proofs.LayoutLemmas.{clauses-append, IsLaidOut-push}
use Rattle.gipsat_cnf.proofs.cnf.Cnf.push.Goals as goal

pub invariant_of-self-2 : goal.invariant_of-self-2
invariant_of-self-2 c =
    let from : c.in-Some.span.start ≡ length c.self.inside.literals.items = grind (arith, common_steps) in
    let to : c.in-Some.span.end ≡ length c.self.inside.literals.items + length c.args.clause.now = grind (arith, common_steps) in
    let counted = c.variables_with-self-inside.ensures in
    rw (c.in_ok-extend_from_slice.ensures.items, c.push_reserved.ensures.items, c.reserve.ensures.items)
    (IsLaidOut-push c.self.inside.variables c.variables_with-self-inside.result c.self.inside.literals.items c.args.clause.now c.self.inside.spans.items _ _
    from to counted.least (counted.small c.self.invariant.small) counted.below c.self.invariant)

pub returns-clause-added : goal.returns-clause-added
returns-clause-added c =
    let from : c.in-Some.span.start ≡ length c.self.inside.literals.items = grind (arith, common_steps) in
    let to : c.in-Some.span.end ≡ length c.self.inside.literals.items + length c.args.clause.now = grind (arith, common_steps) in
    rw (c.in_ok-extend_from_slice.ensures.items, c.push_reserved.ensures.items, c.reserve.ensures.items, ← c.self.view_is)
    (clauses-append c.self.inside.literals.items c.args.clause.now c.self.inside.spans.items _ _ from to c.self.invariant.within)
