use Rattle.std.proofs.Common.{◌≤◌, length, sym, ◌∙◌, arith}
use Rattle.gipsat_cnf.specs.Prelude.{assignment_in, satisfies_clause}
use Rattle.gipsat_cnf.proofs.Tests.{all_pass, one_fails}
use Rattle.gipsat_cnf.proofs.cnf.Cnf.satisfied_by.Goals as goal

pub returns-then-not-satisfies_clause : goal.returns-then-not-satisfies_clause
returns-then-not-satisfies_clause c =
    one_fails (satisfies_clause (assignment_in c.args.values.now)) c.args.self.now c.loop-place.place c.clause.result.now c.clause.ensures
    (sym c.satisfies_clause.ensures ∙ c.if-not-satisfies_clause.true)

pub returns : goal.returns
returns c =
    let all : length c.args.self.now ≤ c.loop-place.place = omega arith in
    all_pass (satisfies_clause (assignment_in c.args.values.now)) c.args.self.now c.loop-place.place all c.loop-place.invariant
