use Rattle.std.proofs.Common.{refl, sym, length, ◌∙◌}
use Rattle.std.proofs.lemmas.Option.{slice_get_read}
use Rattle.gipsat_cnf.specs.Prelude.{assignment_in, is_true}
use Rattle.gipsat_cnf.proofs.Tests.{all_pass, one_fails}
use Rattle.gipsat_cnf.proofs.values.makes_true.Goals as goal

pub returns-then-not-is_true : goal.returns-then-not-is_true
returns-then-not-is_true c =
    let literals = c.args.literals.now in
    one_fails (is_true (assignment_in c.args.values.now)) c.args.literals.now c.loop-l.l-index c.l-item.result
    (slice_get_read literals (length literals) c.loop-l.l-index c.l-item.result refl c.loop-l-test.true c.l-item.is)
    (sym c.is_true.ensures ∙ c.if-not-is_true.true)

pub returns : goal.returns
returns c = all_pass (is_true (assignment_in c.args.values.now)) c.args.literals.now c.loop-l.l-index c.loop-l-test.false c.loop-l.invariant
