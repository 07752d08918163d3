-- Each place is tried once, the last one first.
use Rattle.std.proofs.Common.{◌≡◌, ◌-◌, ◌+◌, ◌<◌, length, vec_len, arith, ◌∙◌}
use Rattle.std.proofs.lemmas.Grind.{common_steps}
use Rattle.gipsat_uses.specs.MinimalCore.{NeedsFrom}
use Rattle.gipsat_uses.proofs.MinimalCores.{next-core, next-length, next-needs}
use Rattle.gipsat_uses.proofs.minimal_core.minimal_core.Goals as goal

pub loop-place-init : goal.loop-place-init
loop-place-init g c =
    let long : vec_len c.in-Unsat.core ≡ length c.in-Unsat.core.items = grind (arith, common_steps) in (
      c.solve_limited.ensures.formula,
      omega (arith, c.len-place.ensures),
      rw (c.in-Unsat.is) at c.in_ok-core.ensures.right,
      λ k from below. absurd (omega (arith, c.len-place.ensures, long, from, below)),
    )

pub without-requires : goal.without-requires
without-requires g c = omega (arith, c.loop-place.invariant.1, c.loop-place-test.true)

pub loop-place-preserved : goal.loop-place-preserved
loop-place-preserved g c =
    let (same, within, core, needs) = c.loop-place.invariant in
    let formula = g.S.ClauseSink.formula c.args.solver.now in
    let items = c.loop-place.core.items in
    let place = c.loop-place.place - 1 in
    let long : vec_len c.loop-place.core ≡ length items = grind (arith, common_steps) in
    let long_next : vec_len c.in-Some.next ≡ length c.in-Some.next.items = grind (arith, common_steps) in
    let less : place < length items = omega (arith, within, long, c.loop-place-test.true) in
    let next = rw (c.in-Some.is, same) at c.in_ok-next.ensures.next in
    let before : NeedsFrom formula (place + 1) items = λ k from below. needs k (omega (arith, from, c.loop-place-test.true)) below in
    let short = next-length formula items c.in-Some.next.items place less next in (
      c.in_ok-next.ensures.formula ∙ same,
      omega (arith, short, long_next),
      next-core formula c.args.assumptions.now items c.in-Some.next.items place less core next,
      next-needs formula items c.in-Some.next.items place less before next,
    )

pub returns-clause-minimal : goal.returns-clause-minimal
returns-clause-minimal g c =
    let (same, within, core, needs) = c.loop-place.invariant in
    (core, λ k from below. needs k (omega (arith, from, c.loop-place-test.false)) below)
