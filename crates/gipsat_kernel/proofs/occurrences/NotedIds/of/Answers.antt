use Rattle.std.proofs.Common.{◌≤◌, length, arith}
use Rattle.std.proofs.lemmas.Grind.{common_steps}
use Rattle.gipsat_kernel.proofs.OccurrenceLemmas.{CoversFirst-all, CoversFirst-next}
use Rattle.gipsat_kernel.proofs.occurrences.NotedIds.of.Goals as goal

pub loop-id-preserved : goal.loop-id-preserved
loop-id-preserved c =
    CoversFirst-next c.loop-id.noted c.note.new.self c.args.clauses.now c.loop-id.id c.clause.result.now c.clause.ensures c.note.ensures.widens
    c.in_ok-note.ensures.noted c.loop-id.invariant

pub returns : goal.returns
returns c =
    let all : length c.args.clauses.now ≤ c.loop-id.id = grind (arith, common_steps) in
    CoversFirst-all c.loop-id.noted c.args.clauses.now c.loop-id.id all c.loop-id.invariant
