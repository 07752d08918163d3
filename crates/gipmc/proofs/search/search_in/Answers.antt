-- The outcome is that of the search.
use Rattle.std.proofs.Common.{sym, ◌∙◌}
use Rattle.gipmc.specs.Asked.{IsAnswered}
use Rattle.gipmc.specs.Statuses.{exits_zero}
use Rattle.gipmc.proofs.Ended.{fails_ended, safe_ended}
use Rattle.gipmc.proofs.search.search_in.Goals as goal

pub returns-clause-safe : goal.returns-clause-safe
returns-clause-safe c is =
    safe_ended (IsAnswered c.args.bytes.now c.args.options.now.subject) (exits_zero c.args.options.now)
    c.search_circuit.result c.search_circuit.ensures (sym c.end_search.ensures ∙ is)

pub returns-clause-fails : goal.returns-clause-fails
returns-clause-fails c is =
    fails_ended (IsAnswered c.args.bytes.now c.args.options.now.subject) (exits_zero c.args.options.now)
    c.search_circuit.result c.search_circuit.ensures (sym c.end_search.ensures ∙ is)
