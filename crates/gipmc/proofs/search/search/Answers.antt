-- The outcome of both kinds.
use Rattle.std.proofs.Common.{◌≡◌}
use Rattle.gipmc_task.specs.Outcomes.{both}
use Rattle.gipmc_task.specs.Verdicts.{together}
use Rattle.gipmc.proofs.Answered.{told-right}
use Rattle.gipmc.proofs.search.search.Goals as goal

pub returns : goal.returns
returns c =
    let bads = c.in_ok-bads in
    let justice = c.in_ok-justice in
    let same : c.and-outcome.result
    ≡ both (together bads.bads.answers.items) (together justice.justice.items) =
    cc in
    told-right c.args.problem.now c.args.options.now.subject c.args.output.now.order bads.bads.answers.items justice.justice.items
    c.and-outcome.result bads.ensures justice.ensures same
