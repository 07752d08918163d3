-- The steps are those of the lines, so the record of the run has the replies of the script.
use Rattle.std.proofs.Common.{◌∙◌, ◌≤◌, []}
use Rattle.std.proofs.lemmas.List.Elements.{All-same}
use Rattle.std.proofs.lemmas.Result.{IfOk-weaker}
use Rattle.giputils_bounded.specs.Bounds.{count_limit}
use Rattle.gip_lines.specs.Scripts.Replies.{start_ranks}
use Rattle.gip_lines.proofs.Records.{Match, run_of_lines}
use Rattle.gip_lines.proofs.Tables.{CanCount-steps_from}
use Rattle.gip_lines.proofs.scripts.replies.replies_to.Given.{Over}
use Rattle.gip_lines.proofs.scripts.replies.replies_to.Goals as goal
use Rattle.gip_lines.proofs.scripts.replies.replies_to.Goals.{After-deref-2}

pub heap_run-requires : goal.heap_run-requires
heap_run-requires g c =
    All-same (λ s. s.cmp.count ≤ count_limit) _ _ (c.deref_mut.ensures.value ∙ c.in_ok-steps.ensures) (CanCount-steps_from start_ranks c.args.lines.now)

-- what the run replied
replied : (g : Over) (c : After-deref-2 g)
    → Match start_ranks [] c.args.lines.now c.deref-2.result.now
replied g c =
    let ran = c.in_ok-replies.ensures in
    rw c.deref-2.ensures.value
    (run_of_lines start_ranks c.args.lines.now c.deref_mut.result.now c.heap_run.new.steps c.in_ok-replies.replies.items
    (c.deref_mut.ensures.value ∙ c.in_ok-steps.ensures) c.heap_run.auto.steps ran.replies c.requires.keys ran.record)

pub text_of_replies-requires : goal.text_of_replies-requires
text_of_replies-requires g c = (replied g c).2

pub returns-clause-text : goal.returns-clause-text
returns-clause-text g c =
    let (refusals, text, known) = replied g (goal.at.returns-clause-text g c).After-deref-2 in
    IfOk-weaker c.text_of_replies.result _ _ (λ answer same. (refusals, same ∙ text)) c.text_of_replies.ensures.ok
