-- Replies to all questions were written.
use Rattle.gipsat_command.specs.Files.{output_contents, source_remaining}
use Rattle.gipsat.proofs.Answered.{questions-answered}
use Rattle.gipsat.proofs.search.answer_in.Goals as goal

pub returns-in-Ok : goal.returns-in-Ok
returns-in-Ok g c =
    let options = c.args.options.now in
    let replies = c.in-Ok.replies in
    rw (← c.new-reader.ensures) (
      c.in-Ok.ensures.has_form,
      questions-answered (source_remaining g.R.Read.remaining c.new-reader.result.reader) options.witness options.conflicts
          replies.solver.learned replies.is_stopped replies.verdict (output_contents g.W.Write.contents c.args.output.now)
          (output_contents g.W.Write.contents c.answer.new.writer) c.in-Ok.ensures.verdict c.in-Ok.ensures.written,
    )
