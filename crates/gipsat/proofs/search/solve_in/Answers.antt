-- The text of a right answer was written.
use Rattle.gipsat_command.specs.Files.{output_contents, source_remaining}
use Rattle.gipsat.proofs.Answered.{one-answered}
use Rattle.gipsat.proofs.search.solve_in.Goals as goal

pub returns-in-Ok : goal.returns-in-Ok
returns-in-Ok g c =
    let options = c.args.options.now in
    let solved = c.in-Ok.solved in
    rw (← c.new-reader.ensures) (
      c.in-Ok.ensures.has_form,
      one-answered options.rule (source_remaining g.R.Read.remaining c.new-reader.result.reader) c.args.assumed.now options.witness
          options.conflicts solved.solver solved.verdict (output_contents g.W.Write.contents c.args.output.now)
          (output_contents g.W.Write.contents c.solve.new.writer) c.in-Ok.ensures.written,
    )
