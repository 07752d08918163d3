-- Models of the problem were written.
use Rattle.std.specs.Option.{option_map}
use Rattle.gipsat_answers.specs.Enumeration.{IsOpen}
use Rattle.gipsat_command.specs.Files.{output_contents, source_remaining}
use Rattle.gipsat.specs.Searched.{has_limit}
use Rattle.gipsat.proofs.Answered.{models-answered}
use Rattle.gipsat.proofs.search.enumerate_in.Goals as goal

pub returns-in-Ok : goal.returns-in-Ok
returns-in-Ok g c =
    let options = c.args.options.now in
    let wanted = c.args.wanted in
    let told = c.in-Ok.told in
    rw (← c.new-reader.ensures) (
      c.in-Ok.ensures.has_form,
      models-answered options.rule (source_remaining g.R.Read.remaining c.new-reader.result.reader) wanted.assumed.now
          (option_map (λ literals. literals.now) wanted.projection) options.witness
          (IsOpen options.conflicts told.solver.learned (has_limit options)) wanted.count told.verdict
          (output_contents g.W.Write.contents c.args.output.now) (output_contents g.W.Write.contents c.enumerate.new.writer)
          c.in-Ok.ensures.verdict c.in-Ok.ensures.written,
    )
