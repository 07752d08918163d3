-- The status is that of the verdict.
use Rattle.std.proofs.Common.{inl, inr, sym, ◌∙◌}
use Rattle.std.specs.Option.{option_map}
use Rattle.gipsat_command.specs.Files.{output_contents, source_remaining}
use Rattle.gipsat.proofs.Answered.{satisfiable-answered, unknown-answered, unsatisfiable-answered}
use Rattle.gipsat.proofs.search.search_in.Goals as goal

pub returns-in-Ok-clause-unsatisfiable : goal.returns-in-Ok-clause-unsatisfiable
returns-in-Ok-clause-unsatisfiable g c is =
    unsatisfiable-answered c.args.options.now c.args.assumed.now (option_map (λ literals. literals.now) c.args.projection)
    c.in-Ok.verdict (source_remaining g.R.Read.remaining c.args.source) (output_contents g.W.Write.contents c.args.output.now)
    (output_contents g.W.Write.contents c.search.new.output) c.in-Ok.ensures
    (sym c.status.ensures ∙ sym c.from.ensures ∙ is)

pub returns-in-Ok-clause-satisfiable : goal.returns-in-Ok-clause-satisfiable
returns-in-Ok-clause-satisfiable g c is =
    satisfiable-answered c.args.options.now c.args.assumed.now (option_map (λ literals. literals.now) c.args.projection)
    c.in-Ok.verdict (source_remaining g.R.Read.remaining c.args.source) (output_contents g.W.Write.contents c.args.output.now)
    (output_contents g.W.Write.contents c.search.new.output) c.in-Ok.ensures
    (sym c.status.ensures ∙ sym c.from.ensures ∙ is)

pub returns-in-Ok-clause-unknown : goal.returns-in-Ok-clause-unknown
returns-in-Ok-clause-unknown g c is =
    unknown-answered c.args.options.now c.args.assumed.now (option_map (λ literals. literals.now) c.args.projection)
    c.in-Ok.verdict (source_remaining g.R.Read.remaining c.args.source) (output_contents g.W.Write.contents c.args.output.now)
    (output_contents g.W.Write.contents c.search.new.output) c.in-Ok.ensures
    (sym c.status.ensures ∙ sym c.from.ensures ∙ is)

pub returns-in-Ok-clause-ends : goal.returns-in-Ok-clause-ends
returns-in-Ok-clause-ends g c = inl (c.in-Ok.verdict, c.from.ensures ∙ c.status.ensures)

pub returns-in-Err-clause-ends : goal.returns-in-Err-clause-ends
returns-in-Err-clause-ends g c = inr c.refuse.ensures
