-- What was answered, of what looking for questions kept.
use Rattle.std.proofs.Common.{None, Some}
use Rattle.std.specs.Option.{option_map}
use Rattle.gipsat_command.specs.Files.{output_contents, source_remaining}
use Rattle.gipsat.proofs.Answered.{problem-kept, questions-kept}
use Rattle.gipsat.proofs.search.search.Goals as goal

pub returns-then-branch : goal.returns-then-branch
returns-then-branch g c =
    questions-kept c.answer_in.result c.args.options.now c.args.assumed.now
    (option_map (λ literals. literals.now) c.args.projection) (source_remaining g.R.Read.remaining c.args.source)
    (source_remaining g.R.Read.remaining c.has_questions.new.self) (output_contents g.W.Write.contents c.args.output.now)
    (output_contents g.W.Write.contents c.answer_in.new.output) c.in_ok-has_questions.ensures c.answer_in.ensures

pub returns-in-Some : goal.returns-in-Some
returns-in-Some g c =
    problem-kept c.enumerate_in.result c.args.options.now c.args.assumed.now
    (option_map (λ literals. literals.now) c.args.projection) (Some c.in-Some.count)
    (source_remaining g.R.Read.remaining c.args.source) (source_remaining g.R.Read.remaining c.has_questions.new.self)
    (output_contents g.W.Write.contents c.args.output.now) (output_contents g.W.Write.contents c.enumerate_in.new.output)
    c.in-Some.is c.in_ok-has_questions.ensures c.enumerate_in.ensures

pub returns-in-None : goal.returns-in-None
returns-in-None g c =
    problem-kept c.solve_in.result c.args.options.now c.args.assumed.now
    (option_map (λ literals. literals.now) c.args.projection) None (source_remaining g.R.Read.remaining c.args.source)
    (source_remaining g.R.Read.remaining c.has_questions.new.self) (output_contents g.W.Write.contents c.args.output.now)
    (output_contents g.W.Write.contents c.solve_in.new.output) c.in-None.is c.in_ok-has_questions.ensures c.solve_in.ensures
