-- The line of the outcome was written.
use Rattle.gipsat_dimacs.specs.declared.rule.HeaderRule.TheVariants.{Strict}
use Rattle.gipsat_command.specs.Files.{output_contents, source_remaining}
use Rattle.gipsat_command.proofs.Checked.{on_any, outcome-written}
use Rattle.gipsat_command.proofs.convert.convert.Goals as goal

pub returns-in-Ok-convert_to-clause-has_form : goal.returns-in-Ok-convert_to-clause-has_form
returns-in-Ok-convert_to-clause-has_form g c = on_any c.end.result c.in-Ok-convert_to.ensures.has_form

pub returns-in-Ok-convert_to-clause-written : goal.returns-in-Ok-convert_to-clause-written
returns-in-Ok-convert_to-clause-written g c =
    outcome-written Strict (source_remaining g.F.Read.remaining c.args.formula.now)
    (output_contents g.W.Write.contents c.args.output.now) (output_contents g.W.Write.contents c.end.new.output)
    c.in-Ok-convert_to.outcome c.end.result c.in-Ok-convert_to.ensures.right c.end.ensures.same c.end.ensures.written
