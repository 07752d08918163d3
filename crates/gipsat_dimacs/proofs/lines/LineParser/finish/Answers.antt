-- The line of the end.
use Rattle.std.proofs.Common.{◌≡◌, [], ap, Err, None}
use Rattle.gipsat_dimacs.specs.Parsers.{problem_from}
use Rattle.gipsat_dimacs.proofs.ErrorLemmas.{refused_at}
use Rattle.gipsat_dimacs.proofs.lines.LineParser.finish.Goals as goal

pub returns-in-Err-clause-stopped : goal.returns-in-Err-clause-stopped
returns-in-Err-clause-stopped g c line reason is =
    refused_at (problem_from g.S.ClauseSink.formula c.args.self.parser [] ≡ None) _ c.in-Err.stop c.args.self.line line reason
    (ap (λ e. Err e) c.at.ensures) is
    c.in-Err.ensures.err
