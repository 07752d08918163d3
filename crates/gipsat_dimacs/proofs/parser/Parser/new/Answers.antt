-- Before a text, all of it is left.
use Rattle.gipsat_dimacs.proofs.ParserLemmas.{problem_here-start}
use Rattle.gipsat_dimacs.proofs.parser.Parser.new.Goals as goal

pub returns-clause-all : goal.returns-clause-all
returns-clause-all g c text =
    rw (c.requires.empty, c.new.ensures.items, c.new-2.ensures.items) (problem_here-start c.args.rule text)
