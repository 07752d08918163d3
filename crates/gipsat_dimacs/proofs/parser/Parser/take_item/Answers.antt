-- Where no clause is left, one more is too many.
use Rattle.std.proofs.Common.{◌≡◌, ◌++◌, true}
use Rattle.gipsat_dimacs.specs.Texts.{uncommented, clause_words}
use Rattle.gipsat_dimacs.specs.Parsers.{is_full}
use Rattle.gipsat_dimacs.proofs.ParserLemmas.{too_many}
use Rattle.gipsat_dimacs.proofs.parser.Parser.take_item.Goals as goal

pub returns-then-is_full-clause-err : goal.returns-then-is_full-clause-err
returns-then-is_full-clause-err g c words lines =
    let self = c.args.self.now in
    let full : is_full self.rule c.args.header ≡ true = cc in
    rw c.requires.no_comment
    (too_many self.rule (g.S.ClauseSink.formula self.clauses) self.clause.items c.args.header c.in_ok-item.item self.word.items
    (uncommented words ++ clause_words lines)
    (rw (c.deref.ensures.value, c.variable_limit.ensures) at c.in_ok-item.ensures.ok) full)
