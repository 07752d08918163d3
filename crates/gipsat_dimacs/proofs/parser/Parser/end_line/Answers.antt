-- The word ends, and then the line; where the text has ended, nothing does.
use Rattle.std.proofs.Common.{◌≡◌, List, [], ◌∷◌, ◌++◌, ◌∙◌, None, true}
use Rattle.gipsat_dimacs.specs.Texts.{Word, word_lines, with_word}
use Rattle.gipsat_dimacs.specs.Parsers.{SaysNothing, is_ended, problem_next}
use Rattle.gipsat_dimacs.proofs.ParserLemmas.{ended, ended_more, next_line}
use Rattle.gipsat_dimacs.specs.declared.error.Stop.TheVariants.{Refused}
use Rattle.gipsat_dimacs.proofs.ErrorLemmas.{passed_on}
use Rattle.gipsat_dimacs.proofs.parser.Parser.end_line.Goals as goal

pub returns-then-is_ended-clause-ok : goal.returns-then-is_ended-clause-ok
returns-then-is_ended-clause-ok g c rest =
    let f = g.S.ClauseSink.formula in
    let p = c.args.self.now in
    let ended : is_ended p.stage ≡ true = cc in
    ended_more p.rule (f p.clauses) p.clause.items p.in_comment p.stage (p.word.items ++ 10 ∷ rest)
    (p.word.items ++ rest) ended

pub returns-in_err-end_word-clause-err : goal.returns-in_err-end_word-clause-err
returns-in_err-end_word-clause-err g c =
    let f = g.S.ClauseSink.formula in
    let p = c.args.self.now in
    passed_on ((words : List Word) (lines : List (List Word))
    → problem_next f p (with_word p.word.items words) lines ≡ None)
    (SaysNothing f p (10 ∷ [])) c.from_residual.result _
    (λ h rest. ended p.rule (f p.clauses) p.clause.items p.in_comment p.stage p.word.items rest c.requires.reading
    ∙ h [] (word_lines rest))
    c.from_residual.ensures c.in_err-end_word.ensures.err

pub returns-in_err-self-clause-err : goal.returns-in_err-self-clause-err
returns-in_err-self-clause-err g c =
    let f = g.S.ClauseSink.formula in
    let p = c.args.self.now in
    let q = c.end_word.new.self in
    let nothing : SaysNothing f p (10 ∷ []) =
    λ rest. ended p.rule (f p.clauses) p.clause.items p.in_comment p.stage p.word.items rest c.requires.reading
    ∙ c.in_ok-end_word.ensures.ok [] (word_lines rest)
    ∙ c.in_err-self.ensures.err q.rule (f q.clauses) q.clause.items (word_lines rest) in
    passed_on (SaysNothing f p (10 ∷ [])) (SaysNothing f p (10 ∷ [])) c.from_residual-in_err-self.result
    (Refused c.in_err-self.field-0.0) (λ h. h)
    c.from_residual-in_err-self.ensures nothing

pub returns-clause-ok : goal.returns-clause-ok
returns-clause-ok g c rest =
    let f = g.S.ClauseSink.formula in
    let p = c.args.self.now in
    let q = c.end_word.new.self in
    ended p.rule (f p.clauses) p.clause.items p.in_comment p.stage p.word.items rest c.requires.reading
    ∙ c.in_ok-end_word.ensures.ok [] (word_lines rest)
    ∙ next_line q.rule (f q.clauses) q.clause.items q.in_comment q.stage c.in_ok-self.field-0 q.word.items rest
    c.end_word.ensures.comment
    c.in_ok-end_word.ensures.word c.in_ok-self.ensures.ok
