-- The word ends, and then the text.
use Rattle.std.proofs.Common.{◌≡◌, List, [], ◌∙◌, None}
use Rattle.gipsat_dimacs.specs.Texts.{Word, with_word}
use Rattle.gipsat_dimacs.specs.Parsers.{problem_from, problem_next}
use Rattle.gipsat_dimacs.specs.declared.error.Stop.TheVariants.{Refused}
use Rattle.gipsat_dimacs.proofs.ParserLemmas.{ended_all}
use Rattle.gipsat_dimacs.proofs.ErrorLemmas.{passed_on}
use Rattle.gipsat_dimacs.proofs.parser.Parser.finish.Goals as goal

pub returns-in_err-end_word-clause-err : goal.returns-in_err-end_word-clause-err
returns-in_err-end_word-clause-err g c =
    let f = g.S.ClauseSink.formula in
    let p = c.args.self in
    passed_on ((words : List Word) (lines : List (List Word))
    → problem_next f p (with_word p.word.items words) lines ≡ None)
    (problem_from f p [] ≡ None) c.from_residual.result _
    (λ h. ended_all p.rule (f p.clauses) p.clause.items p.in_comment p.stage p.word.items c.requires.reading
    ∙ h [] [])
    c.from_residual.ensures c.in_err-end_word.ensures.err

pub returns-in_err-close-clause-err : goal.returns-in_err-close-clause-err
returns-in_err-close-clause-err g c =
    let f = g.S.ClauseSink.formula in
    let p = c.args.self in
    let nothing : problem_from f p [] ≡ None =
    ended_all p.rule (f p.clauses) p.clause.items p.in_comment p.stage p.word.items c.requires.reading
    ∙ c.in_ok-end_word.ensures.ok [] [] ∙ c.in_err-close.ensures.err in
    passed_on (problem_from f p [] ≡ None) (problem_from f p [] ≡ None) c.from_residual-in_err-close.result
    (Refused c.in_err-close.field-0.0) (λ h. h)
    c.from_residual-in_err-close.ensures nothing

pub returns-clause-ok : goal.returns-clause-ok
returns-clause-ok g c =
    let f = g.S.ClauseSink.formula in
    let p = c.args.self in
    ended_all p.rule (f p.clauses) p.clause.items p.in_comment p.stage p.word.items c.requires.reading
    ∙ c.in_ok-end_word.ensures.ok [] [] ∙ c.in_ok-close.ensures.ok
