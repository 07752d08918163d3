-- The words of a header, wherever its lines end.
use Rattle.std.proofs.Common.{◌≡◌, false, codes, None, Some}
use Rattle.std.specs.Str.{bytes_eq}
use Rattle.gipsat_dimacs.specs.Texts.{number_of}
use Rattle.gipsat_dimacs.specs.Parsers.{TakesNoWord}
use Rattle.gipsat_dimacs.specs.declared.error.Stop.TheVariants.{Refused}
use Rattle.gipsat_dimacs.proofs.ErrorLemmas.{passed_on}
use Rattle.gipsat_dimacs.proofs.ParserLemmas.{problem_heading-format, problem_heading-count, problem_heading-counted}
use Rattle.gipsat_dimacs.proofs.parser.Parser.take_word.Goals as goal

pub returns-in_err-expect-in-Problem-clause-err : goal.returns-in_err-expect-in-Problem-clause-err
returns-in_err-expect-in-Problem-clause-err g c =
    let f = g.S.ClauseSink.formula in
    let p = c.args.self.now in
    let other : bytes_eq p.word.items (codes "cnf") ≡ false =
    rw c.deref.ensures.value at c.in_err-expect-in-Problem.ensures.err in
    let nothing : TakesNoWord f p.stage p =
    λ words lines. rw c.in-Problem.is
    (problem_heading-format p.rule (f p.clauses) p.clause.items p.word.items words lines other) in
    passed_on (TakesNoWord f p.stage p) (TakesNoWord f p.stage p) c.from_residual.result
    (Refused c.in_err-expect-in-Problem.field-0.0) (λ h. h)
    c.from_residual.ensures nothing

pub returns-in_err-number-in-Format-clause-err : goal.returns-in_err-number-in-Format-clause-err
returns-in_err-number-in-Format-clause-err g c =
    let f = g.S.ClauseSink.formula in
    let p = c.args.self.now in
    let none : number_of p.word.items ≡ None = rw c.deref-in-Format.ensures.value
    at c.in_err-number-in-Format.ensures.err in
    let nothing : TakesNoWord f p.stage p =
    λ words lines. rw c.in-Format.is
    (problem_heading-count p.rule (f p.clauses) p.clause.items p.word.items words lines none) in
    passed_on (TakesNoWord f p.stage p) (TakesNoWord f p.stage p) c.from_residual-in_err-number-in-Format.result
    (Refused c.in_err-number-in-Format.field-0.0) (λ h. h) c.from_residual-in_err-number-in-Format.ensures nothing

pub returns-in_ok-number-in-Format-clause-ok : goal.returns-in_ok-number-in-Format-clause-ok
returns-in_ok-number-in-Format-clause-ok g c words lines =
    let f = g.S.ClauseSink.formula in
    let p = c.args.self.now in
    let n = c.in_ok-number-in-Format.field-0 in
    let is : number_of p.word.items ≡ Some n = rw c.deref-in-Format.ensures.value
    at c.in_ok-number-in-Format.ensures.ok in
    rw c.in-Format.is (problem_heading-counted p.rule (f p.clauses) p.clause.items p.word.items n words lines is)
