-- A first word that begins a header has to be its first.
use Rattle.std.proofs.Common.{◌≡◌, ◌∷◌, [], true, false, codes}
use Rattle.std.specs.Str.{bytes_eq}
use Rattle.gipsat_dimacs.specs.Texts.{is_header}
use Rattle.gipsat_dimacs.specs.Parsers.{TakesNoWord}
use Rattle.gipsat_dimacs.specs.declared.error.Stop.TheVariants.{Refused}
use Rattle.gipsat_dimacs.specs.declared.stage.Stage.TheVariants.{Start}
use Rattle.gipsat_dimacs.proofs.ErrorLemmas.{passed_on}
use Rattle.gipsat_dimacs.proofs.ParserLemmas.{first_refused}
use Rattle.gipsat_dimacs.proofs.parser.Parser.take_first.Goals as goal

pub returns-in_err-first_word-clause-err : goal.returns-in_err-first_word-clause-err
returns-in_err-first_word-clause-err g c =
    let f = g.S.ClauseSink.formula in
    let p = c.args.self.now in
    let header : is_header p.rule (p.word.items ∷ []) ≡ true = cc in
    let other : bytes_eq p.word.items (codes "p") ≡ false =
    rw c.deref-then-is_header.ensures.value at c.in_err-first_word.ensures.err in
    let nothing : TakesNoWord f Start p =
    λ words lines. first_refused p.rule (f p.clauses) p.clause.items p.word.items words lines
    c.requires.no_comment_line header other in
    passed_on (TakesNoWord f Start p) (TakesNoWord f Start p) c.from_residual.result
    (Refused c.in_err-first_word.field-0.0) (λ h. h)
    c.from_residual.ensures nothing
