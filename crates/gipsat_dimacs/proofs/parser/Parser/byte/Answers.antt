-- A byte of a comment, one that ends a word, and one that begins a comment or the end, or goes into a word.
use Rattle.std.proofs.Common.{◌≡◌, ◌==◌, List, [], ◌∷◌, ◌++◌, ◌∙◌, arith, None, false, true}
use Rattle.gipsat_dimacs.specs.Texts.{Word, is_blank, with_word}
use Rattle.gipsat_dimacs.specs.Parsers.{SaysOn, SaysNothing, problem_next, begins_comment, begins_end}
use Rattle.gipsat_dimacs.specs.declared.error.Stop.TheVariants.{Refused}
use Rattle.gipsat_dimacs.proofs.ParserLemmas.{in_comment-more, blank_says, blank_refused, comment_refused, comment_says, end_begins, end_here, IsWord-more}
use Rattle.gipsat_dimacs.proofs.ErrorLemmas.{if_refused, on_ok_both, passed_on}
use Rattle.gipsat_dimacs.proofs.parser.Parser.byte.Goals as goal

pub returns-then-self-clause-ok : goal.returns-then-self-clause-ok
returns-then-self-clause-ok g c rest =
    let f = g.S.ClauseSink.formula in
    let p = c.args.self.now in
    let other : (c.args.byte == 10) ≡ false = grind arith in
    in_comment-more p.rule (f p.clauses) p.clause.items p.in_comment p.stage p.word.items c.args.byte rest
    c.requires.reading c.if-self.true other

pub returns-then-is_blank-clause-ok : goal.returns-then-is_blank-clause-ok
returns-then-is_blank-clause-ok g c =
    let f = g.S.ClauseSink.formula in
    let p = c.args.self.now in
    let q = c.end_word.new.self in
    let blank : is_blank c.args.byte ≡ true = cc in
    on_ok_both (q.word.items ≡ [])
    ((words : List Word) (lines : List (List Word))
    → problem_next f p (with_word p.word.items words) lines ≡ problem_next f q words lines)
    (SaysOn f p (c.args.byte ∷ []) q) c.end_word.result c.end_word.ensures.word c.end_word.ensures.ok
    (λ none says rest. blank_says p.rule (f p.clauses) p.clause.items p.in_comment p.stage p.word.items c.args.byte
    rest c.requires.reading
    c.if-self.false blank q.rule q.in_comment q.stage (f q.clauses) q.clause.items q.word.items
    c.end_word.ensures.comment none says)

pub returns-then-is_blank-clause-err : goal.returns-then-is_blank-clause-err
returns-then-is_blank-clause-err g c =
    let f = g.S.ClauseSink.formula in
    let p = c.args.self.now in
    let blank : is_blank c.args.byte ≡ true = cc in
    if_refused ((words : List Word) (lines : List (List Word))
    → problem_next f p (with_word p.word.items words) lines ≡ None)
    (SaysNothing f p (c.args.byte ∷ [])) c.end_word.result
    (λ refused rest. blank_refused p.rule (f p.clauses) p.clause.items p.in_comment p.stage p.word.items c.args.byte
    rest c.requires.reading
    c.if-self.false blank refused) c.end_word.ensures.err

pub returns-then-begins_comment-clause-ok : goal.returns-then-begins_comment-clause-ok
returns-then-begins_comment-clause-ok g c rest =
    let f = g.S.ClauseSink.formula in
    let p = c.args.self.now in
    let q = c.end_word-then-begins_comment.new.self in
    let begins : begins_comment c.args.byte p.rule p.stage p.word.items ≡ true = cc in
    comment_says p.rule (f p.clauses) p.clause.items p.in_comment p.stage p.word.items c.args.byte rest
    c.requires.reading
    c.if-self.false begins q.rule q.stage (f q.clauses) q.clause.items q.word.items c.in_ok-end_word.ensures.word
    c.in_ok-end_word.ensures.ok

pub returns-in_err-end_word-clause-err : goal.returns-in_err-end_word-clause-err
returns-in_err-end_word-clause-err g c =
    let f = g.S.ClauseSink.formula in
    let p = c.args.self.now in
    let begins : begins_comment c.args.byte p.rule p.stage p.word.items ≡ true = cc in
    passed_on ((words : List Word) (lines : List (List Word))
    → problem_next f p (with_word p.word.items words) lines ≡ None)
    (SaysNothing f p (c.args.byte ∷ [])) c.from_residual.result _
    (λ refused rest. comment_refused p.rule (f p.clauses) p.clause.items p.in_comment p.stage p.word.items
    c.args.byte rest c.requires.reading
    c.if-self.false begins refused) c.from_residual.ensures c.in_err-end_word.ensures.err

pub returns-in_err-ended-clause-err : goal.returns-in_err-ended-clause-err
returns-in_err-ended-clause-err g c =
    let f = g.S.ClauseSink.formula in
    let p = c.args.self.now in
    let begins : begins_end c.args.byte p.word.items p.stage ≡ true = cc in
    let nothing : SaysNothing f p (c.args.byte ∷ []) =
    λ rest. end_begins p.rule (f p.clauses) p.clause.items p.in_comment p.stage p.word.items c.args.byte rest
    c.if-self.false begins
    ∙ c.in_err-ended.ensures.err in
    passed_on (SaysNothing f p (c.args.byte ∷ [])) (SaysNothing f p (c.args.byte ∷ [])) c.from_residual-in_err-ended.result
    (Refused c.in_err-ended.field-0.0) (λ h. h) c.from_residual-in_err-ended.ensures nothing

pub returns-then-begins_end-clause-ok : goal.returns-then-begins_end-clause-ok
returns-then-begins_end-clause-ok g c rest =
    let f = g.S.ClauseSink.formula in
    let p = c.args.self.now in
    let begins : begins_end c.args.byte p.word.items p.stage ≡ true = cc in
    end_here p.rule (f p.clauses) p.clause.items p.in_comment true p.stage p.word.items c.args.byte
    c.in_ok-ended.field-0 rest
    (p.word.items ++ rest) c.if-self.false begins c.in_ok-ended.ensures.ok

pub returns-clause-reading : goal.returns-clause-reading
returns-clause-reading g c =
    let f = g.S.ClauseSink.formula in
    let p = c.args.self.now in
    let other : (c.args.byte == 10) ≡ false = grind arith in
    let plain : is_blank c.args.byte ≡ false = cc in
    let no_comment : begins_comment c.args.byte p.rule p.stage p.word.items ≡ false = cc in
    let no_end : begins_end c.args.byte p.word.items p.stage ≡ false = cc in
    rw c.in_ok-push.ensures.items
    (IsWord-more p.rule p.stage p.in_comment p.word.items c.args.byte c.requires.reading c.if-self.false other
    plain no_comment no_end)
