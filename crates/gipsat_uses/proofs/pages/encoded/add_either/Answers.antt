-- The clause of both literals, and that of their negations, say that exactly one is true.
use Rattle.std.proofs.Common.{◌≡◌, [], ◌∷◌, ◌++◌, refl, ap, ◌∙◌}
use Rattle.std.proofs.lemmas.Result.{on_ok_weaker}
use Rattle.gipsat_cnf.specs.Prelude.{Clause, Formula, negated}
use Rattle.gipsat_cnf.proofs.Encodings.{Adds-exactly_one}
use Rattle.gipsat_uses.proofs.pages.encoded.add_either.Goals as goal

both_behind : (f : Formula) (c d : Clause) → (f ++ c ∷ []) ++ d ∷ [] ≡ f ++ c ∷ d ∷ []
both_behind [] c d = refl
both_behind (e ∷ f) c d = ap (λ g. e ∷ g) (both_behind f c d)

pub returns : goal.returns
returns g c =
    let l = c.args.l in
    let m = c.args.m in
    let old = g.S.ClauseSink.formula c.args.sink.now in
    let first : Clause = l ∷ m ∷ [] in
    let second : (c.negated.result ∷ c.negated-2.result ∷ []) ≡ (negated c.args.l ∷ negated c.args.m ∷ []) =
    ap (λ n. n ∷ c.negated-2.result ∷ []) c.negated.ensures ∙ ap (λ n. negated l ∷ n ∷ []) c.negated-2.ensures
    in
    on_ok_weaker c.add_clause-2.result
    (λ more. Adds-exactly_one (l ∷ m ∷ []) old (g.S.ClauseSink.formula c.add_clause-2.new.self)
    (more ∙ ap (λ f. f ++ (c.negated.result ∷ c.negated-2.result ∷ []) ∷ []) c.in_ok-add_clause.ensures.added
    ∙ ap (λ d. (old ++ first ∷ []) ++ d ∷ []) second ∙ both_behind old first (negated l ∷ negated m ∷ [])))
    c.add_clause-2.ensures.added
