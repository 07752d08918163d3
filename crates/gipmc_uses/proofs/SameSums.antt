-- An adder that gives the same as another one.
use Rattle.std.proofs.Common.{◌≡◌, ⊎_elim, ◌&&◌, ◌==◌, Bool, true, not, List, [], ◌∷◌, Vec, IsTrue, refl, sym, ap, subst, ◌∙◌}
use Rattle.std.specs.declared.alloc.Global.{Global}
use Rattle.std.proofs.lemmas.Bool.{and_from, cases_Bool, eqb-true}
use Rattle.gipsat_cnf.specs.Prelude.{Assignment, Lit, is_true, makes_true, negated}
use Rattle.gipmc_circuits.specs.declared.circuit.Circuit.{Circuit}
use Rattle.gipmc_circuits.specs.Prelude.{Excludes, is_moment, is_valuation}
use Rattle.gipmc_builder.specs.Build.{GivesSame, GivesSum, Keeps, number_of}
use Rattle.gipmc_builder.proofs.Built.{is_true-negated}

-- where no moment tells the two sums apart, the one is what the other is
pub adds_too : (c d e : Circuit) (clauses : List (Vec Lit Global)) (xs ys sum wanted : List Lit) (same differ : Lit)
    → GivesSum c xs ys wanted → Keeps c d → GivesSame d sum wanted same → e ≡ d → d.constraints.items ≡ [] → clauses ≡ []
    → differ ≡ negated same → Excludes e clauses differ → GivesSum e xs ys sum
adds_too c d e clauses xs ys sum wanted same differ adds keeps is_same is free none turned excluded a valuation =
    let here : IsTrue (is_valuation d a) = subst (λ x. IsTrue (is_valuation x a)) is valuation in
    let moment : IsTrue (is_moment d a) =
    and_from (is_valuation d a) (makes_true a d.constraints.items) here (subst (λ ls. IsTrue (makes_true a ls)) (sym free) refl) in
    let never : ¬ (IsTrue (is_true a (negated same))) = λ bad.
    excluded a (subst (λ x. IsTrue (is_moment x a)) (sym is) moment) (rw none refl) (subst (λ l. IsTrue (is_true a l)) (sym turned) bad) in
    ⊎_elim
    (λ yes. eqb-true (number_of a sum) (number_of a wanted) (sym (is_same a here) ∙ yes) ∙ adds a (keeps.extends.valuations a here))
    (λ no. absurd (never (is_true-negated a same ∙ ap not no)))
    (cases_Bool (is_true a same))
