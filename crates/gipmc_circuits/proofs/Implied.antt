-- What clauses say of others, by a formula of a circuit's gates.
use Rattle.std.proofs.Common.{◌≡◌, List, [], length, IsTrue, Vec, refl, sym, subst}
use Rattle.std.specs.declared.alloc.Global.{Global}
use Rattle.gipsat_cnf.specs.Prelude.{Adds, AllBelow, Formula, Lit, satisfies}
use Rattle.gipmc_circuits.specs.declared.circuit.Circuit.{Circuit}
use Rattle.gipmc_circuits.specs.Prelude.{Implies, ImpliesItem, holds, is_valuation, values_at}
use Rattle.gipmc_circuits.proofs.Certified.{implied_items, values_at-none}

-- a formula that says the values of the gates and the given clauses implies others
pub implied_by : (c : Circuit) (given rows : List (Vec Lit Global)) (e f g : Formula) → e ≡ []
    → Adds (λ a. IsTrue (is_valuation c (values_at 0 a))) e f → Adds (λ a. IsTrue (holds given a)) f g
    → AllBelow (length rows) (ImpliesItem 0 g rows) → Implies c given rows
implied_by c given rows e f g none gates adds all a valued held =
    let start = subst (λ x. IsTrue (satisfies a x)) (sym none) refl in
    let sat_f = (gates a).1 (start, subst (λ x. IsTrue (is_valuation c x)) (sym (values_at-none a)) valued) in
    subst (λ x. IsTrue (holds rows x)) (values_at-none a) (implied_items 0 g rows a all ((adds a).1 (sat_f, held)))
