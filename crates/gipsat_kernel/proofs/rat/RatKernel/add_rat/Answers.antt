use Rattle.std.proofs.Common.{◌≡◌, ◌∷◌, ◌++◌, [], length, Some, sym, subst, rules}
use Rattle.std.specs.Prelude.{slice_get}
use Rattle.gipsat_cnf.specs.Literals.{negated}
use Rattle.gipsat_kernel.specs.Kernel.{original_among}
use Rattle.gipsat_kernel.specs.Rat.{AreResolved, KeepsSatisfiable}
use Rattle.gipsat_kernel.proofs.RatLemmas.{KeepsSatisfiable-rat}
use Rattle.gipsat_kernel.proofs.rat.RatKernel.add_rat.Goals as goal

pub returns : goal.returns
returns c =
    let fs = c.self.inside.held.items in
    let cs = c.self.inside.clauses in
    let clause = c.args.clause.now in
    let pivot = c.in-Some.pivot.now in
    let first : slice_get c.args.clause.now 0 ≡ Some c.in-Some.pivot.now = search rules in
    let resolved : AreResolved c.self.inside.held.items c.self.inside.clauses (negated c.in-Some.pivot.now) c.args.clause.now (length c.self.inside.clauses) =
    subst (λ l. AreResolved c.self.inside.held.items c.self.inside.clauses l c.args.clause.now (length c.self.inside.clauses)) c.negated.ensures
    (subst (λ flags. AreResolved flags c.self.inside.clauses c.negated.result c.args.clause.now (length c.self.inside.clauses)) c.deref.ensures.value
    c.if-not-are_resolved.ensures)
    in
    let keeps : KeepsSatisfiable (original_among fs cs) (original_among fs cs ++ clause ∷ []) = KeepsSatisfiable-rat fs cs pivot clause first resolved in
    subst (λ new. KeepsSatisfiable c.args.self.now new) (sym c.in_ok-add_clause.ensures.added)
    (subst (λ old. KeepsSatisfiable old (original_among fs cs ++ clause ∷ [])) c.self.view_is keeps)
