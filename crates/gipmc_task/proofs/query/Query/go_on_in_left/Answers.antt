-- The search in what is left is about the circuit and its literals.
use Rattle.std.proofs.Common.{◌≡◌, ◌∙◌, ap, subst}
use Rattle.gipsat_cnf.proofs.Places.{same_some}
use Rattle.gipmc_task.proofs.query.Query.go_on_in_left.Goals as goal

pub invariant_of-self : goal.invariant_of-self
invariant_of-self g c =
    let now = c.args.self.now in
    record {
      same = now.same;
      same_bads = now.same_bads;
      about = λ x is. subst (λ p. p.whole.now ≡ now.whole.now) (same_some _ x is)
          (ap (λ r. r.now) c.go_on.ensures.whole ∙ now.about c.in-Some.left c.in-Some.is);
      about_bads = λ x is. subst (λ p. p.bads.now ≡ now.bads.now) (same_some _ x is)
          (ap (λ r. r.now) c.go_on.ensures.bads ∙ now.about_bads c.in-Some.left c.in-Some.is);
    }
