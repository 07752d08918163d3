-- The clauses are about all variables.
use Rattle.std.proofs.Common.{◌≡◌, length, arith, subst}
use Rattle.std.proofs.lemmas.Grind.{common_steps}
use Rattle.gipmc_reduce.proofs.Equalities.{ImpliesBelow, ImpliesBelow-more, ImpliesMerges-all}
use Rattle.gipmc_reduce.proofs.correspondence.merges.Merges.clauses.Goals as goal

pub loop-place-preserved : goal.loop-place-preserved
loop-place-preserved c =
    ImpliesBelow-more c.loop-place.place c.in_ok-l.l c.loop-place.all.items c.add_equal.new.clauses.items
    c.args.self.now.literals.items c.loop-place.invariant c.in_ok-l.ensures c.in_ok-add_equal.ensures

pub returns : goal.returns
returns c =
    let merges = c.args.self.now.literals.items in
    let all : c.loop-place.place ≡ length c.args.self.now.literals.items = grind (arith, common_steps) in
    ImpliesMerges-all c.loop-place.all.items merges
    (subst (λ n. ImpliesBelow n c.loop-place.all.items merges) all c.loop-place.invariant)
