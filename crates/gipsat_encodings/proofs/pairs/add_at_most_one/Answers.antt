-- The clauses of all pairs say that at most one is true, and some of them say a part of that.
use Rattle.std.proofs.Common.{◌≡◌, length, arith}
use Rattle.std.proofs.lemmas.Grind.{common_steps}
use Rattle.gipsat_cnf.proofs.Encodings.{Adds-at_most_one}
use Rattle.gipsat_cnf.proofs.Places.{OnErr-always}
use Rattle.gipsat_encodings.proofs.AllPairs.{AddsPart-pairs, PairsLeft-all, PairsLeft-next, pairs-all}
use Rattle.gipsat_encodings.proofs.pairs.add_at_most_one.Goals as goal

pub loop-place-init : goal.loop-place-init
loop-place-init g c = PairsLeft-all c.args.literals.now _

pub loop-place-preserved : goal.loop-place-preserved
loop-place-preserved g c =
    PairsLeft-next c.args.literals.now c.loop-place.place c.index-literals-place.result _ _ _ c.loop-place-test.true c.index-literals-place.is c.loop-place.invariant
    c.in_ok-add_pairs.ensures.clauses

pub returns-in_err-add_pairs-clause-left : goal.returns-in_err-add_pairs-clause-left
returns-in_err-add_pairs-clause-left g c =
    OnErr-always _
    (AddsPart-pairs c.args.literals.now c.loop-place.place c.index-literals-place.result _ _ _ c.loop-place-test.true c.index-literals-place.is
    c.loop-place.invariant c.in_err-add_pairs.ensures.left)

pub returns-clause-clauses : goal.returns-clause-clauses
returns-clause-clauses g c =
    let all : c.loop-place.place ≡ length c.args.literals.now = grind (arith, common_steps) in
    pairs-all c.args.literals.now _ _ (rw all at c.loop-place.invariant)

pub returns-clause-means : goal.returns-clause-means
returns-clause-means g c =
    let all : c.loop-place.place ≡ length c.args.literals.now = grind (arith, common_steps) in
    Adds-at_most_one c.args.literals.now _ _ (pairs-all c.args.literals.now _ _ (rw all at c.loop-place.invariant))
