-- The clause says that one of its literals is true.
use Rattle.std.proofs.lemmas.Result.{on_ok_weaker}
use Rattle.gipsat_cnf.proofs.Encodings.{Adds-clause, Adds-same, at_least_one-says}
use Rattle.gipsat_encodings.proofs.pairs.add_at_least_one.Goals as goal

pub returns-clause-means : goal.returns-clause-means
returns-clause-means g c =
    on_ok_weaker c.add_clause.result (λ added. Adds-same _ _ _ _ (λ a. at_least_one-says a c.args.literals.now) (Adds-clause c.args.literals.now _ _ added))
    c.add_clause.ensures.added
