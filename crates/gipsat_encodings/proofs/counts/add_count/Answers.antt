-- Outputs that count both ways.
use Rattle.std.proofs.lemmas.Result.{IfOk-weaker, on_err_weaker}
use Rattle.gipsat_encodings.specs.Extending.{Anything}
use Rattle.gipsat_encodings.proofs.Bounds.{Defines-count}
use Rattle.gipsat_encodings.proofs.Extending.{Extends-from}
use Rattle.gipsat_encodings.proofs.counts.add_count.Goals as goal

pub returns-clause-tell : goal.returns-clause-tell
returns-clause-tell g c =
    IfOk-weaker c.count.result _ _ (λ outputs counts. Defines-count _ _ _ _ c.args.literals.now outputs.items _ _ c.above.ensures.least counts) c.count.ensures.counts

pub returns-clause-left : goal.returns-clause-left
returns-clause-left g c = on_err_weaker c.count.result (Extends-from _ _ _ Anything Anything _ _ c.above.ensures.least) c.count.ensures.left
