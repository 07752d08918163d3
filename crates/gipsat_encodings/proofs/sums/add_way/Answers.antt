-- A part of the rows is a part of what is wanted.
use Rattle.std.proofs.Common.{IsTrue, rules}
use Rattle.std.proofs.lemmas.Result.{on_err_weaker}
use Rattle.gipsat_encodings.specs.Outputs.{SaySums}
use Rattle.gipsat_encodings.proofs.Leaving.{AddsSome-of}
use Rattle.gipsat_encodings.proofs.sums.add_way.Goals as goal

pub returns-clause-left : goal.returns-clause-left
returns-clause-left g c =
    let wanted : IsTrue c.args.is_wanted = search rules in
    on_err_weaker c.add_rows.result (AddsSome-of _ (SaySums c.args.up c.args.left.now c.args.right.now c.args.sums.now) _ _ _ (λ a say. say wanted))
    c.add_rows.ensures.left
