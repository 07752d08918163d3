use Rattle.std.proofs.Common.{◌<◌, ◌*◌, ◌%◌, arith}
use Rattle.std.proofs.lemmas.Bool.Decides.{nat_tests}
use Rattle.giputils_stat.proofs.Rounding.{one_nearest, next_from_rest}
use Rattle.giputils_stat.proofs.decimal.rounded.Goals as goal

pub returns-in-Greater-clause-only : goal.returns-in-Greater-clause-only
returns-in-Greater-clause-only c =
    let more : c.args.denominator < 2 * (c.args.numerator % c.args.denominator) = grind (arith, nat_tests) in
    λ n nearest. one_nearest _ _ n _ c.requires nearest (next_from_rest _ _ c.requires more)
