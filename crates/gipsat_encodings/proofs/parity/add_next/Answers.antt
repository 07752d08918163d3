-- The output is a variable of its own.
use Rattle.std.proofs.Common.{arith}
use Rattle.gipsat_cnf.proofs.Places.{OnErr-always}
use Rattle.gipsat_encodings.specs.Extending.{Anything}
use Rattle.gipsat_encodings.proofs.Leaving.{Extends-stays}
use Rattle.gipsat_encodings.proofs.Parities.{Defines-xor, DefinesPart-xor}
use Rattle.gipsat_encodings.proofs.parity.add_next.Goals as goal

pub returns-clause-sum : goal.returns-clause-sum
returns-clause-sum g c =
    Defines-xor _ _ c.in_ok-output.output c.args.sum c.args.l _ _ c.in_ok-output.ensures.variable c.in_ok-output.ensures.next
    c.requires.sum c.requires.l c.in_ok-add_xor.ensures.means

pub returns-in_err-output-clause-left : goal.returns-in_err-output-clause-left
returns-in_err-output-clause-left g c =
    OnErr-always _ (Extends-stays _ _ Anything _ (let same = c.in_err-output.ensures.refused in omega (arith, same)))

pub returns-in_err-add_xor-clause-left : goal.returns-in_err-add_xor-clause-left
returns-in_err-add_xor-clause-left g c =
    OnErr-always _
    (DefinesPart-xor _ _ c.in_ok-output.output c.args.sum c.args.l _ _ c.in_ok-output.ensures.variable c.in_ok-output.ensures.next
    c.requires.sum c.requires.l c.in_err-add_xor.ensures.left c.in_err-add_xor.ensures.speaks)
