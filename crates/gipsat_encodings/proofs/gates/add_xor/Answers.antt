-- A choice between the other one's negation and the other one.
use Rattle.std.proofs.lemmas.Result.{on_err_weaker, on_ok_weaker}
use Rattle.gipsat_cnf.proofs.Encodings.{Adds-same, AddsPart-of}
use Rattle.gipsat_encodings.proofs.GateMeanings.{IsChoice-xor}
use Rattle.gipsat_encodings.proofs.Leaving.{SpeaksOf-xor}
use Rattle.gipsat_encodings.proofs.gates.add_xor.Goals as goal

pub returns-clause-means : goal.returns-clause-means
returns-clause-means g c =
    on_ok_weaker c.add_choice.result (Adds-same _ _ _ _ (λ a. IsChoice-xor a c.args.output c.args.l c.args.m))
    (rw c.negated.ensures at c.add_choice.ensures.means)

pub returns-clause-left : goal.returns-clause-left
returns-clause-left g c =
    on_err_weaker c.add_choice.result (AddsPart-of _ _ _ _ (λ a. (IsChoice-xor a c.args.output c.args.l c.args.m).1))
    (rw c.negated.ensures at c.add_choice.ensures.left)

pub returns-clause-speaks : goal.returns-clause-speaks
returns-clause-speaks g c =
    on_err_weaker c.add_choice.result (SpeaksOf-xor c.args.output c.args.l c.args.m _ _) (rw c.negated.ensures at c.add_choice.ensures.speaks)
