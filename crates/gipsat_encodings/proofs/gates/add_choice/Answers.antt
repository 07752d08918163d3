-- What is chosen where the condition is true, and then where it is not.
use Rattle.std.proofs.lemmas.Result.{on_err_weaker, on_ok_weaker}
use Rattle.gipsat_cnf.proofs.Encodings.{Adds-both, Adds-same, AddsPart-both, AddsPart-of}
use Rattle.gipsat_cnf.proofs.Places.{OnErr-always}
use Rattle.gipsat_encodings.proofs.GateMeanings.{IsChoice-cases}
use Rattle.gipsat_encodings.proofs.Leaving.{SpeaksOf-no, SpeaksOf-yes}
use Rattle.gipsat_encodings.proofs.gates.add_choice.Goals as goal

pub returns-in_err-add_chosen-clause-left : goal.returns-in_err-add_chosen-clause-left
returns-in_err-add_chosen-clause-left g c =
    OnErr-always _
    (AddsPart-of _ _ _ _ (λ a is. ((IsChoice-cases a c.args.output c.args.condition c.args.yes c.args.no).1 is).0)
    c.in_err-add_chosen.ensures.left)

pub returns-clause-means : goal.returns-clause-means
returns-clause-means g c =
    on_ok_weaker c.add_chosen-2.result
    (λ other. Adds-same _ _ _ _ (λ a. IsChoice-cases a c.args.output c.args.condition c.args.yes c.args.no)
    (Adds-both _ _ _ _ _ c.in_ok-add_chosen.ensures.means other))
    (rw c.negated.ensures at c.add_chosen-2.ensures.means)

pub returns-clause-left : goal.returns-clause-left
returns-clause-left g c =
    on_err_weaker c.add_chosen-2.result
    (λ other. AddsPart-of _ _ _ _ (λ a. (IsChoice-cases a c.args.output c.args.condition c.args.yes c.args.no).1)
    (AddsPart-both _ _ _ _ _ c.in_ok-add_chosen.ensures.means other))
    (rw c.negated.ensures at c.add_chosen-2.ensures.left)

pub returns-in_err-add_chosen-clause-speaks : goal.returns-in_err-add_chosen-clause-speaks
returns-in_err-add_chosen-clause-speaks g c =
    OnErr-always _ (SpeaksOf-yes c.args.output c.args.condition c.args.yes c.args.no _ _ c.in_err-add_chosen.ensures.speaks)

pub returns-clause-speaks : goal.returns-clause-speaks
returns-clause-speaks g c =
    on_err_weaker c.add_chosen-2.result (SpeaksOf-no c.args.output c.args.condition c.args.yes c.args.no _ _ _ c.in_ok-add_chosen.ensures.means)
    (rw c.negated.ensures at c.add_chosen-2.ensures.speaks)
