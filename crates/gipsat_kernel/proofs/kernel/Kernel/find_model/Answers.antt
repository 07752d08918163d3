use Rattle.std.proofs.Common.{subst}
use Rattle.gipsat_cnf.specs.Simplifying.{SaysSame}
use Rattle.gipsat_kernel.proofs.Originals.{SaysSame-working}
use Rattle.gipsat_kernel.proofs.Verdicts.{found-same, none-same}
use Rattle.gipsat_kernel.proofs.kernel.Kernel.find_model.Goals as goal

pub returns-clause-model : goal.returns-clause-model
returns-clause-model c =
    let same : SaysSame c.self.inside.clauses c.args.self.now =
    subst (SaysSame c.self.inside.clauses) c.self.view_is (SaysSame-working c.self.inside.original.items c.self.inside.clauses c.self.invariant.implied)
    in
    found-same (λ m. m.items) c.find_model.result c.self.inside.clauses c.args.self.now c.args.assumptions.now same c.find_model.ensures.model

pub returns-clause-none : goal.returns-clause-none
returns-clause-none c =
    let same : SaysSame c.self.inside.clauses c.args.self.now =
    subst (SaysSame c.self.inside.clauses) c.self.view_is (SaysSame-working c.self.inside.original.items c.self.inside.clauses c.self.invariant.implied)
    in
    none-same c.find_model.result c.self.inside.clauses c.args.self.now c.args.assumptions.now same c.find_model.ensures.none
