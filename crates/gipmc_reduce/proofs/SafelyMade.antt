-- Longer circuits that are safe, and what they show.
use Rattle.std.proofs.Common.{◌+◌, ◌++◌, List, Vec}
use Rattle.std.specs.declared.alloc.Global.{Global}
use Rattle.gipsat_cnf.specs.Literals.{Lit}
use Rattle.gipmc_circuits.specs.Certificate.{IsSafeByClauses}
use Rattle.gipmc_circuits.specs.declared.circuit.Circuit.{Circuit}
use Rattle.gipmc_reduce.specs.Longer.{HasNoLasso, IsLiveByClauses, IsMadeBy, NeverMeetsMore}
use Rattle.gipmc_reduce.specs.declared.means.Means.{Means}
use Rattle.gipmc_reduce.specs.declared.means.Means.TheVariants.{Counting, Saving}
use Rattle.gipmc_reduce.proofs.Counted.{CountsTo-counter, IsLive-met}
use Rattle.gipmc_reduce.proofs.Rounds.{IsLive-without_lasso}
use Rattle.gipmc_reduce.proofs.Saved.{FailsByLassos-saver}

-- where the circuit that counts to k is safe, at most k of the literals are met in turn; where the one that saves is,
-- there is no lasso; and the circuit is live
pub IsLiveByClauses-made : (c e : Circuit) (fairness justice : List Lit) (means : Means)
    → (invariant : List (Vec Lit Global)) (bad : Lit) → IsMadeBy c (fairness ++ justice) means e bad
    → IsSafeByClauses e invariant bad → IsLiveByClauses c fairness justice means invariant
IsLiveByClauses-made c e fairness justice (Counting k) invariant bad counter safe =
    let counts = CountsTo-counter c (fairness ++ justice) k e bad counter in
    let bounded : NeverMeetsMore c (fairness ++ justice) k = λ n meets. safe.safe n ((counts n).1 meets) in record {
      safely = (e, bad, counter, safe);
      shown = bounded;
      live = IsLive-met c fairness justice k bounded;
    }
IsLiveByClauses-made c e fairness justice Saving invariant bad saver safe =
    let fails = FailsByLassos-saver c (fairness ++ justice) e bad saver in
    let none : HasNoLasso c (fairness ++ justice) = λ n lasso. safe.safe (n + 1) (fails n lasso) in record {
      safely = (e, bad, saver, safe);
      shown = none;
      live = IsLive-without_lasso c fairness justice none;
    }
