-- What the status of a run says.
use Rattle.std.proofs.Common.{◌≡◌, ℕ, ◌<◌, ⊎_elim, Bool, true, false, Ok, Err, IsTrue, arith, inl, inr, refl}
use Rattle.std.specs.Prelude.{Result, IfOk}
use Rattle.gip_cli.specs.Statuses.{IsEndedStatus}
use Rattle.gipmc.specs.Statuses.{search_status, verified_status}
use Rattle.gipmc_task.specs.declared.outcome.Outcome.{Outcome}
use Rattle.gipmc_task.specs.declared.outcome.Outcome.TheVariants.{Fails, Safe, Open}

-- a search ends with 20 only where the outcome is safe
pub safe_ended : {E : Type 0} (P : Outcome → Type 0) (zero : Bool) (r : Result Outcome E) → IfOk r P
    → search_status zero r ≡ 20 → P Safe
safe_ended P true (Ok outcome) is status = absurd cc
safe_ended P true (Err error) is status = absurd cc
safe_ended P false (Ok Safe) is status = is
safe_ended P false (Ok Fails) is status = absurd cc
safe_ended P false (Ok Open) is status = absurd cc
safe_ended P false (Err error) is status = absurd cc

-- it ends with 10 only where the circuit fails
pub fails_ended : {E : Type 0} (P : Outcome → Type 0) (zero : Bool) (r : Result Outcome E) → IfOk r P
    → search_status zero r ≡ 10 → P Fails
fails_ended P true (Ok outcome) is status = absurd cc
fails_ended P true (Err error) is status = absurd cc
fails_ended P false (Ok Safe) is status = absurd cc
fails_ended P false (Ok Fails) is status = is
fails_ended P false (Ok Open) is status = absurd cc
fails_ended P false (Err error) is status = absurd cc

-- a check ends with 0 only where the answer is verified
pub verified_ended : {E : Type 0} (P : Type 0) (r : Result Bool E) → IfOk r (λ verified. IsTrue verified → P)
    → verified_status r ≡ 0 → P
verified_ended P (Ok true) is status = is refl
verified_ended P (Ok false) is status = absurd cc
verified_ended P (Err error) is status = absurd cc

-- a check ends with 0 or with 1
pub check_ended : {E : Type 0} (r : Result Bool E) → IsEndedStatus (verified_status r)
check_ended (Ok true) = inl refl
check_ended (Ok false) = inr refl
check_ended (Err error) = inr refl

-- what ends so ends with no other status
pub no_other : (P : Type 0) (status n : ℕ) → IsEndedStatus status → status ≡ n → 1 < n → P
no_other P status n ends is more =
    ⊎_elim (λ well. absurd (omega (arith, well, is, more))) (λ refused. absurd (omega (arith, refused, is, more))) ends
