-- The status that a program ends with.
use Rattle.std.specs.Prelude.{◌≡◌, ◌⊎◌, ℕ, Result, Ok, Err}

-- where nothing is answered, or an answer is not verified
abbrev pub refused_status : ℕ
refused_status = 1

-- where the arguments have no meaning
abbrev pub usage_status : ℕ
usage_status = 2

-- where there is no answer to give, and nothing failed
abbrev pub ended_status : {E : Type 0} → Result Unit E → ℕ
ended_status (Ok done) = 0
ended_status (Err error) = refused_status

-- one of these two: all went well, or not
abbrev pub IsEndedStatus : ℕ → Type 0
IsEndedStatus status = (status ≡ 0) ⊎ (status ≡ refused_status)
