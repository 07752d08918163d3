-- What a refused request becomes.
--
-- How it is proved: after a `?` with `From<AllocError>`, `c.from_residual.ensures` is `IsErr × IsErrAnd`, which
-- `memory_from` turns into an equation.
use Rattle.std.proofs.Common.{◌≡◌, Result, Ok, Err, ap, sym, ◌∙◌}
use Rattle.std.specs.Prelude.{IsErr, IsErrAnd, OnErr, OnOk, is_err, false}
use Rattle.giputils_bits.specs.declared.bitvec.error.BitVecError.{BitVecError}
use Rattle.giputils_bits.specs.declared.bitvec.error.BitVecError.TheVariants.{TooLong, Memory}

pub memory_from : {X : Type 0} → (r : Result X BitVecError) → IsErr r × IsErrAnd r (λ error. error ≡ Memory) → r ≡ Err Memory
memory_from (Ok x) h = absurd (let never = h.0 in cc)
memory_from (Err e) h = ap (λ error. Err error) h.1

-- what a call that did not fail ensures
pub ok_if_not_err : {X E : Type 0} {P : Type 0} → (r : Result X E) → is_err r ≡ false → OnOk r P → P
ok_if_not_err (Ok x) e h = h
ok_if_not_err (Err e') e h = absurd (cc)

-- an error passed on as it is
pub error_from : {X : Type 0} → (r : Result X BitVecError) (given : BitVecError) → IsErr r × IsErrAnd r (λ error. error ≡ given) → r ≡ Err given
error_from (Ok x) given h = absurd (let never = h.0 in cc)
error_from (Err e) given h = ap (λ error. Err error) h.1

-- want of memory is not a length
pub not_too_long : {X : Type 0} → (r : Result X BitVecError) → r ≡ Err Memory → r ≡ Err TooLong → ⊥
not_too_long r memory too_long = let never = sym memory ∙ too_long in cc

-- what holds whatever a call answered
pub on_err : {X E : Type 0} {P : Type 0} → (r : Result X E) → P → OnErr r P
on_err (Ok x) h = tt
on_err (Err e) h = h
