-- Why a call was refused.
use Rattle.std.specs.Prelude.{◌≡◌, ℕ, List, codes}
use Rattle.giputils_bits.specs.declared.bitvec.error.BitVecError.{BitVecError}
use Rattle.giputils_bits.specs.declared.bitvec.error.BitVecError.TheVariants.{TooLong, Memory}

-- the text of an error
abbrev pub error_text : BitVecError → List ℕ
error_text TooLong = codes "the vector would be too long"
error_text Memory = codes "memory was refused"

-- memory was refused
abbrev pub IsMemory : BitVecError → Type 0
IsMemory error = error ≡ Memory
