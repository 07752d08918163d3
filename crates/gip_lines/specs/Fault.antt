-- What the program says and how it ends when it stops early.
use Rattle.std.specs.Prelude.{◌≡◌, ℕ, Bool, false, List, ◌++◌, codes, decimal, Option, Some, ⊤}
use Rattle.gip_lines.specs.Input.{IsTooLong}
use Rattle.gip_lines.specs.Texts.{first_other}
use Rattle.gip_lines.specs.declared.fault.GipFault.{GipFault}
use Rattle.gip_lines.specs.declared.fault.GipFault.TheVariants.{Input, Line, Memory, Output}

-- the text of a fault
abbrev pub fault_text : GipFault → List ℕ
fault_text Input = codes "input: refused"
fault_text (Line number) = codes "line " ++ decimal number ++ codes ": refused"
fault_text Memory = codes "memory: refused"
fault_text Output = codes "output: failed"

-- the exit status of a fault
abbrev pub fault_status : GipFault → ℕ
fault_status Input = 2
fault_status (Line number) = 2
fault_status Memory = 1
fault_status Output = 1

-- the fault may end the reading of an input: `Input` where the reader failed or has too much left, and want of memory
-- where it has not failed
abbrev pub StopsReading : Bool → Option (List ℕ) → GipFault → Type 0
StopsReading has_failed remaining Input = has_failed ≡ false → IsTooLong remaining
StopsReading has_failed remaining (Line number) = ⊥
StopsReading has_failed remaining Memory = has_failed ≡ false
StopsReading has_failed remaining Output = ⊥

-- the fault may end the reading of a text's lines, each of some form
abbrev pub StopsParsing : {L : Type 0} → (List ℕ → Option L) → List ℕ → GipFault → Type 0
StopsParsing form text Input = ⊥
StopsParsing form text (Line number) = first_other form text ≡ Some number
StopsParsing form text Memory = ⊤
StopsParsing form text Output = ⊥
