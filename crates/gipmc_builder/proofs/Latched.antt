-- Values in which latches hold what they are to hold.
use Rattle.std.proofs.Common.{eqb, cond, Bool, false, List, [], ◌∷◌, Option, Some, None, IsTrue, refl}
use Rattle.std.specs.Bool.{beq}
use Rattle.gipsat_cnf.specs.Formulas.{Assignment, is_true}
use Rattle.gipmc_circuits.specs.declared.circuit.Latch.{Latch}
use Rattle.gipmc_circuits.specs.Circuit.{is_reset}

-- the values, with those that latches hold
abbrev pub held : List Latch → (Latch → Bool) → Assignment → Assignment
held [] value a v = a v
held (l ∷ ls) value a v = cond (eqb v l.variable) (value l) (held ls value a v)

-- the value of a reset, 0 where it is free
abbrev pub reset_value : Option Bool → Bool
reset_value None = false
reset_value (Some value) = value

-- what a latch holds at first
abbrev pub start_of : Latch → Bool
start_of l = reset_value l.reset

-- what a latch holds behind these values
abbrev pub next_of : Assignment → Latch → Bool
next_of a l = is_true a l.next

pub starts : (reset : Option Bool) (value : Bool) → IsTrue (beq value (reset_value reset)) → IsTrue (is_reset reset value)
starts None value is = refl
starts (Some v) value is = is
