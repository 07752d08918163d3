-- What each task of the program takes, and what it writes.
use Rattle.std.specs.Prelude.{ℕ, Bool, List, Option}
use Rattle.std.specs.Io.KnownBytes.{Appends}
use Rattle.gip_lines.specs.Scripts.Lines.{IsScript, lines_of, first_other_line}
use Rattle.gip_lines.specs.Scripts.Replies.{script_text}
use Rattle.gip_lines.specs.Vectors.Lines.{AreBits, bits_of_lines, first_line_without_bits}
use Rattle.gip_lines.specs.Vectors.Replies.{bits_text}
use Rattle.gip_lines.specs.declared.task.Task.{Task}
use Rattle.gip_lines.specs.declared.task.Task.TheVariants.{Script, Bits}

-- every line of an input has the form that the task asks for
abbrev pub IsInputOf : Task → List ℕ → Type 0
IsInputOf Script input = IsScript input
IsInputOf Bits input = AreBits input

-- the number of the first line of another form; lines count from 1
abbrev pub first_line_against : Task → List ℕ → Option ℕ
first_line_against Script input = first_other_line input
first_line_against Bits input = first_line_without_bits input

-- a writer that held the one has the other after the task is done on an input
abbrev pub Writes : Task → List ℕ → Option (List ℕ) → Option (List ℕ) → Type 0
Writes Script input old new = (refusals : List Bool) × Appends old new (script_text (lines_of input) refusals)
Writes Bits input old new = Appends old new (bits_text (bits_of_lines input))
