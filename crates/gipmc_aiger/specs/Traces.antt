-- Witnesses as they lie in memory.
use Rattle.std.specs.Prelude.{ℕ, List, ◌++◌, codes, decimal}
use Rattle.gipmc_circuits.specs.declared.trace.Trace.{Trace}
use Rattle.gipmc_aiger.specs.declared.witness.Witness.{Witness}
use Rattle.gipmc_aiger.specs.Witnesses.{Stimulus, bits_line, frames_lines, frames_view}

-- a witness without where it lies in memory
abbrev pub witness_view : Witness → Stimulus
witness_view w =
    record { property = w.property; latches = w.trace.latches.items; inputs = frames_view w.trace.inputs.items }

-- the text of a trace as a witness: `1`, the property, the latches at first, and the inputs at each moment
abbrev pub witness_text : ℕ → Trace → List ℕ
witness_text property trace =
    codes "1\nb" ++ decimal property ++ codes "\n" ++ bits_line trace.latches.items ++ frames_lines trace.inputs.items

-- the text of a trace as a lasso: the same with a justice property
abbrev pub lasso_text : ℕ → Trace → List ℕ
lasso_text property trace =
    codes "1\nj" ++ decimal property ++ codes "\n" ++ bits_line trace.latches.items ++ frames_lines trace.inputs.items
