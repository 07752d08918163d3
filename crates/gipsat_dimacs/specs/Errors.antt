-- The texts of what stops a run.
use Rattle.std.specs.Prelude.{ℕ, List, ◌++◌, codes, decimal}
use Rattle.gipsat_dimacs.specs.declared.error.Reason.{Reason}
use Rattle.gipsat_dimacs.specs.declared.error.Reason.TheVariants.{Header, SecondHeader, Word, Number, Variable, MoreClauses, FewerClauses, OpenClause, Compressed}
use Rattle.gipsat_dimacs.specs.declared.error.Compression.TheVariants.{Gzip, Xz, Bzip2, Zstd}
use Rattle.gipsat_dimacs.specs.declared.error.DimacsError.{DimacsError}
use Rattle.gipsat_dimacs.specs.declared.error.DimacsError.TheVariants.{Input, Line, Memory, Output}
use Rattle.gipsat_dimacs.specs.declared.error.Stop.{Stop}
use Rattle.gipsat_dimacs.specs.declared.error.Stop.TheVariants as stop

-- why a text has not the form
abbrev pub reason_text : Reason → List ℕ
reason_text Header = codes "no header `p cnf VARIABLES CLAUSES`"
reason_text SecondHeader = codes "a second header"
reason_text Word = codes "not a number"
reason_text Number = codes "a number past 2147483647"
reason_text Variable = codes "a variable that the header does not have"
reason_text MoreClauses = codes "more clauses than the header says"
reason_text FewerClauses = codes "fewer clauses than the header says"
reason_text OpenClause = codes "a clause without its 0"
reason_text (Compressed Gzip) = codes "gzip data (try: gzip -dc FILE | gipsat)"
reason_text (Compressed Xz) = codes "xz data (try: xz -dc FILE | gipsat)"
reason_text (Compressed Bzip2) = codes "bzip2 data (try: bzip2 -dc FILE | gipsat)"
reason_text (Compressed Zstd) = codes "zstd data (try: zstd -dc FILE | gipsat)"

-- the text of an error
abbrev pub error_text : DimacsError → List ℕ
error_text Input = codes "input: cannot be read"
error_text (Line number reason) = codes "line " ++ decimal number ++ codes ": " ++ reason_text reason
error_text Memory = codes "memory: refused"
error_text Output = codes "output: cannot be written"

-- the error of what stops a parser at a line
abbrev pub error_at : ℕ → Stop → DimacsError
error_at line stop.Memory = Memory
error_at line (stop.Refused reason) = Line line reason

-- memory was refused
abbrev pub memory_refused : DimacsError
memory_refused = Memory
