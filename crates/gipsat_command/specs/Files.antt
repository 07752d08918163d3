-- What a source has yet to be read, and what an output holds.
use Rattle.std.specs.Prelude.{ℕ, List, [], drop, if◌then◌else◌, Option, Some}
use Rattle.std.specs.Io.KnownBytes.{prepend_known}
use Rattle.gipsat_command.specs.declared.files.Output.{Output}
use Rattle.gipsat_command.specs.declared.files.Source.{Source}

-- the bytes that were read ahead and not handed on
abbrev pub ahead_of : {R : Type 0} → Source R → List ℕ
ahead_of s = drop s.handed s.ahead.items

-- the bytes that the stream has yet, where they are known: none once it has ended
abbrev pub stream_remaining : {R : Type 0} → (R → Option (List ℕ)) → Source R → Option (List ℕ)
stream_remaining remaining s = if s.has_ended then Some [] else remaining s.stream

-- the bytes that reads will give, where they are known: those ahead, and behind them those of the stream
abbrev pub source_remaining : {R : Type 0} → (R → Option (List ℕ)) → Source R → Option (List ℕ)
source_remaining remaining s = prepend_known (ahead_of s) (stream_remaining remaining s)

-- the bytes that were written, where they are known
abbrev pub output_contents : {W : Type 0} → (W → Option (List ℕ)) → Output W → Option (List ℕ)
output_contents contents o = contents o.writer
