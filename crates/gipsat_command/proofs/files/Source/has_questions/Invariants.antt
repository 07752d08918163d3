-- The bytes to be read stay.
use Rattle.std.specs.Io.KnownBytes.{Keeps}
use Rattle.gipsat_command.specs.Files.{source_remaining}
use Rattle.gipsat_command.proofs.files.Source.has_questions.Given as goal

abbrev pub invariant-loop : goal.invariant-loop
invariant-loop g l = Keeps (source_remaining g.R.Read.remaining l.initial.self) (source_remaining g.R.Read.remaining l.self)
