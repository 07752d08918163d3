-- Why the words of a command line have no meaning.
use Rattle.std.specs.Prelude.{ℕ, List}
use Rattle.gip_cli.specs.Items as items
use Rattle.gipsat_command.specs.declared.errors.UsageError.{UsageError}
use Rattle.gipsat_command.specs.declared.errors.UsageError.TheVariants as error

-- words without a meaning by the table, a file too many or too few, `--lrat` without a proof, `--project` without
-- `--models`, a proof beside assumptions or several models, a cube beside them, a proof of a part without hints, cubes
-- beside an answer or a proof, no file of cubes, proofs to join beside another check, an option beside one that does not
-- take it, and standard input as two files
pub data Misuse : Type 0 where
  Words : items.Misuse → Misuse
  ExtraFile : List ℕ → Misuse
  MissingFile : Misuse
  MissingProof : Misuse
  MissingModels : Misuse
  ProofOfMore : Misuse
  PartOfMore : Misuse
  MissingHints : Misuse
  CubesOfMore : Misuse
  MissingCubes : Misuse
  CheckOfMore : Misuse
  NotFor : List ℕ → List ℕ → Misuse
  InputTwice : Misuse

-- what an error tells
abbrev pub misuse_of : UsageError → Misuse
misuse_of (error.Words fault) = Words (items.misuse_of fault)
misuse_of (error.ExtraFile name) = ExtraFile name.now
misuse_of error.MissingFile = MissingFile
misuse_of error.MissingProof = MissingProof
misuse_of error.MissingModels = MissingModels
misuse_of error.ProofOfMore = ProofOfMore
misuse_of error.PartOfMore = PartOfMore
misuse_of error.MissingHints = MissingHints
misuse_of error.CubesOfMore = CubesOfMore
misuse_of error.MissingCubes = MissingCubes
misuse_of error.CheckOfMore = CheckOfMore
misuse_of (error.NotFor name word) = NotFor name.now word.now
misuse_of error.InputTwice = InputTwice
