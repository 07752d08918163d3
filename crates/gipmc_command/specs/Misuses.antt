-- Why the words of a command line have no meaning.
use Rattle.std.specs.Prelude.{ℕ, List}
use Rattle.gip_cli.specs.Items as items
use Rattle.gipmc_command.specs.declared.misuse.UsageError.{UsageError}
use Rattle.gipmc_command.specs.declared.misuse.UsageError.TheVariants as error

-- words without a meaning by the table, a second file, two of a witness, a certificate, a list and a joined certificate, an
-- option of a search beside one of these, a limit beside a witness or a list, an option about properties beside a list or
-- a joined certificate, no certificate to join, and standard input as both the circuit and the answer
pub data Misuse : Type 0 where
  Words : items.Misuse → Misuse
  ExtraFile : List ℕ → Misuse
  TwoTasks : Misuse
  NoSearch : List ℕ → Misuse
  NoLimit : List ℕ → Misuse
  NoProperty : List ℕ → Misuse
  NoPart : Misuse
  InputTwice : Misuse

-- what an error tells
abbrev pub misuse_of : UsageError → Misuse
misuse_of (error.Words fault) = Words (items.misuse_of fault)
misuse_of (error.ExtraFile name) = ExtraFile name.now
misuse_of error.TwoTasks = TwoTasks
misuse_of (error.NoSearch word) = NoSearch word.now
misuse_of (error.NoLimit word) = NoLimit word.now
misuse_of (error.NoProperty word) = NoProperty word.now
misuse_of error.NoPart = NoPart
misuse_of error.InputTwice = InputTwice
