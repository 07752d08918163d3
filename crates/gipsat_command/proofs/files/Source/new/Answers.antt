-- Nothing was read ahead.
use Rattle.std.proofs.Common.{ap, ◌∙◌}
use Rattle.std.proofs.KnownBytes.{prepend_known-nil}
use Rattle.std.specs.Io.KnownBytes.{prepend_known}
use Rattle.gipsat_command.proofs.files.Source.new.Goals as goal

pub returns : goal.returns
returns g c =
    let remaining = g.R.Read.remaining c.args.stream in
    ap (λ xs. prepend_known xs remaining) c.new.ensures.items ∙ prepend_known-nil remaining
