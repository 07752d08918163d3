-- The numbers of the header, with a byte behind each.
use Rattle.std.proofs.Common.{◌≡◌, IfOk, subst}
use Rattle.gipmc_aiger.proofs.HeaderLines.{header_line-of}
use Rattle.gipmc_aiger.proofs.writer.header_line.Goals as goal

pub returns : goal.returns
returns c =
    let same : c.from.result ≡ c.args.maximum = cc in
    subst (λ line. IfOk c.header_text.result (λ text. text.items ≡ line)) (header_line-of c.from.result c.args.maximum c.args.circuit.now same)
    c.header_text.ensures
