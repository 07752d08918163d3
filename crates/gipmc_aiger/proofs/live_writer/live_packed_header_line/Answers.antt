-- The numbers of the header, with a byte behind each.
use Rattle.std.proofs.Common.{◌≡◌, IfOk, subst}
use Rattle.gipmc_aiger.proofs.HeaderLines.{live_packed_header_line-of}
use Rattle.gipmc_aiger.proofs.live_writer.live_packed_header_line.Goals as goal

pub returns : goal.returns
returns c =
    subst (λ line. IfOk c.header_text.result (λ text. text.items ≡ line)) (live_packed_header_line-of c.sum.result c.args.circuit.now c.args.justice c.args.fairness c.sum.ensures)
    c.header_text.ensures
