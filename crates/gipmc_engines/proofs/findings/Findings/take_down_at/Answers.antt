-- The literal that was asked about is excluded.
use Rattle.std.proofs.Common.{IsTrue, refl, rules}
use Rattle.gipmc_engines.specs.declared.findings.Finding.TheVariants.{Safe}
use Rattle.gipmc_engines.proofs.AreRight.{right-safe}
use Rattle.gipmc_engines.proofs.findings.Findings.take_down_at.Goals as goal

pub put-requires-clause-right : goal.put-requires-clause-right
put-requires-clause-right c =
    let now = c.args.self.now in
    let sure : IsTrue c.is_excluded.result = search rules in
    right-safe now.netlist.now.circuit now.invariant.items _ Safe refl
    (c.requires.excluded c.args.at _ (c.is_excluded.ensures.asked sure) (c.is_excluded.ensures.certified sure))
