-- There are as many literals that stand for those of the circuit.
use Rattle.std.proofs.Common.{◌<◌, subst, sym}
use Rattle.gipmc_task.proofs.parted.Parted.known.Goals as goal

pub carried-requires-clause-own : goal.carried-requires-clause-own
carried-requires-clause-own g c = subst (λ n. c.args.at < n) (sym c.args.self.now.stand.count) c.requires
