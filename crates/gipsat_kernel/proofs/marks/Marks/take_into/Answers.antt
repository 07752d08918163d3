use Rattle.std.proofs.Common.{take, sym, subst}
use Rattle.gipsat_kernel.specs.Marks.{AreListed}
use Rattle.gipsat_kernel.proofs.Marking.{AreListed-none, OnOk-takes}
use Rattle.gipsat_kernel.proofs.marks.Marks.take_into.Goals as goal

pub invariant_of-self : goal.invariant_of-self
invariant_of-self c = AreListed-none c.gather-count.new.flags.items _ c.gather-count.ensures.taken.clear

pub returns-clause-taken : goal.returns-clause-taken
returns-clause-taken c =
    let n = c.gather-count.result in
    let all : AreListed c.args.self.now (take c.gather-count.result c.deref.result.now) =
    subst (λ flags. AreListed flags (take n c.deref.result.now)) c.self.view_is
    (subst (λ listed. AreListed c.self.inside.flags.items (take n listed)) (sym c.deref.ensures.value) c.gather-count.ensures.taken.all)
    in
    OnOk-takes c.push-pushed.result c.args.self.now c.args.clauses.now c.push-pushed.new.self (take n c.deref.result.now) all c.push-pushed.ensures.added
