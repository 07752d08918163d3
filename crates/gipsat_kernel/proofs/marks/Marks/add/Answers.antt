use Rattle.std.proofs.Common.{◌<◌, length, true, arith}
use Rattle.gipsat_cnf.specs.Literals.{code}
use Rattle.gipsat_kernel.proofs.Marking.{AreListed-add, AreListed-same, Grows-add, marked-set_same}
use Rattle.gipsat_kernel.proofs.marks.Marks.add.Goals as goal

pub invariant_of-self-2 : goal.invariant_of-self-2
invariant_of-self-2 c =
    rw (c.code-code.ensures.value, c.in_ok-push.ensures.items)
    (AreListed-add c.cover.new.flags.items c.self.inside.listed.items c.args.l
    (AreListed-same c.self.inside.flags.items c.cover.new.flags.items c.self.inside.listed.items c.cover.ensures.same c.self.invariant))

pub returns-clause-grows : goal.returns-clause-grows
returns-clause-grows c =
    rw (c.code-code.ensures.value, ← c.self.view_is) (Grows-add c.self.inside.flags.items c.cover.new.flags.items c.args.l c.cover.ensures.same)

pub returns-clause-added : goal.returns-clause-added
returns-clause-added c =
    let within : code c.args.l < length c.cover.new.flags.items = omega (arith, c.in_ok-cover.ensures.room, c.code-code.ensures.value) in
    rw c.code-code.ensures.value (marked-set_same c.cover.new.flags.items c.args.l true within)
