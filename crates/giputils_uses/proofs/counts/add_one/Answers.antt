-- The count was that of the entry, and the write puts one more there.
use Rattle.std.proofs.Common.{◌≡◌, ◌+◌, sym, ap, rules, nat_eq, Some}
use Rattle.std.specs.Prelude.{unwrap_or}
use Rattle.std.specs.Cmp.{nat_eq_equiv}
use Rattle.std.specs.Map.{count_at}
use Rattle.giputils.specs.Hash.{get}
use Rattle.giputils.proofs.MapWrites.{PutsValue-set_value}
use Rattle.giputils_uses.proofs.counts.add_one.Goals as goal

pub returns-in-Some-clause-ok : goal.returns-in-Some-clause-ok
returns-in-Some-clause-ok g c =
    let held : get nat_eq c.args.counts.now c.args.item ≡ Some c.in-Some.count.now = sym c.in-Some.ensures.value in
    let count : count_at (get nat_eq c.args.counts.now) c.args.item ≡ c.in-Some.count.now = ap (λ o. unwrap_or o 0) held in
    rw count (PutsValue-set_value nat_eq_equiv c.args.item (c.in-Some.count.now + 1) c.args.counts.now (search rules))
