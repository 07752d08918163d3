-- The test says which circuits of those that are well-formed are writable.
use Rattle.std.proofs.Common.{sym, ◌∙◌}
use Rattle.gipmc_aiger.proofs.Writable.{IsWritable-room, room-IsWritable}
use Rattle.gipmc_aiger.proofs.writer.is_writable.Goals as goal

pub returns-clause-yes : goal.returns-clause-yes
returns-clause-yes c is =
    IsWritable-room c.args.netlist.now.circuit c.args.netlist.now.formed (sym c.has_room.ensures ∙ is)

pub returns-clause-no : goal.returns-clause-no
returns-clause-no c is = room-IsWritable c.args.netlist.now.circuit (sym c.has_room.ensures ∙ is)
