-- The table is the index map, by which the collection renumbers.
use Rattle.std.proofs.Common.{◌≡◌, ◌∙◌}
use Rattle.giputils.specs.Allocator.{index_map, table_at, value_at}
use Rattle.giputils.proofs.Renumbering.{map-renamed}
use Rattle.giputils_uses.proofs.compaction.compact.Goals as goal

pub returns-clause-same_clauses : goal.returns-clause-same_clauses
returns-clause-same_clauses g c =
    let slots = c.args.clauses.now in
    let table = c.in_ok-table.ensures in
    let same : table_at c.in_ok-table.table.items ≡ index_map c.args.clauses.now = λ i q. table.table.0 q i in
    rw (c.rename.ensures, c.deref.ensures.value, same)
    (map-renamed (index_map slots) (value_at slots) (value_at c.gc_table.new.self)
    (λ i m at. table.renumbers.same_value i m (table.table.0 i ∙ at)) c.args.watched.now.items)
