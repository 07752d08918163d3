-- The renamed indexes are below the new length.
use Rattle.giputils_bench.proofs.Renamed.{All-filter_map}
use Rattle.giputils_bench.proofs.galloc.galloc_table.Goals as goal

pub mix_values-requires : goal.mix_values-requires
mix_values-requires c =
    rw (c.deref-in-loop-2.ensures.value, c.rename.ensures, c.deref-in-loop.ensures.value) (All-filter_map _ _ _ c.in_ok-table.ensures.renumbers.below)

pub loop-preserved : goal.loop-preserved
loop-preserved c =
    rw (c.rename.ensures, c.deref-in-loop.ensures.value) (All-filter_map _ _ _ c.in_ok-table.ensures.renumbers.below)
