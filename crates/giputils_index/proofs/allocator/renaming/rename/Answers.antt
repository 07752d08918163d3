-- A new index is put behind the others; an index that has none is passed over.
use Rattle.std.proofs.Common.{arith, ap, sym, ◌∙◌, ◌≡◌, ◌<◌, ◌+◌, length}
use Rattle.std.specs.Prelude.{slice_index_or}
use Rattle.std.proofs.lemmas.Grind.{common_steps, drop_more_same}
use Rattle.std.proofs.lemmas.List.{drop-set-lt}
use Rattle.std.proofs.Math.ListN.{length-set}
use Rattle.giputils_index.specs.Allocator.{table_at}
use Rattle.giputils_index.proofs.Renaming.{same_place, renamed-kept, renamed-passed}
use Rattle.giputils_index.proofs.allocator.renaming.rename.Goals as goal
use Rattle.giputils_index.proofs.allocator.renaming.rename.Goals.{in-Some, in_default}

pub loop-place-preserved : goal.loop-place-preserved
loop-place-preserved g c =
    let table = table_at c.args.table.now in
    let old = c.args.indexes.now.items in
    let items = c.loop-place.indexes.items in
    let place = c.loop-place.place in
    let kept = c.loop-place.kept in
    let d = c.index.result.now in
    let inside : c.loop-place.place < length c.args.indexes.now.items = grind (arith, common_steps) in
    let room : c.loop-place.kept < length c.loop-place.indexes.items = omega (arith, c.loop-place.invariant.few, c.loop-place.invariant.len) in
    let is_old : c.index.result.now ≡ slice_index_or c.args.indexes.now.items c.loop-place.place c.index.result.now =
    c.index.ensures ∙ same_place items old place d c.loop-place.invariant.rest in
    let looked_up : c.entry.result ≡ table_at c.args.table.now (slice_index_or c.args.indexes.now.items c.loop-place.place c.index.result.now) =
    c.entry.ensures ∙ ap (table_at c.args.table.now) is_old in
    let rest = drop_more_same items old place c.loop-place.invariant.rest in
    elim c.match-entry.branch [
      | in-Some w ↦ rw (w.indexes-is, w.kept-is) (record {
        renamed = renamed-kept table old items place kept d w.in-Some.new inside room c.loop-place.invariant.renamed (sym looked_up ∙ w.in-Some.is);
        few = omega (arith, c.loop-place.invariant.few);
        len = length-set items kept w.in-Some.new ∙ c.loop-place.invariant.len;
        rest = drop-set-lt (c.loop-place.place + 1) items kept w.in-Some.new (omega (arith, c.loop-place.invariant.few)) ∙ rest;
      })
      | in_default w ↦ rw (w.indexes-is, w.kept-is) (record {
        renamed = renamed-passed table old items place kept d inside c.loop-place.invariant.renamed (sym looked_up ∙ w.in_default.is);
        few = omega (arith, c.loop-place.invariant.few);
        len = c.loop-place.invariant.len;
        rest = rest;
      })
    ]
