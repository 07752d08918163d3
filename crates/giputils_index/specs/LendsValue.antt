-- What an allocator ends as, where a `&mut` to one of its values is returned.
use Rattle.std.specs.Prelude.{ℕ, Bool, List, Option}
use Rattle.std.specs.Borrow.{Lends, LendsIf, Fml, RattleType, MutBor}
use Rattle.std.specs.declared.alloc.Allocator.{Ghosts}
use Rattle.giputils_index.specs.contracts.allocator.Gallocator as allocator
use Rattle.giputils_index.specs.Allocator.{write}

module _ (T A : RattleType) (alloc : Ghosts A.Denot) (g : MutBor (List (T.Denot × Bool))) where
  -- once the borrow r ends, slot i has the last value written through r, and its old mark
  abbrev pub lends_value : ℕ → MutBor T.Denot → Fml
  lends_value i r = Lends (allocator.the_row T A alloc) T g r (write g.now i)

  -- once the borrow r ends, slot i has the last value written through r, and its old mark; without a borrow all slots stay
  abbrev pub lends_live : ℕ → Option (MutBor T.Denot) → Fml
  lends_live i r = LendsIf (allocator.the_row T A alloc) T g r (write g.now i) g.now
