-- What a wrapper ends as, where a `&mut` into it is returned.
--
-- How it is proved: `DerefMut` and `IndexMut` of a wrapper close with `Lends (the row of the wrapper) (the row inside)
-- g r (λ v. v.items)` as a definition in specs/. For a map the row is `map_row` of `std.specs.HashMap.Lent`
-- (`specs/LendsHashed`). Lend twice in two statements: `let slot = &mut v[i]; slot.deref_mut()`.
use Rattle.std.specs.Prelude.{ℕ, List, slice_set}
use Rattle.std.specs.Borrow.{Lends, Fml, RattleType, MutBor}
use Rattle.std.specs.declared.alloc.Allocator.{Ghosts}
use Rattle.std.specs.declared.vec.Vec.{Vec}
use Rattle.std.specs.contracts.vec.Vec as vec
use Rattle.giputils_vec.specs.contracts.gvec.Gvec as gvec

module _ (T A : RattleType) (alloc : Ghosts A.Denot) (g : MutBor (List T.Denot)) where
  -- once the borrow r ends, the list has at i the last value written through r
  abbrev pub lends_item : ℕ → MutBor T.Denot → Fml
  lends_item i r = Lends (gvec.the_row T A alloc) T g r (slice_set g.now i)

  -- once the borrow r ends, the list has the items of the last Vec left behind r
  abbrev pub lends_vec : MutBor (Vec T.Denot A.Denot) → Fml
  lends_vec r = Lends (gvec.the_row T A alloc) (vec.the_row T A alloc) g r (λ v. v.items)
