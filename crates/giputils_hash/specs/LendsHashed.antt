-- What a hashed wrapper ends as, where a `&mut` to the collection inside is returned.
use Rattle.std.specs.Prelude.{List, Option}
use Rattle.std.specs.Map.{set_value}
use Rattle.std.specs.Borrow.{Lends, LendsIf, Fml, RattleType, MutBor}
use Rattle.std.specs.HashMap.{HashMap}
use Rattle.std.specs.HashMap.Lent.{HashMembers, map_row}
use Rattle.std.specs.HashSet.{HashSet}
use Rattle.std.specs.contracts.collections.HashSet as std_set
use Rattle.std.specs.declared.alloc.Allocator as alloc
use Rattle.std.specs.declared.hash.Hasher as hasher
use Rattle.std.specs.declared.hash.BuildHasher as builder
use Rattle.std.specs.contracts.hash.BuildHasherDefault as default
use Rattle.std.specs.contracts.hash.FoldHasher as fold
use Rattle.giputils_hash.specs.contracts.hash.GHashMap as gmap
use Rattle.giputils_hash.specs.contracts.hash.GHashSet as gset

-- hashers as `BuildHasherDefault<FoldHasher>` makes them
abbrev pub hash_row : RattleType
hash_row = default.the_row fold.the_row

module _ (K V A : RattleType) (key : HashMembers K.Denot)
    (build : builder.Ghosts hash_row.Denot fold.the_row.Denot) (hash : hasher.Ghosts fold.the_row.Denot)
    (heap : alloc.Ghosts A.Denot) where
  -- once the borrow r ends, the map has the entries of the last `HashMap` left behind r
  abbrev pub lends_map : MutBor (List (K.Denot × V.Denot)) → MutBor (HashMap K.Denot V.Denot hash_row.Denot) → Fml
  lends_map g r = Lends
      (gmap.the_row K V A (record { eq = key.eq }) (record { hash_input = key.hash_input }) heap)
      (map_row K V hash_row A fold.the_row key build hash heap)
      g r (λ m. m.entries)

-- once the borrow r ends, the map has at the key k the last value written through r; without a borrow all stays
abbrev pub lends_map_value : (K V A : RattleType) (key : HashMembers K.Denot) (heap : alloc.Ghosts A.Denot)
    → MutBor (List (K.Denot × V.Denot)) → K.Denot → Option (MutBor V.Denot) → Fml
lends_map_value K V A key heap g k r = LendsIf
    (gmap.the_row K V A (record { eq = key.eq }) (record { hash_input = key.hash_input }) heap)
    V g r (set_value (key.eq k) g.now) g.now

module _ (T A : RattleType) (key : HashMembers T.Denot)
    (build : builder.Ghosts hash_row.Denot fold.the_row.Denot) (hash : hasher.Ghosts fold.the_row.Denot)
    (heap : alloc.Ghosts A.Denot) where
  -- once the borrow r ends, the set has the members of the last `HashSet` left behind r
  abbrev pub lends_set : MutBor (List T.Denot) → MutBor (HashSet T.Denot hash_row.Denot) → Fml
  lends_set g r = Lends
      (gset.the_row T A (record { eq = key.eq }) (record { hash_input = key.hash_input }) heap)
      (std_set.the_row T hash_row A fold.the_row (record { eq = key.eq }) (record { hash_input = key.hash_input })
      build hash heap)
      g r (λ s. s.keys)
