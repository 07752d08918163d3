-- The relations of the comparers that the library has. R s o is read: s is at least o.
use Rattle.std.specs.Prelude.{ℕ, ◌==◌, nat_lt, nat_le, Bool, ◌&&◌, ◌||◌, List, slice_index, slice_get}
use Rattle.std.specs.Option.{option_cmp}
use Rattle.std.specs.Ordering.{is_ge, nat_cmp, ordering_then}
use Rattle.std.specs.declared.cmp.Ordering.{Ordering}

-- the relation the other way round
abbrev pub reverse_of : {T : Type 0} → (T → T → Bool) → T → T → Bool
reverse_of R s o = R o s

-- the rank of the key with this number: 0 past the table's end
abbrev pub rank_of : List ℕ → ℕ → ℕ
rank_of ranks n = slice_index ranks n

module _ {T : Type 0} (number : T → ℕ) where
  -- the greater number comes first
  abbrev pub by_number : T → T → Bool
  by_number s o = nat_le (number o) (number s)

  -- the greater rank comes first, and of one rank the greater number
  abbrev pub by_rank : List ℕ → T → T → Bool
  by_rank ranks s o =
      nat_lt (rank_of ranks (number o)) (rank_of ranks (number s))
      || ((rank_of ranks (number s) == rank_of ranks (number o)) && nat_le (number o) (number s))

  -- how two keys compare by ranks of any kind, which `cmp` compares: a key past the table's end comes last, and of one
  -- rank the greater number first
  abbrev pub compared : {R : Type 0} → (R → R → Ordering) → List R → T → T → Ordering
  compared cmp ranks s o =
      ordering_then (option_cmp cmp (slice_get ranks (number s)) (slice_get ranks (number o)))
      (nat_cmp (number s) (number o))

  -- the greater comes first
  abbrev pub by_ord : {R : Type 0} → (R → R → Ordering) → List R → T → T → Bool
  by_ord cmp ranks s o = is_ge (compared cmp ranks s o)
