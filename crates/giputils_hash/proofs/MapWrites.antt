-- What a hashed map has at its keys after a write through `get_mut`.
use Rattle.std.specs.Prelude.{Bool, List, IsSome}
use Rattle.std.specs.List.{IsDistinct}
use Rattle.std.specs.Cmp.{IsEquivalence}
use Rattle.std.specs.Map.{set_value}
use Rattle.std.proofs.Common.{sym, subst}
use Rattle.std.proofs.lemmas.Map.{lookup-set_value, keys-set_value}
use Rattle.giputils_hash.specs.Hash.{get, PutsValue, HasUniqueKeys}

module _ {K V : Type 0} {eq : K → K → Bool} (laws : IsEquivalence eq) (k : K) (v : V) (map : List (K × V)) where
  -- the key has the value, and the others keep theirs
  pub PutsValue-set_value : IsSome (get eq map k) → PutsValue eq k v map (set_value (eq k) map v)
  PutsValue-set_value has q = lookup-set_value laws (eq k) (λ x y at. laws.congr k x y at) q v map has

  -- the keys are still all different
  pub HasUniqueKeys-set_value : HasUniqueKeys eq map → HasUniqueKeys eq (set_value (eq k) map v)
  HasUniqueKeys-set_value unique = subst (IsDistinct eq) (sym (keys-set_value (eq k) map v)) unique
