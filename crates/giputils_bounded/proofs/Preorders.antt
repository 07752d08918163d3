-- Relations that order all keys, ties allowed.
use Rattle.std.proofs.Common.{◌≡◌, Bool, true, false, ◌&&◌, ◌||◌, not, List, [], ◌∷◌, refl}
use Rattle.std.specs.Bool.{beq}
use Rattle.std.specs.Cmp.{bool_eq_equiv}
use Rattle.std.specs.List.{list_all}
use Rattle.std.proofs.lemmas.Bool.{and_from}
use Rattle.giputils_bounded.specs.Relations.{all_pairs, is_total, is_transitive, IsLawful, agree_on, IsTotalPreorder}

-- what two facts give
pub chain_of : (a b c : Bool) → (a ≡ true → b ≡ true → c ≡ true) → (not (a && b) || c) ≡ true
chain_of true true c follows = follows refl refl
chain_of true false c follows = refl
chain_of false b c follows = refl

module _ {T : Type 0} where
  -- what holds of any key holds of all of some
  pub list_all-always : (p : T → Bool) → ((x : T) → p x ≡ true) → (keys : List T) → list_all p keys ≡ true
  list_all-always p always [] = refl
  list_all-always p always (k ∷ keys) = and_from (p k) (list_all p keys) (always k) (list_all-always p always keys)

  pub all_pairs-always : (p : T → T → Bool) → ((x y : T) → p x y ≡ true) → (keys : List T) → all_pairs p keys ≡ true
  all_pairs-always p always keys = list_all-always (λ x. list_all (p x) keys) (λ x. list_all-always (p x) (always x) keys) keys

  -- a relation agrees with itself
  pub agree_on-refl : (R : T → T → Bool) (keys : List T) → agree_on R R keys ≡ true
  agree_on-refl R keys = all_pairs-always (λ x y. beq (R x y) (R x y)) (λ x y. bool_eq_equiv.refl (R x y)) keys

  -- a relation that orders all keys is lawful on any of them
  pub IsLawful-everywhere : (R : T → T → Bool) → IsTotalPreorder R → (keys : List T) → IsLawful R keys
  IsLawful-everywhere R order keys =
      and_from (is_total R keys) (is_transitive R keys) (all_pairs-always (λ x y. R x y || R y x) order.total keys)
      (all_pairs-always (λ x y. list_all (λ z. not (R x y && R y z) || R x z) keys)
      (λ x y. list_all-always (λ z. not (R x y && R y z) || R x z) (λ z. chain_of (R x y) (R y z) (R x z) (order.transitive x y z)) keys) keys)
