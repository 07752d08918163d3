-- Lemmas on what a hashed map is made of.
use Rattle.std.specs.Prelude.{◌≡◌, Bool, true, false, List, [], ◌∷◌, Option, Some, None, if◌then◌else◌, refl}
use Rattle.std.specs.Option.{option_or}
use Rattle.std.specs.Map.{update, update_all}
use Rattle.std.proofs.Common.{◌∙◌, cond}
use Rattle.giputils_hash.specs.Hash.{last_value}

-- of a value, one that may take its place and one to fall back on, it does not matter which two are joined first
option_or_assoc : {V : Type 0} (o p q : Option V) → option_or o (option_or p q) ≡ option_or (option_or o p) q
option_or_assoc None p q = refl
option_or_assoc (Some v) p q = refl

-- pairs put in turn over f leave the last value of a key, or what f had
update_all-option_or : {K V : Type 0} (eq : K → K → Bool) (f : K → Option V) (xs : List (K × V)) (k : K) → update_all eq f xs k ≡ option_or (last_value eq xs k) (f k)
update_all-option_or eq f [] k = refl
update_all-option_or {V = V} eq f (p ∷ ps) k =
    update_all-option_or eq (update eq f p.0 (Some p.1)) ps k
    ∙ elim (eq p.0 k) as (λ b. option_or (last_value eq ps k) (cond b (Some p.1) (f k)) ≡ option_or (option_or (last_value eq ps k) (if b then Some p.1 else None)) (f k)) [
      | true ↦ option_or_assoc (last_value eq ps k) (Some p.1) (f k)
      | false ↦ option_or_assoc (last_value eq ps k) None (f k)
    ]

-- pairs put in turn into the empty map leave the last value of each key
pub update_all-last_value : {K V : Type 0} (eq : K → K → Bool) (xs : List (K × V)) (k : K) → update_all eq (λ _. None) xs k ≡ last_value eq xs k
update_all-last_value eq xs k = update_all-option_or eq (λ _. None) xs k ∙ or_none (last_value eq xs k)
  where
    or_none : {V : Type 0} (o : Option V) → option_or o None ≡ o
    or_none None = refl
    or_none (Some v) = refl
