-- What the true places of bits list.
use Rattle.std.proofs.Common.{◌≡◌, ℕ, ◌<◌, Bool, true, false, List, length, get_or}
use Rattle.giputils_bits.specs.Prelude.{Lists, Tells, true_places}
use Rattle.giputils_bits.proofs.Ones.{true_within}
use Rattle.giputils_bits.proofs.TruePlaces.{Contains-true_places, IsStrictlyIncreasing-true_places}

-- exactly the places that are true
pub Lists-true_places : (bits : List Bool) → Lists (λ n. get_or bits n false ≡ true) (true_places 0 bits)
Lists-true_places bits = record { each = Contains-true_places bits; rising = IsStrictlyIncreasing-true_places 0 bits }

-- and where the bits tell P, exactly the numbers below their length of which it holds
pub Lists-told : (P : ℕ → Type 0) (bits : List Bool) (limit : ℕ) → length bits ≡ limit → Tells P bits
    → Lists (λ n. (n < limit) × P n) (true_places 0 bits)
Lists-told P bits limit len tells = record {
  each = λ n. let listed = Contains-true_places bits n in (
    λ has. let inside = true_within bits n (listed.0 has) in (rw (← len) inside, (tells n inside).0 (listed.0 has)),
    λ known. listed.1 ((tells n (rw len known.0)).1 known.1),
  );
  rising = IsStrictlyIncreasing-true_places 0 bits;
}
