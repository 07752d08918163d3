-- Indexes that are renamed by a table stay below a bound that its entries are below.
use Rattle.std.proofs.Common.{◌≡◌, ℕ, zero, suc, ◌<◌, List, [], ◌∷◌, refl, arith}
use Rattle.std.specs.Prelude.{Option, Some, None, All}
use Rattle.std.specs.List.{filter_map, cons_option}

module _ (n : ℕ) where
  All-cons_option : (new : Option ℕ) (ms : List ℕ) → ((m : ℕ) → new ≡ Some m → m < n) → All (λ m. m < n) ms → All (λ m. m < n) (cons_option new ms)
  All-cons_option None ms below rest k d l = rest k d l
  All-cons_option (Some m) ms below rest zero d l = below m refl
  All-cons_option (Some m) ms below rest (suc k) d l = rest k d (omega arith)

  pub All-filter_map : (index : ℕ → Option ℕ) (is : List ℕ) → ((i m : ℕ) → index i ≡ Some m → m < n) → All (λ m. m < n) (filter_map index is)
  All-filter_map index [] below k d l = absurd (omega arith)
  All-filter_map index (i ∷ is) below k d l = All-cons_option (index i) (filter_map index is) (below i) (All-filter_map index is below) k d l
