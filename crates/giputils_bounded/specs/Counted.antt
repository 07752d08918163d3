-- What a contract sees of a counter.
use Rattle.std.specs.Prelude.{◌≡◌, ℕ, ◌+◌, ◌^◌, ◌<◌, ◌≤◌, refl}
use Rattle.std.specs.Coded.{Coded, code_by, coded×, coded_ℕ}

-- a comparer, and how often it was asked
pub record Counted (C : Type 0) : Type 0 where
  pub comparer : C
  pub count : ℕ

-- a counter is stored as the pair of its fields
abbrev pub counted_code : {C : Type 0} → Coded C → Coded (Counted C)
counted_code {C} code =
    code_by (C × ℕ) (coded× code coded_ℕ) (λ c. (c.comparer, c.count)) (λ p. record { comparer = p.0; count = p.1 })
    (λ _. refl)

-- who was lent a counter asked its comparer at most so often, and left it the comparer
pub record AsksAtMost {C : Type 0} (old new : Counted C) (most : ℕ) : Type 0 where
  pub comparer : new.comparer ≡ old.comparer
  pub rises : old.count ≤ new.count
  pub comparisons : new.count ≤ old.count + most

-- a counter can count so many more
abbrev pub CanAsk : {C : Type 0} → Counted C → ℕ → Type 0
CanAsk counter most = counter.count + most < 2 ^ 64
