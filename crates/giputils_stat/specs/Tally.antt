-- Sums with the number of their terms, and numbers of successes and failures.
use Rattle.std.specs.Prelude.{ℕ, ◌+◌, ◌-◌, ◌^◌, ◌<◌, ◌≤◌, List, length, sum, IsTrue, nat_le}
use Rattle.std.specs.List.{list_all}
use Rattle.std.specs.Duration.{FitsDuration}

-- `usize::MAX`
abbrev pub usize_max : ℕ
usize_max = 2 ^ 64 - 1

-- a sum, and how many terms it has
pub record Tally : Type 0 where
  pub sum : ℕ
  pub count : ℕ

-- no term
abbrev pub no_terms : Tally
no_terms = record { sum = 0; count = 0 }

-- one term more
abbrev pub with_term : Tally → ℕ → Tally
with_term t n = record { sum = t.sum + n; count = t.count + 1 }

-- the terms of a list
abbrev pub tally_of : List ℕ → Tally
tally_of ns = record { sum = sum ns; count = length ns }

-- the terms of both
abbrev pub with_terms : Tally → Tally → Tally
with_terms s t = record { sum = s.sum + t.sum; count = s.count + t.count }

-- one term more can be counted
abbrev pub CanCount : Tally → Type 0
CanCount t = t.count < usize_max

-- the terms of both can be counted
abbrev pub CanCountBoth : Tally → Tally → Type 0
CanCountBoth s t = s.count + t.count ≤ usize_max

-- each is a `usize`
abbrev pub AreNumbers : List ℕ → Type 0
AreNumbers ns = IsTrue (list_all (λ n. nat_le n usize_max) ns)

-- a term of so many nanoseconds can be counted, and the sum stays a `Duration`
abbrev pub CanAddNanos : Tally → ℕ → Type 0
CanAddNanos t nanos = CanCount t × FitsDuration (t.sum + nanos)

-- the terms of both can be counted, and the sum of both is a `Duration`
abbrev pub CanAddBoth : Tally → Tally → Type 0
CanAddBoth s t = CanCountBoth s t × FitsDuration (s.sum + t.sum)

-- how often something succeeded, and how often it failed
pub record Outcomes : Type 0 where
  pub successes : ℕ
  pub failures : ℕ

-- nothing was tried
abbrev pub no_outcomes : Outcomes
no_outcomes = record { successes = 0; failures = 0 }

-- how often it was tried
abbrev pub tries : Outcomes → ℕ
tries o = o.successes + o.failures

-- one try more can be counted
abbrev pub CanTry : Outcomes → Type 0
CanTry o = tries o < usize_max

-- the tries of both can be counted
abbrev pub CanTryBoth : Outcomes → Outcomes → Type 0
CanTryBoth o p = tries o + tries p ≤ usize_max

-- one success more
abbrev pub with_success : Outcomes → Outcomes
with_success o = record o { successes = o.successes + 1 }

-- one failure more
abbrev pub with_failure : Outcomes → Outcomes
with_failure o = record o { failures = o.failures + 1 }

-- the outcomes of both
abbrev pub with_outcomes : Outcomes → Outcomes → Outcomes
with_outcomes o p = record { successes = o.successes + p.successes; failures = o.failures + p.failures }
