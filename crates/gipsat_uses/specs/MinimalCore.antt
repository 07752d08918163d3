-- Cores none of whose literals can be left out.
use Rattle.std.specs.Prelude.{◌≡◌, ℕ, ◌<◌, ◌≤◌, ◌⊎◌, List, length}
use Rattle.std.specs.List.{remove}
use Rattle.gipsat_cnf.specs.Prelude.{Formula, IsCore, IsSatisfiableUnder, Lit}

-- without the literal at any place from this one on, all others can be true
abbrev pub NeedsFrom : Formula → ℕ → List Lit → Type 0
NeedsFrom formula place core =
    (k : ℕ) → place ≤ k → k < length core → IsSatisfiableUnder formula (remove core k)

-- a core whose literals but any one can be true
abbrev pub IsMinimalCore : Formula → List Lit → List Lit → Type 0
IsMinimalCore formula assumed core = IsCore formula assumed core × NeedsFrom formula 0 core

-- the core, whose other literals can be true, or what is left of it, which can't
abbrev pub IsNextCore : Formula → List Lit → ℕ → List Lit → Type 0
IsNextCore formula core place next =
    ((next ≡ core) × IsSatisfiableUnder formula (remove core place))
    ⊎ ((next ≡ remove core place) × ¬ (IsSatisfiableUnder formula next))
