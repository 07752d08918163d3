-- How many of some literals are true.
use Rattle.std.specs.Prelude.{◌≡◌, ℕ, ◌+◌, ◌≤◌, List, [], ◌∷◌, if◌then◌else◌}
use Rattle.gipsat_cnf.specs.Prelude.{Assignment, Lit, is_true}

-- how many of the literals are true; one that stands twice counts twice
abbrev pub count_true : Assignment → List Lit → ℕ
count_true a [] = 0
count_true a (l ∷ literals) = (if is_true a l then 1 else 0) + count_true a literals

-- at most k of the literals are true
abbrev pub AtMostTrue : ℕ → List Lit → Assignment → Type 0
AtMostTrue k literals a = count_true a literals ≤ k

-- at least k of the literals are true
abbrev pub AtLeastTrue : ℕ → List Lit → Assignment → Type 0
AtLeastTrue k literals a = k ≤ count_true a literals

-- exactly k of the literals are true
abbrev pub ExactlyTrue : ℕ → List Lit → Assignment → Type 0
ExactlyTrue k literals a = count_true a literals ≡ k

-- at least and at most so many of the literals are true
abbrev pub AreBetween : ℕ → ℕ → List Lit → Assignment → Type 0
AreBetween least most literals a = (least ≤ count_true a literals) × (count_true a literals ≤ most)
