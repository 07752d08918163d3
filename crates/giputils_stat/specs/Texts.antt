-- The texts of the statistics.
use Rattle.std.specs.Prelude.{ℕ, ◌*◌, ◌/◌, ◌==◌, List, ◌++◌, if◌then◌else◌, codes}
use Rattle.std.specs.Fmt.{decimal as digits_of}
use Rattle.giputils_stat.specs.Decimals.{ratio, seconds}
use Rattle.giputils_stat.specs.Tally.{Tally, Outcomes, tries}

-- the average to six decimals
abbrev pub average_text : Tally → List ℕ
average_text t = ratio t.sum t.count 6

-- the average of nanoseconds, rounded down to whole ones, as seconds
abbrev pub average_duration_text : Tally → List ℕ
average_duration_text t = if t.count == 0 then codes "None" else seconds (t.sum / t.count) 9

-- how many durations there were, and their sum
abbrev pub counted_duration_text : Tally → List ℕ
counted_duration_text t = digits_of t.count ++ codes " times in " ++ seconds t.sum 6

-- both numbers, and how many of a hundred succeeded to two decimals
abbrev pub success_rate_text : Outcomes → List ℕ
success_rate_text o = codes "success: " ++ digits_of o.successes ++ codes ", fail: " ++ digits_of o.failures
    ++ codes ", success rate: " ++ ratio (100 * o.successes) (tries o) 2 ++ codes "%"
