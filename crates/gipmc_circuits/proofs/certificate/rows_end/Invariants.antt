-- The end so far.
use Rattle.std.proofs.Common.{take}
use Rattle.std.specs.List.{list_all}
use Rattle.gipmc_circuits.specs.Encoding.{IsEnd, literal_below}
use Rattle.gipmc_circuits.proofs.certificate.rows_end.Given as goal

abbrev pub invariant-loop-place : goal.invariant-loop-place
invariant-loop-place l = IsEnd (λ n. list_all (λ c. list_all (literal_below n) c.items) (take l.place l.invariant')) l.end
