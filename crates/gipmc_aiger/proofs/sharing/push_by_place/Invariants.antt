-- The links of the places so far are added.
use Rattle.std.proofs.Common.{◌≡◌, ◌++◌, map, take}
use Rattle.std.specs.List.{zip}
use Rattle.gipmc_aiger.specs.Sharing.{linked}
use Rattle.gipmc_aiger.proofs.sharing.push_by_place.Given as goal

abbrev pub invariant-loop-place : goal.invariant-loop-place
invariant-loop-place l = l.links.items ≡ l.fn.links.items ++ map linked (take l.place (zip l.own l.others))
