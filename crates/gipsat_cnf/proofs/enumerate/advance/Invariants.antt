use Rattle.std.proofs.Common.{◌≡◌, ◌+◌, ◌^◌, length}
use Rattle.gipsat_cnf.specs.Numbers.{number}
use Rattle.gipsat_cnf.proofs.enumerate.advance.Given as goal

abbrev pub invariant-loop-place : goal.invariant-loop-place
invariant-loop-place l = record {
  len : length l.values.items ≡ length l.initial.values.items;
  carried : number l.initial.values.items + 1 ≡ number l.values.items + 2 ^ l.place;
}
