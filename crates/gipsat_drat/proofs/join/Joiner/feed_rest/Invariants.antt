-- What is held stays satisfiable.
use Rattle.std.proofs.Common.{◌≡◌, vec_len}
use Rattle.gipsat_drat.specs.Held.{Keeps}
use Rattle.gipsat_drat.proofs.join.Joiner.feed_rest.Given as goal

abbrev pub invariant-loop : goal.invariant-loop
invariant-loop g l = record {
  room : vec_len l.buf ≡ 65536;
  stays : Keeps l.initial.self l.self;
}
