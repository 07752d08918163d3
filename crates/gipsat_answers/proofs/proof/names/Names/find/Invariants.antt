-- The names of the ids so far were found.
use Rattle.std.proofs.Common.{◌≡◌, map, take}
use Rattle.gipsat_answers.specs.Lrat.{name_in}
use Rattle.gipsat_answers.proofs.proof.names.Names.find.Given as goal

abbrev pub invariant-loop-id : goal.invariant-loop-id
invariant-loop-id l = record {
  last : l.self.last ≡ l.fn.self.last;
  same : l.self.by_id ≡ l.fn.self.by_id;
  found : l.self.hints.items ≡ map (name_in l.self.by_id.items) (take l.id-index l.fn.chain);
}
