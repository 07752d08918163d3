-- What the reader has left is what the parser leaves to say.
use Rattle.std.proofs.Common.{◌≡◌, vec_len}
use Rattle.gipsat_dimacs.specs.Parsers.{IsReading}
use Rattle.gipsat_dimacs.proofs.ReaderLemmas.{HasRead}
use Rattle.gipsat_dimacs.proofs.reader.read_into.Given as goal

abbrev pub invariant-loop : goal.invariant-loop
invariant-loop g l = record {
  reading : IsReading l.parser.parser;
  room : vec_len l.buf ≡ 65536;
  has : HasRead g.S.ClauseSink.formula l.fn.rule (g.R.Read.remaining l.fn.reader) (g.R.Read.remaining l.reader) l.parser;
}
