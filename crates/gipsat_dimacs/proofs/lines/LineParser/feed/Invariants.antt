-- What the bytes so far leave to say, and the line that they lead to.
use Rattle.std.proofs.Common.{◌≡◌, take}
use Rattle.gipsat_dimacs.specs.Texts.{line_on}
use Rattle.gipsat_dimacs.specs.Parsers.{IsReading, SaysOn}
use Rattle.gipsat_dimacs.proofs.lines.LineParser.feed.Given as goal

abbrev pub invariant-loop-byte : goal.invariant-loop-byte
invariant-loop-byte g l = record {
  reading : IsReading l.self.parser;
  says : SaysOn g.S.ClauseSink.formula l.fn.self.parser (take l.byte-index l.bytes) l.self.parser;
  line : l.self.line ≡ line_on l.fn.self.line (take l.byte-index l.bytes);
}
