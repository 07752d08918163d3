-- A byte that is refused, and one that is read.
use Rattle.std.proofs.Common.{◌∷◌, [], ◌∙◌, refl, get_or, ap, Err}
use Rattle.gipsat_dimacs.specs.Parsers.{SaysNothing}
use Rattle.gipsat_dimacs.proofs.LineLemmas.{stopped_at, says_on-more, line_on-more}
use Rattle.gipsat_dimacs.proofs.ErrorLemmas.{refused_at}
use Rattle.gipsat_dimacs.proofs.lines.LineParser.feed.Goals as goal

pub returns-in-Err-clause-stopped : goal.returns-in-Err-clause-stopped
returns-in-Err-clause-stopped g c line reason is =
    let f = g.S.ClauseSink.formula in
    let old = c.args.self.now in
    let now = c.loop-byte.self in
    let bytes = c.args.bytes.now in
    let i = c.loop-byte.byte-index in
    let byte = get_or bytes i 0 in
    let (same, none) = refused_at (SaysNothing f now.parser (byte ∷ [])) _ c.in-Err.stop now.line line reason
    (ap (λ e. Err e) c.at.ensures) is c.in-Err.ensures.err in
    stopped_at f old now.parser line bytes i byte c.loop-byte-test.true refl c.loop-byte.invariant.says
    (same ∙ c.loop-byte.invariant.line) none

pub loop-byte-preserved : goal.loop-byte-preserved
loop-byte-preserved g c =
    let f = g.S.ClauseSink.formula in
    let old = c.args.self.now in
    let now = c.loop-byte.self in
    let bytes = c.args.bytes.now in
    let i = c.loop-byte.byte-index in
    let byte = get_or bytes i 0 in
    let read = c.in_default.ensures in
    let within = c.loop-byte-test.true in
    let says = c.loop-byte.invariant.says in
    let line = c.loop-byte.invariant.line in
    record {
      reading = read.reading;
      says = says_on-more f old now.parser now.line bytes i byte within refl says line c.byte.new.self read.ok;
      line = c.line_after-self.ensures ∙ line_on-more f old now.parser now.line bytes i byte within refl says line;
    }
