-- What the reader gives goes to the parser.
use Rattle.std.proofs.Common.{◌≡◌, ◌<◌, [], length, take, rules, Err, ap, ◌∙◌}
use Rattle.std.proofs.lemmas.Result.{IfOk-weaker}
use Rattle.std.specs.Io.KnownBytes.{Consumes, IsAtEnd}
use Rattle.gipsat_dimacs.proofs.ErrorLemmas.{on_ok_always, same_error}
use Rattle.gipsat_dimacs.proofs.ReaderLemmas.{read_first, read_all, read_all-refused, read_refused, read_more, refused-says_none, written_whole}
use Rattle.gipsat_dimacs.proofs.reader.read_into.Goals as goal

pub loop-init : goal.loop-init
loop-init g c =
    let new = c.new-parser.ensures in
    record {
      reading = new.reading;
      room = c.in_ok-buf.ensures;
      has = read_first g.S.ClauseSink.formula c.args.rule (g.R.Read.remaining c.args.reader.now) c.new-parser.result new.line new.all;
    }

pub returns-then-n-eq0-clause-end : goal.returns-then-n-eq0-clause-end
returns-then-n-eq0-clause-end g c =
    let room : 0 < length c.read.new.buf = search rules in
    on_ok_always _ c.finish.result (c.in-Ok.ensures.bytes.1 c.if-n-eq0.true room)

pub returns-then-n-eq0-clause-ok : goal.returns-then-n-eq0-clause-ok
returns-then-n-eq0-clause-ok g c =
    let old = g.R.Read.remaining c.args.reader.now in
    let now = g.R.Read.remaining c.loop.reader in
    let new = g.R.Read.remaining c.read.new.self in
    let room : 0 < length c.read.new.buf = search rules in
    let end : IsAtEnd new = c.in-Ok.ensures.bytes.1 c.if-n-eq0.true room in
    let taken : Consumes now new [] = rw c.if-n-eq0.true at c.in-Ok.ensures.bytes.0 in
    IfOk-weaker c.finish.result _ _
    (λ f h. read_all g.S.ClauseSink.formula c.args.rule old now new c.loop.parser _ c.loop.invariant.has taken end h) c.finish.ensures.ok

pub returns-then-n-eq0-clause-in_line : goal.returns-then-n-eq0-clause-in_line
returns-then-n-eq0-clause-in_line g c line reason is =
    let old = g.R.Read.remaining c.args.reader.now in
    let now = g.R.Read.remaining c.loop.reader in
    let new = g.R.Read.remaining c.read.new.self in
    let room : 0 < length c.read.new.buf = search rules in
    let end : IsAtEnd new = c.in-Ok.ensures.bytes.1 c.if-n-eq0.true room in
    let taken : Consumes now new [] = rw c.if-n-eq0.true at c.in-Ok.ensures.bytes.0 in
    read_all-refused g.S.ClauseSink.formula c.args.rule old now new c.loop.parser line c.loop.invariant.has taken end
    (c.finish.ensures.stopped line reason is)

pub returns-then-n-eq0-clause-line : goal.returns-then-n-eq0-clause-line
returns-then-n-eq0-clause-line g c line reason is =
    refused-says_none c.args.rule (g.R.Read.remaining c.args.reader.now) line
    (returns-then-n-eq0-clause-in_line g c line reason is)

pub returns-in_err-feed-clause-in_line : goal.returns-in_err-feed-clause-in_line
returns-in_err-feed-clause-in_line g c line reason is =
    let old = g.R.Read.remaining c.args.reader.now in
    let now = g.R.Read.remaining c.loop.reader in
    let new = g.R.Read.remaining c.read.new.self in
    let whole : length c.read.new.buf ≡ c.loop.buf.len = search rules in
    let bytes : c.deref.result.now ≡ c.read.new.buf = c.deref.ensures.value ∙ written_whole _ _ _ whole in
    let taken : Consumes now new (take c.in-Ok.n c.deref.result.now) = rw bytes c.in-Ok.ensures.bytes.0 in
    let same = same_error c.from_residual-in_err-feed.result c.in_err-feed.field-0.0 _
    c.from_residual-in_err-feed.ensures is in
    read_refused g.S.ClauseSink.formula c.args.rule old now new c.loop.parser _ line c.loop.invariant.has taken
    (c.in_err-feed.ensures.stopped line reason (ap (λ e. Err e) same))

pub returns-in_err-feed-clause-line : goal.returns-in_err-feed-clause-line
returns-in_err-feed-clause-line g c line reason is =
    refused-says_none c.args.rule (g.R.Read.remaining c.args.reader.now) line
    (returns-in_err-feed-clause-in_line g c line reason is)

pub loop-preserved : goal.loop-preserved
loop-preserved g c =
    let old = g.R.Read.remaining c.args.reader.now in
    let now = g.R.Read.remaining c.loop.reader in
    let new = g.R.Read.remaining c.read.new.self in
    let whole : length c.read.new.buf ≡ c.loop.buf.len = search rules in
    let bytes : c.deref.result.now ≡ c.read.new.buf = c.deref.ensures.value ∙ written_whole _ _ _ whole in
    let taken : Consumes now new (take c.in-Ok.n c.deref.result.now) = rw bytes c.in-Ok.ensures.bytes.0 in
    record {
      reading = c.in_ok-feed.ensures.reading;
      room = c.loop.invariant.room;
      has = read_more g.S.ClauseSink.formula c.args.rule old now new c.loop.parser c.feed.new.self _ c.loop.invariant.has taken
          c.in_ok-feed.ensures.ok c.in_ok-feed.ensures.line;
    }
