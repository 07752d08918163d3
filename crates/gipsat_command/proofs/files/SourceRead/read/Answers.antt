-- The bytes ahead, and then those of the stream.
use Rattle.std.proofs.Common.{◌≡◌, ◌<◌, [], arith, length, length-drop}
use Rattle.std.proofs.lemmas.List.{drop_all}
use Rattle.gipsat_command.specs.Files.{ahead_of}
use Rattle.gipsat_command.proofs.Sources.{read_ahead, read_behind}
use Rattle.gipsat_command.proofs.files.SourceRead.read.Goals as goal

pub returns-then-self-len-clause-bytes : goal.returns-then-self-len-clause-bytes
returns-then-self-len-clause-bytes g c =
    let old = c.args.self.now in
    let some : 0 < length (ahead_of old) = omega (arith, length-drop old.handed old.ahead.items) in
    read_ahead _ _ _ _ _ _ some c.hand_on.ensures.stream c.hand_on.ensures.bytes

pub returns-clause-bytes : goal.returns-clause-bytes
returns-clause-bytes g c =
    let old = c.args.self.now in
    let none : ahead_of old ≡ [] = drop_all old.handed old.ahead.items (omega arith) in
    read_behind _ _ _ _ _ _ none c.read_stream.ensures.ahead c.read_stream.ensures.bytes
