-- The law is a lemma of binary texts.
use Rattle.gip_lines.proofs.BinaryTexts as texts
use Rattle.gip_lines.proofs.vectors.lines_are_binary_texts.Goals as goal

pub returns : goal.returns
returns c = texts.lines_are_binary_texts
