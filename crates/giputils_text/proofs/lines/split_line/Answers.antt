-- The line ends at the first line feed, or where the text does.
use Rattle.giputils_text.proofs.Pieces.{text_lines-at}
use Rattle.giputils_text.proofs.lines.split_line.Goals as goal

pub returns-in-Some-clause-lines : goal.returns-in-Some-clause-lines
returns-in-Some-clause-lines c =
    text_lines-at c.args.text.now _ c.in-Some.rest.now (rw c.in-Some.is at c.split_once.ensures.parts)
