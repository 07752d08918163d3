-- What stands for the bad literal fails wherever that does.
use Rattle.gipmc_task.proofs.parted.Parted.on_whole.Goals as goal

pub returns-in-Safe : goal.returns-in-Safe
returns-in-Safe g c =
    let right = rw (c.in-Safe.is) at c.requires.right in
    λ n. c.requires.stands n (right.safe n)

pub returns-in-Inductive : goal.returns-in-Inductive
returns-in-Inductive g c =
    let right = rw (c.in-Inductive.is) at c.requires.right in
    λ n. c.requires.stands n (right.safe n)

pub returns-in-NoFailureWithin : goal.returns-in-NoFailureWithin
returns-in-NoFailureWithin g c =
    let right = rw (c.in-NoFailureWithin.is) at c.requires.right in
    λ m within. c.requires.stands m (right m within)
