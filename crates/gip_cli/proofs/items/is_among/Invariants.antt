-- The word is found among those that are left, or nowhere.
use Rattle.std.proofs.Common.{◌≡◌, map, length}
use Rattle.gip_cli.specs.Options.{is_among}
use Rattle.gip_cli.proofs.items.is_among.Given as goal

abbrev pub invariant-loop-words : goal.invariant-loop-words
invariant-loop-words l =
    is_among (map (λ w. w.now) l.words) l.word ≡ is_among (map (λ w. w.now) l.fn.words) l.fn.word

abbrev pub decreases-loop-words : goal.decreases-loop-words
decreases-loop-words l = length l.words
