use Rattle.std.proofs.Common.{◌≡◌, ℕ, Some, length}
use Rattle.std.specs.Prelude.{slice_get}
use Rattle.gipsat_cnf.specs.Literals.{Lit}
use Rattle.gipsat_uses.specs.Colouring.{has_colour}
use Rattle.gipsat_uses.proofs.colouring.literals_of.Given as goal

abbrev pub invariant-loop-colour : goal.invariant-loop-colour
invariant-loop-colour l =
    (length l.literals.items ≡ l.colour)
    × ((c : ℕ) (x : Lit) → slice_get l.literals.items c ≡ Some x → x ≡ has_colour l.colours l.vertex c)
