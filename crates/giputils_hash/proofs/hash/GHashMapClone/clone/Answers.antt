-- The entries are those of the map inside.
use Rattle.giputils_hash.proofs.hash.GHashMapClone.clone.Goals as goal

pub returns : goal.returns
returns g c = record { cases = rw (← c.self.view_is) c.in_ok-clone.ensures.cases }
