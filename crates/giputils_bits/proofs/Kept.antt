-- What is known of a list that is kept in words, for the searches of functions that read it.
use Rattle.giputils_bits.proofs.Places.{length-places, get_or-places}

pub ruleset kept = (length-places, get_or-places)
