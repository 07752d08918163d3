use Rattle.gipsat_plain.proofs.search.core_of.Goals as goal

pub loop-place-preserved-in-None : goal.loop-place-preserved-in-None
loop-place-preserved-in-None c =
    let none = rw (c.in-None.is) at c.in_ok-decide.ensures.none in
    record {
      among = rw (c.deref-in-loop-place.ensures.value) at c.if-not-are_among.ensures;
      refuted = rw (c.deref-in-loop-place-2.ensures.value) at none;
    }
