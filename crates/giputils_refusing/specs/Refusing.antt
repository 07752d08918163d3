-- What a caller may know of an allocator that refuses.
use Rattle.giputils_refusing.specs.declared.Refused.{Refused}
use Rattle.giputils_refusing.specs.declared.Refusing.{Refusing}

module _ {B : Type 0} where
  -- the allocator that it passes requests on to
  abbrev pub allocator_of : Refusing B → B
  allocator_of memory = memory.inner

  -- the requests that it refuses
  abbrev pub refused_of : Refusing B → Refused
  refused_of memory = memory.refused
