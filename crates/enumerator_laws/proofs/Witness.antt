-- The events of the example may happen.
use Rattle.std.proofs.Common.{refl}
use Rattle.enumerator_laws.specs.Course.{begun, Happens}
use Rattle.enumerator_laws.specs.Example.{events, at_the_end}

pub happens : Happens begun events at_the_end
happens = ((refl, refl), (refl, ((refl, refl), (refl, (tt, ((refl, refl), (tt, ((refl, refl), (refl, refl)))))))))
