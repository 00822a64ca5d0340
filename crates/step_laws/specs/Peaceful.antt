-- What is asked of an evaluation that isn't so of that of every program: it enters no bodies but those of methods with
-- code.
use Rattle.std.specs.Prelude.{◌⊎◌, ℕ}
use Rattle.rite_code.specs.Code.{Program}
use Rattle.def_eval.specs.Source.{Source}
use Rattle.def_eval.specs.Configuration.{Config, Run, Halt}
use Rattle.def_eval.specs.Transition.{go, go_times}
use Rattle.step_laws.specs.Bodies.{CallsBodies}
use Rattle.step_laws.specs.Calm.{Still, objects_for}

abbrev pub IsPeaceful : Source → Program → Config → Type 0
IsPeaceful s p (Halt e) = Unit {0}
IsPeaceful s p (Run f ks m) = Still m (go s (Run f ks m)) ⊎ CallsBodies s p m.world.store.objects (objects_for f ks m)

abbrev pub StaysPeaceful : Source → Program → Config → Type 0
StaysPeaceful s p c = (n : ℕ) → IsPeaceful s p (go_times n s c)
