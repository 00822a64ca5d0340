-- What a call on a store answers, whatever the rest of the world is.
use Rattle.std.specs.Prelude.{◌≡◌, Result, IfOk}
use Rattle.std.specs.declared.alloc.AllocError.{AllocError}
use Rattle.rb_value.specs.declared.value.Value.TheVariants.{Obj}
use Rattle.def_core.specs.Sound.{Census, census, IsValue}
use Rattle.rb_store.specs.Held.{Held}
use Rattle.rb_store.specs.Keeps.{Keeps}
use Rattle.def_calls.specs.World as world
use Rattle.def_calls.specs.World.{World, Answer, with_store}
use Rattle.run_values.specs.declared.given.Given.{Given}
use Rattle.run_values.specs.declared.given.Given.TheVariants.{Gives, Raises}

abbrev pub result_of : Given → world.Result
result_of (Gives v) = world.gives v
result_of (Raises e) = world.raises e

-- the answer with that world after it
abbrev pub answered : Given → World → Answer
answered g w = record { result = result_of g; world = w }

-- what is given or raised is a value of the store
abbrev pub IsGiven : Census → Given → Type 0
IsGiven k (Gives v) = IsValue k v
IsGiven k (Raises e) = IsValue k (Obj e)

-- The call answers as the definition does in each world with the store before it, leaves the store of the world after
-- it, and nothing else of the world changes. What was good in the store stays good.
pub record Answers (before after : Held) (result : Result Given AllocError) (defined : World → Answer) : Type 0 where
  pub answer : IfOk result (λ g. (w : World) →
      defined (with_store w before.store) ≡ answered g (with_store w after.store))
  pub belongs : IfOk result (IsGiven (census after.store))
  pub keeps : Keeps before after
