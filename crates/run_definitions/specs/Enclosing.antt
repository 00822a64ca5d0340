-- Lists of enclosing classes, and what a call on a store answers in the worlds that have them.
use Rattle.std.specs.Prelude.{◌≡◌, List, Option, None, Result, IfOk, if◌then◌else◌}
use Rattle.std.specs.declared.alloc.AllocError.{AllocError}
use Rattle.rb_value.specs.declared.value.Value.{Value}
use Rattle.rb_value.specs.declared.value.ObjId.{ObjId}
use Rattle.rb_value.specs.declared.value.SymId.{SymId}
use Rattle.rb_value.specs.declared.core_class.CoreClass.TheVariants as class
use Rattle.rb_value.specs.Object.{Object}
use Rattle.def_core.specs.Store.{core, same_object}
use Rattle.def_core.specs.Classes.{class_at}
use Rattle.def_core.specs.Changes.{constant_in}
use Rattle.def_core.specs.Sound.{Census, census, Is, ClassOrModule, AllAre}
use Rattle.rb_store.specs.Held.{Held}
use Rattle.rb_store.specs.Keeps.{Keeps}
use Rattle.def_calls.specs.World as world
use Rattle.def_calls.specs.World.{World, Answer, with_store}
use Rattle.run_values.specs.declared.given.Given.{Given}
use Rattle.run_values.specs.Answers.{answered, IsGiven}

-- the world with these lists of enclosing classes
abbrev pub enclosed : List world.Enclosing → World → World
enclosed lists w = record w { enclosing = lists }

-- each class is one of the store
abbrev pub AreEnclosing : Census → List world.Enclosing → Type 0
AreEnclosing k lists = AllAre (λ e. Is k ClassOrModule e.class) lists

-- the constant of a class around a text, of which Object is none
abbrev pub inner_constant : List Object → ObjId → SymId → Option Value
inner_constant objects c name =
    if same_object c (core class.Object) then None else constant_in (class_at objects c).constants name

-- The call answers as the definition does in each world with these lists and the store before it, leaves the store of
-- the world after it, and nothing else of the world changes. What was good in the store stays good.
pub record AnswersAmong (lists : List world.Enclosing) (before after : Held) (result : Result Given AllocError)
    (defined : World → Answer) : Type 0 where
  pub answer : IfOk result (λ g. (w : World) → defined (with_store (enclosed lists w) before.store)
      ≡ answered g (with_store (enclosed lists w) after.store))
  pub belongs : IfOk result (IsGiven (census after.store))
  pub keeps : Keeps before after
