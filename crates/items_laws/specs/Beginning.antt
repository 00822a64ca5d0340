-- Runs that are left, as the beginnings of whole ones.
use Rattle.std.specs.Prelude.{◌≡◌, List, ◌∷◌, ◌++◌, Option, Some}
use Rattle.rb_value.specs.declared.value.Value.{Value}
use Rattle.rb_value.specs.declared.value.ObjId.{ObjId}
use Rattle.rb_store.specs.Held.{Held}
use Rattle.def_plans.specs.Plan.{Planned}
use Rattle.run_rows.specs.declared.row.StarRow.{StarRow}
use Rattle.core_iter.specs.Rows.{Starts}
use Rattle.core_iter.specs.Stage.{Stage}
use Rattle.items_laws.specs.Run.{Turn, Runs, waiting}

-- the run of a row in which the last thing that is wanted isn't answered
pub record Leaves (r : StarRow) (held : Held) (recv : Value) (args : List Value) (block : Option ObjId) (ts : List Turn)
    (last : Planned Stage) : Type 0 where
  pub first : Planned Stage
  pub stage : Stage
  pub starts : Starts r held recv args block first
  pub runs : Runs first ts last
  pub waits : waiting last.plan ≡ Some stage

-- These turns, and then one that wants that, begin a list of turns of which something holds, with a value and a heap at its
-- end.
pub record IsBeginning (Whole : List Turn → Value → Held → Type 0) (ts : List Turn) (last : Planned Stage) : Type 0 where
  pub turn : Turn
  pub further : List Turn
  pub value : Value
  pub after : Held
  pub wanted : turn.wanted ≡ last
  pub whole : Whole (ts ++ turn ∷ further) value after
