-- What a method of a heap answers.
use Rattle.std.specs.Prelude.{◌≡◌, Result, Ok, Err}
use Rattle.std.specs.declared.alloc.AllocError.{AllocError}
use Rattle.rb_value.specs.declared.value.Value.{Value}
use Rattle.rb_value.specs.declared.core_class.CoreClass.{CoreClass}
use Rattle.def_core.specs.declared.cause.Cause.{Cause}
use Rattle.def_core.specs.declared.cause.Cause.TheVariants as cause
use Rattle.def_core.specs.Store.{Store, Done, core}
use Rattle.def_core.specs.Classes.{plain_class_of}
use Rattle.def_core.specs.Changes.{fails}
use Rattle.def_calls.specs.World.{World, answer, with_store}
use Rattle.rb_store.specs.Held.{Held}
use Rattle.heap.specs.Operands.{own}
use Rattle.run_values.specs.declared.given.Given.{Given}
use Rattle.run_values.specs.Answers.{answered}

-- it gives or raises as the definition says, and leaves the store of it, whatever the rest of the world is; memory may
-- run out
abbrev pub Answered : Held → Held → Result Given AllocError → (Store → Done) → Type 0
Answered before after (Ok g) defined = (w : World)
    → answer (with_store w before.store) (defined before.store) ≡ answered g (with_store w after.store)
Answered before after (Err e) defined = Unit {0}

-- a value of a core class was expected
abbrev pub refused : CoreClass → Value → Store → Done
refused class v st = fails st (cause.Expected (core class) (plain_class_of st.objects (own st v)))

-- a store as one that is held, whatever the count of its changes
abbrev pub holding : Store → Held
holding st = record { store = st; changes = 0 }
