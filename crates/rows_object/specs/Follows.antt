-- What a method of a heap answers, where its definition speaks of the world.
use Rattle.std.specs.Prelude.{◌≡◌, List, [], ◌∷◌, map, if◌then◌else◌, Result, Ok, Err, IfOk}
use Rattle.std.specs.declared.alloc.AllocError.{AllocError}
use Rattle.rb_value.specs.declared.value.Value.{Value}
use Rattle.rb_value.specs.declared.value.Value.TheVariants.{Nil}
use Rattle.rb_value.specs.declared.value.ObjId.{ObjId}
use Rattle.rb_value.specs.declared.value.SymId.{SymId}
use Rattle.rb_value.specs.declared.core_class.CoreClass.{CoreClass}
use Rattle.def_core.specs.declared.cause.Cause.{Cause}
use Rattle.def_core.specs.declared.cause.Cause.TheVariants as cause
use Rattle.def_core.specs.Store.{Store, Done, core}
use Rattle.def_core.specs.Classes.{plain_class_of}
use Rattle.def_rows.specs.Answers.{items_object}
use Rattle.def_calls.specs.World as world
use Rattle.def_calls.specs.World.{World, Answer, answer, fail, give, make, with_store}
use Rattle.rb_store.specs.Held.{Held}
use Rattle.core_calls.specs.Checks.{Named, name_in}
use Rattle.heap.specs.Operands.{has_all, own}
use Rattle.heap.specs.Told.{told}
use Rattle.run_values.specs.declared.given.Given.{Given}
use Rattle.run_values.specs.Answers.{answered}

-- it gives or raises as the definition does in each world with the store before, and leaves the store of the world
-- after; memory may run out
abbrev pub Follows : Held → Held → Result Given AllocError → (World → Answer) → Type 0
Follows before after result defined = IfOk result (λ g. (w : World)
    → defined (with_store w before.store) ≡ answered g (with_store w after.store))

-- a definition that speaks of the store alone
abbrev pub by_store : (Store → Done) → World → Answer
by_store defined w = answer w (defined w.store)

-- an exception by a cause
abbrev pub raise : Cause → World → Answer
raise c w = fail w (told w.store c)

-- a value of a core class was expected
abbrev pub refuse : CoreClass → Value → World → Answer
refuse class v w = fail w (cause.Expected (core class) (plain_class_of w.store.objects (own w.store v)))

-- a new Array, where the store has all of its elements
abbrev pub array : List Value → World → Answer
array vs w = if has_all w.store vs then make w (items_object vs) else give w Nil

-- One after another: what raises ends all.

abbrev pub next_by : (Value → World → Answer) → world.Result → World → Answer
next_by next (world.gives v) w = next v w
next_by next (world.raises e) w = record { result = world.raises e; world = w }

abbrev pub followed : Answer → (Value → World → Answer) → Answer
followed a next = next_by next a.result a.world

-- the same done with each of these, the first of them first, and then the end
unfoldable pub in_turn : {A : Type 0} → (A → World → Answer) → List A → (World → Answer) → World → Answer
in_turn step [] end w = end w
in_turn step (x ∷ xs) end w = followed (step x w) (λ v after. in_turn step xs end after)

-- A name, which a String adds where it isn't there, and what is done with it; what is none is refused.

abbrev pub named_then : World → Result SymId Cause → (SymId → World → Answer) → Answer
named_then w (Ok name) next = next name w
named_then w (Err c) next = raise c w

abbrev pub named_by : World → Named → (SymId → World → Answer) → Answer
named_by w n next = named_then (with_store w n.store) n.name next

abbrev pub named : Value → (SymId → World → Answer) → World → Answer
named v next w = named_by w (name_in w.store v) next
