-- What methods of Enumerators give.
use Rattle.std.specs.Prelude.{◌≡◌, List, [], ◌∷◌, Bool, Some, None}
use Rattle.rb_value.specs.declared.value.Value.{Value}
use Rattle.rb_value.specs.declared.value.ObjId.{ObjId}
use Rattle.def_core.specs.Store.{next_number}
use Rattle.heap.specs.Changes.{with_cursor}
use Rattle.heap.specs.Made.{with_core_proc, with_items}
use Rattle.rb_value.specs.declared.value.Value.TheVariants.{Obj}
use Rattle.rb_store.specs.Held.{Held}
use Rattle.iter_enumerators.specs.Items.{enumerate_row, take_item}
use Rattle.items_laws.specs.Run.{Turn}
use Rattle.items_laws.specs.Handed.{resumed_in}

-- A fiber is resumed in a heap, and what it gives is given: where it is still that of the Enumerator it is the next item, which
-- leaves it or stays.
pub record TakesItem (held : Held) (e fiber : ObjId) (leaves : Bool) (ts : List Turn) (v : Value) (after : Held)
    : Type 0 where
  pub turn : Turn
  pub alone : ts ≡ turn ∷ []
  pub wanted : resumed_in turn.wanted.plan ≡ Some (fiber, [])
  pub heap : turn.wanted.held ≡ held
  pub value : v ≡ turn.answer
  pub left : after ≡ (take_item turn.held e fiber leaves turn.answer).held

-- the heap with the Proc that a new fiber of an Enumerator runs
abbrev pub with_source : Held → ObjId → Held
with_source held e = with_core_proc held enumerate_row (Obj e)

-- an Enumerator that begins anew: a new Array for its items, and no fiber
abbrev pub rewound : Held → ObjId → Held
rewound held e = with_cursor (with_items held) e
    (record { fiber = None; items = next_number held.store; position = 0; result = None })
