-- A whole run over an Array, from its first element on.
use Rattle.std.specs.Prelude.{◌≡◌, List, [], ◌∷◌, length, map, slice_get, Some, None}
use Rattle.rb_value.specs.declared.value.Value.{Value}
use Rattle.rb_value.specs.declared.value.ObjId.{ObjId}
use Rattle.def_core.specs.Parts.{elements_at}
use Rattle.rb_store.specs.Held.{Held}
use Rattle.items_laws.specs.Run.{Turn}
use Rattle.items_laws.specs.Items.{calls_of, last_heap}
use Rattle.items_laws.specs.Read.{heaps_before, elements_read}

-- The block is called with each element, which is read when the answer before has come, and the heap is left alone in
-- between; at the end no element stands at the next place; and so the result is.
pub record OverElements (held : Held) (a b : ObjId) (ts : List Turn) (Result : Held → List Value → Type 0) : Type 0 where
  pub begun : Held
  pub same : begun.store ≡ held.store
  pub items : List Value
  pub read : map Some items ≡ elements_read a 0 (heaps_before begun ts)
  pub called : calls_of ts ≡ map (λ x. Some (b, x ∷ [])) items
  pub heaps : map (λ t. t.wanted.held) ts ≡ heaps_before begun ts
  pub over : slice_get (elements_at (last_heap begun ts).store.objects a) (length ts) ≡ None
  pub result : Result (last_heap begun ts) items
