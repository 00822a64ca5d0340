-- A block that is called again and again.
use Rattle.std.specs.Prelude.{◌≡◌, List, [], map, Some}
use Rattle.rb_value.specs.declared.value.ObjId.{ObjId}
use Rattle.rb_store.specs.Held.{Held}
use Rattle.def_plans.specs.Plan.{Planned}
use Rattle.core_iter.specs.Sending.{looped}
use Rattle.core_iter.specs.Stage.{Stage}
use Rattle.items_laws.specs.Run.{Turn}
use Rattle.items_laws.specs.Items.{calls_of, last_heap}
use Rattle.items_laws.specs.Read.{heaps_before}

-- The block is called without values, in the heap as the answer before left it, and what comes last is another such call.
pub record LoopsOn (held : Held) (b : ObjId) (ts : List Turn) (last : Planned Stage) : Type 0 where
  pub called : calls_of ts ≡ map (λ t. Some (b, [])) ts
  pub heaps : map (λ t. t.wanted.held) ts ≡ heaps_before held ts
  pub next : last ≡ looped (last_heap held ts) b
