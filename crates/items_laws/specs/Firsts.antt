-- What comes of items where the first one is the value to begin with.
use Rattle.std.specs.Prelude.{◌≡◌, List, ◌∷◌, Some}
use Rattle.rb_value.specs.declared.value.Value.{Value}
use Rattle.rb_value.specs.declared.value.ObjId.{ObjId}
use Rattle.rb_store.specs.Held.{Held}
use Rattle.def_plans.specs.Plan.{Planned}
use Rattle.iter_items.specs.declared.source.Source.{Source}
use Rattle.iter_items.specs.Sources.{next}
use Rattle.core_iter.specs.Stage.{Stage}
use Rattle.items_laws.specs.Run.{Turn}
use Rattle.items_laws.specs.Cut.{Cut}
use Rattle.items_laws.specs.Items.{Visits, IsValue, Whole, answers}
use Rattle.items_laws.specs.Lists.{in_turn, last_of}

-- the block is called with what came so far and each item behind the first
pub record FoldsOn (held : Held) (s : Source) (b : ObjId) (ts : List Turn) (first v : Value) (after : Held) : Type 0 where
  pub begun : Held
  pub same : begun.store ≡ held.store
  pub there : (next begun s).item ≡ Some first
  pub visits : Visits next (next begun s).held (next begun s).source b Whole (in_turn (first ∷ answers ts)) ts
      (λ h items. IsValue h (last_of first (answers ts)) v after)

-- and the last call isn't answered
pub record FoldsOff (held : Held) (s : Source) (b : ObjId) (ts : List Turn) (first : Value) (last : Planned Stage)
    : Type 0 where
  pub begun : Held
  pub same : begun.store ≡ held.store
  pub there : (next begun s).item ≡ Some first
  pub cut : Cut next (next begun s).held (next begun s).source b (in_turn (first ∷ answers ts)) ts last
