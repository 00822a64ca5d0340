-- What comes of items without those at the beginning.
use Rattle.std.specs.Prelude.{◌≡◌, List, [], ◌∷◌, Bool, true, false}
use Rattle.rb_value.specs.declared.value.Value.{Value}
use Rattle.rb_value.specs.declared.value.ObjId.{ObjId}
use Rattle.rb_value.specs.Value.{is_true}
use Rattle.rb_store.specs.Held.{Held}
use Rattle.iter_items.specs.declared.source.Source.{Source}
use Rattle.iter_items.specs.Asking.{Taken, taken}
use Rattle.iter_items.specs.Sources.{next, left}
use Rattle.items_laws.specs.Run.{Turn}
use Rattle.items_laws.specs.Items.{Visits, IsArrayOf, Until, answers, left_of}
use Rattle.items_laws.specs.Lists.{alone, is_untrue}

-- all items that are left of a source, with the heap in which the new ones of them are
abbrev pub rest_of : Held → Source → Taken
rest_of held s = taken (left held.store s) held s

-- A new Array of the item whose answer is the first that isn't true, and of all that are left behind it then; an empty one
-- where each answer is true.

abbrev pub DroppedBy : Bool → Held → Source → Value → Value → Held → Type 0 → Type 0
DroppedBy true held s x v after Further = Further
DroppedBy false held s x v after Further = IsArrayOf (rest_of held s).held (x ∷ (rest_of held s).items) v after

abbrev pub IsDropped : Source → List Value → List Value → Value → Held → Held → Type 0
IsDropped s [] us v after held = IsArrayOf held [] v after
IsDropped s (x ∷ xs) [] v after held = IsArrayOf held [] v after
IsDropped s (x ∷ xs) (a ∷ us) v after held =
    DroppedBy (is_true a) held s x v after (IsDropped s xs us v after held)

pub record DropsOn (held : Held) (s : Source) (b : ObjId) (ts : List Turn) (v : Value) (after : Held) : Type 0 where
  pub begun : Held
  pub same : begun.store ≡ held.store
  pub visits : Visits next begun s b (Until is_untrue) alone ts
      (λ h items. IsDropped (left_of next begun s ts) items (answers ts) v after h)
