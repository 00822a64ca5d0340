-- Items that are handed on by so many at once.
use Rattle.std.specs.Prelude.{ℕ, List, [], ◌∷◌, Some, None}
use Rattle.rb_value.specs.declared.value.Value.{Value}
use Rattle.heap.specs.Made.{array_given, with_array}
use Rattle.iter_items.specs.declared.source.Source.{Source}
use Rattle.iter_items.specs.Asking.{Taken, taken}
use Rattle.iter_items.specs.Sources.{Passed}
use Rattle.items_laws.specs.Items.{Passing}

-- a new Array of the items that were taken, where there are any
abbrev pub as_slice : List Value → Taken → Passed Source
as_slice [] t = record { item = None; source = t.source; held = t.held }
as_slice (x ∷ xs) t = record {
  item = Some (array_given t.held.store (x ∷ xs));
  source = t.source;
  held = with_array t.held (x ∷ xs);
}

-- a new Array of at most so many of the next items
abbrev pub slices : ℕ → Passing
slices n = λ held s. as_slice (taken n held s).items (taken n held s)
