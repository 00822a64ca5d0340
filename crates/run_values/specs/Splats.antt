-- What a splat gives and leaves.
use Rattle.std.specs.Prelude.{[], ◌∷◌}
use Rattle.rb_value.specs.declared.key.Key.{Key}
use Rattle.rb_value.specs.declared.hash.HashItem.{HashItem}
use Rattle.rb_value.specs.Object.{Object}
use Rattle.def_core.specs.Store.{Store}
use Rattle.rb_integer.specs.declared.ends.Ends.{Ends}
use Rattle.rb_integer.specs.Ends as ends
use Rattle.def_rows.specs.Answers.{items_object}
use Rattle.def_rows.specs.RangeRows.{items}
use Rattle.def_calls.specs.Values.{Splatted, splat_items}

-- a pair of a Hash as an Array
abbrev pub item_object : HashItem → Object
item_object i = items_object (i.shown ∷ i.value ∷ [])

abbrev pub pair_object : Key × HashItem → Object
pair_object p = item_object p.1

-- the items of a Range
abbrev pub range_items : Store → Ends → Splatted
range_items st e = splat_items st e.bounds (items e.bounds (ends.count e.bounds e.is_exclusive))
