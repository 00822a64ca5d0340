-- The pairs of a Hash.
use Rattle.std.specs.Prelude.{List, Option, Some, None}
use Rattle.std.specs.Map.{lookup, remove_entry}
use Rattle.indexmap.specs.IndexMap.{insert_entry}
use Rattle.rb_value.specs.declared.value.Value.{Value}
use Rattle.rb_value.specs.declared.key.Key.{Key}
use Rattle.rb_value.specs.declared.hash.HashItem.{HashItem}
use Rattle.rb_value.specs.Key.{same_key}

abbrev pub item_of : List (Key × HashItem) → Key → Option HashItem
item_of pairs key = lookup (same_key key) pairs

-- what stays shown as the key
abbrev pub shown_as : Option HashItem → Value → Value
shown_as None shown = shown
shown_as (Some item) shown = item.shown

-- a key that is there keeps its place and what is shown, and a new one goes last
abbrev pub with_pair : List (Key × HashItem) → Key → Value → Value → List (Key × HashItem)
with_pair pairs key shown value =
    insert_entry same_key pairs key (record { shown = shown_as (item_of pairs key) shown; value = value })

abbrev pub without_key : List (Key × HashItem) → Key → List (Key × HashItem)
without_key pairs key = remove_entry (same_key key) pairs
