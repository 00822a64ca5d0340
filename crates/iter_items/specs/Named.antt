-- The methods by the segments of their classes and their names.
use Rattle.std.specs.Prelude.{ℕ, List, [], ◌∷◌, ◌++◌, map, codes, nat_eq, if◌then◌else◌}
use Rattle.rows_items.specs.declared.rows.ItemRow.{ItemRow}
use Rattle.rows_items.specs.declared.rows.ItemRow.TheVariants as item
pub use Rattle.iter_comparing.specs.declared.row.ComparingRow.{ComparingRow}
pub use Rattle.iter_comparing.specs.declared.row.ComparingRow.TheVariants as comparing
use Rattle.iter_comparing.specs.declared.row.OrderRow.{OrderRow}
use Rattle.iter_comparing.specs.declared.row.OrderRow.TheVariants as order
use Rattle.iter_enumerators.specs.declared.row.EnumeratorRow.{EnumeratorRow}
use Rattle.iter_enumerators.specs.declared.row.EnumeratorRow.TheVariants as enumerator
use Rattle.iter_items.specs.declared.row.Task.{Task}
use Rattle.iter_items.specs.declared.row.Task.TheVariants as task
use Rattle.iter_items.specs.declared.row.GatheringRow.{GatheringRow}
use Rattle.iter_items.specs.declared.row.GatheringRow.TheVariants as gathering
use Rattle.iter_items.specs.declared.row.ItemsRow.{ItemsRow}
use Rattle.iter_items.specs.declared.row.ItemsRow.TheVariants as row

-- what calls a block for each item, of Array, Hash, Range and Enumerable alike
unfoldable pub visits : List (List ℕ × Task)
visits =
    (codes "map", task.Map) ∷
    (codes "collect", task.Map) ∷
    (codes "flat_map", task.FlatMap) ∷
    (codes "select", task.Select) ∷
    (codes "filter", task.Select) ∷
    (codes "reject", task.Reject) ∷
    (codes "find", task.Find) ∷
    (codes "detect", task.Find) ∷
    (codes "find_index", task.FindIndex) ∷
    (codes "partition", task.Partition) ∷
    (codes "group_by", task.GroupBy) ∷
    (codes "each_with_index", task.EachWithIndex) ∷
    (codes "each_with_object", task.EachWithObject) ∷
    (codes "each_slice", task.EachSlice) ∷
    (codes "each_cons", task.EachCons) ∷
    (codes "reverse_each", task.ReverseEach) ∷
    (codes "take_while", task.TakeWhile) ∷
    (codes "drop_while", task.DropWhile) ∷
    (codes "min_by", task.MinBy) ∷
    (codes "max_by", task.MaxBy) ∷
    (codes "sort_by", task.SortBy) ∷
    (codes "all?", task.All) ∷
    (codes "any?", task.Any) ∷
    (codes "none?", task.Never) ∷
    (codes "count", task.Count) ∷
    (codes "inject", task.Inject) ∷
    (codes "reduce", task.Inject) ∷
    (codes "sum", task.Sum) ∷
    []

-- of Object
unfoldable pub object_rows : List (List ℕ × ComparingRow)
object_rows =
    (codes "!=", comparing.Differs) ∷
    (codes "===", comparing.Matches) ∷
    []

-- of Comparable
unfoldable pub comparable_rows : List (List ℕ × OrderRow)
comparable_rows =
    (codes "<", order.Less) ∷
    (codes "<=", order.AtMost) ∷
    (codes ">", order.Greater) ∷
    (codes ">=", order.AtLeast) ∷
    (codes "==", order.Equal) ∷
    (codes "between?", order.Between) ∷
    (codes "clamp", order.Clamp) ∷
    []

-- of Array
unfoldable pub array_rows : List (List ℕ × ComparingRow)
array_rows =
    (codes "*", comparing.ArrayRepeat) ∷
    (codes "==", comparing.ArrayEquality) ∷
    (codes "<=>", comparing.ArrayOrder) ∷
    (codes "index", comparing.ArrayIndex) ∷
    (codes "include?", comparing.ArrayIncludes) ∷
    (codes "delete", comparing.ArrayDelete) ∷
    (codes "-", comparing.ArrayDifference) ∷
    (codes "&", comparing.ArrayIntersection) ∷
    (codes "|", comparing.ArrayUnion) ∷
    (codes "join", comparing.ArrayJoin) ∷
    (codes "inspect", comparing.ArrayText) ∷
    (codes "to_s", comparing.ArrayText) ∷
    []

-- of Hash
unfoldable pub hash_rows : List (List ℕ × ComparingRow)
hash_rows =
    (codes "[]", comparing.HashElement) ∷
    (codes "fetch", comparing.HashFetch) ∷
    (codes "value?", comparing.HashHasValue) ∷
    (codes "key", comparing.HashKeyOf) ∷
    (codes "==", comparing.HashEquality) ∷
    (codes "inspect", comparing.HashText) ∷
    (codes "to_s", comparing.HashText) ∷
    []

-- of Enumerator
unfoldable pub enumerator_rows : List (List ℕ × EnumeratorRow)
enumerator_rows =
    (codes "next", enumerator.Next) ∷
    (codes "peek", enumerator.Peek) ∷
    (codes "rewind", enumerator.Rewind) ∷
    (codes "each", enumerator.Each) ∷
    []

-- of Enumerator::Yielder
unfoldable pub yielder_rows : List (List ℕ × EnumeratorRow)
yielder_rows =
    (codes "<<", enumerator.Put) ∷
    (codes "yield", enumerator.Yield) ∷
    []

-- of Enumerable: what calls no block
unfoldable pub gathered_rows : List (List ℕ × ItemRow)
gathered_rows =
    (codes "to_a", item.ToArray) ∷
    (codes "entries", item.Entries) ∷
    (codes "first", item.First) ∷
    (codes "min", item.Min) ∷
    (codes "max", item.Max) ∷
    (codes "sort", item.Sort) ∷
    (codes "uniq", item.Uniq) ∷
    (codes "zip", item.Zip) ∷
    (codes "take", item.Take) ∷
    (codes "drop", item.Drop) ∷
    (codes "tally", item.Tally) ∷
    []

-- these methods, of this kind
abbrev pub each_is : {A B : Type 0} → (A → B) → List (List ℕ × A) → List (List ℕ × B)
each_is kind methods = map (λ m. (m.0, kind m.1)) methods

-- of Enumerable: the same that call a block, and those of the items that are searched or given
abbrev pub enumerable_rows : List (List ℕ × GatheringRow)
enumerable_rows = each_is gathering.Visits visits
    ++ (codes "include?", gathering.Includes) ∷ (codes "member?", gathering.Includes)
    ∷ each_is gathering.Outright gathered_rows

abbrev pub comparable : OrderRow → ItemsRow
comparable r = row.Compares (comparing.Order r)

-- those of a segment; that of the hidden rows has one that no name leads to
abbrev pub rows : ℕ → List (List ℕ × ItemsRow)
rows s = if nat_eq s 0 then each_is row.Compares object_rows
    else (if nat_eq s 8 then each_is comparable comparable_rows
    else (if nat_eq s 10 then each_is row.Gathers enumerable_rows
    else (if nat_eq s 26 then each_is row.Visits visits ++ each_is row.Compares array_rows
    else (if nat_eq s 28 then each_is row.Visits visits ++ each_is row.Compares hash_rows
    else (if nat_eq s 30 then each_is row.Visits visits
    else (if nat_eq s 36 then each_is row.Enumerates enumerator_rows
    else (if nat_eq s 38 then each_is row.Enumerates yielder_rows
    else (if nat_eq s 76 then ([], row.Enumerates enumerator.Enumerate) ∷ []
    else ([])))))))))
