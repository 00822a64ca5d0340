-- The methods of the store at the start are the rows of the table.
use Rattle.std.specs.Prelude.{◌≡◌, ℕ, ◌+◌, ◌*◌, List, [], ◌∷◌, map, Bool, false}
use Rattle.std.specs.List.{list_any}
use Rattle.rb_value.specs.declared.value.ObjId.{ObjId}
use Rattle.rb_value.specs.declared.method.Method.{Method}
use Rattle.rb_value.specs.declared.method.Method.TheVariants.{Core}
use Rattle.rb_value.specs.declared.method.MethodEntry.{MethodEntry}
use Rattle.row_table.specs.Names.{names}
use Rattle.row_table.specs.Segments.{segments}
use Rattle.def_core.specs.Store.{Store, symbol_number, name_at, same_object}
use Rattle.def_core.specs.Classes.{class_at}
use Rattle.rb_store.specs.Opening.{opening, holder}

-- a method by its name
abbrev pub named : Store → ℕ × MethodEntry → List ℕ × Method
named st e = (name_at st (symbol_number e.0), e.1.method)

-- names with rows, the first of which has the number n
abbrev pub with_rows_from : ℕ → List (List ℕ) → List (List ℕ × Method)
with_rows_from n [] = []
with_rows_from n (name ∷ rest) = (name, Core n) ∷ with_rows_from (n + 1) rest

-- what holds the methods of a segment has the rows of the segment under their names, and no others
abbrev pub HasSegment : ℕ → Type 0
HasSegment s = map (named opening) (class_at opening.objects (holder s)).methods ≡ with_rows_from (s * 256) (names s)

-- whether an object holds the methods of a segment
abbrev pub is_holder : ObjId → Bool
is_holder id = list_any (same_object id) (map holder segments)
