-- The methods by the segments of their classes and their names.
use Rattle.std.specs.Prelude.{ℕ, List, [], ◌∷◌, codes, nat_eq, if◌then◌else◌}
use Rattle.rows_class.specs.declared.row.ClassRow.{ClassRow}
use Rattle.rows_class.specs.declared.row.ClassRow.TheVariants as row

unfoldable pub module_rows : List (List ℕ × ClassRow)
module_rows =
    (codes "name", row.Name) ∷
    (codes "to_s", row.ToText) ∷
    (codes "inspect", row.ToText) ∷
    (codes "===", row.Matches) ∷
    (codes "<", row.IsBelow) ∷
    (codes "<=", row.IsAtMost) ∷
    (codes "ancestors", row.Ancestors) ∷
    (codes "include", row.Include) ∷
    (codes "method_defined?", row.HasMethod) ∷
    (codes "attr_reader", row.Reader) ∷
    (codes "attr_writer", row.Writer) ∷
    (codes "attr_accessor", row.Accessor) ∷
    (codes "define_method", row.DefineMethod) ∷
    (codes "alias_method", row.AliasMethod) ∷
    (codes "undef_method", row.UndefineMethod) ∷
    (codes "remove_method", row.RemoveMethod) ∷
    (codes "const_get", row.Constant) ∷
    (codes "const_set", row.SetConstant) ∷
    (codes "const_defined?", row.HasConstant) ∷
    (codes "public", row.Public) ∷
    (codes "private", row.Private) ∷
    (codes "protected", row.Protected) ∷
    []

unfoldable pub module_class_rows : List (List ℕ × ClassRow)
module_class_rows =
    (codes "new", row.NewModule) ∷
    []

unfoldable pub class_rows : List (List ℕ × ClassRow)
class_rows =
    (codes "allocate", row.Allocate) ∷
    (codes "superclass", row.Superclass) ∷
    []

unfoldable pub class_class_rows : List (List ℕ × ClassRow)
class_class_rows =
    (codes "new", row.NewClass) ∷
    []

unfoldable pub main_rows : List (List ℕ × ClassRow)
main_rows =
    (codes "include", row.Include) ∷
    (codes "define_method", row.DefineMethod) ∷
    (codes "public", row.Public) ∷
    (codes "private", row.Private) ∷
    []

-- those of a segment
abbrev pub rows : ℕ → List (List ℕ × ClassRow)
rows s = if nat_eq s 4 then module_rows
    else (if nat_eq s 5 then module_class_rows
    else (if nat_eq s 6 then class_rows
    else (if nat_eq s 7 then class_class_rows
    else (if nat_eq s 77 then main_rows
    else ([])))))
