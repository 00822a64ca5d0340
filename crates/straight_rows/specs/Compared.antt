-- What methods that compare two Strings, or seek one in another, give for them.
use Rattle.std.specs.Prelude.{ℕ, pos, List, nat_eq, int_lt, int_le, Option, Some, None, if◌then◌else◌}
use Rattle.std.specs.List.{starts_with, ends_with}
use Rattle.std.specs.Str.{bytes_eq}
use Rattle.rb_value.specs.declared.value.Value.{Value}
use Rattle.rb_value.specs.declared.value.Value.TheVariants.{Int}
use Rattle.rb_value.specs.declared.value.ObjId.{ObjId}
use Rattle.rb_value.specs.declared.kind.Sort.TheVariants as sort
use Rattle.rb_value.specs.Object.{Object}
use Rattle.rb_value.specs.Value.{truth}
use Rattle.rb_string.specs.Comparison.{order}
use Rattle.rb_string.specs.Searching.{includes}
use Rattle.row_table.specs.declared.string.StringMethod.{StringMethod}
use Rattle.row_table.specs.declared.string.StringMethod.TheVariants as method
use Rattle.def_core.specs.Parts.{text_at}
use Rattle.def_rows.specs.Operands.{place_of}

abbrev pub compared : StringMethod → List ℕ → List ℕ → Option Value
compared method.Equal text other = Some (truth (bytes_eq text other))
compared method.Order text other = Some (Int (order text other))
compared method.Less text other = Some (truth (int_lt (order text other) (pos 0)))
compared method.AtMost text other = Some (truth (int_le (order text other) (pos 0)))
compared method.Greater text other = Some (truth (int_lt (pos 0) (order text other)))
compared method.AtLeast text other = Some (truth (int_le (pos 0) (order text other)))
compared method.Includes text other = Some (truth (includes text other))
compared method.StartsWith text other = Some (truth (starts_with nat_eq text other))
compared method.EndsWith text other = Some (truth (ends_with nat_eq text other))
compared _ text other = None

abbrev pub compared_at : List Object → StringMethod → Option ObjId → Option ObjId → Option Value
compared_at objects m (Some id) (Some other) = compared m (text_at objects id) (text_at objects other)
compared_at objects m (Some id) None = None
compared_at objects m None other = None

-- nothing where one of them is no String
abbrev pub read_texts : List Object → StringMethod → Value → Value → Option Value
read_texts objects m recv other = compared_at objects m (place_of objects sort.String recv) (place_of objects sort.String other)
