-- Whether a call of a core method is refused.
use Rattle.std.specs.Prelude.{ℕ, ◌+◌, List, [], ◌∷◌, length, nat_eq, nat_le, Bool, true, ◌&&◌, Option, Some, None, is_none, if◌then◌else◌}
use Rattle.rb_value.specs.declared.value.Value.{Value}
use Rattle.rb_value.specs.declared.value.Value.TheVariants.{Nil, True, False, Int, Sym, Obj}
use Rattle.rb_value.specs.declared.value.ObjId.{ObjId}
use Rattle.rb_value.specs.declared.kind.Sort.{Sort}
use Rattle.rb_value.specs.declared.kind.Sort.TheVariants as sort
use Rattle.rb_value.specs.Object.{Object}
use Rattle.rb_value.specs.declared.core_class.CoreClass.{CoreClass}
use Rattle.rb_value.specs.declared.core_class.CoreClass.TheVariants as class
use Rattle.rb_value.specs.CoreClass.{number_of}
use Rattle.def_core.specs.declared.cause.Cause.{Cause}
use Rattle.def_core.specs.declared.cause.Cause.TheVariants as cause
use Rattle.def_core.specs.Store.{core, sort_at}
use Rattle.def_core.specs.Classes.{plain_class_of}
use Rattle.row_table.specs.declared.signature.Signature.{Signature}
use Rattle.row_table.specs.declared.signature.Wanted.{Wanted}
use Rattle.row_table.specs.declared.signature.Wanted.TheVariants.{Any, Of, Comparable}
pub use Rattle.row_table.specs.RowTable.{needs_block}

-- the core class whose instances have objects of that sort
abbrev pub class_of_sort : Sort → CoreClass
class_of_sort sort.Plain = class.Object
class_of_sort sort.Class = class.Class
class_of_sort sort.Singleton = class.Class
class_of_sort sort.Module = class.Module
class_of_sort sort.String = class.String
class_of_sort sort.Array = class.Array
class_of_sort sort.Hash = class.Hash
class_of_sort sort.Range = class.Range
class_of_sort sort.Proc = class.Proc
class_of_sort sort.Fiber = class.Fiber
class_of_sort sort.Exception = class.Exception
class_of_sort sort.Enumerator = class.Enumerator
class_of_sort sort.Yielder = class.Yielder

-- the core class whose instances have the contents of the value
abbrev pub kind_class : List Object → Value → CoreClass
kind_class objects Nil = class.NilClass
kind_class objects True = class.TrueClass
kind_class objects False = class.FalseClass
kind_class objects (Int z) = class.Integer
kind_class objects (Sym s) = class.Symbol
kind_class objects (Obj id) = class_of_sort (sort_at objects id)

abbrev pub has_contents : CoreClass → List Object → Value → Bool
has_contents c objects v = nat_eq (number_of c) (number_of (kind_class objects v))

-- the cause for a value that isn't what is wanted
abbrev pub unfit : Wanted → List Object → Value → Option Cause
unfit Any objects v = None
unfit (Of c) objects v =
    if has_contents c objects v then None else Some (cause.Expected (core c) (plain_class_of objects v))
unfit (Comparable c) objects v =
    if has_contents c objects v then None else Some (cause.Incomparable (core c) (plain_class_of objects v))

abbrev pub is_at_most : ℕ → Option ℕ → Bool
is_at_most n None = true
is_at_most n (Some most) = nat_le n most

abbrev pub takes : Signature → ℕ → Bool
takes s n = nat_le s.least n && is_at_most n s.most

-- what is wanted of the argument at a place
abbrev pub wanted_at : Signature → ℕ → Wanted
wanted_at s n = if nat_eq n 0 then s.first else s.second

-- the first cause of two
abbrev pub first_of : Option Cause → Option Cause → Option Cause
first_of None other = other
first_of (Some c) other = Some c

-- the cause for the first argument, from that place on, that isn't what is wanted
unfoldable pub first_unfit : Signature → List Object → ℕ → List Value → Option Cause
first_unfit s objects n [] = None
first_unfit s objects n (v ∷ vs) = first_of (unfit (wanted_at s n) objects v) (first_unfit s objects (n + 1) vs)

abbrev pub unfit_values : Signature → List Object → Value → List Value → Option Cause
unfit_values s objects recv args = first_of (unfit s.receiver objects recv) (first_unfit s objects 0 args)

-- the number of arguments, a missing block, then what is wanted from left to right
abbrev pub check : Signature → List Object → Value → List Value → Option ObjId → Option Cause
check s objects recv args block =
    if takes s (length args)
    then (if needs_block s.marks && is_none block then Some cause.NoBlockGiven else unfit_values s objects recv args)
    else Some (cause.WrongCount (length args) s.least s.most)
