-- Values as plain operands. A value that isn't of the kind reads as 0, or as empty.
use Rattle.std.specs.Prelude.{ℕ, ℤ, pos, List, [], length, get_or, nat_lt, Option, Some, None, is_some, Bool, ◌&&◌, if◌then◌else◌}
use Rattle.rb_value.specs.declared.value.Value.{Value}
use Rattle.rb_value.specs.declared.value.Value.TheVariants.{Nil, True, False, Int, Sym, Obj}
use Rattle.rb_value.specs.declared.value.ObjId.{ObjId}
use Rattle.rb_value.specs.declared.kind.Sort.{Sort}
use Rattle.rb_value.specs.declared.kind.Sort.TheVariants as sort
use Rattle.rb_value.specs.contracts.kind.SortPartialEq.TheImpl as sorts
use Rattle.rb_value.specs.Object.{Object}
use Rattle.def_core.specs.Store.{sort_at}
use Rattle.def_core.specs.Sound.{has_object}
use Rattle.def_core.specs.Parts.{elements_at, text_at}

abbrev pub argument : List Value → ℕ → Value
argument args n = get_or args n Nil

abbrev pub integer : Value → ℤ
integer Nil = pos 0
integer True = pos 0
integer False = pos 0
integer (Int z) = z
integer (Sym s) = pos 0
integer (Obj id) = pos 0

-- whether there is an object of that number and sort
abbrev pub is_there : List Object → Sort → ObjId → Bool
is_there objects s id = has_object objects id && sorts.ghosts.eq (sort_at objects id) s

-- the number of a value that is an object of the sort
abbrev pub place_of : List Object → Sort → Value → Option ObjId
place_of objects s Nil = None
place_of objects s True = None
place_of objects s False = None
place_of objects s (Int z) = None
place_of objects s (Sym n) = None
place_of objects s (Obj id) = if is_there objects s id then Some id else None

abbrev pub is_text : List Object → Value → Bool
is_text objects v = is_some (place_of objects sort.String v)

abbrev pub text_in : List Object → Option ObjId → List ℕ
text_in objects None = []
text_in objects (Some id) = text_at objects id

-- the bytes of a String
abbrev pub text : List Object → Value → List ℕ
text objects v = text_in objects (place_of objects sort.String v)

-- those of the argument at that place, or others where there is none
abbrev pub text_or : List Object → List Value → ℕ → List ℕ → List ℕ
text_or objects args n otherwise = if nat_lt n (length args) then text objects (argument args n) else otherwise

abbrev pub items_in : List Object → Option ObjId → List Value
items_in objects None = []
items_in objects (Some id) = elements_at objects id

-- the elements of an Array
abbrev pub items : List Object → Value → List Value
items objects v = items_in objects (place_of objects sort.Array v)
