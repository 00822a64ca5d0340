-- Which members of a module's chain are included.
use Rattle.std.specs.Prelude.{List, Bool, not}
use Rattle.rb_value.specs.declared.value.ObjId.{ObjId}
use Rattle.rb_value.specs.Object.{Object}
use Rattle.def_core.specs.Classes.{chain, is_member}

-- those that aren't in the chain of the class
abbrev pub is_new : List Object → ObjId → ObjId → Bool
is_new objects c k = not (is_member (chain objects c) k)
