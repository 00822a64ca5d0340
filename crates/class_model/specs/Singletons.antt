-- A singleton class that is made, and what stands where memory runs out between two of them.
use Rattle.std.specs.Prelude.{◌≡◌, ℕ, List, drop, Bool, not, is_some}
use Rattle.rb_value.specs.declared.value.Value.{Value}
use Rattle.rb_value.specs.declared.value.Value.TheVariants.{Nil, True, False, Int, Sym, Obj}
use Rattle.rb_value.specs.declared.value.ObjId.{ObjId}
use Rattle.rb_value.specs.Object.{Object}
use Rattle.def_core.specs.Store.{Store, object_at, sort_at}
use Rattle.def_core.specs.Changes.{attach, above, make_all, missing}

abbrev pub is_missing : List Object → ObjId → Bool
is_missing objects id = not (is_some (object_at objects id).singleton)

-- the object with a new singleton class
abbrev pub with_new_singleton : List Object → ObjId → List Object
with_new_singleton objects id = attach objects id (above objects id (sort_at objects id))

-- the singleton classes of the last of these were made, and nothing else changed
abbrev pub IsMadeInPart : Store → List ObjId → Store → Type 0
IsMadeInPart before ids after = (n : ℕ) × (after ≡ record before { objects = make_all before.objects (drop n ids) })

-- the singleton classes of some of the last superclasses were made, and nothing else changed
abbrev pub IsHalfway : Store → Value → Store → Type 0
IsHalfway before Nil after = after ≡ before
IsHalfway before True after = after ≡ before
IsHalfway before False after = after ≡ before
IsHalfway before (Int n) after = after ≡ before
IsHalfway before (Sym s) after = after ≡ before
IsHalfway before (Obj id) after = IsMadeInPart before (missing before.objects id) after
