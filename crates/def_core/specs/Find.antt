-- Where a method is found (ISO/IEC 30170:2012, 13.3.4), and who may call it (13.3.5).
use Rattle.std.specs.Prelude.{ℕ, List, [], ◌∷◌, Bool, true, false, nat_eq, if◌then◌else◌, Option, Some, None, ℤ, int_le, ◌&&◌}
use Rattle.std.specs.Map.{lookup}
use Rattle.rb_value.specs.declared.value.Value.{Value}
use Rattle.rb_value.specs.declared.value.Value.TheVariants.{Nil, True, False, Int, Sym, Obj}
use Rattle.rb_value.specs.declared.value.ObjId.{ObjId}
use Rattle.rb_value.specs.declared.value.SymId.{SymId}
use Rattle.rb_value.specs.declared.method.Visibility.{Visibility}
use Rattle.rb_value.specs.declared.method.Visibility.TheVariants.{Public, Private, Protected}
use Rattle.rb_value.specs.declared.method.Method.{Method}
use Rattle.rb_value.specs.declared.method.Method.TheVariants as method
use Rattle.rb_value.specs.declared.method.MethodEntry.{MethodEntry}
use Rattle.rb_value.specs.Object.{Object}
use Rattle.def_core.specs.declared.found.Found.{Found}
use Rattle.def_core.specs.Store.{same_object}
use Rattle.def_core.specs.Classes.{class_at, chain, class_of, is_member}

-- the entry of the class's own list
abbrev pub entry_of : List Object → ObjId → SymId → Option MethodEntry
entry_of objects c name = lookup (nat_eq name.0) (class_at objects c).methods

-- an entry that is undefined ends the search
abbrev pub found_as : ObjId → Visibility → Method → Option Found
found_as c v (method.Body b s) = Some (record { owner = c; method = method.Body b s; visibility = v })
found_as c v (method.Core r) = Some (record { owner = c; method = method.Core r; visibility = v })
found_as c v (method.Reader n) = Some (record { owner = c; method = method.Reader n; visibility = v })
found_as c v (method.Writer n) = Some (record { owner = c; method = method.Writer n; visibility = v })
found_as c v (method.Block p) = Some (record { owner = c; method = method.Block p; visibility = v })
found_as c v method.Undefined = None

abbrev pub found_or : ObjId → Option MethodEntry → Option Found → Option Found
found_or c None rest = rest
found_or c (Some e) rest = found_as c e.visibility e.method

-- the first of these classes and modules that has the name
unfoldable pub first_of : List Object → List ObjId → SymId → Option Found
first_of objects [] name = None
first_of objects (c ∷ cs) name = found_or c (entry_of objects c name) (first_of objects cs name)

unfoldable pub find : List Object → ObjId → SymId → Option Found
find objects c name = first_of objects (chain objects c) name

-- what follows the owner
abbrev pub behind : ObjId → List ObjId → List ObjId
behind owner [] = []
behind owner (c ∷ cs) = if same_object owner c then cs else behind owner cs

unfoldable pub find_super : List Object → ObjId → ObjId → SymId → Option Found
find_super objects c owner name = first_of objects (behind owner (chain objects c)) name

abbrev pub equal_integers : ℤ → ℤ → Bool
equal_integers x y = int_le x y && int_le y x

-- whether two values are the same one
abbrev pub same_value : Value → Value → Bool
same_value Nil Nil = true
same_value True True = true
same_value False False = true
same_value (Int x) (Int y) = equal_integers x y
same_value (Sym s) (Sym t) = nat_eq s.0 t.0
same_value (Obj a) (Obj b) = same_object a b
same_value _ _ = false

-- a private method is called on the caller itself, a protected one where the caller has its owner in the chain
abbrev pub may_call : List Object → Value → Value → ObjId → Visibility → Bool
may_call objects caller receiver owner Public = true
may_call objects caller receiver owner Private = same_value caller receiver
may_call objects caller receiver owner Protected = is_member (chain objects (class_of objects caller)) owner

unfoldable pub allowed : List Object → Value → Value → Found → Bool
allowed objects caller receiver f = may_call objects caller receiver f.owner f.visibility
