-- A class or module with a name, and what stands where memory runs out while it is defined.
use Rattle.std.specs.Prelude.{◌≡◌, ℕ, List, ◌++◌, Option, Some}
use Rattle.rb_value.specs.declared.value.ObjId.{ObjId}
use Rattle.rb_value.specs.declared.value.SymId.{SymId}
use Rattle.rb_value.specs.declared.core_class.CoreClass.{CoreClass}
use Rattle.rb_value.specs.declared.kind.ClassForm.{ClassForm}
use Rattle.rb_value.specs.declared.kind.Kind.TheVariants as kind
use Rattle.rb_value.specs.Object.{Object}
use Rattle.def_core.specs.Store.{Store, core, fresh}
use Rattle.def_core.specs.Classes.{empty_class}

-- all that was there is as before; new names and objects may stand behind
pub record IsGrown (before after : Store) : Type 0 where
  pub objects : List Object
  pub symbols : List (List ℕ)
  pub same : after ≡ record { objects = before.objects ++ objects; symbols = before.symbols ++ symbols }

-- a class or module with a name and nothing else
abbrev pub named_class : CoreClass → ClassForm → Option ObjId → SymId → Object
named_class class f superclass name = fresh (core class)
    (kind.Class (record (empty_class f superclass) { name = Some name }))
