-- What the count of changes tells of two moments of a store.
use Rattle.std.specs.Prelude.{◌≡◌, ℕ, ◌-◌, ◌^◌, ◌<◌, ◌≤◌, List, Option}
use Rattle.rb_value.specs.declared.value.ObjId.{ObjId}
use Rattle.rb_value.specs.declared.method.MethodEntry.{MethodEntry}
use Rattle.rb_value.specs.declared.kind.ClassContents.{ClassContents}
use Rattle.def_core.specs.Store.{Store}
use Rattle.def_core.specs.Classes.{class_at}
use Rattle.def_core.specs.Sound.{census, Is, ClassOrModule}
use Rattle.rb_store.specs.Held.{Held}

-- the parts of a class or module by which methods are found
pub record Looks : Type 0 where
  pub superclass : Option ObjId
  pub included : List ObjId
  pub methods : List (ℕ × MethodEntry)

abbrev pub looks_of : ClassContents → Looks
looks_of c = record { superclass = c.superclass; included = c.included; methods = c.methods }

-- each class and module of the one is one of the other, and finds methods as before
pub record SameLooks (before after : Store) : Type 0 where
  pub roles : (c : ObjId) → Is (census before) ClassOrModule c → Is (census after) ClassOrModule c
  pub looks : (c : ObjId) → Is (census before) ClassOrModule c
      → looks_of (class_at after.objects c) ≡ looks_of (class_at before.objects c)

-- the count never falls, and where it stays below its limit every class and module finds methods as before
pub record IsCounted (before after : Held) : Type 0 where
  pub rises : before.changes ≤ after.changes
  pub same : before.changes ≡ after.changes → after.changes < 2 ^ 64 - 1 → SameLooks before.store after.store
