-- What a contract sees of an object.
use Rattle.std.specs.Prelude.{ℕ, List, Option}
use Rattle.rb_value.specs.declared.value.Value.{Value}
use Rattle.rb_value.specs.declared.value.ObjId.{ObjId}
use Rattle.rb_value.specs.declared.variables.Variable.{Variable}
use Rattle.rb_value.specs.declared.hash.HashContents.{HashContents}
use Rattle.rb_value.specs.declared.kind.ClassContents.{ClassContents}
use Rattle.rb_value.specs.declared.kind.Kind.{Kind}
use Rattle.rb_value.specs.declared.kind.Kind.TheVariants as kind

pub record Object : Type 0 where
  pub class : ObjId
  pub singleton : Option ObjId
  pub variables : List Variable
  pub kind : Kind

abbrev pub with_kind : Object → Kind → Object
with_kind o k = record o { kind = k }

abbrev pub with_class : Object → ClassContents → Object
with_class o c = with_kind o (kind.Class c)

abbrev pub with_hash : Object → HashContents → Object
with_hash o h = with_kind o (kind.Hash h)

abbrev pub with_items : Object → List Value → Object
with_items o xs = with_kind o (kind.Array xs)

abbrev pub with_text : Object → List ℕ → Object
with_text o bytes = with_kind o (kind.String bytes)
