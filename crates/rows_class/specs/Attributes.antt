-- The methods of attributes, which read and set the instance variables of their names behind @.
use Rattle.std.specs.Prelude.{ℕ, List, [], ◌∷◌, ◌++◌, codes, Result, Ok, Err, if◌then◌else◌}
use Rattle.rb_value.specs.declared.value.Value.{Value}
use Rattle.rb_value.specs.declared.value.Value.TheVariants.{Sym}
use Rattle.rb_value.specs.declared.value.ObjId.{ObjId}
use Rattle.rb_value.specs.declared.value.SymId.{SymId}
use Rattle.rb_value.specs.declared.method.Method.TheVariants as method
use Rattle.rb_value.specs.declared.method.Visibility.{Visibility}
use Rattle.def_core.specs.Store.{Store, name_at}
use Rattle.def_core.specs.Changes.{Interned, intern}
use Rattle.def_core.specs.Classes.{class_at}
use Rattle.def_calls.specs.World.{World, Answer, with_store}
use Rattle.heap.specs.Operands.{has_symbol}
use Rattle.heap.specs.Changes.{with_method}
use Rattle.rows_object.specs.Follows.{array}
use Rattle.rows_class.specs.Names.{names_then}
use Rattle.rows_class.specs.declared.accessors.Attribute.{Attribute}
use Rattle.rows_class.specs.declared.accessors.Attribute.TheVariants as attribute

abbrev pub symbol_text : Store → SymId → List ℕ
symbol_text st name = if has_symbol st name then name_at st name else []

-- the symbol of a name with bytes before and behind it
abbrev pub around : List ℕ → SymId → List ℕ → Store → Interned
around before name behind st = intern st ((before ++ symbol_text st name) ++ behind)

-- the method that reads a variable, and the one of that name and = that sets it, with the default visibility

abbrev pub reader_of : ObjId → SymId → Interned → Interned
reader_of c name variable = record {
  symbol = name;
  store = with_method variable.store c name (method.Reader variable.symbol)
      (class_at variable.store.objects c).visibility;
}

abbrev pub writer_of : ObjId → SymId → Visibility → Interned → Interned
writer_of c variable visibility named = record {
  symbol = named.symbol;
  store = with_method named.store c named.symbol (method.Writer variable) visibility;
}

abbrev pub reader : ObjId → SymId → Store → Interned
reader c name st = reader_of c name (around (codes "@") name [] st)

abbrev pub writer_by : ObjId → SymId → Interned → Interned
writer_by c name variable = writer_of c variable.symbol (class_at variable.store.objects c).visibility
    (around [] name (codes "=") variable.store)

abbrev pub writer : ObjId → SymId → Store → Interned
writer c name st = writer_by c name (around (codes "@") name [] st)

-- the names of methods that were defined, one after another
pub record Listed : Type 0 where
  pub names : List Value
  pub store : Store

abbrev pub listing : List Value → Store → Listed
listing names st = record { names = names; store = st }

abbrev pub listed : Interned → Listed
listed i = listing (Sym i.symbol ∷ []) i.store

abbrev pub with_names : List Value → Listed → Listed
with_names before l = record { names = before ++ l.names; store = l.store }

abbrev pub both : ObjId → SymId → Interned → Listed
both c name first = with_names (Sym first.symbol ∷ []) (listed (writer c name first.store))

abbrev pub methods_of : Attribute → ObjId → SymId → Store → Listed
methods_of attribute.Reader c name st = listed (reader c name st)
methods_of attribute.Writer c name st = listed (writer c name st)
methods_of attribute.Accessor c name st = both c name (reader c name st)

unfoldable pub all_methods : Attribute → ObjId → List SymId → Store → Listed
all_methods kind c [] st = listing [] st
all_methods kind c (name ∷ names) st =
    let first = methods_of kind c name st in with_names first.names (all_methods kind c names first.store)

abbrev pub array_of_names : World → Listed → Answer
array_of_names w l = array l.names (with_store w l.store)

-- `attr_reader`, `attr_writer` and `attr_accessor`
abbrev pub attributes : Attribute → ObjId → List Value → World → Answer
attributes kind c args = names_then args (λ names w. array_of_names w (all_methods kind c names w.store))
