-- What a core method checks before it does anything, with what is refused.
use Rattle.std.specs.Prelude.{ℕ, ℤ, List, nat_le, ◌&&◌, if◌then◌else◌, Option, Some, None, Result, Ok, Err}
use Rattle.rb_value.specs.declared.value.Value.{Value}
use Rattle.rb_value.specs.declared.value.Value.TheVariants.{Nil, True, False, Int, Sym, Obj}
use Rattle.rb_value.specs.declared.value.SymId.{SymId}
use Rattle.rb_value.specs.declared.core_class.CoreClass.TheVariants as class
use Rattle.def_core.specs.declared.cause.Cause.{Cause}
use Rattle.def_core.specs.declared.cause.Cause.TheVariants as cause
use Rattle.def_core.specs.Store.{Store, core}
use Rattle.def_core.specs.Classes.{plain_class_of}
use Rattle.def_core.specs.Changes.{intern, Interned}
use Rattle.def_calls.specs.Checks.{at_most, wanted}
use Rattle.def_calls.specs.Views.{integer_in, string_of, kind_in}
pub use Rattle.heap.specs.Operands.{own}

-- why so many arguments don't do
abbrev pub miscounted : ℕ → ℕ → Option ℕ → Option Cause
miscounted given least most =
    if nat_le least given && at_most most given then None else Some (cause.WrongCount given least most)

abbrev pub integer : Store → Value → Result ℤ Cause
integer st v = wanted Err st.objects class.Integer (own st v) (integer_in v) Ok

-- a name, or why there is none, and the store, to which the name of a String is added where it isn't there
pub record Named : Type 0 where
  pub name : Result SymId Cause
  pub store : Store

abbrev pub interned : Interned → Named
interned i = record { name = Ok i.symbol; store = i.store }

abbrev pub name_by : Store → Value → Option (List ℕ) → Named
name_by st v (Some text) = interned (intern st text)
name_by st v None = record {
  name = Err (cause.Expected (core class.Symbol) (plain_class_of st.objects (own st v)));
  store = st;
}

abbrev pub name_in : Store → Value → Named
name_in st Nil = name_by st Nil (string_of (kind_in st.objects Nil))
name_in st True = name_by st True (string_of (kind_in st.objects True))
name_in st False = name_by st False (string_of (kind_in st.objects False))
name_in st (Int n) = name_by st (Int n) (string_of (kind_in st.objects (Int n)))
name_in st (Sym name) = record { name = Ok name; store = st }
name_in st (Obj id) = name_by st (Obj id) (string_of (kind_in st.objects (Obj id)))
