-- What the arguments of a method over items are, or why it can't take them.
use Rattle.std.specs.Prelude.{ℕ, ℤ, pos, negsuc, List, [], ◌∷◌, length, get_or, slice_get, codes, nat_eq, Bool, true, false, ◌&&◌, if◌then◌else◌, Option, Some, None, is_none, Result, Ok, Err}
use Rattle.rb_value.specs.declared.value.Value.{Value}
use Rattle.rb_value.specs.declared.value.Value.TheVariants.{Nil, Int}
use Rattle.rb_value.specs.declared.value.ObjId.{ObjId}
use Rattle.rb_value.specs.declared.value.SymId.{SymId}
use Rattle.def_core.specs.declared.cause.Cause.{Cause}
use Rattle.def_core.specs.declared.cause.Cause.TheVariants as cause
use Rattle.def_core.specs.Store.{Store}
use Rattle.def_core.specs.Changes.{intern, Interned}
use Rattle.rb_store.specs.Held.{Held}
use Rattle.core_calls.specs.Checks.{Named, miscounted, integer, name_in}
pub use Rattle.rows_items.specs.Told.{and_then}
use Rattle.iter_items.specs.declared.checks.Arguments.{Arguments}
use Rattle.iter_items.specs.declared.row.Task.{Task}
use Rattle.iter_items.specs.declared.row.Task.TheVariants as task

-- at least and at most so many arguments
abbrev pub counts : Task → ℕ × ℕ
counts task.EachWithObject = (1, 1)
counts task.EachSlice = (1, 1)
counts task.EachCons = (1, 1)
counts task.Count = (0, 1)
counts task.Inject = (0, 2)
counts task.Sum = (0, 1)
counts _ = (0, 0)

-- whether a method with so many arguments can't do without a block
abbrev pub wants_block : Task → ℕ → Bool
wants_block task.All n = false
wants_block task.Any n = false
wants_block task.Never n = false
wants_block task.Count n = false
wants_block task.Inject n = nat_eq n 0
wants_block task.Sum n = false
wants_block _ n = true

-- the arguments, and the heap, where a name is a symbol then
pub record Given : Type 0 where
  pub arguments : Result Arguments Cause
  pub held : Held

abbrev pub arguments : Option Value → Option SymId → ℕ → Arguments
arguments v name size = record { value = v; name = name; size = size }

-- a size is above 0
abbrev pub size_in : ℤ → Result ℕ Cause
size_in (pos n) = if nat_eq n 0 then Err cause.NegativeCount else Ok n
size_in (negsuc n) = Err cause.NegativeCount

abbrev pub size_of : Store → Value → Result ℕ Cause
size_of st v = and_then (integer st v) size_in

abbrev pub with_size : Result ℕ Cause → Result Arguments Cause
with_size (Ok n) = Ok (arguments None None n)
with_size (Err c) = Err c

-- a name of the language
abbrev pub named_by : Held → Option Value → Interned → Given
named_by held v named = record {
  arguments = Ok (arguments v (Some named.symbol) 0);
  held = record held { store = named.store };
}

abbrev pub named : Held → List ℕ → Option Value → Given
named held name v = named_by held v (intern held.store name)

-- `inject`: the first value, and the name of a method where there are two arguments or no block

abbrev pub inject_value : List Value → Option ObjId → Option Value
inject_value [] block = None
inject_value (v ∷ []) None = None
inject_value (v ∷ []) (Some p) = Some v
inject_value (v ∷ n ∷ []) block = Some v
inject_value (v ∷ n ∷ m ∷ rest) block = None

abbrev pub inject_name : List Value → Option ObjId → Option Value
inject_name [] block = None
inject_name (n ∷ []) None = Some n
inject_name (n ∷ []) (Some p) = None
inject_name (v ∷ n ∷ []) block = Some n
inject_name (v ∷ n ∷ m ∷ rest) block = None

abbrev pub with_name : Option Value → Result SymId Cause → Result Arguments Cause
with_name v (Ok name) = Ok (arguments v (Some name) 0)
with_name v (Err c) = Err c

abbrev pub named_in : Held → Option Value → Named → Given
named_in held v n = record { arguments = with_name v n.name; held = record held { store = n.store } }

abbrev pub inject_by : Held → Option Value → Option Value → Given
inject_by held v None = record { arguments = Ok (arguments v None 0); held = held }
inject_by held v (Some n) = named_in held v (name_in held.store n)

abbrev pub inject : Held → List Value → Option ObjId → Given
inject held args block = inject_by held (inject_value args block) (inject_name args block)

abbrev pub with_size_of : Held → Value → Given
with_size_of held v = record { arguments = with_size (size_of held.store v); held = held }

abbrev pub plain : Held → Option Value → Given
plain held v = record { arguments = Ok (arguments v None 0); held = held }

-- what they are, where their number is right and a block is there
abbrev pub read : Task → Held → List Value → Option ObjId → Given
read task.EachWithObject held args block = plain held (Some (get_or args 0 Nil))
read task.EachSlice held args block = with_size_of held (get_or args 0 Nil)
read task.EachCons held args block = with_size_of held (get_or args 0 Nil)
read task.Count held args block = named held (codes "==") (slice_get args 0)
read task.Inject held args block = inject held args block
read task.Sum held args block = named held (codes "+") (Some (get_or args 0 (Int (pos 0))))
read _ held args block = plain held None

abbrev pub refused : Held → Cause → Given
refused held c = record { arguments = Err c; held = held }

abbrev pub with_block : Task → Held → List Value → Option ObjId → Given
with_block t held args block = if wants_block t (length args) && is_none block
    then refused held cause.NoBlockGiven else read t held args block

abbrev pub unless : Held → Option Cause → Given → Given
unless held (Some c) further = refused held c
unless held None further = further

abbrev pub given : Task → Held → List Value → Option ObjId → Given
given t held args block =
    unless held (miscounted (length args) (counts t).0 (Some (counts t).1)) (with_block t held args block)
