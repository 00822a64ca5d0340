-- Operators with instructions of their own: straight on while the methods of Integer by their names are the core ones, and
-- else as calls.
use Rattle.std.specs.Prelude.{ℕ, List, [], ◌∷◌, nat_eq, Bool, true, false, ◌&&◌, Option, Some, None, if◌then◌else◌}
use Rattle.std.specs.Option.{option_eq}
use Rattle.rb_value.specs.declared.core_class.CoreClass.{CoreClass}
use Rattle.rb_value.specs.declared.core_class.CoreClass.TheVariants as class
use Rattle.rb_value.specs.declared.method.Method.{Method}
use Rattle.rb_value.specs.declared.method.Method.TheVariants as method
use Rattle.rb_value.specs.declared.method.Visibility.{Visibility}
use Rattle.rb_value.specs.declared.method.Visibility.TheVariants.{Public}
use Rattle.rb_value.specs.declared.value.SymId.{SymId}
use Rattle.rb_value.specs.declared.value.Value.{Value}
use Rattle.def_core.specs.declared.found.Found.{Found}
use Rattle.def_core.specs.Store.{Store, core}
use Rattle.vm_parts.specs.declared.flow.Flow.{Flow}
use Rattle.vm_parts.specs.declared.loaded.Loaded.{Loaded}
use Rattle.vm_parts.specs.declared.operators.Operators.{Operators}
use Rattle.vm_parts.specs.declared.quick_calls.CoreCalls.{CoreCalls}
use Rattle.vm_parts.specs.Answering.{Puts}
use Rattle.vm_parts.specs.Below.{Operator}
use Rattle.vm_parts.specs.Below.finding.{find}
use Rattle.vm_parts.specs.Below.frames.{Frame}
use Rattle.vm_parts.specs.Below.frames.calls.naming.{ByName}
use Rattle.vm_parts.specs.Below.frames.calls.called.{Row, same_row}
use Rattle.vm_parts.specs.Below.frames.calls.called.plain as plain
use Rattle.vm_parts.specs.Below.frames.calls.called.row as row
use Rattle.vm_parts.specs.Below.frames.calls.called.star as star
use Rattle.vm_parts.specs.Below.frames.calls.rows.{row_at}
use Rattle.vm_parts.specs.Below.frames.calls.rows.array as array
use Rattle.vm_parts.specs.Below.frames.calls.rows.comparing as comparing
use Rattle.vm_parts.specs.Below.frames.calls.rows.core as tables
use Rattle.vm_parts.specs.Below.frames.calls.rows.hash as hash
use Rattle.vm_parts.specs.Below.frames.calls.rows.items as items
use Rattle.vm_parts.specs.Below.frames.calls.rows.text as text
use Rattle.vm_parts.specs.Below.operator as operator
use Rattle.vm_parts.specs.Below.operators as operators
use Rattle.vm_parts.specs.Beside.{Beside, next_register, value_at}
use Rattle.vm_parts.specs.Known.{is_last}
use Rattle.vm_parts.specs.Operators.{seen_under, symbol}
use Rattle.vm_acts.specs.declared.straight.Named.{Named}
use Rattle.vm_acts.specs.Calls.{CallsNamed}

-- What a class finds: the number of a core method that everyone may call.

abbrev pub core_by : Visibility → Method → Option ℕ
core_by Public (method.Core number) = Some number
core_by _ _ = None

abbrev pub core_method : Option Found → Option ℕ
core_method None = None
core_method (Some f) = core_by f.visibility f.method

abbrev pub core_found : Store → CoreClass → SymId → Option ℕ
core_found st c name = core_method (find st (core c) name)

-- whether operators of Integer are the core methods

abbrev pub is_core : Store → Operators → Operator → Bool
is_core st os o = option_eq nat_eq (core_found st class.Integer (symbol os o)) (Some (operators.row_of o))

abbrev pub all_core : Store → Operators → List Operator → Bool
all_core st os [] = true
all_core st os (o ∷ rest) = is_core st os o && all_core st os rest

abbrev pub all_operators : List Operator
all_operators = operator.Add ∷ operator.Subtract ∷ operator.Multiply ∷ operator.Divide ∷ operator.Equal ∷ operator.Less
    ∷ operator.AtMost ∷ operator.Greater ∷ operator.AtLeast ∷ []

-- whether a core method is that of a row

abbrev pub is_row : Option ℕ → Row → Bool
is_row None r = false
is_row (Some number) r = same_row (row_at number) r

abbrev pub finds_row : Store → CoreClass → SymId → Row → Bool
finds_row st c name r = is_row (core_found st c name) r

-- whether the methods of core calls are the core methods

abbrev pub array_calls_core : Store → CoreCalls → Bool
array_calls_core st cs = finds_row st class.Array cs.element (row.Plain (plain.Array array.Element))
    && (finds_row st class.Array cs.store (row.Plain (plain.Array array.SetElement))
    && finds_row st class.Array cs.append (row.Plain (plain.Array array.Append)))

abbrev pub all_calls_core : Store → CoreCalls → Bool
all_calls_core st cs = array_calls_core st cs
    && (finds_row st class.Hash cs.element (row.Star (star.Items (items.Compares comparing.HashElement)))
    && (finds_row st class.Hash cs.store (row.Plain (plain.Hash hash.Store))
    && finds_row st class.String cs.append (row.OfTable (Some (tables.String text.Append)))))

-- What is seen of them is remembered under the count of changes, but where that is at its limit, and tells no more.

abbrev pub seen : Beside → Operators
seen b = record b.operators {
  calls = record b.operators.calls { are_core = all_calls_core b.heap.store b.operators.calls };
  seen_under = Some b.heap.changes;
  are_core = all_core b.heap.store b.operators all_operators;
}

abbrev pub looked : Beside → Beside
looked b = if is_last b.heap.changes then b else record b { operators = seen b }

abbrev pub are_core_now : Beside → Bool
are_core_now b = if is_last b.heap.changes then false else all_core b.heap.store b.operators all_operators

-- what is remembered is not looked up

abbrev pub noted : Beside → Beside
noted b = if seen_under b.operators b.heap.changes then b else looked b

abbrev pub are_core : Beside → Bool
are_core b = if seen_under b.operators b.heap.changes then b.operators.are_core else are_core_now b

-- An operator on registers a and a + 1.

abbrev pub straight : Beside → Frame → Operator → ℕ → Option Value
straight b f o a = if are_core b then operators.operated o (value_at b f a) (value_at b f (next_register a)) else None

abbrev pub named : Operators → Operator → ℕ → Named
named os o a = record { naming = ByName; name = symbol os o; a = a; count = 1; block = None }

abbrev pub CallsOperator : Loaded → Beside → Frame → Operator → ℕ → Flow → Frame → Beside → Type 0
CallsOperator c b f o a flow g after = CallsNamed c b f (named b.operators o a) flow g after

abbrev pub PutsOr : Option Value → Loaded → Beside → Frame → Operator → ℕ → Flow → Frame → Beside → Type 0
PutsOr None c b f o a flow g after = CallsOperator c b f o a flow g after
PutsOr (Some v) c b f o a flow g after = Puts b f v a flow g after

abbrev pub Operates : Loaded → Beside → Frame → Operator → ℕ → Flow → Frame → Beside → Type 0
Operates c b f o a flow g after = PutsOr (straight b f o a) c (noted b) f o a flow g after
