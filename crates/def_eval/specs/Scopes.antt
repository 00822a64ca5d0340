-- Local variables (ISO/IEC 30170:2012, 9.2 and 11.5.4.7), and the values of parameters.
use Rattle.std.specs.Prelude.{ℕ, zero, suc, ◌+◌, List, [], ◌∷◌, ◌++◌, length, get_or, set, Bool, true, false, nat_eq, bytes_eq, if◌then◌else◌, Option, Some, None, unwrap_or, is_some}
use Rattle.rb_value.specs.declared.value.Value.{Value}
use Rattle.rb_value.specs.declared.value.Value.TheVariants.{Nil, Obj}
use Rattle.rb_value.specs.declared.value.ObjId.{ObjId}
use Rattle.rb_value.specs.declared.method.Shape.{Shape}
use Rattle.def_calls.specs.World.{Activation, activation_at}
use Rattle.ir_core.specs.CoreForm.{Local, named, hidden, pattern, rest, Parameters}
use Rattle.def_eval.specs.Configuration.{Scope, Memory, all_nil}

abbrev pub same_local : Local → Local → Bool
same_local (named x) (named y) = bytes_eq x y
same_local (named x) (hidden n) = false
same_local (named x) (pattern n) = false
same_local (named x) rest = false
same_local (hidden m) (named y) = false
same_local (hidden m) (hidden n) = nat_eq m n
same_local (hidden m) (pattern n) = false
same_local (hidden m) rest = false
same_local (pattern m) (named y) = false
same_local (pattern m) (hidden n) = false
same_local (pattern m) (pattern n) = nat_eq m n
same_local (pattern m) rest = false
same_local rest (named y) = false
same_local rest (hidden n) = false
same_local rest (pattern n) = false
same_local rest rest = true

abbrev pub value_in : List (Local × Value) → Local → Option Value
value_in [] x = None
value_in (v ∷ vs) x = if same_local x v.0 then Some v.1 else value_in vs x

abbrev pub put_value : List (Local × Value) → Local → Value → List (Local × Value)
put_value [] x u = (x, u) ∷ []
put_value (v ∷ vs) x u = if same_local x v.0 then (x, u) ∷ vs else v ∷ put_value vs x u

abbrev pub no_scope : Scope
no_scope = record { parent = None; variables = [] }

abbrev pub scope_at : List Scope → ℕ → Scope
scope_at cs n = get_or cs n no_scope

-- The scope and those around it, the innermost first. Each has a greater number than its parent, so one more than its
-- number is enough.
abbrev pub outward : ℕ → List Scope → Option ℕ → List ℕ
outward zero cs n = []
outward (suc k) cs None = []
outward (suc k) cs (Some n) = n ∷ outward k cs (scope_at cs n).parent

unfoldable pub scopes_around : List Scope → ℕ → List ℕ
scopes_around cs n = outward (suc n) cs (Some n)

-- the first of these scopes that has the variable
abbrev pub first_with : List Scope → List ℕ → Local → Option ℕ
first_with cs [] x = None
first_with cs (n ∷ ns) x = if is_some (value_in (scope_at cs n).variables x) then Some n else first_with cs ns x

-- hidden variables are those of the running body alone
abbrev pub scope_of : Memory → Local → ℕ
scope_of m (named x) = unwrap_or (first_with m.scopes (scopes_around m.scopes m.place.scope) (named x)) m.place.scope
scope_of m (hidden n) = m.place.scope
scope_of m (pattern n) =
    unwrap_or (first_with m.scopes (scopes_around m.scopes m.place.scope) (pattern n)) m.place.scope
scope_of m rest = unwrap_or (first_with m.scopes (scopes_around m.scopes m.place.scope) rest) m.place.scope

unfoldable pub variable : Memory → Local → Value
variable m x = unwrap_or (value_in (scope_at m.scopes (scope_of m x)).variables x) Nil

abbrev pub put_in : List Scope → ℕ → Local → Value → List Scope
put_in cs n x v = set cs n (record (scope_at cs n) { variables = put_value (scope_at cs n).variables x v })

unfoldable pub with_variable : Memory → Local → Value → Memory
with_variable m x v = record m { scopes = put_in m.scopes (scope_of m x) x v }

-- a parameter of the method around the text: its scope has no parent
abbrev pub last_or : ℕ → List ℕ → ℕ
last_or n [] = n
last_or n (k ∷ ks) = last_or k ks

unfoldable pub own_variable : Memory → Local → Value
own_variable m x =
    unwrap_or
    (value_in (scope_at m.scopes (last_or m.place.scope (scopes_around m.scopes m.place.scope))).variables x) Nil

-- Parameters (13.3.2).

abbrev pub is_there : {A : Type 0} → List A → Bool
is_there [] = false
is_there (x ∷ xs) = true

abbrev pub shape_of : Parameters → Shape
shape_of p = record {
  required = length p.required;
  optional = length p.optional;
  rest = is_there p.rest;
  post = length p.post;
}

abbrev pub all_of : Parameters → List Local
all_of p = p.required ++ p.optional ++ p.rest ++ p.post

-- each parameter with its value
abbrev pub with_values : List Local → List Value → List (Local × Value)
with_values [] vs = []
with_values (x ∷ xs) [] = (x, Nil) ∷ with_values xs []
with_values (x ∷ xs) (v ∷ vs) = (x, v) ∷ with_values xs vs

abbrev pub block_value : Option ObjId → Value
block_value None = Nil
block_value (Some p) = Obj p

-- the variables of a body at its start: the parameters, the block, and its locals, which are nil
unfoldable pub first_variables : Parameters → List Local → List Value → Option ObjId → List (Local × Value)
first_variables p locals values block =
    with_values (all_of p) values ++ with_values p.block (block_value block ∷ []) ++ all_nil locals

-- the activation that runs
abbrev pub running : Memory → Activation
running m = activation_at m.world m.place.activation
