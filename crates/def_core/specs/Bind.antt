-- How arguments become the values of parameters (ISO/IEC 30170:2012, 11.3.3 and 13.3.3).
use Rattle.std.specs.Prelude.{ℕ, ◌+◌, ◌-◌, List, [], ◌∷◌, ◌++◌, Bool, true, false, not, ◌&&◌, ◌||◌, nat_lt, nat_eq, length, take, drop, min, replicate, get_or, if◌then◌else◌, Option, Some, None}
use Rattle.rb_value.specs.declared.value.Value.{Value}
use Rattle.rb_value.specs.declared.value.Value.TheVariants.{Nil, True, False, Int, Sym, Obj}
use Rattle.rb_value.specs.Object.{Object}
use Rattle.rb_value.specs.declared.method.Shape.{Shape}
use Rattle.rb_value.specs.declared.kind.Kind.{Kind}
use Rattle.rb_value.specs.declared.kind.Kind.TheVariants as kind
use Rattle.rb_value.specs.declared.core_class.CoreClass.TheVariants as class
use Rattle.def_core.specs.declared.bound.BindKind.{BindKind}
use Rattle.def_core.specs.declared.bound.BindKind.TheVariants.{Method, Lambda, Proc}
use Rattle.def_core.specs.declared.bound.Bound.{Bound}
use Rattle.def_core.specs.declared.bound.Bound.TheVariants.{Values, Wrong}
use Rattle.def_core.specs.Store.{Store, core, fresh, object_at, next_number, with_object}

-- the parameters that have to be given, and all but the one for the rest
abbrev pub least : Shape → ℕ
least s = s.required + s.post

abbrev pub most : Shape → ℕ
most s = s.required + s.optional + s.post

-- the elements of an Array
abbrev pub elements_of : Kind → Option (List Value)
elements_of kind.Plain = None
elements_of (kind.Class c) = None
elements_of (kind.String s) = None
elements_of (kind.Array a) = Some a
elements_of (kind.Hash h) = None
elements_of (kind.Range r) = None
elements_of (kind.Proc p) = None
elements_of (kind.CoreProc r k) = None
elements_of (kind.Fiber b e) = None
elements_of (kind.Exception m d) = None
elements_of (kind.Enumerator e) = None
elements_of (kind.Yielder b) = None

abbrev pub elements_in : List Object → Value → Option (List Value)
elements_in objects Nil = None
elements_in objects True = None
elements_in objects False = None
elements_in objects (Int n) = None
elements_in objects (Sym s) = None
elements_in objects (Obj id) = elements_of (object_at objects id).kind

-- whether a Proc of this shape takes the elements of one Array as its arguments: it has more than one parameter,
-- or one and a rest
abbrev pub spreads : Shape → Bool
spreads s = nat_lt 1 (most s) || (nat_eq (most s) 1 && s.rest)

abbrev pub elements_or : Option (List Value) → List Value → List Value
elements_or None args = args
elements_or (Some a) args = a

-- the elements of one Array alone
abbrev pub spread : List Object → List Value → List Value
spread objects args = if nat_eq (length args) 1 then elements_or (elements_in objects (get_or args 0 Nil)) args else
    args

-- nil for each that is missing up to so many
abbrev pub padded : ℕ → List Value → List Value
padded n args = args ++ replicate (n - length args) Nil

-- as many as a Proc of this shape wants: nothing that is too much, and nil for what is missing
abbrev pub fitted : Shape → List Value → List Value
fitted s args = padded (least s) (if s.rest then args else take (most s) args)

abbrev pub arguments : List Object → Shape → BindKind → List Value → List Value
arguments objects s Method args = args
arguments objects s Lambda args = args
arguments objects s Proc args = fitted s (if spreads s then spread objects args else args)

-- whether so many arguments fit
abbrev pub fits : Shape → ℕ → Bool
fits s n = not (nat_lt n (least s)) && (s.rest || not (nat_lt (most s) n))

-- the optional parameters that are given by n arguments
abbrev pub filled : Shape → ℕ → ℕ
filled s n = min s.optional (n - least s)

-- the arguments up to the last optional parameter that is given, those between, and those behind
abbrev pub front : Shape → List Value → List Value
front s args = take (s.required + filled s (length args)) args

abbrev pub remaining : Shape → List Value → List Value
remaining s args = drop (s.required + filled s (length args)) (take (length args - s.post) args)

abbrev pub last : Shape → List Value → List Value
last s args = drop (length args - s.post) args

pub record Binding : Type 0 where
  pub bound : Bound
  pub store : Store

-- a value for each parameter, where the rest is the value given
abbrev pub values : Shape → List Value → List Value → List Value
values s rest args = front s args ++ replicate (s.optional - filled s (length args)) Nil ++ rest ++ last s args

-- the remaining arguments are a new Array
abbrev pub bind_fitting : Store → Shape → List Value → Bool → Binding
bind_fitting st s args true = record {
  bound =
      Values (values s (Obj (next_number st) ∷ []) args) (filled s (length args));
  store =
      with_object st (fresh (core class.Array) (kind.Array (remaining s args)));
}
bind_fitting st s args false = record { bound = Values (values s [] args) (filled s (length args)); store = st }

unfoldable pub bind : Store → Shape → List Value → BindKind → Binding
bind st s args k =
    let given = arguments st.objects s k args in
    if fits s (length given) then bind_fitting st s given s.rest else
    record { bound = Wrong (length given); store = st }
