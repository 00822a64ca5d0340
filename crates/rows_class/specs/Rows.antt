-- What each of the methods takes, and what it gives and leaves: first the arguments are counted, then a block is missed,
-- then what the receiver is, then the arguments are looked at, left to right.
use Rattle.std.specs.Prelude.{ℕ, List, [], ◌∷◌, codes, length, get_or, nat_eq, Bool, true, false, not, ◌&&◌, if◌then◌else◌, Option, Some, None, is_some}
use Rattle.rb_value.specs.declared.value.Value.{Value}
use Rattle.rb_value.specs.declared.value.Value.TheVariants.{Nil, Obj}
use Rattle.rb_value.specs.declared.value.ObjId.{ObjId}
use Rattle.rb_value.specs.declared.value.SymId.{SymId}
use Rattle.rb_value.specs.declared.core_class.CoreClass.TheVariants as class
use Rattle.rb_value.specs.declared.method.Visibility.TheVariants as visibility
use Rattle.rb_value.specs.Value.{truth}
use Rattle.rb_value.specs.contracts.value.ValuePartialEq.TheImpl as derived
use Rattle.rb_store.specs.Opening.{main_object}
use Rattle.def_core.specs.declared.cause.Cause.{Cause}
use Rattle.def_core.specs.declared.cause.Cause.TheVariants as cause
use Rattle.def_core.specs.Store.{Store, core}
use Rattle.def_core.specs.Classes.{chain, class_of, is_member}
use Rattle.def_calls.specs.Definitions.{space_in}
use Rattle.def_calls.specs.World.{World, Answer, give}
use Rattle.core_calls.specs.Checks.{miscounted}
use Rattle.heap.specs.Operands.{own}
use Rattle.rows_object.specs.Follows.{by_store, named, raise, refuse}
use Rattle.rows_class.specs.declared.accessors.Attribute.TheVariants as attribute
use Rattle.rows_class.specs.declared.methods.Taking.TheVariants as taking
use Rattle.rows_class.specs.declared.row.ClassRow.{ClassRow}
use Rattle.rows_class.specs.declared.row.ClassRow.TheVariants as row
use Rattle.rows_class.specs.Attributes as attributes
use Rattle.rows_class.specs.Constants as constants
use Rattle.rows_class.specs.Making as making
use Rattle.rows_class.specs.Methods as methods
use Rattle.rows_class.specs.Spaces as spaces

-- How many arguments each takes, at least and at most.

abbrev pub exactly : ℕ → ℕ × Option ℕ
exactly n = (n, Some n)

abbrev pub at_least : ℕ → ℕ × Option ℕ
at_least n = (n, None)

abbrev pub counts : ClassRow → ℕ × Option ℕ
counts row.Name = exactly 0
counts row.ToText = exactly 0
counts row.Matches = exactly 1
counts row.IsBelow = exactly 1
counts row.IsAtMost = exactly 1
counts row.Ancestors = exactly 0
counts row.Include = at_least 1
counts row.HasMethod = exactly 1
counts row.Reader = at_least 0
counts row.Writer = at_least 0
counts row.Accessor = at_least 0
counts row.DefineMethod = exactly 1
counts row.AliasMethod = exactly 2
counts row.UndefineMethod = at_least 0
counts row.RemoveMethod = at_least 0
counts row.Constant = exactly 1
counts row.SetConstant = exactly 2
counts row.HasConstant = exactly 1
counts row.Public = at_least 0
counts row.Private = at_least 0
counts row.Protected = at_least 0
counts row.Allocate = exactly 0
counts row.Superclass = exactly 0
counts row.NewClass = (0, Some 1)
counts row.NewModule = exactly 0

abbrev pub wants_block : ClassRow → Bool
wants_block row.Name = false
wants_block row.ToText = false
wants_block row.Matches = false
wants_block row.IsBelow = false
wants_block row.IsAtMost = false
wants_block row.Ancestors = false
wants_block row.Include = false
wants_block row.HasMethod = false
wants_block row.Reader = false
wants_block row.Writer = false
wants_block row.Accessor = false
wants_block row.DefineMethod = true
wants_block row.AliasMethod = false
wants_block row.UndefineMethod = false
wants_block row.RemoveMethod = false
wants_block row.Constant = false
wants_block row.SetConstant = false
wants_block row.HasConstant = false
wants_block row.Public = false
wants_block row.Private = false
wants_block row.Protected = false
wants_block row.Allocate = false
wants_block row.Superclass = false
wants_block row.NewClass = false
wants_block row.NewModule = false

-- What each gives.

abbrev pub first : List Value → Value
first args = get_or args 0 Nil

abbrev pub second : List Value → Value
second args = get_or args 1 Nil

-- `===`
abbrev pub matches : ObjId → Value → World → Answer
matches c v w = give w (truth (is_member (chain w.store.objects (class_of w.store.objects (own w.store v))) c))

abbrev pub by_name : ClassRow → ObjId → SymId → Value → Option ObjId → World → Answer
by_name row.HasMethod c name v block w = give w (spaces.has_method w.store c name)
by_name row.DefineMethod c name v block w = methods.define c name block w
by_name row.AliasMethod c name v block w = methods.alias_method c name v w
by_name row.Constant c name v block w = constants.get c name w
by_name row.SetConstant c name v block w = constants.set c name v w
by_name row.HasConstant c name v block w = give w (constants.has c name w)
by_name _ c name v block w = give w Nil

abbrev pub naming : ClassRow → ObjId → Value → Value → Option ObjId → World → Answer
naming row c v u block = named v (λ name. by_name row c name u block)

abbrev pub counted : ClassRow → ObjId → List Value → Option ObjId → World → Answer
counted row.Name c args block = by_store (spaces.name c)
counted row.ToText c args block = by_store (spaces.text c)
counted row.Matches c args block = matches c (first args)
counted row.IsBelow c args block = by_store (spaces.is_below c (first args))
counted row.IsAtMost c args block = by_store (spaces.is_at_most c (first args))
counted row.Ancestors c args block = spaces.ancestors c
counted row.Include c args block = spaces.include c args
counted row.HasMethod c args block = naming row.HasMethod c (first args) (second args) block
counted row.Reader c args block = attributes.attributes attribute.Reader c args
counted row.Writer c args block = attributes.attributes attribute.Writer c args
counted row.Accessor c args block = attributes.attributes attribute.Accessor c args
counted row.DefineMethod c args block = naming row.DefineMethod c (first args) (second args) block
counted row.AliasMethod c args block = naming row.AliasMethod c (first args) (second args) block
counted row.UndefineMethod c args block = methods.take_away taking.Undefined c args
counted row.RemoveMethod c args block = methods.take_away taking.Removed c args
counted row.Constant c args block = naming row.Constant c (first args) (second args) block
counted row.SetConstant c args block = naming row.SetConstant c (first args) (second args) block
counted row.HasConstant c args block = naming row.HasConstant c (first args) (second args) block
counted row.Public c args block = methods.set_visibility visibility.Public c args
counted row.Private c args block = methods.set_visibility visibility.Private c args
counted row.Protected c args block = methods.set_visibility visibility.Protected c args
counted row.Allocate c args block = making.allocate c
counted row.Superclass c args block = λ w. give w (spaces.superclass w.store c)
counted row.NewClass c args block = making.new_class args
counted row.NewModule c args block = making.new_module

-- what the methods of the main object act on is Object
abbrev pub acted_on : Store → Value → Option ObjId
acted_on st recv = if derived.ghosts.eq recv (Obj main_object) then Some (core class.Object)
    else space_in st.objects (own st recv)

abbrev pub acting_on : ClassRow → Value → List Value → Option ObjId → Option ObjId → World → Answer
acting_on row recv args block None = refuse class.Module recv
acting_on row recv args block (Some c) = counted row c args block

abbrev pub acting : ClassRow → Value → List Value → Option ObjId → World → Answer
acting row recv args block w = acting_on row recv args block (acted_on w.store recv) w

abbrev pub unless_refused : ClassRow → Value → List Value → Option ObjId → Option Cause → World → Answer
unless_refused row recv args block (Some c) = raise c
unless_refused row recv args block None = if wants_block row && not (is_some block) then raise cause.NoBlockGiven
    else acting row recv args block

abbrev pub called : ClassRow → Value → List Value → Option ObjId → World → Answer
called row recv args block =
    unless_refused row recv args block (miscounted (length args) (counts row).0 (counts row).1)
