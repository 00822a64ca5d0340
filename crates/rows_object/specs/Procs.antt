-- Methods of Proc, what blocks and Symbols become, and new fibers and Strings.
use Rattle.std.specs.Prelude.{ℕ, ℤ, pos, negsuc, ◌+◌, ◌*◌, ◌-ℤ◌, List, [], ◌∷◌, nat_lt, Bool, true, false, ◌&&◌, ◌||◌, if◌then◌else◌, Option, Some, None}
use Rattle.rb_value.specs.declared.value.Value.{Value}
use Rattle.rb_value.specs.declared.value.Value.TheVariants.{Nil, True, False, Int, Sym, Obj}
use Rattle.rb_value.specs.declared.value.ObjId.{ObjId}
use Rattle.rb_value.specs.declared.core_class.CoreClass.TheVariants as class
use Rattle.rb_value.specs.declared.method.Shape.{Shape}
use Rattle.rb_value.specs.declared.kind.Kind.TheVariants as kind
use Rattle.rb_value.specs.declared.kind.Sort.{Sort}
use Rattle.rb_value.specs.declared.procs.ProcContents.{ProcContents}
use Rattle.def_core.specs.Store.{Store, Done, core, fresh, next_number, object_at}
use Rattle.def_core.specs.Changes.{gives, is_class_sort}
use Rattle.def_rows.specs.Answers.{makes}
use Rattle.def_calls.specs.Views.{a_proc, a_string, kind_in, object_in, string_of}
use Rattle.heap.specs.Operands.{has_proc, own, own_class, own_proc}
use Rattle.heap.specs.Changes as changes
use Rattle.heap.specs.Reading.{proc_in, sort_of_value}
use Rattle.rows_object.specs.Answered.{holding, refused}
use Rattle.rows_object.specs.Rows.{of_proc}

-- How many arguments are wanted, and one less than minus that where more are taken. Optional ones count in a lambda.

abbrev pub least : Shape → ℕ
least s = s.required + s.post

abbrev pub takes_more : Shape → Bool → Bool
takes_more s lambda = s.rest || lambda && nat_lt 0 s.optional

abbrev pub arity_of : Shape → Bool → ℤ
arity_of s lambda = if takes_more s lambda then (pos 0 -ℤ pos (least s)) -ℤ pos 1 else pos (least s)

abbrev pub arity_by : Option ProcContents → Value
arity_by None = Int (negsuc 1)
arity_by (Some p) = Int (arity_of p.shape p.lambda)

-- `arity`
abbrev pub arity : Value → Store → Done
arity v st = of_proc st v arity_by (a_proc st.objects v)

-- `to_proc` of a Symbol: a Proc whose call enters a row that sends the kept Symbol to the first argument
abbrev pub send_kept_row : ℕ
send_kept_row = 76 * 256

unfoldable pub symbol_as_proc : Value → Store → Done
symbol_as_proc v st = makes st (fresh (core class.Proc) (kind.CoreProc send_kept_row (own st v)))

-- `lambda`: a new lambda with the body of the block; a block without a body is one
abbrev pub lambda_by : ObjId → Option ProcContents → Store → Done
lambda_by block None st = gives (Obj block) st
lambda_by block (Some p) st =
    makes st (fresh (core class.Proc) (kind.Proc (own_proc st (record p { lambda = true }))))

abbrev pub as_lambda : ObjId → Store → Done
as_lambda block st = lambda_by block (proc_in (object_at st.objects block).kind) st

-- `new` of Fiber, and of a class below it, but for singleton classes: the block is a Proc

abbrev pub class_by : ObjId → Option Sort → Option ObjId
class_by id None = None
class_by id (Some s) = if is_class_sort s then Some id else None

abbrev pub class_of_value : Store → Value → Option ObjId
class_of_value st Nil = None
class_of_value st True = None
class_of_value st False = None
class_of_value st (Int n) = None
class_of_value st (Sym s) = None
class_of_value st (Obj id) = class_by id (sort_of_value st (Obj id))

abbrev pub fiber_of_class : Value → ObjId → Option ObjId → Store → Done
fiber_of_class v block None st = refused class.Class v st
fiber_of_class v block (Some c) st = if has_proc st block
    then makes st (fresh (own_class st c) (kind.Fiber block false)) else gives Nil st

abbrev pub new_fiber : Value → ObjId → Store → Done
new_fiber v block st = fiber_of_class v block (class_of_value st v) st

-- `initialize` of String: the receiver takes the bytes of the String that is given, where one is

abbrev pub take_bytes : Value → ObjId → Value → Option (List ℕ) → Store → Done
take_bytes v id from None st = refused class.String from st
take_bytes v id from (Some bytes) st = gives v (changes.with_bytes (holding st) id bytes).store

abbrev pub fill : Value → ObjId → List Value → Store → Done
fill v id [] st = gives v st
fill v id (from ∷ rest) st = take_bytes v id from (string_of (kind_in st.objects from)) st

abbrev pub fill_string : Value → List Value → Option ObjId → Store → Done
fill_string v args None st = refused class.String v st
fill_string v args (Some id) st = fill v id args st

abbrev pub initialize_string : Value → List Value → Store → Done
initialize_string v args st = fill_string v args (a_string st.objects v) st
