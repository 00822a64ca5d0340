-- What the methods give and leave (ISO/IEC 30170:2012, 15.2 and 15.3).
use Rattle.std.specs.Prelude.{ℕ, ℤ, pos, negsuc, List, [], ◌++◌, codes, nat_lt, Bool, true, false, not, if◌then◌else◌, Option, Some, None, is_some, get_or}
use Rattle.rb_value.specs.declared.value.Value.{Value}
use Rattle.rb_value.specs.declared.value.Value.TheVariants.{Nil, True, False, Int, Sym, Obj}
use Rattle.rb_value.specs.declared.value.ObjId.{ObjId}
use Rattle.rb_value.specs.declared.kind.Sort.{Sort}
use Rattle.rb_value.specs.declared.method.Visibility.{Visibility}
use Rattle.rb_value.specs.declared.method.Visibility.TheVariants as visibility
use Rattle.rb_value.specs.declared.core_class.CoreClass.TheVariants as class
use Rattle.rb_value.specs.declared.procs.ProcContents.{ProcContents}
use Rattle.rb_value.specs.Value.{truth}
use Rattle.rb_value.specs.contracts.value.ValuePartialEq.TheImpl as derived
use Rattle.def_core.specs.declared.cause.Cause.{Cause}
use Rattle.def_core.specs.declared.cause.Cause.TheVariants as cause
use Rattle.def_core.specs.Store.{Store, Done, object_at, same_object}
use Rattle.def_core.specs.Classes.{class_of, plain_class_of, chain, is_member}
use Rattle.def_core.specs.declared.found.Found.{Found}
use Rattle.def_core.specs.Changes as changes
use Rattle.def_core.specs.Changes.{gives, fails}
use Rattle.def_core.specs.Find.{find}
use Rattle.def_core.specs.Texts as texts
use Rattle.def_rows.specs.Answers.{makes, text_object}
use Rattle.def_calls.specs.Definitions as definitions
use Rattle.def_calls.specs.World.{World, Answer, answer, give}
use Rattle.rb_store.specs.Opening.{main_object}
use Rattle.def_calls.specs.Views.{a_proc, a_fiber, fiber_of}
use Rattle.def_calls.specs.Definitions.{space_in}
use Rattle.heap.specs.Operands.{own, has_space, with_space}
use Rattle.heap.specs.Reading.{proc_in, sort_of_value}
use Rattle.heap.specs.Told.{told}
use Rattle.rows_object.specs.Answered.{refused}
use Rattle.rows_object.specs.Follows.{followed, named, raise, refuse}

-- Object.

-- whether two values are the same one
abbrev pub same_value : Value → Value → Bool
same_value = derived.ghosts.eq

-- `==` and `equal?`
abbrev pub same : Value → Value → Value
same left right = truth (same_value left right)

-- `<=>`
abbrev pub order : Value → Value → Value
order left right = if same_value left right then Int (pos 0) else Nil

-- `class`
abbrev pub class_of_object : Store → Value → Value
class_of_object st v = Obj (plain_class_of st.objects (own st v))

-- what a class or module tells; another value is refused
abbrev pub of_space : Store → Value → (ObjId → Value) → Option ObjId → Done
of_space st v tells None = refused class.Module v st
of_space st v tells (Some space) = gives (tells space) st

-- `is_a?` and `kind_of?`: the class or module is among the ancestors of the value's class
abbrev pub is_a : Value → Value → Store → Done
is_a v space st = of_space st space
    (λ c. truth (is_member (chain st.objects (class_of st.objects (own st v))) c)) (space_in st.objects (own st space))

-- `instance_of?`: it is the value's class
abbrev pub is_instance : Value → Value → Store → Done
is_instance v space st = of_space st space
    (λ c. truth (same_object (plain_class_of st.objects (own st v)) c)) (space_in st.objects (own st space))

-- what a class or module is called by texts
abbrev pub class_name : Store → ObjId → List ℕ
class_name st c = if has_space st c then texts.class_name st c else []

abbrev pub class_text : Store → Value → List ℕ
class_text st v = class_name st (plain_class_of st.objects (own st v))

-- `to_s` and `inspect`
abbrev pub shown_as : Store → Value → List ℕ
shown_as st v = if same_value v (Obj main_object) then codes "main" else (codes "#<" ++ class_text st v) ++ codes ">"

unfoldable pub text : Value → Store → Done
text v st = makes st (text_object (shown_as st v))

-- `extend`: the singleton class includes the module

abbrev pub is_module : Option Sort → Bool
is_module None = false
is_module (Some s) = changes.is_module_sort s

abbrev pub module_in : Store → Value → Option ObjId
module_in st v = if is_module (sort_of_value st v) then space_in st.objects (own st v) else None

abbrev pub include_in : ObjId → Value → World → Answer
include_in c mixin w = with_space c (λ u. answer u (changes.include u.store c (own w.store mixin))) w

abbrev pub extended_by : Value → Value → Value → World → Answer
extended_by v mixin Nil w = give w Nil
extended_by v mixin True w = give w True
extended_by v mixin False w = give w False
extended_by v mixin (Int z) w = give w (Int z)
extended_by v mixin (Sym s) w = give w (Sym s)
extended_by v mixin (Obj c) w = followed (include_in c mixin w) (λ u after. give after v)

abbrev pub extend_if : Value → Value → Bool → World → Answer
extend_if v mixin false w = refuse class.Module mixin w
extend_if v mixin true w =
    followed (definitions.singleton_class w (own w.store v)) (extended_by v mixin)

abbrev pub extend : Value → Value → World → Answer
extend v mixin w = extend_if v mixin (is_some (module_in w.store mixin)) w

-- `respond_to?`: a public method of that name is found

abbrev pub is_public : Visibility → Bool
is_public visibility.Public = true
is_public visibility.Private = false
is_public visibility.Protected = false

abbrev pub public_found : Option Found → Bool
public_found None = false
public_found (Some f) = is_public f.visibility

abbrev pub responds_to : Value → Value → World → Answer
responds_to v name = named name (λ own_name w. give w (truth (public_found
    (find w.store.objects (class_of w.store.objects (own w.store v)) own_name))))

-- `method_missing`: no method of that name is found
abbrev pub method_missing : Value → Value → World → Answer
method_missing v name = named name (λ own_name w. raise
    (cause.UndefinedMethod own_name (plain_class_of w.store.objects (own w.store v))) w)

-- Kernel.

-- `exit`: with a status from 0 to 255; true stands for 0, false for 1, and no argument for true
abbrev pub status_in : Value → Option ℤ
status_in Nil = None
status_in True = Some (pos 0)
status_in False = Some (pos 1)
status_in (Int z) = Some z
status_in (Sym s) = None
status_in (Obj id) = None

abbrev pub ending : ℤ → Cause
ending (pos n) = if nat_lt n 256 then cause.Exit n else cause.StatusOutOfRange
ending (negsuc n) = cause.StatusOutOfRange

abbrev pub exit_with : Store → Value → Option ℤ → Done
exit_with st v None = refused class.Integer v st
exit_with st v (Some z) = fails st (told st (ending z))

abbrev pub exit : List Value → Store → Done
exit args st = exit_with st (get_or args 0 True) (status_in (get_or args 0 True))

-- Proc.

abbrev pub is_lambda_by : Option ProcContents → Value
is_lambda_by None = True
is_lambda_by (Some p) = truth p.lambda

abbrev pub of_proc : Store → Value → (Option ProcContents → Value) → Option ObjId → Done
of_proc st v tells None = refused class.Proc v st
of_proc st v tells (Some id) = gives (tells (proc_in (object_at st.objects id).kind)) st

abbrev pub is_lambda : Value → Store → Done
is_lambda v st = of_proc st v is_lambda_by (a_proc st.objects v)

-- Fiber.

abbrev pub alive_by : Store → Value → Option (ObjId × Bool) → Done
alive_by st v None = refused class.Fiber v st
alive_by st v (Some f) = gives (truth (not f.1)) st

abbrev pub alive_at : Store → Value → Option ObjId → Done
alive_at st v None = refused class.Fiber v st
alive_at st v (Some id) = alive_by st v (fiber_of (object_at st.objects id).kind)

-- `alive?`
abbrev pub is_alive : Value → Store → Done
is_alive v st = alive_at st v (a_fiber st.objects v)
