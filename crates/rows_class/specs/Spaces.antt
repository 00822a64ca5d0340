-- What a class or module is called, what stands above it, and its methods and constants.
use Rattle.std.specs.Prelude.{ℕ, List, [], ◌∷◌, map, reverse, Bool, true, false, if◌then◌else◌, Option, Some, None}
use Rattle.rb_value.specs.declared.value.Value.{Value}
use Rattle.rb_value.specs.declared.value.Value.TheVariants.{Nil, True, False, Obj}
use Rattle.rb_value.specs.declared.value.ObjId.{ObjId}
use Rattle.rb_value.specs.declared.value.SymId.{SymId}
use Rattle.rb_value.specs.declared.kind.Sort.{Sort}
use Rattle.rb_value.specs.declared.method.Method.{Method}
use Rattle.rb_value.specs.declared.method.Method.TheVariants as method
use Rattle.rb_value.specs.declared.method.MethodEntry.{MethodEntry}
use Rattle.rb_value.specs.declared.method.Visibility.{Visibility}
use Rattle.rb_value.specs.declared.method.Visibility.TheVariants as visibility
use Rattle.rb_value.specs.declared.core_class.CoreClass.TheVariants as class
use Rattle.rb_value.specs.Value.{truth}
use Rattle.def_core.specs.declared.found.Found.{Found}
use Rattle.def_core.specs.Store.{Store, Done, same_object}
use Rattle.def_core.specs.Classes.{class_at}
use Rattle.def_core.specs.Changes as changes
use Rattle.def_core.specs.Changes.{gives}
use Rattle.def_calls.specs.World.{World, Answer, answer, give}
use Rattle.def_core.specs.Find.{entry_of}
use Rattle.def_core.specs.Texts as texts
use Rattle.def_rows.specs.Answers.{makes, text_object}
use Rattle.def_calls.specs.Definitions.{space_in}
use Rattle.heap.specs.Operands as heap
use Rattle.heap.specs.Operands.{own, has_space, is_in_chain}
use Rattle.heap.specs.Reading.{sort_of_value}
use Rattle.heap.specs.Finding.{find}
use Rattle.rows_object.specs.Answered.{refused}
use Rattle.rows_object.specs.Follows.{array, in_turn, refuse}

-- Names.

abbrev pub class_name : Store → ObjId → List ℕ
class_name st c = if has_space st c then texts.class_name st c else []

-- `to_s` and `inspect`
unfoldable pub text : ObjId → Store → Done
text c st = makes st (text_object (class_name st c))

abbrev pub name_by : ObjId → Store → Option SymId → Done
name_by c st None = gives Nil st
name_by c st (Some name) = text c st

-- `name`, which is nil of a class or module without one
abbrev pub name : ObjId → Store → Done
name c st = name_by c st (class_at st.objects c).name

-- The order of classes and modules: what is below has the other among its ancestors.

abbrev pub order : Store → ObjId → ObjId → Value
order st c d = if is_in_chain st c d then True else if is_in_chain st d c then False else Nil

abbrev pub with_space : Store → Value → (ObjId → Value) → Option ObjId → Done
with_space st v tells None = refused class.Module v st
with_space st v tells (Some d) = gives (tells d) st

-- `<=`
abbrev pub is_at_most : ObjId → Value → Store → Done
is_at_most c v st = with_space st v (order st c) (space_in st.objects (own st v))

abbrev pub below : Store → ObjId → ObjId → Value
below st c d = if same_object d c then False else order st c d

-- `<`
abbrev pub is_below : ObjId → Value → Store → Done
is_below c v st = with_space st v (below st c) (space_in st.objects (own st v))

abbrev pub object_or_nil : Option ObjId → Value
object_or_nil None = Nil
object_or_nil (Some id) = Obj id

-- `superclass`
abbrev pub superclass : Store → ObjId → Value
superclass st c = object_or_nil (class_at st.objects c).superclass

-- `ancestors`
abbrev pub ancestors : ObjId → World → Answer
ancestors c w = array (map (λ id. Obj id) (heap.ancestors w.store c)) w

-- `include`: the last of the modules first, so that the first stands first among the ancestors; none is included where
-- one is no module

abbrev pub is_module : Option Sort → Bool
is_module None = false
is_module (Some s) = changes.is_module_sort s

abbrev pub unless_module : Value → Bool → Option Value → Option Value
unless_module v true rest = rest
unless_module v false rest = Some v

unfoldable pub no_module : Store → List Value → Option Value
no_module st [] = None
no_module st (v ∷ vs) = unless_module v (is_module (sort_of_value st v)) (no_module st vs)

abbrev pub include_one : ObjId → Value → World → Answer
include_one c mixin w =
    heap.with_space c (λ u. answer u (changes.include u.store c (own w.store mixin))) w

abbrev pub include_all : ObjId → List Value → World → Answer
include_all c mixins = in_turn (include_one c) (reverse mixins) (λ w. give w (Obj c))

abbrev pub include_unless : ObjId → List Value → Option Value → World → Answer
include_unless c mixins None = include_all c mixins
include_unless c mixins (Some other) = refuse class.Module other

abbrev pub include : ObjId → List Value → World → Answer
include c mixins w = include_unless c mixins (no_module w.store mixins) w

-- Methods.

abbrev pub is_open : Visibility → Bool
is_open visibility.Public = true
is_open visibility.Private = false
is_open visibility.Protected = true

abbrev pub open_found : Option Found → Bool
open_found None = false
open_found (Some f) = is_open f.visibility

-- `method_defined?`: a public or protected method is found
abbrev pub has_method : Store → ObjId → SymId → Value
has_method st c name = truth (open_found (find st c name))

abbrev pub is_defined : Method → Bool
is_defined (method.Body b s) = true
is_defined (method.Core r) = true
is_defined (method.Reader n) = true
is_defined (method.Writer n) = true
is_defined (method.Block p) = true
is_defined method.Undefined = false

abbrev pub defined_entry : Option MethodEntry → Bool
defined_entry None = false
defined_entry (Some e) = is_defined e.method

-- the class or module has a method of that name itself
abbrev pub has_own : Store → ObjId → SymId → Bool
has_own st c name = defined_entry (entry_of st.objects c name)
