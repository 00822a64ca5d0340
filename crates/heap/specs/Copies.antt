-- What a copy of an object is, and what the store holds after it: the new object has the next number.
use Rattle.std.specs.Prelude.{ℕ, zero, suc, List, [], ◌∷◌, length, map, Bool, true, false, ◌&&◌, if◌then◌else◌, Option, Some, None, option_map, slice_get}
use Rattle.rb_value.specs.declared.value.Value.{Value}
use Rattle.rb_value.specs.declared.value.Value.TheVariants.{Nil, True, False, Int, Sym, Obj}
use Rattle.rb_value.specs.declared.value.ObjId.{ObjId}
use Rattle.rb_value.specs.declared.value.SymId.{SymId}
use Rattle.rb_value.specs.declared.variables.Variable.{Variable}
use Rattle.rb_value.specs.declared.key.KeyPart.{KeyPart}
use Rattle.rb_value.specs.declared.key.KeyPart.TheVariants as part
use Rattle.rb_value.specs.declared.key.Key.{Key}
use Rattle.rb_value.specs.declared.key.Key.TheVariants as key
use Rattle.rb_value.specs.declared.hash.HashItem.{HashItem}
use Rattle.rb_value.specs.declared.kind.Kind.{Kind}
use Rattle.rb_value.specs.declared.kind.Sort.{Sort}
use Rattle.rb_value.specs.declared.kind.Sort.TheVariants as sort
use Rattle.rb_value.specs.declared.kind.RangeContents.{RangeContents}
use Rattle.rb_value.specs.declared.kind.EnumeratorSource.{EnumeratorSource}
use Rattle.rb_value.specs.declared.procs.ProcContents.{ProcContents}
use Rattle.rb_value.specs.declared.method.MethodEntry.{MethodEntry}
use Rattle.def_core.specs.Store.{Store, next_number, object_at, sort_at}
use Rattle.def_core.specs.Classes.{class_at, plain_class_of}
use Rattle.def_core.specs.Changes.{include}
use Rattle.def_core.specs.Find.{entry_of}
use Rattle.def_core.specs.Parts as parts
use Rattle.def_core.specs.Sound.{has_object}
use Rattle.def_calls.specs.Views.{message_of, detail_of, fiber_of}
use Rattle.def_calls.specs.World.{World, Answer, answer}
use Rattle.def_calls.specs.Constants.{set_constant_in}
use Rattle.rb_store.specs.Held.{Held}
use Rattle.heap.specs.declared.making.Blank.{Blank}
use Rattle.heap.specs.declared.making.Blank.TheVariants as blank
use Rattle.heap.specs.Operands.{has_symbol, is_hash, own, with_space, with_symbol}
use Rattle.heap.specs.Reading.{sort_of_value, proc_in, core_proc_in, range_in, source_in, yielder_in}
use Rattle.heap.specs.Changes.{with_default, with_method}
use Rattle.heap.specs.Changes as change
use Rattle.heap.specs.Made as made

-- the store that a call leaves, which reads and changes the store alone
abbrev pub alone : Store → World
alone st = record { store = st; globals = []; enclosing = []; activations = []; input = []; out = []; asked = false }

abbrev pub left : (World → Answer) → Store → Store
left defined st = (defined (alone st)).world.store

-- and that by a call which is defined on a store and its count of changes
abbrev pub at : Store → Held
at st = record { store = st; changes = 0 }

-- so many steps from a place on
abbrev pub steps : {A : Type 0} → (ℕ → A → A) → ℕ → ℕ → A → A
steps step zero place x = x
steps step (suc n) place x = steps step n (suc place) (step place x)

-- Strings and Arrays.

abbrev pub blank_made : Store → ObjId → Blank → Store
blank_made st class b = (made.with_blank (at st) class b).store

abbrev pub with_bytes : Store → ObjId → List ℕ → Store
with_bytes st id bytes = (change.with_bytes (at st) id bytes).store

abbrev pub text_copied : Store → ObjId → ObjId → Store
text_copied st class id = with_bytes (blank_made st class blank.String) (next_number st) (parts.text_at st.objects id)

abbrev pub with_elements : Store → ObjId → List Value → Store
with_elements st id vs = (change.with_elements (at st) id vs).store

abbrev pub array_copied : Store → ObjId → ObjId → Store
array_copied st class id = with_elements (blank_made st class blank.Array) (next_number st)
    (parts.elements_at st.objects id)

-- Hashes: the pairs, each under the key that it has.

abbrev pub own_part : Store → KeyPart → KeyPart
own_part st (part.Plain v) = part.Plain (own st v)
own_part st (part.Text bytes) = part.Text bytes
own_part st (part.Array n) = part.Array n

abbrev pub own_key : Store → Key → Key
own_key st (key.Plain v) = key.Plain (own st v)
own_key st (key.Text bytes) = key.Text bytes
own_key st (key.Array ps) = key.Array (map (own_part st) ps)

abbrev pub key_at : Store → ObjId → ℕ → Option Key
key_at st id place = option_map (λ p. own_key st p.0) (slice_get (parts.hash_at st.objects id).pairs place)

abbrev pub item_at : Store → ObjId → ℕ → Option HashItem
item_at st id place = option_map (λ p. p.1) (slice_get (parts.hash_at st.objects id).pairs place)

abbrev pub with_kept : Store → ObjId → Key → HashItem → Store
with_kept st id k item = if is_hash (sort_at st.objects id)
    then parts.with_objects st (parts.with_pair st.objects id k (own st item.shown) (own st item.value)) else st

abbrev pub put_both : Store → ObjId → Option Key → Option HashItem → Store
put_both st id None None = st
put_both st id None (Some item) = st
put_both st id (Some k) None = st
put_both st id (Some k) (Some item) = with_kept st id k item

abbrev pub with_pair_at : ObjId → ObjId → ℕ → Store → Store
with_pair_at to from place st = put_both st to (key_at st from place) (item_at st from place)

abbrev pub with_pairs : Store → ObjId → ObjId → Store
with_pairs st to from = steps (with_pair_at to from) (length (parts.hash_at st.objects from).pairs) 0 st

abbrev pub with_absent : Store → ObjId → Value → Option ObjId → Store
with_absent st id default block = (change.with_absent (at st) id default block).store

abbrev pub hash_copied : Store → ObjId → ObjId → Store
hash_copied st class id = with_pairs (with_absent (blank_made st class blank.Hash) (next_number st)
    (parts.hash_at st.objects id).default (parts.hash_at st.objects id).block) (next_number st) id

-- Exceptions, Ranges, Procs, fibers, Enumerators and Yielders.

abbrev pub exception_copied : Store → ObjId → Kind → Store
exception_copied st class k = (made.with_exception (at st) class (message_of k) (detail_of k)).store

abbrev pub range_copied : Store → ObjId → Option RangeContents → Store
range_copied st class None = st
range_copied st class (Some r) = (made.with_range (at st) class r).store

abbrev pub range_number : Store → Option RangeContents → Option ObjId
range_number st None = None
range_number st (Some r) = Some (next_number st)

abbrev pub is_lambda : Option ProcContents → Bool
is_lambda None = false
is_lambda (Some p) = p.lambda

abbrev pub with_proc_copy : Store → ObjId → Bool → Store
with_proc_copy st id lambda = (made.with_proc_copy (at st) id lambda).store

abbrev pub proc_copied : Store → ObjId → Option (ℕ × Value) → Store
proc_copied st id None = with_proc_copy st id (is_lambda (proc_in (object_at st.objects id).kind))
proc_copied st id (Some kept) = (made.with_core_proc (at st) kept.0 kept.1).store

abbrev pub proc_number : Store → ObjId → Option (ℕ × Value) → Option ObjId
proc_number st id None = made.copy_number st id
proc_number st id (Some kept) = Some (next_number st)

-- a fiber that hasn't begun
abbrev pub with_fiber : Store → ObjId → ObjId → Store
with_fiber st class block = (made.with_fiber (at st) class block).store

abbrev pub fiber_copied : Store → ObjId → Option (ObjId × Bool) → Store
fiber_copied st class None = st
fiber_copied st class (Some f) = with_fiber st class f.0

abbrev pub fiber_number : Store → Option (ObjId × Bool) → Option ObjId
fiber_number st None = None
fiber_number st (Some f) = made.number_for st f.0

-- an Enumerator as newly made
abbrev pub with_enumerator : Store → ObjId → EnumeratorSource → Store
with_enumerator st class source = (made.with_enumerator (at st) class source).store

abbrev pub enumerator_copied : Store → ObjId → Option EnumeratorSource → Store
enumerator_copied st class None = st
enumerator_copied st class (Some source) = with_enumerator st class source

abbrev pub enumerator_number : Store → Option EnumeratorSource → Option ObjId
enumerator_number st None = None
enumerator_number st (Some source) = Some (made.enumerator_number (at st) source)

abbrev pub with_yielder : Store → ObjId → Store
with_yielder st block = (made.with_yielder (at st) block).store

abbrev pub yielder_copied : Store → Option ObjId → Store
yielder_copied st None = st
yielder_copied st (Some block) = with_yielder st block

abbrev pub yielder_number : Store → Option ObjId → Option ObjId
yielder_number st None = None
yielder_number st (Some block) = made.number_for st block

-- Classes and modules, which have no name: the methods, the constants, the modules and the default visibility.

abbrev pub with_entry : Store → ObjId → SymId → Option MethodEntry → Store
with_entry st made name None = st
with_entry st made name (Some entry) = with_method st made name entry.method entry.visibility

abbrev pub with_method_at : ObjId → ObjId → ℕ → Store → Store
with_method_at made id n st = with_entry st made (record { 0 = n }) (entry_of st.objects id (record { 0 = n }))

abbrev pub with_methods : Store → ObjId → ObjId → Store
with_methods st made id = steps (with_method_at made id) (length st.symbols) 0 st

abbrev pub constant_at : Store → ObjId → ℕ → Option (SymId × Value)
constant_at st id place = option_map (λ p. (record { 0 = p.0 }, p.1)) (slice_get (class_at st.objects id).constants place)

abbrev pub with_constant : Store → ObjId → Option (SymId × Value) → Store
with_constant st made None = st
with_constant st made (Some c) =
    left (with_space made (with_symbol c.0 (λ w. set_constant_in w made c.0 (own st c.1)))) st

abbrev pub with_constant_at : ObjId → ObjId → ℕ → Store → Store
with_constant_at made id place st = with_constant st made (constant_at st id place)

abbrev pub with_constants : Store → ObjId → ObjId → Store
with_constants st made id = steps (with_constant_at made id) (length (class_at st.objects id).constants) 0 st

abbrev pub with_mixin : Store → ObjId → ObjId → Store
with_mixin st made mixin = left (with_space made (λ w. answer w (include w.store made (own st (Obj mixin))))) st

-- those first that are found last
abbrev pub with_mixins : Store → ObjId → List ObjId → Store
with_mixins st made [] = st
with_mixins st made (m ∷ ms) = with_mixin (with_mixins st made ms) made m

abbrev pub with_included : Store → ObjId → ObjId → Store
with_included st made id = with_mixins st made (class_at st.objects id).included

abbrev pub with_visibility : Store → ObjId → ObjId → Store
with_visibility st made id = with_default st made (class_at st.objects id).visibility

abbrev pub filled : Store → ObjId → ObjId → Store
filled st made id =
    with_visibility (with_included (with_constants (with_methods st made id) made id) made id) made id

abbrev pub class_made : Store → Option ObjId → Store
class_made st None = (made.with_root (at st)).store
class_made st (Some superclass) = (made.with_class_under (at st) superclass).store

abbrev pub class_copied : Store → ObjId → Store
class_copied st id =
    filled (class_made st (class_at st.objects id).superclass) (next_number st) id

abbrev pub module_copied : Store → ObjId → Store
module_copied st id = filled (made.with_module (at st)).store (next_number st) id

-- A new object with the contents of another, by its sort; none of a singleton class.

unfoldable pub contents_number : Store → ObjId → Option Sort → Option ObjId
contents_number st id None = None
contents_number st id (Some sort.Plain) = Some (next_number st)
contents_number st id (Some sort.Class) = Some (next_number st)
contents_number st id (Some sort.Singleton) = None
contents_number st id (Some sort.Module) = Some (next_number st)
contents_number st id (Some sort.String) = Some (next_number st)
contents_number st id (Some sort.Array) = Some (next_number st)
contents_number st id (Some sort.Hash) = Some (next_number st)
contents_number st id (Some sort.Range) = range_number st (range_in (object_at st.objects id).kind)
contents_number st id (Some sort.Proc) =
    proc_number st id (core_proc_in st (object_at st.objects id).kind)
contents_number st id (Some sort.Fiber) = fiber_number st (fiber_of (object_at st.objects id).kind)
contents_number st id (Some sort.Exception) = Some (next_number st)
contents_number st id (Some sort.Enumerator) =
    enumerator_number st (source_in (object_at st.objects id).kind)
contents_number st id (Some sort.Yielder) =
    yielder_number st (yielder_in (object_at st.objects id).kind)

unfoldable pub contents_copied : Store → ObjId → ObjId → Option Sort → Store
contents_copied st class id None = st
contents_copied st class id (Some sort.Plain) = blank_made st class blank.Plain
contents_copied st class id (Some sort.Class) = class_copied st id
contents_copied st class id (Some sort.Singleton) = st
contents_copied st class id (Some sort.Module) = module_copied st id
contents_copied st class id (Some sort.String) = text_copied st class id
contents_copied st class id (Some sort.Array) = array_copied st class id
contents_copied st class id (Some sort.Hash) = hash_copied st class id
contents_copied st class id (Some sort.Range) =
    range_copied st class (range_in (object_at st.objects id).kind)
contents_copied st class id (Some sort.Proc) =
    proc_copied st id (core_proc_in st (object_at st.objects id).kind)
contents_copied st class id (Some sort.Fiber) =
    fiber_copied st class (fiber_of (object_at st.objects id).kind)
contents_copied st class id (Some sort.Exception) =
    exception_copied st class (object_at st.objects id).kind
contents_copied st class id (Some sort.Enumerator) =
    enumerator_copied st class (source_in (object_at st.objects id).kind)
contents_copied st class id (Some sort.Yielder) =
    yielder_copied st (yielder_in (object_at st.objects id).kind)

-- The instance variables, in their order.

abbrev pub with_variable : Store → ObjId → Variable → Store
with_variable st id variable = if has_object st.objects id && has_symbol st variable.name
    then parts.with_objects st (parts.with_variable st.objects id variable.name (own st variable.value)) else st

abbrev pub with_variables : Store → ObjId → List Variable → Store
with_variables st id [] = st
with_variables st id (v ∷ vs) = with_variables (with_variable st id v) id vs

-- the variables that an object has then
abbrev pub variables_copied : Store → ObjId → Option ObjId → Store
variables_copied st id None = st
variables_copied st id (Some made) = with_variables st made (object_at st.objects id).variables

abbrev pub given : Value → Option ObjId → Value
given v None = v
given v (Some made) = Obj made

-- the class of a copy
abbrev pub class_for : Store → ObjId → ObjId
class_for st id = plain_class_of st.objects (own st (Obj id))

-- A copy of a value: what is no object, and a singleton class, is given itself.

unfoldable pub copy_of : Store → Value → Value
copy_of st Nil = Nil
copy_of st True = True
copy_of st False = False
copy_of st (Int n) = Int n
copy_of st (Sym name) = Sym name
copy_of st (Obj id) = given (Obj id) (contents_number st id (sort_of_value st (Obj id)))

unfoldable pub copied : Store → Value → Store
copied st Nil = st
copied st True = st
copied st False = st
copied st (Int n) = st
copied st (Sym name) = st
copied st (Obj id) = variables_copied
    (contents_copied st (class_for st id) id (sort_of_value st (Obj id))) id
    (contents_number st id (sort_of_value st (Obj id)))

-- the count of changes stays as it was, but where the copy is a new class or module
abbrev pub copy_left : Held → Value → Held
copy_left held v = record held { store = copied held.store v }

-- whether a copy is a new class or module, whose methods and modules count as changes
abbrev pub is_new_space : Option Sort → Bool
is_new_space None = false
is_new_space (Some sort.Plain) = false
is_new_space (Some sort.Class) = true
is_new_space (Some sort.Singleton) = false
is_new_space (Some sort.Module) = true
is_new_space (Some sort.String) = false
is_new_space (Some sort.Array) = false
is_new_space (Some sort.Hash) = false
is_new_space (Some sort.Range) = false
is_new_space (Some sort.Proc) = false
is_new_space (Some sort.Fiber) = false
is_new_space (Some sort.Exception) = false
is_new_space (Some sort.Enumerator) = false
is_new_space (Some sort.Yielder) = false
