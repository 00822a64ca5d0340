-- What the core methods do step by step that call others, read, write, or move between fibers (ISO/IEC 30170:2012,
-- clause 15; fibers are an addition). Each is an iteration: it tells what it wants next, and goes on with the answer.
use Rattle.std.specs.Prelude.{ℕ, ℤ, pos, negsuc, zero, suc, ◌+◌, List, [], ◌∷◌, ◌++◌, length, get_or, drop, nat_le, nat_lt, nat_eq, codes, Bool, true, false, ◌&&◌, if◌then◌else◌, Option, Some, None}
use Rattle.rb_value.specs.declared.value.Value.{Value}
use Rattle.rb_value.specs.declared.value.Value.TheVariants.{Nil, True, False, Int, Sym, Obj}
use Rattle.rb_value.specs.declared.value.ObjId.{ObjId}
use Rattle.rb_value.specs.declared.value.SymId.{SymId}
use Rattle.rb_value.specs.Object.{Object}
use Rattle.rb_value.specs.declared.kind.Kind.{Kind}
use Rattle.rb_value.specs.declared.kind.Kind.TheVariants as kind
use Rattle.rb_value.specs.declared.core_class.CoreClass.{CoreClass}
use Rattle.rb_value.specs.declared.core_class.CoreClass.TheVariants as class
use Rattle.def_core.specs.declared.cause.Cause.{Cause}
use Rattle.def_core.specs.declared.cause.Cause.TheVariants as cause
use Rattle.def_core.specs.Store.{Store, core, fresh, next_number, object_at, with_object}
use Rattle.def_core.specs.Classes.{plain_class_of, lineage, is_member}
use Rattle.def_core.specs.Bind.{elements_in}
use Rattle.def_core.specs.Find.{same_value}
use Rattle.def_core.specs.Texts.{class_name}
use Rattle.def_core.specs.Parts.{no_pairs, with_objects}
use Rattle.def_core.specs.Changes.{intern, Interned, is_class_sort, object_of_sort}
use Rattle.def_rows.specs.Answers.{items_object, text_object}
use Rattle.def_calls.specs.Views.{object_in, integer_in, symbol_in, present, kind_in, string_of, message_of, detail_of, an_array, a_proc, a_fiber, an_exception}
use Rattle.def_calls.specs.Checks.{counted, with_block, wanted}
use Rattle.def_calls.specs.Values.{text_of_value, shown}
use Rattle.def_calls.specs.Plain.{with_message}
use Rattle.def_calls.specs.Rows.{StarRow}
use Rattle.def_calls.specs.Rows

-- Where an iteration stands.
pub data Iteration : Type 0 where
  -- not begun: the row, the receiver, the arguments and the block
  begun : StarRow → Value → List Value → Option ObjId → Iteration
  -- gives what its call gives
  handing : Iteration
  -- these are left to write; the second waits for the text of one
  putting : List Value → Iteration
  putting_text : List Value → Iteration
  printing : List Value → Iteration
  printing_text : List Value → Iteration
  -- the same, and all arguments
  inspecting : List Value → List Value → Iteration
  inspecting_text : List Value → List Value → Iteration
  -- raises what its call gives
  raising : Iteration
  -- calls the Proc again and again
  looping : ObjId → Iteration
  -- goes on at that place of the Array
  visiting : ObjId → ℕ → ObjId → Iteration
  -- goes on with that number up to the receiver
  counting : ℤ → ℕ → ObjId → Iteration
  -- gives the object
  initializing : Value → Iteration
  -- an exception waits for its message, or for the one by which it is shown, or for the text of that
  messaging : Value → Iteration
  telling : Value → Iteration
  telling_text : Value → Iteration
  -- an exception that nothing rescued is asked for its message, and is raised again with that
  reporting : ObjId → Iteration
  reported : ObjId → Iteration

-- What an iteration wants next, and where it stands then.
pub data Plan : Type 0 where
  finishes : Value → Plan
  fails : Cause → Plan
  raises : ObjId → Plan
  -- the method of that name, which has to be public or not
  sends : Iteration → Value → SymId → List Value → Option ObjId → Bool → Plan
  calls : Iteration → ObjId → List Value → Option ObjId → Plan
  writes : Iteration → List ℕ → Plan
  reads : Iteration → Plan
  resumes : Iteration → ObjId → List Value → Plan
  yields : Iteration → List Value → Plan

pub record Planned : Type 0 where
  pub plan : Plan
  pub store : Store

abbrev pub plans : Store → Plan → Planned
plans st p = record { plan = p; store = st }

-- a failure
abbrev pub refuse : Store → Cause → Planned
refuse st c = plans st (fails c)

-- a call by a name of the language
abbrev pub sends_named : Iteration → Value → List Value → Option ObjId → Interned → Planned
sends_named it recv args block named = plans named.store (sends it recv named.symbol args block false)

-- puts, print and p (15.3.1.2.10 to 15.3.1.2.12).

-- the elements of an Array, down to 10,000 levels
abbrev pub both : Option (List Value) → Option (List Value) → Option (List Value)
both None rest = None
both (Some vs) None = None
both (Some vs) (Some us) = Some (vs ++ us)

abbrev pub all_flat : (Value → Option (List Value)) → List Value → Option (List Value)
all_flat flat [] = Some []
all_flat flat (v ∷ vs) = both (flat v) (all_flat flat vs)

abbrev pub flat_by : (Value → Option (List Value)) → Value → Option (List Value) → Option (List Value)
flat_by flat v None = Some (v ∷ [])
flat_by flat v (Some vs) = all_flat flat vs

unfoldable pub flattened : ℕ → List Object → Value → Option (List Value)
flattened zero objects v = flat_by (λ u. None) v (elements_in objects v)
flattened (suc n) objects v = flat_by (λ u. flattened n objects u) v (elements_in objects v)

-- a line ends with one newline
abbrev pub line : List ℕ → List ℕ
line [] = 10 ∷ []
line (b ∷ []) = if nat_eq b 10 then b ∷ [] else (b ∷ 10 ∷ [])
line (b ∷ c ∷ cs) = b ∷ line (c ∷ cs)

-- nil is an empty line, and any other value is asked for its text
abbrev pub puts_value : Store → Option Value → List Value → Planned
puts_value st None rest = plans st (writes (putting rest) (line []))
puts_value st (Some v) rest = sends_named (putting_text rest) v [] None (intern st (codes "to_s"))

abbrev pub puts_next : Store → List Value → Planned
puts_next st [] = plans st (finishes Nil)
puts_next st (v ∷ rest) = puts_value st (present v) rest

abbrev pub puts_flat : Store → Option (List Value) → Planned
puts_flat st None = refuse st cause.StackTooDeep
puts_flat st (Some vs) = puts_next st vs

abbrev pub puts_all : Store → List Value → Planned
puts_all st [] = plans st (writes (putting []) (line []))
puts_all st (v ∷ vs) = puts_flat st (all_flat (λ u. flattened 9999 st.objects u) (v ∷ vs))

abbrev pub print_next : Store → List Value → Planned
print_next st [] = plans st (finishes Nil)
print_next st (v ∷ rest) = sends_named (printing_text rest) v [] None (intern st (codes "to_s"))

-- p gives nil, its argument, or an Array of its arguments
abbrev pub gives_all : Store → List Value → Planned
gives_all st [] = plans st (finishes Nil)
gives_all st (v ∷ []) = plans st (finishes v)
gives_all st (v ∷ u ∷ us) = plans (with_object st (items_object (v ∷ u ∷ us))) (finishes (Obj (next_number st)))

abbrev pub inspect_next : Store → List Value → List Value → Planned
inspect_next st [] all = gives_all st all
inspect_next st (v ∷ rest) all = sends_named (inspecting_text rest all) v [] None (intern st (codes "inspect"))

-- raise (15.3.1.2.12): of a String, of a class by its method new, or of an exception, which another message makes a
-- copy.

abbrev pub raise_text : Store → ObjId → Option (List ℕ) → Planned
raise_text st id None = refuse st cause.NotException
raise_text st id (Some bytes) =
    plans (with_object st (fresh (core class.RuntimeError) (kind.Exception (Obj id) Nil))) (raises (next_number st))

-- a copy of an exception with another message
abbrev pub with_another : List Object → ObjId → Value → Object
with_another objects id m = record (object_at objects id) {
  singleton = None;
  kind = kind.Exception m (detail_of (object_at objects id).kind);
}

abbrev pub raise_by : Store → ObjId → List Value → Option ObjId → Option ObjId → Planned
raise_by st id more (Some c) e = sends_named raising (Obj id) more None (intern st (codes "new"))
raise_by st id [] None (Some e) = plans st (raises id)
raise_by st id [] None None = raise_text st id (string_of (kind_in st.objects (Obj id)))
raise_by st id (m ∷ ms) None None = refuse st cause.NotException
raise_by st id (m ∷ []) None (Some e) =
    plans (with_object st (with_another st.objects id m)) (raises (next_number st))
raise_by st id (m ∷ n ∷ ms) None (Some e) = refuse st cause.NotException

abbrev pub raise_value : Store → List Value → Option ObjId → Planned
raise_value st more None = refuse st cause.NotException
raise_value st more (Some id) = raise_by st id more (object_of_sort is_class_sort st.objects (Obj id))
    (an_exception st.objects (Obj id))

abbrev pub raise_all : Store → List Value → Planned
raise_all st [] = refuse st cause.Unhandled
raise_all st (v ∷ more) = raise_value st more (object_in v)

abbrev pub raise_made : Store → Option ObjId → Planned
raise_made st None = refuse st cause.NotException
raise_made st (Some e) = plans st (raises e)

-- Array#each (15.2.12.5.10), which reads the length anew at each turn, and Integer#times (15.2.8.3.22).

abbrev pub visit : Store → ObjId → ℕ → ObjId → List Value → Planned
visit st a i p vs =
    plans st (if nat_lt i (length vs) then calls (visiting a (i + 1) p) p (get_or vs i Nil ∷ []) None
    else finishes (Obj a))

abbrev pub elements : Option (List Value) → List Value
elements None = []
elements (Some vs) = vs

abbrev pub visit_next : Store → ObjId → ℕ → ObjId → Planned
visit_next st a i p = visit st a i p (elements (elements_in st.objects (Obj a)))

abbrev pub steps_up : ℤ → ℕ
steps_up (pos n) = n
steps_up (negsuc n) = 0

abbrev pub count_next : Store → ℤ → ℕ → ObjId → Planned
count_next st z i p =
    plans st (if nat_lt i (steps_up z) then calls (counting z (i + 1) p) p (Int (pos i) ∷ []) None
    else finishes (Int z))

-- Class#new (15.2.3.3.3): an object of the class's kind, then its method initialize.

abbrev pub kind_by : List (CoreClass × Option Kind) → List ObjId → Option Kind
kind_by [] above = Some kind.Plain
kind_by (k ∷ ks) above = if is_member above (core k.0) then k.1 else kind_by ks above

-- none where the language makes the objects itself, or a `new` of their own does
abbrev pub new_kinds : List (CoreClass × Option Kind)
new_kinds =
    (class.Exception, Some (kind.Exception Nil Nil)) ∷ (class.Array, Some (kind.Array []))
    ∷ (class.String, Some (kind.String [])) ∷ (class.Hash, Some (kind.Hash no_pairs)) ∷ (class.Numeric, None)
    ∷ (class.NilClass, None) ∷ (class.TrueClass, None) ∷ (class.FalseClass, None) ∷ (class.Symbol, None)
    ∷ (class.Module, None) ∷ (class.Proc, None) ∷ (class.Fiber, None) ∷ (class.Range, None)
    ∷ (class.Enumerator, None) ∷ (class.Yielder, None) ∷ []

unfoldable pub kind_for : List Object → ObjId → Option Kind
kind_for objects c = kind_by new_kinds (lineage objects c)

abbrev pub initialize_new : Store → Value → List Value → Option ObjId → Planned
initialize_new st v args block = sends_named (initializing v) v args block (intern st (codes "initialize"))

abbrev pub without_new : ObjId → Interned → Planned
without_new c named =
    refuse named.store (cause.UndefinedMethod named.symbol (plain_class_of named.store.objects (Obj c)))

abbrev pub new_of : Store → ObjId → List Value → Option ObjId → Option Kind → Planned
new_of st c args block None = without_new c (intern st (codes "new"))
new_of st c args block (Some k) =
    initialize_new (with_object st (fresh c k)) (Obj (next_number st)) args block

-- message and inspect (15.2.22.5.3, 15.2.22.5.2) go by what to_s gives. The object that an exception was made with,
-- where that is no String, is asked for its own to_s.

abbrev pub unless_text : ObjId → Option (List ℕ) → Option Value
unless_text o None = Some (Obj o)
unless_text o (Some bytes) = None

abbrev pub other_in : Store → Option ObjId → Option Value
other_in st None = None
other_in st (Some o) = unless_text o (string_of (kind_in st.objects (Obj o)))

abbrev pub other_object : Store → Value → Option Value
other_object st e = other_in st (object_in (message_of (kind_in st.objects e)))

abbrev pub is_it : Option Value → Value → Bool
is_it None v = false
is_it (Some o) v = same_value o v

abbrev pub ask : Store → Iteration → Value → Planned
ask st it v = sends_named it v [] None (intern st (codes "to_s"))

abbrev pub ask_exception : Store → Iteration → Value → Planned
ask_exception st it e =
    wanted (refuse st) st.objects class.Exception e (an_exception st.objects e) (λ id. ask st it e)

abbrev pub messaging_by : Value → Option Value → Iteration
messaging_by e None = handing
messaging_by e (Some o) = messaging e

abbrev pub give_message : Store → Value → Value → Planned
give_message st e v = if is_it (other_object st e) v then ask st handing v else plans st (finishes v)

-- the class and the message, and the class alone where the message is empty
abbrev pub inspected : List ℕ → List ℕ → List ℕ
inspected name [] = name
inspected name (b ∷ bs) = codes "#<" ++ name ++ codes ": " ++ (b ∷ bs) ++ codes ">"

abbrev pub told : Store → Value → Value → Planned
told st e v =
    plans (with_object st (text_object (inspected (class_name st (plain_class_of st.objects e)) (shown st v))))
    (finishes (Obj (next_number st)))

abbrev pub tell : Store → Value → Value → Planned
tell st e v = if is_it (other_object st e) v then ask st (telling_text e) v else told st e v

-- the message that is seen of one that nothing rescued: none where what it gave is no String
abbrev pub text_or_nil : Value → Option (List ℕ) → Value
text_or_nil v None = Nil
text_or_nil v (Some bytes) = v

-- send and its kin (15.3.1.3.44), the call of a Proc (15.2.17.4.3), and fibers.

abbrev pub send_to : Store → Value → Value → List Value → Option ObjId → Bool → Planned
send_to st recv name args block public = wanted (refuse st) st.objects class.Symbol name (symbol_in name)
    (λ s. plans st (sends handing recv s args block public))

-- The first plan of each row.
unfoldable pub start : StarRow → Value → List Value → Option ObjId → Store → Planned
start Rows.puts recv args block st = puts_all st args
start Rows.print recv args block st = print_next st args
start Rows.p recv args block st = inspect_next st args args
start Rows.gets recv args block st = counted (refuse st) 0 (Some 0) args (plans st (reads handing))
start Rows.raise_exception recv args block st = counted (refuse st) 0 (Some 2) args (raise_all st args)
start Rows.loop recv args block st =
    counted (refuse st) 0 (Some 0) args (with_block (refuse st) block (λ p. plans st (calls (looping p) p [] None)))
start Rows.send recv args block st =
    counted (refuse st) 1 None args (send_to st recv (get_or args 0 Nil) (drop 1 args) block false)
start Rows.public_send recv args block st =
    counted (refuse st) 1 None args (send_to st recv (get_or args 0 Nil) (drop 1 args) block true)
start Rows.each_element recv args block st =
    counted (refuse st) 0 (Some 0) args (with_block (refuse st) block
    (λ p. wanted (refuse st) st.objects class.Array recv (an_array st.objects recv) (λ a. visit_next st a 0 p)))
start Rows.count_up recv args block st =
    counted (refuse st) 0 (Some 0) args (with_block (refuse st) block
    (λ p. wanted (refuse st) st.objects class.Integer recv (integer_in recv) (λ z. count_next st z 0 p)))
start Rows.new_object recv args block st =
    wanted (refuse st) st.objects class.Class recv (object_of_sort is_class_sort st.objects recv)
    (λ c. new_of st c args block (kind_for st.objects c))
start Rows.call_proc recv args block st =
    wanted (refuse st) st.objects class.Proc recv (a_proc st.objects recv) (λ p. plans st (calls handing p args block))
start Rows.resume recv args block st =
    wanted (refuse st) st.objects class.Fiber recv (a_fiber st.objects recv) (λ f. plans st (resumes handing f args))
start Rows.yield recv args block st = plans st (yields handing args)
start Rows.send_kept recv args block st =
    counted (refuse st) 1 None args (send_to st (get_or args 0 Nil) recv (drop 1 args) block false)
start Rows.exception_message recv args block st =
    counted (refuse st) 0 (Some 0) args (ask_exception st (messaging_by recv (other_object st recv)) recv)
start Rows.exception_inspection recv args block st =
    counted (refuse st) 0 (Some 0) args (ask_exception st (telling recv) recv)

-- The next plan, with the answer to the one before.
unfoldable pub next : Iteration → Value → Store → Planned
next (begun row recv args block) v st = start row recv args block st
next handing v st = plans st (finishes v)
next (putting rest) v st = puts_next st rest
next (putting_text rest) v st = plans st (writes (putting rest) (line (text_of_value st v)))
next (printing rest) v st = print_next st rest
next (printing_text rest) v st = plans st (writes (printing rest) (text_of_value st v))
next (inspecting rest all) v st = inspect_next st rest all
next (inspecting_text rest all) v st = plans st (writes (inspecting rest all) (text_of_value st v ++ 10 ∷ []))
next raising v st = raise_made st (an_exception st.objects v)
next (looping p) v st = plans st (calls (looping p) p [] None)
next (visiting a i p) v st = visit_next st a i p
next (counting z i p) v st = count_next st z i p
next (initializing o) v st = plans st (finishes o)
next (messaging e) v st = give_message st e v
next (telling e) v st = tell st e v
next (telling_text e) v st = told st e v
next (reporting e) v st = sends_named (reported e) (Obj e) [] None (intern st (codes "message"))
next (reported e) v st =
    plans (with_objects st (with_message st.objects e (text_or_nil v (string_of (kind_in st.objects v))))) (raises e)

-- loop ends with the result of a StopIteration that leaves its block; no other iteration stops an exception
abbrev pub result_if_stop : Store → ObjId → Option Value
result_if_stop st e =
    if is_member (lineage st.objects (plain_class_of st.objects (Obj e))) (core class.StopIteration)
    then Some (detail_of (kind_in st.objects (Obj e))) else None

unfoldable pub caught : Iteration → ObjId → Store → Option Value
caught (begun row recv args block) e st = None
caught handing e st = None
caught (putting rest) e st = None
caught (putting_text rest) e st = None
caught (printing rest) e st = None
caught (printing_text rest) e st = None
caught (inspecting rest all) e st = None
caught (inspecting_text rest all) e st = None
caught raising e st = None
caught (looping p) e st = result_if_stop st e
caught (visiting a i p) e st = None
caught (counting z i p) e st = None
caught (initializing o) e st = None
caught (messaging x) e st = None
caught (telling x) e st = None
caught (telling_text x) e st = None
caught (reporting x) e st = None
caught (reported x) e st = None

-- A read takes a line with its newline, or what is left; nil at the end. A line past 2^28 bytes fails.

abbrev pub line_length : List ℕ → ℕ
line_length [] = 0
line_length (b ∷ bs) = if nat_eq b 10 then 1 else (line_length bs + 1)
