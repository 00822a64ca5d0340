-- What a core method gives, and what its call then gives and leaves.
use Rattle.std.specs.Prelude.{ℕ, ℤ, zero, suc, ◌+◌, List, [], ◌∷◌, ◌++◌, map, length, Option, Some, None}
use Rattle.rb_value.specs.declared.value.Value.{Value}
use Rattle.rb_value.specs.declared.value.Value.TheVariants.{Nil, Int, Sym, Obj}
use Rattle.rb_value.specs.declared.value.ObjId.{ObjId}
use Rattle.rb_value.specs.declared.core_class.CoreClass.{CoreClass}
use Rattle.rb_value.specs.declared.core_class.CoreClass.TheVariants as class
use Rattle.rb_value.specs.declared.kind.Kind.{Kind}
use Rattle.rb_value.specs.declared.kind.Kind.TheVariants as kind
use Rattle.rb_value.specs.declared.kind.Sort.TheVariants as sort
use Rattle.rb_value.specs.declared.outcome.Outcome.{Outcome}
use Rattle.rb_value.specs.declared.outcome.Outcome.TheVariants as outcome
use Rattle.rb_value.specs.Object.{Object}
use Rattle.rb_value.specs.Value.{truth}
use Rattle.def_core.specs.declared.cause.Cause.{Cause}
use Rattle.def_core.specs.declared.cause.Cause.TheVariants as cause
use Rattle.def_core.specs.Store.{Store, Done, core, fresh, object_number, next_number, with_object}
use Rattle.def_core.specs.Parts.{with_objects, text_at, with_text, with_more, with_elements}
use Rattle.def_core.specs.Changes.{gives, fails, intern, Interned}
use Rattle.row_answer.specs.declared.answer.Fault.{Fault}
use Rattle.row_answer.specs.declared.answer.Fault.TheVariants as fault
use Rattle.row_answer.specs.declared.answer.Plain.{Plain}
use Rattle.row_answer.specs.declared.answer.Plain.TheVariants as plain
use Rattle.row_table.specs.declared.signature.Signature.{Signature}
use Rattle.def_rows.specs.declared.answer.Answer.{Answer}
use Rattle.def_rows.specs.declared.answer.Answer.TheVariants as answer
use Rattle.def_rows.specs.Operands.{place_of}
use Rattle.def_rows.specs.Checking.{check}

abbrev pub cause_of : Fault → Cause
cause_of fault.NegativeExponent = cause.NegativeExponent
cause_of fault.NegativeCount = cause.NegativeCount
cause_of fault.BadBase = cause.BadBase
cause_of fault.BadRange = cause.BadRange
cause_of fault.InvalidInteger = cause.InvalidInteger
cause_of fault.ComparisonFailed = cause.ComparisonFailed
cause_of fault.TooFewItems = cause.TooFewItems
cause_of fault.ArrayTooBig = cause.ArrayTooBig
cause_of fault.StringTooLong = cause.StringTooLong
cause_of fault.IntegerOverflow = cause.IntegerOverflow
cause_of fault.DividedByZero = cause.DividedByZero
cause_of (fault.IndexOutOfRange z) = cause.IndexOutOfRange z
cause_of (fault.CharOutOfRange z) = cause.CharOutOfRange z

abbrev pub text_object : List ℕ → Object
text_object bytes = fresh (core class.String) (kind.String bytes)

abbrev pub items_object : List Value → Object
items_object xs = fresh (core class.Array) (kind.Array xs)

-- a value as the outcome
abbrev pub given : Value → Outcome
given v = outcome.Value v

-- the call gives a new object
abbrev pub makes : Store → Object → Done
makes st o = gives (Obj (next_number st)) (with_object st o)

-- so many objects with numbers in a row
unfoldable pub numbered : ℕ → ℕ → List Value
numbered first zero = []
numbered first (suc n) = numbered first n ++ Obj (object_number (first + n)) ∷ []

abbrev pub with_texts : Store → List (List ℕ) → Store
with_texts st texts = with_objects st (st.objects ++ map text_object texts)

-- the call gives a new Array of new Strings, which stand before it
abbrev pub makes_texts : Store → List (List ℕ) → Done
makes_texts st texts = makes (with_texts st texts) (items_object (numbered (length st.objects) (length texts)))

-- the bytes that a String has, with more or in their place
abbrev pub appended : Store → List ℕ → Option ObjId → Store
appended st more None = st
appended st more (Some id) = with_objects st (with_text st.objects id (text_at st.objects id ++ more))

abbrev pub rewritten : Store → List ℕ → Option ObjId → Store
rewritten st bytes None = st
rewritten st bytes (Some id) = with_objects st (with_text st.objects id bytes)

-- the call gives the receiver, a String, with more bytes after its own
abbrev pub appends : Store → Value → List ℕ → Done
appends st recv more = gives recv (appended st more (place_of st.objects sort.String recv))

abbrev pub interned : Interned → Done
interned i = gives (Sym i.symbol) i.store

abbrev pub finish_plain : Store → Value → Plain → Done
finish_plain st recv plain.Nil = gives Nil st
finish_plain st recv (plain.Truth b) = gives (truth b) st
finish_plain st recv (plain.Int z) = gives (Int z) st
finish_plain st recv plain.Receiver = gives recv st
finish_plain st recv (plain.Text bytes) = makes st (text_object bytes)
finish_plain st recv (plain.Symbol name) = interned (intern st name)
finish_plain st recv (plain.Texts texts) = makes_texts st texts
finish_plain st recv (plain.Numbers zs) = makes st (items_object (map Int zs))
finish_plain st recv (plain.Append more) = appends st recv more
finish_plain st recv (plain.Replace bytes) = gives recv (rewritten st bytes (place_of st.objects sort.String recv))
finish_plain st recv (plain.Fail f) = fails st (cause_of f)

abbrev pub pushed : Store → List Value → Option ObjId → Store
pushed st more None = st
pushed st more (Some id) = with_objects st (with_more st.objects id more)

abbrev pub replaced : Store → List Value → Option ObjId → Store
replaced st xs None = st
replaced st xs (Some id) = with_objects st (with_elements st.objects id xs)

-- the call gives the receiver, an Array, with more elements after its own
abbrev pub pushes : Store → Value → List Value → Done
pushes st recv more = gives recv (pushed st more (place_of st.objects sort.Array recv))

abbrev pub finish : Store → Value → Answer → Done
finish st recv (answer.Plain a) = finish_plain st recv a
finish st recv (answer.Value v) = gives v st
finish st recv (answer.Items xs) = makes st (items_object xs)
finish st recv (answer.Range c r) = makes st (fresh c (kind.Range r))
finish st recv (answer.String c bytes) = makes st (fresh c (kind.String bytes))
finish st recv (answer.Put bytes v) = gives v (rewritten st bytes (place_of st.objects sort.String recv))
finish st recv (answer.Push more) = pushes st recv more
finish st recv (answer.Replace xs) = gives recv (replaced st xs (place_of st.objects sort.Array recv))
finish st recv (answer.Fail c) = fails st c

-- the answer of a call: that for which it is refused, or that of the method
abbrev pub answer_of : Option Cause → Answer → Answer
answer_of (Some c) a = answer.Fail c
answer_of None a = a

-- what the call of a row gives and leaves, by what it takes and what it gives
unfoldable pub called : Signature → (Store → Value → List Value → Answer) → Store → Value → List Value
    → Option ObjId → Done
called takes gives st recv args block =
    finish st recv (answer_of (check takes st.objects recv args block) (gives st recv args))
