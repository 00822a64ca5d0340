-- What each row of String gives belongs to the store.
use Rattle.std.proofs.Common.{◌≡◌, Bool, true, false, ℕ, ℤ, List, [], ◌∷◌, arith, ap, if◌then◌else◌}
use Rattle.std.specs.Prelude.{Option, Some, None, IfSome, Result, Ok, Err, pos}
use Rattle.rb_value.specs.declared.value.Value.{Value}
use Rattle.rb_value.specs.declared.value.Value.TheVariants.{Nil, True, False, Int, Sym, Obj}
use Rattle.rb_value.specs.declared.kind.Sort.{Sort}
use Rattle.rb_value.specs.declared.kind.Sort.TheVariants as sort
use Rattle.rb_value.specs.contracts.kind.SortPartialEq.TheImpl as sorts
use Rattle.rb_value.specs.declared.core_class.CoreClass.{CoreClass}
use Rattle.rb_value.specs.declared.core_class.CoreClass.TheVariants as class
use Rattle.def_core.specs.declared.cause.Cause.{Cause}
use Rattle.def_core.specs.declared.cause.Cause.TheVariants as cause
use Rattle.def_core.specs.Store.{Store, core, sort_at}
use Rattle.def_core.specs.Classes.{plain_class_of}
use Rattle.def_core.specs.Sound.{Census, census, Sound, Class, Is, IsValue, AllAre, plays}
use Rattle.def_core.proofs.Good.{is_good, has_role}
use Rattle.rb_integer.specs.declared.ends.Bounds.{Bounds}
use Rattle.rb_integer.specs.declared.ends.Bounds.TheVariants.{Integers, Bytes as Letters}
use Rattle.rb_integer.specs.declared.ends.Ends.{Ends}
use Rattle.rb_raise.specs.Causes.{SoundCause}
use Rattle.rb_string.specs.declared.failure.StringFailure.{StringFailure}
use Rattle.rb_string.specs.Editing.{replaced}
use Rattle.row_table.specs.declared.signature.Wanted.TheVariants.{Of}
use Rattle.row_table.specs.declared.string.StringMethod.{StringMethod}
use Rattle.row_table.specs.declared.string.StringMethod.TheVariants as method
use Rattle.def_rows.specs.declared.answer.Answer.{Answer}
use Rattle.def_rows.specs.declared.answer.Answer.TheVariants as answer
use Rattle.def_rows.specs.Answers.{answer_of}
use Rattle.def_rows.specs.Checking.{has_contents, unfit, first_of}
use Rattle.def_rows.specs.Operands.{text, is_text, integer}
use Rattle.def_rows.specs.RangeRows.{range_of}
use Rattle.def_rows.specs.StringRows.{if_included, in_bounds, in_range, at_object, at_value, element, stored, store_part, set_element, of_bytes, gives, made_in, new_string}
use Rattle.core_rows.specs.Belonging.{SoundAnswer}
use Rattle.core_rows.proofs.Places.{by_place}
use Rattle.core_rows.proofs.Checked.{core_is, plain_is}

is_class : (s : Sort) → sorts.ghosts.eq s sort.Class ≡ true → plays Class s ≡ true
is_class s h = let e : s ≡ sort.Class = grind (arith, h) in ap (plays Class) e

module _ (st : Store) (sound : Sound st) where
  refused : (o : Option Cause) (a : Answer) → IfSome o (SoundCause (census st)) → SoundAnswer (census st) a
      → SoundAnswer (census st) (answer_of o a)
  refused None a h g = g
  refused (Some c) a h g = h

  first : (o p : Option Cause) → IfSome o (SoundCause (census st)) → IfSome p (SoundCause (census st))
      → IfSome (first_of o p) (SoundCause (census st))
  first None p h g = g
  first (Some c) p h g = h

  unfit_is : (c : CoreClass) (v : Value) → IsValue (census st) v
      → IfSome (unfit (Of c) st.objects v) (SoundCause (census st))
  unfit_is c v is = by (has_contents c st.objects v)
    where
      by : (b : Bool)
          → IfSome (if b then None else Some (cause.Expected (core c) (plain_class_of st.objects v)))
          (SoundCause (census st))
      by true = tt
      by false = (core_is st sound c, plain_is st sound v is)

  in_bounds_is : (bytes : List ℕ) (v : Value) → IsValue (census st) v → (exclusive : Bool) (b : Bounds)
      → SoundAnswer (census st) (in_bounds st.objects bytes v exclusive b)
  in_bounds_is bytes v is exclusive (Integers a b) = tt
  in_bounds_is bytes v is exclusive (Letters a b) = (core_is st sound class.Integer, plain_is st sound v is)

  in_range_is : (bytes : List ℕ) (v : Value) → IsValue (census st) v → (r : Option Ends)
      → SoundAnswer (census st) (in_range st.objects bytes v r)
  in_range_is bytes v is None = (core_is st sound class.Integer, plain_is st sound v is)
  in_range_is bytes v is (Some e) = in_bounds_is bytes v is e.is_exclusive e.bounds

  at_object_is : (bytes : List ℕ) (v : Value) → IsValue (census st) v
      → SoundAnswer (census st) (at_object st.objects bytes v)
  at_object_is bytes v is = by (is_text st.objects v)
    where
      by : (b : Bool) → SoundAnswer (census st) (if b then answer.Plain (if_included bytes (text st.objects v))
          else in_range st.objects bytes v (range_of st.objects v))
      by true = tt
      by false = in_range_is bytes v is (range_of st.objects v)

  at_value_is : (bytes : List ℕ) (v : Value) → IsValue (census st) v
      → SoundAnswer (census st) (at_value st.objects bytes v)
  at_value_is bytes Nil is = (core_is st sound class.Integer, plain_is st sound Nil is)
  at_value_is bytes True is = (core_is st sound class.Integer, plain_is st sound True is)
  at_value_is bytes False is = (core_is st sound class.Integer, plain_is st sound False is)
  at_value_is bytes (Int z) is = tt
  at_value_is bytes (Sym s) is = (core_is st sound class.Integer, plain_is st sound (Sym s) is)
  at_value_is bytes (Obj id) is = at_object_is bytes (Obj id) is

  element_is : (bytes : List ℕ) (args : List Value) → AllAre (IsValue (census st)) args
      → SoundAnswer (census st) (element st.objects bytes args)
  element_is bytes [] all = (core_is st sound class.Integer, plain_is st sound Nil tt)
  element_is bytes (v ∷ []) all = at_value_is bytes v all.0
  element_is bytes (v ∷ n ∷ rest) all =
      refused (first_of (unfit (Of class.Integer) st.objects v) (unfit (Of class.Integer) st.objects n)) _
      (first (unfit (Of class.Integer) st.objects v) (unfit (Of class.Integer) st.objects n)
      (unfit_is class.Integer v all.0) (unfit_is class.Integer n all.1.0)) tt

  stored_is : (v : Value) (r : Result (List ℕ) StringFailure) → IsValue (census st) v
      → SoundAnswer (census st) (stored v r)
  stored_is v (Ok bytes) is = is
  stored_is v (Err f) is = tt

  store_part_is : (bytes : List ℕ) (index count : ℤ) (new : Value) → IsValue (census st) new
      → SoundAnswer (census st) (store_part st.objects bytes index count new)
  store_part_is bytes index count new is =
      refused (unfit (Of class.String) st.objects new) _ (unfit_is class.String new is)
      (stored_is new (replaced bytes index count (text st.objects new)) is)

  set_element_is : (bytes : List ℕ) (args : List Value) → AllAre (IsValue (census st)) args
      → SoundAnswer (census st) (set_element st.objects bytes args)
  set_element_is bytes [] all = (core_is st sound class.Integer, plain_is st sound Nil tt)
  set_element_is bytes (v ∷ []) all = (core_is st sound class.Integer, plain_is st sound v all.0)
  set_element_is bytes (v ∷ new ∷ []) all = store_part_is bytes (integer v) (pos 1) new all.1.0
  set_element_is bytes (v ∷ n ∷ new ∷ rest) all =
      refused (unfit (Of class.Integer) st.objects n) _ (unfit_is class.Integer n all.1.0)
      (store_part_is bytes (integer v) (integer n) new all.1.1.0)

  by_bytes : (m : StringMethod) (bytes : List ℕ) (args : List Value) → AllAre (IsValue (census st)) args
      → SoundAnswer (census st) (of_bytes m st.objects bytes args)
  by_bytes method.Plus bytes args all = tt
  by_bytes method.Times bytes args all = tt
  by_bytes method.Equal bytes args all = tt
  by_bytes method.Order bytes args all = tt
  by_bytes method.Less bytes args all = tt
  by_bytes method.AtMost bytes args all = tt
  by_bytes method.Greater bytes args all = tt
  by_bytes method.AtLeast bytes args all = tt
  by_bytes method.Element bytes args all = element_is bytes args all
  by_bytes method.SetElement bytes args all = set_element_is bytes args all
  by_bytes method.Length bytes args all = tt
  by_bytes method.Size bytes args all = tt
  by_bytes method.ByteSize bytes args all = tt
  by_bytes method.Bytes bytes args all = tt
  by_bytes method.Characters bytes args all = tt
  by_bytes method.Lines bytes args all = tt
  by_bytes method.Upcase bytes args all = tt
  by_bytes method.Downcase bytes args all = tt
  by_bytes method.Capitalize bytes args all = tt
  by_bytes method.Swapcase bytes args all = tt
  by_bytes method.Reverse bytes args all = tt
  by_bytes method.Strip bytes args all = tt
  by_bytes method.LeftStrip bytes args all = tt
  by_bytes method.RightStrip bytes args all = tt
  by_bytes method.Chomp bytes args all = tt
  by_bytes method.Chop bytes args all = tt
  by_bytes method.Append bytes args all = tt
  by_bytes method.Concat bytes args all = tt
  by_bytes method.Replace bytes args all = tt
  by_bytes method.Insert bytes args all = tt
  by_bytes method.Includes bytes args all = tt
  by_bytes method.StartsWith bytes args all = tt
  by_bytes method.EndsWith bytes args all = tt
  by_bytes method.Index bytes args all = tt
  by_bytes method.LastIndex bytes args all = tt
  by_bytes method.Substitute bytes args all = tt
  by_bytes method.SubstituteAll bytes args all = tt
  by_bytes method.Split bytes args all = tt
  by_bytes method.Center bytes args all = tt
  by_bytes method.LeftJustify bytes args all = tt
  by_bytes method.RightJustify bytes args all = tt
  by_bytes method.ToInteger bytes args all = tt
  by_bytes method.ToText bytes args all = tt
  by_bytes method.ToSymbol bytes args all = tt
  by_bytes method.Intern bytes args all = tt
  by_bytes method.IsEmpty bytes args all = tt
  by_bytes method.Ordinal bytes args all = tt
  by_bytes method.Inspect bytes args all = tt

  pub gives_belongs : (m : StringMethod) (recv : Value) (args : List Value) → AllAre (IsValue (census st)) args
      → SoundAnswer (census st) (gives m st.objects recv args)
  unfolding gives
  gives_belongs m recv args all = by_bytes m (text st.objects recv) args all

  pub new_belongs : (recv : Value) (args : List Value) → IsValue (census st) recv
      → SoundAnswer (census st) (new_string st.objects recv args)
  new_belongs recv args is = by_place st sort.Class recv
      (λ p. SoundAnswer (census st) (made_in st.objects recv args p)) is
      (core_is st sound class.Class, plain_is st sound recv is)
      (λ id e there test. has_role st Class id (is_good st _ id there) (is_class (sort_at st.objects id) test))
