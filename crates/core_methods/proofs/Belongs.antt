-- What each row gives belongs to the store.
use Rattle.std.proofs.Common.{◌≡◌, Bool, true, List, ◌∷◌, ap, sym, subst, arith}
use Rattle.std.specs.Prelude.{Option, Some, None, Result, Ok, Err, IfOk}
use Rattle.std.specs.declared.alloc.AllocError.{AllocError}
use Rattle.rb_value.specs.declared.value.Value.{Value}
use Rattle.rb_value.specs.declared.value.ObjId.{ObjId}
use Rattle.rb_value.specs.declared.kind.RangeEnds.{RangeEnds}
use Rattle.rb_value.specs.declared.kind.Sort.{Sort}
use Rattle.rb_value.specs.declared.kind.Sort.TheVariants as sort
use Rattle.rb_value.specs.contracts.kind.SortPartialEq.TheImpl as sorts
use Rattle.rb_value.specs.declared.core_class.CoreClass.TheVariants as class
use Rattle.rb_value.specs.Value.{is_true}
use Rattle.def_core.specs.Store.{Store, sort_at}
use Rattle.def_core.specs.Sound.{Census, census, Sound, Class, Is, IsValue, AllAre, plays}
use Rattle.def_core.proofs.Good.{is_good, has_role}
use Rattle.row_table.specs.declared.line.CoreRow.{CoreRow}
use Rattle.row_table.specs.declared.line.CoreRow.TheVariants.{Integer, Range, RangeClass, String, StringClass, Symbol, Nil, True, False}
use Rattle.row_table.specs.declared.range.RangeClassMethod.TheVariants as range_class
use Rattle.row_table.specs.declared.string.StringClassMethod.TheVariants as string_class
use Rattle.def_rows.specs.declared.answer.Answer.{Answer}
use Rattle.def_rows.specs.Operands.{argument}
use Rattle.def_rows.specs.RangeRows.{item_of, kept_ends, made, made_in, new_range}
use Rattle.def_rows.specs.Rows.{gives}
use Rattle.core_rows.specs.Belonging.{SoundAnswer}
use Rattle.core_rows.proofs.Places.{by_place}
use Rattle.core_rows.proofs.Checked.{core_is, plain_is}
use Rattle.core_string.proofs.Belonging as strings

made_belongs : (k : Census) (c : ObjId) → Is k Class c → (exclusive : Bool) (ends : Option RangeEnds)
    → SoundAnswer k (made c exclusive ends)
made_belongs k c is exclusive (Some e) = is
made_belongs k c is exclusive None = tt

is_class : (s : Sort) → sorts.ghosts.eq s sort.Class ≡ true → plays Class s ≡ true
is_class s h = let e : s ≡ sort.Class = grind (arith, h) in ap (plays Class) e

new_belongs : (st : Store) → Sound st → (recv : Value) (args : List Value) → IsValue (census st) recv
    → SoundAnswer (census st) (new_range st.objects recv args)
new_belongs st sound recv args is = by_place st sort.Class recv
    (λ p. SoundAnswer (census st) (made_in st.objects recv args p)) is
    (core_is st sound class.Class, plain_is st sound recv is)
    (λ id e there test. made_belongs (census st) id
    (has_role st Class id (is_good st _ id there) (is_class (sort_at st.objects id) test))
    (is_true (argument args 2)) (kept_ends (item_of st.objects (argument args 0)) (item_of st.objects (argument args 1))))

pub gives_belongs : (st : Store) (row : CoreRow) (recv : Value) (args : List Value) → Sound st
    → AllAre (IsValue (census st)) (recv ∷ args) → SoundAnswer (census st) (gives row st recv args)
gives_belongs st (Integer m) recv args sound all = tt
gives_belongs st (Range m) recv args sound all = tt
gives_belongs st (RangeClass range_class.New) recv args sound all = new_belongs st sound recv args all.0
gives_belongs st (String m) recv args sound all = strings.gives_belongs st sound m recv args all.1
gives_belongs st (StringClass string_class.New) recv args sound all = strings.new_belongs st sound recv args all.0
gives_belongs st (Symbol m) recv args sound all = tt
gives_belongs st (Nil m) recv args sound all = tt
gives_belongs st (True m) recv args sound all = tt
gives_belongs st (False m) recv args sound all = tt

pub answer_belongs : (k : Census) (r : Result Answer AllocError) (a : Answer) → SoundAnswer k a
    → IfOk r (λ x. x ≡ a) → IfOk r (SoundAnswer k)
answer_belongs k (Ok x) a right e = subst (SoundAnswer k) (sym e) right
answer_belongs k (Err e) a right h = tt
