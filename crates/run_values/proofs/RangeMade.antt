-- A Range by its ends, and the number of its items.
use Rattle.std.proofs.Common.{◌≡◌, [], ◌∷◌, length, Bool, true, false, refl, ap, ◌∙◌, arith}
use Rattle.std.specs.Prelude.{Option, Some, None, nat_lt, ◌&&◌, if◌then◌else◌}
use Rattle.std.proofs.lemmas.Bool.Decides.{nat_tests}
use Rattle.rb_value.specs.declared.value.Value.{Value}
use Rattle.rb_value.specs.declared.value.Value.TheVariants.{Obj}
use Rattle.rb_value.specs.declared.value.ObjId.{ObjId}
use Rattle.rb_value.specs.declared.core_class.CoreClass.TheVariants as class
use Rattle.rb_value.specs.declared.kind.RangeEnds.{RangeEnds}
use Rattle.rb_value.specs.declared.kind.Sort.{Sort}
use Rattle.rb_value.specs.declared.kind.Sort.TheVariants as sort
use Rattle.rb_value.specs.contracts.kind.SortPartialEq.TheImpl as sorts
use Rattle.rb_value.specs.Value.{truth, is_true}
use Rattle.def_core.specs.declared.cause.Cause.TheVariants as cause
use Rattle.def_core.specs.Store.{Store, core, sort_at}
use Rattle.def_core.specs.Sound.{census, Sound, Class, Is, plays}
use Rattle.def_core.proofs.Grows.{core_is_class}
use Rattle.def_core.proofs.Roles.{is_plays}
use Rattle.def_core.proofs.Good.{is_good}
use Rattle.core_rows.proofs.Places.{place_there}
use Rattle.def_rows.specs.Operands.{place_of}
use Rattle.def_rows.specs.Answers.{finish}
use Rattle.def_rows.specs.RangeRows.{new_range, made, made_in, kept_ends, item_of}
use Rattle.core_rows.specs.Belonging.{SoundAnswer}
use Rattle.run_values.specs.Raisable.{IsRaisable}
use Rattle.run_values.proofs.Causes.{fails_raisable}

class_alone : (s : Sort) → plays Class s ≡ true → sorts.ghosts.eq s sort.Class ≡ true
class_alone sort.Plain h = cc
class_alone sort.Class h = refl
class_alone sort.Singleton h = cc
class_alone sort.Module h = cc
class_alone sort.String h = cc
class_alone sort.Array h = cc
class_alone sort.Hash h = cc
class_alone sort.Range h = cc
class_alone sort.Proc h = cc
class_alone sort.Fiber h = cc
class_alone sort.Exception h = cc
class_alone sort.Enumerator h = cc
class_alone sort.Yielder h = cc

-- the class Range is the receiver
place_of_class : (st : Store) (id : ObjId) → Is (census st) Class id
    → place_of st.objects sort.Class (Obj id) ≡ Some id
place_of_class st id is =
    place_there st sort.Class id (is_good st Class id is) (class_alone (sort_at st.objects id) (is_plays st Class id is))

same_truth : (b : Bool) → is_true (truth b) ≡ b
same_truth true = refl
same_truth false = refl

pub range_is : (st : Store) → Sound st → (a b : Value) (exclusive : Bool)
    → new_range st.objects (Obj (core class.Range)) (a ∷ b ∷ truth exclusive ∷ [])
    ≡ made (core class.Range) exclusive (kept_ends (item_of st.objects a) (item_of st.objects b))
range_is st sound a b exclusive =
    ap (made_in st.objects (Obj (core class.Range)) (a ∷ b ∷ truth exclusive ∷ []))
    (place_of_class st (core class.Range) (core_is_class st sound class.Range refl))
    ∙ ap (λ (e : Bool). made (core class.Range) e (kept_ends (item_of st.objects a) (item_of st.objects b)))
    (same_truth exclusive)

-- it belongs to the store
pub made_sound : (st : Store) → Sound st → (exclusive : Bool) (e : Option RangeEnds)
    → SoundAnswer (census st) (made (core class.Range) exclusive e)
made_sound st sound exclusive None = tt
made_sound st sound exclusive (Some e) = core_is_class st sound class.Range refl

-- what the ends come to can be raised
pub made_raisable : (st : Store) (recv : Value) (exclusive : Bool) (e : Option RangeEnds)
    → IsRaisable (finish st recv (made (core class.Range) exclusive e)).outcome
made_raisable st recv exclusive None = fails_raisable st cause.BadRange
made_raisable st recv exclusive (Some e) = tt
