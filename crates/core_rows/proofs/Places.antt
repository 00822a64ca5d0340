-- The number of a value that is an object of a sort.
use Rattle.std.proofs.Common.{◌≡◌, ℕ, Bool, true, false, List, refl, ap, if◌then◌else◌}
use Rattle.std.specs.Prelude.{Option, Some, None, ◌&&◌}
use Rattle.std.specs.Cmp.{second_so}
use Rattle.rb_value.specs.declared.value.Value.{Value}
use Rattle.rb_value.specs.declared.value.Value.TheVariants.{Nil, True, False, Int, Sym, Obj}
use Rattle.rb_value.specs.declared.value.ObjId.{ObjId}
use Rattle.rb_value.specs.declared.kind.Sort.{Sort}
use Rattle.rb_value.specs.contracts.kind.SortPartialEq.TheImpl as sorts
use Rattle.def_core.specs.Store.{Store, sort_at}
use Rattle.def_core.specs.Parts.{elements_at}
use Rattle.def_core.specs.Sound.{census, Sound, Any, Is, IsGood, IsValue, AllAre, has_object}
use Rattle.def_core.proofs.Good.{is_good, good_has}
use Rattle.rb_store.proofs.Kept as kept
use Rattle.def_rows.specs.Operands.{is_there, place_of}

both_true : (a b : Bool) → a ≡ true → b ≡ true → (a && b) ≡ true
both_true true b h g = g
both_true false b h g = cc

-- what holds of a value that is no such object, and of one that is, holds of each
pub by_place : (st : Store) (s : Sort) (recv : Value) (P : Option ObjId → Type 0) → IsValue (census st) recv → P None
    → ((id : ObjId) → recv ≡ Obj id → Is (census st) Any id → sorts.ghosts.eq (sort_at st.objects id) s ≡ true → P (Some id))
    → P (place_of st.objects s recv)
by_place st s Nil P is none some = none
by_place st s True P is none some = none
by_place st s False P is none some = none
by_place st s (Int z) P is none some = none
by_place st s (Sym n) P is none some = none
by_place st s (Obj id) P is none some = by (is_there st.objects s id) refl
  where
    by : (b : Bool) → is_there st.objects s id ≡ b → P (if b then Some id else None)
    by true e = some id refl is (second_so (has_object st.objects id) _ e)
    by false e = none

-- an object of the sort has its place
pub place_there : (st : Store) (s : Sort) (id : ObjId) → IsGood st id → sorts.ghosts.eq (sort_at st.objects id) s ≡ true
    → place_of st.objects s (Obj id) ≡ Some id
place_there st s id good test =
    ap (λ (b : Bool). if b then Some id else None) (both_true _ _ (good_has st id good) test)

-- the elements of an Array of a sound store are values of it
pub elements_are : (st : Store) → Sound st → (id : ObjId) → Is (census st) Any id
    → AllAre (IsValue (census st)) (elements_at st.objects id)
elements_are st sound id is = kept.elements_are st sound id (is_good st Any id is)
