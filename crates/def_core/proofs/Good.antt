-- The laws of good numbers of a store, by which alone the crates above the store know them.
use Rattle.std.proofs.Common.{◌≡◌, ℕ, ◌+◌, ◌<◌, ◌≤◌, List, [], ◌∷◌, ◌++◌, length, true, false, refl, ap, sym, ◌∙◌, subst, arith, length-append, length-set, true≢false}
use Rattle.std.specs.Prelude.{Some, None, slice_get, nat_lt}
use Rattle.std.proofs.lemmas.List.{get_or_append_left, get_or_past}
use Rattle.std.proofs.lemmas.Option.{slice_get_past, slice_get-get_or}
use Rattle.std.proofs.lemmas.Bool.Decides.{nat_tests}
use Rattle.rb_value.specs.declared.value.ObjId.{ObjId}
use Rattle.rb_value.specs.declared.kind.Sort.{Sort}
use Rattle.rb_value.specs.declared.kind.Sort.TheVariants as sort
use Rattle.rb_value.specs.Object.{Object}
use Rattle.def_core.specs.Store.{Store, absent, object_at, sort_at, set_object, object_number, next_number, with_object}
use Rattle.def_core.specs.Parts.{with_objects}
use Rattle.def_core.specs.Sound.{sorts_of, census, Role, Any, plays, has_object, Is, IsGood, SoundObject, Sound, Extends}
use Rattle.def_core.proofs.Sorts.{sort_at-sorts, length-sorts}
use Rattle.def_core.proofs.Roles.{is_within, is_by_sort}

any_sort : (s : Sort) → plays Any s ≡ true
any_sort sort.Plain = refl
any_sort sort.Class = refl
any_sort sort.Singleton = refl
any_sort sort.Module = refl
any_sort sort.String = refl
any_sort sort.Array = refl
any_sort sort.Hash = refl
any_sort sort.Range = refl
any_sort sort.Proc = refl
any_sort sort.Fiber = refl
any_sort sort.Exception = refl
any_sort sort.Enumerator = refl
any_sort sort.Yielder = refl

-- For the store: a number is good where it is below the count of its objects.

pub good_within : (st : Store) (id : ObjId) → IsGood st id → id.0 < length st.objects
good_within st id good = is_within st Any id good.there

pub good_below : (st : Store) (id : ObjId) → id.0 < length st.objects → IsGood st id
good_below st id within = record { there = is_by_sort st Any id within (any_sort _) }

pub sort_found : (st : Store) (id : ObjId) → IsGood st id
    → slice_get (sorts_of st.objects) id.0 ≡ Some (sort_at st.objects id)
sort_found st id good =
    slice_get-get_or (sorts_of st.objects) id.0 sort.Plain (rw length-sorts (good_within st id good))
    ∙ ap Some (sort_at-sorts st.objects id)

pub none_there : (st : Store) (id : ObjId) → length st.objects ≤ id.0 → slice_get (sorts_of st.objects) id.0 ≡ None
none_there st id past = slice_get_past (sorts_of st.objects) id.0 (rw length-sorts past)

pub absent_past : (st : Store) (id : ObjId) → length st.objects ≤ id.0 → object_at st.objects id ≡ absent
absent_past st id past = get_or_past st.objects id.0 absent past

-- For all above it.

-- the store has what is good; what it hasn't reads as nothing
pub good_has : (st : Store) (id : ObjId) → IsGood st id → has_object st.objects id ≡ true
good_has st id good = good.there.holds

pub absent_where_none : (st : Store) (id : ObjId) → has_object st.objects id ≡ false → object_at st.objects id ≡ absent
absent_where_none st id none = elim (nat_lt id.0 (length st.objects)) as
    (λ b. nat_lt id.0 (length st.objects) ≡ b → object_at st.objects id ≡ absent) [
      | true ↦ λ within. absurd (true≢false (sym (good_has st id (good_below st id (grind (arith, nat_tests, within)))) ∙ none))
      | false ↦ λ outside. absent_past st id (grind (arith, nat_tests, outside))
    ] refl

-- what has a role is good
pub is_good : (st : Store) (r : Role) (id : ObjId) → Is (census st) r id → IsGood st id
is_good st r id is = good_below st id (is_within st r id is)

-- a good number has each role that the sort of its object plays
pub has_role : (st : Store) (r : Role) (id : ObjId) → IsGood st id → plays r (sort_at st.objects id) ≡ true
    → Is (census st) r id
has_role st r id good h = is_by_sort st r id (good_within st id good) h

-- what a good object holds is good
pub good_object : (st : Store) → Sound st → (id : ObjId) → IsGood st id
    → SoundObject (census st) id.0 (object_at st.objects id)
good_object st sound id good = sound.objects id.0 (good_within st id good)

-- so is what an object with a role holds
pub role_object : (st : Store) → Sound st → (r : Role) (id : ObjId) → Is (census st) r id
    → SoundObject (census st) id.0 (object_at st.objects id)
role_object st sound r id is = good_object st sound id (is_good st r id is)

-- good stays good where all that was there is there
pub good_still : (before after : Store) → Extends (census before) (census after) → (id : ObjId) → IsGood before id
    → IsGood after id
good_still before after e id good = record { there = e.roles Any id good.there }

-- a new object behind the others is good
pub good_added : (st : Store) (o : Object) → IsGood (with_object st o) (next_number st)
good_added st o =
    let longer : length st.objects < length (st.objects ++ o ∷ []) = rw length-append (omega arith) in
    good_below (with_object st o) (next_number st) longer

-- each of several is
pub good_among : (st : Store) (more : List Object) (i : ℕ) → i < length more
    → IsGood (with_objects st (st.objects ++ more)) (object_number (length st.objects + i))
good_among st more i within =
    let longer : length st.objects + i < length (st.objects ++ more) =
    omega (arith, within, length-append st.objects more) in
    good_below (with_objects st (st.objects ++ more)) (object_number (length st.objects + i)) longer

-- a good object is what it was where others come behind it
pub good_same : (st : Store) (more : List Object) (id : ObjId) → IsGood st id
    → object_at (st.objects ++ more) id ≡ object_at st.objects id
good_same st more id good = get_or_append_left st.objects more absent id.0 (good_within st id good)

-- and stays good where another stands in the place of one
pub good_replaced : (before after : Store) (id other : ObjId) (o : Object)
    → after ≡ record before { objects = set_object before.objects id o } → IsGood before other → IsGood after other
good_replaced before after id other o e good =
    let within = good_within before other good in
    let there : other.0 < length (set_object before.objects id o) = rw length-set within in
    subst (λ (st : Store). IsGood st other) (sym e)
    (good_below (record before { objects = set_object before.objects id o }) other there)

-- a good number is one of those before the next
pub before_next : (st : Store) (r : Role) (id : ObjId) → Is (census st) r id → id.0 < (next_number st).0
before_next st r id is = is_within st r id is
