-- An object that gets a singleton class.
use Rattle.std.proofs.Common.{◌≡◌, ◌≢◌, ℕ, ◌<◌, List, [], ◌∷◌, length, get_or, false, true, refl, ap, ◌∙◌, subst, arith, length-append, length-set}
use Rattle.std.specs.Prelude.{Some, is_some, nat_eq}
use Rattle.std.proofs.lemmas.List.{get_or_append_left, get_or-set_same, get_or-set_other}
use Rattle.std.proofs.lemmas.Bool.Decides.{nat_tests}
use Rattle.rb_value.specs.declared.value.ObjId.{ObjId}
use Rattle.rb_value.specs.Object.{Object}
use Rattle.rb_value.specs.declared.kind.ClassForm.TheVariants as form
use Rattle.rb_value.specs.declared.kind.Kind.TheVariants as kind
use Rattle.rb_value.specs.declared.core_class.CoreClass.TheVariants as class
use Rattle.def_core.specs.Store.{Store, core, absent, fresh, object_at, set_object, next_number}
use Rattle.def_core.specs.Classes.{empty_class}
use Rattle.def_core.specs.Changes.{attach}
use Rattle.def_core.specs.Parts.{with_objects}
use Rattle.def_core.specs.Sound.{IsGood}
use Rattle.def_core.proofs.Good.{good_within, good_below}

abbrev pub singleton_under : ObjId → Object
singleton_under superclass = fresh (core class.Class) (kind.Class (empty_class form.Singleton (Some superclass)))

-- the object with the next number as its singleton class
abbrev attached_to : Store → ObjId → Object
attached_to st id = record (object_at st.objects id) { singleton = Some (next_number st) }

-- good stays good
pub good_attached : (st : Store) (id superclass k : ObjId) → IsGood st k
    → IsGood (with_objects st (attach st.objects id superclass)) k
good_attached st id superclass k good =
    let within = good_within st k good in
    let longer : k.0 < length (attach st.objects id superclass) = rw (length-append, length-set) (omega (arith, within)) in
    good_below (with_objects st (attach st.objects id superclass)) k longer

-- an object with a singleton class keeps one
pub kept_attached : (st : Store) (id superclass k : ObjId) → IsGood st id → IsGood st k
    → is_some (object_at st.objects k).singleton ≡ true
    → is_some (object_at (attach st.objects id superclass) k).singleton ≡ true
kept_attached st id superclass k good there h =
    let new : Object = attached_to st id in
    let front : k.0 < length (set_object st.objects id new) = rw length-set (good_within st k there) in
    ap (λ (o : Object). is_some o.singleton) (get_or_append_left (set_object st.objects id new)
    (singleton_under superclass ∷ []) absent k.0 front)
    ∙ elim (nat_eq k.0 id.0) as (λ b. nat_eq k.0 id.0 ≡ b
    → is_some (object_at (set_object st.objects id new) k).singleton ≡ true) [
      | true ↦ λ e.
          let same : id.0 ≡ k.0 = grind (arith, nat_tests, e) in
          subst (λ (n : ℕ). is_some (get_or (set_object st.objects id new) n absent).singleton ≡ true) same
          (ap (λ (o : Object). is_some o.singleton)
          (get_or-set_same st.objects id.0 new absent (good_within st id good)))
      | false ↦ λ e.
          let other : k.0 ≢ id.0 = grind (arith, nat_tests, e) in
          ap (λ (o : Object). is_some o.singleton) (get_or-set_other st.objects id.0 k.0 new absent other) ∙ h
    ] refl

-- the object has one
pub given_attached : (st : Store) (id superclass : ObjId) → IsGood st id
    → is_some (object_at (attach st.objects id superclass) id).singleton ≡ true
given_attached st id superclass good =
    let within = good_within st id good in
    let new : Object = attached_to st id in
    let front : id.0 < length (set_object st.objects id new) = rw length-set within in
    ap (λ (o : Object). is_some o.singleton) (get_or_append_left (set_object st.objects id new)
    (singleton_under superclass ∷ []) absent id.0 front ∙ get_or-set_same st.objects id.0 new absent within)
