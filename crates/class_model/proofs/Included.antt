-- The members of a module's chain are modules, and so is what a class includes with them.
use Rattle.std.proofs.Common.{◌≡◌, ◌++◌, [], ◌∷◌, true, false, refl, ap, sym, ◌∙◌, subst}
use Rattle.rb_value.specs.declared.value.ObjId.{ObjId}
use Rattle.rb_value.specs.declared.kind.Sort.{Sort}
use Rattle.rb_value.specs.declared.kind.Sort.TheVariants as sort
use Rattle.def_core.specs.Store.{Store, sort_at}
use Rattle.def_core.specs.Classes.{class_at, chain}
use Rattle.def_core.specs.Changes.{new_members}
use Rattle.def_core.specs.Sound.{census, Module, Superclass, ClassOrModule, plays, Is, AllAre, Sound}
use Rattle.def_core.proofs.Chains.{chain_is, chain_above}
use Rattle.def_core.proofs.Roles.{is_plays, module_is_class, sound_class}
use Rattle.class_model.specs.Including.{is_new}
use Rattle.class_model.proofs.Lineages.{any_of, no_superclass}
use Rattle.class_model.proofs.Members.{all_append, all_filter}

module_sort : (s : Sort) → plays Module s ≡ true → plays Superclass s ≡ false
module_sort sort.Plain h = refl
module_sort sort.Class h = cc
module_sort sort.Singleton h = cc
module_sort sort.Module h = refl
module_sort sort.String h = refl
module_sort sort.Array h = refl
module_sort sort.Hash h = refl
module_sort sort.Range h = refl
module_sort sort.Proc h = refl
module_sort sort.Fiber h = refl
module_sort sort.Exception h = refl
module_sort sort.Enumerator h = refl
module_sort sort.Yielder h = refl

-- the chain of a module is itself and the modules that it includes
pub chain_of_module : (st : Store) → Sound st → (m : ObjId) → Is (census st) Module m
    → chain st.objects m ≡ m ∷ (class_at st.objects m).included ++ []
chain_of_module st sound m is =
    chain_is st sound m (module_is_class st m is)
    ∙ ap (λ p. m ∷ (class_at st.objects m).included ++ chain_above st.objects p)
    (no_superclass st sound m (any_of st Module m is)
    (module_sort (sort_at st.objects m) (is_plays st Module m is)))

all_modules : (st : Store) → Sound st → (m : ObjId) → Is (census st) Module m
    → AllAre (Is (census st) Module) (chain st.objects m)
all_modules st sound m is =
    let P = Is (census st) Module in
    subst (AllAre P) (sym (chain_of_module st sound m is)) (
      is,
      all_append P (class_at st.objects m).included [] (sound_class st sound m (module_is_class st m is)).included
          tt,
    )

-- the modules that a class includes with one more
pub included_are : (st : Store) → Sound st → (c m : ObjId) → Is (census st) ClassOrModule c → Is (census st) Module m
    → AllAre (Is (census st) Module) (new_members st.objects c m ++ (class_at st.objects c).included)
included_are st sound c m is mixin =
    let P = Is (census st) Module in
    all_append P (new_members st.objects c m) (class_at st.objects c).included
    (all_filter P (is_new st.objects c) (chain st.objects m) (all_modules st sound m mixin))
    (sound_class st sound c is).included
