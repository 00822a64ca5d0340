-- What a walk has left once it stands behind a class.
use Rattle.std.proofs.Common.{◌≡◌, ℕ, zero, suc, ◌<◌, List, [], ◌∷◌, ◌++◌, length, get_or, arith, refl, ap, ◌∙◌}
use Rattle.std.specs.Prelude.{Option, Some, None}
use Rattle.rb_value.specs.declared.value.ObjId.{ObjId}
use Rattle.def_core.specs.Store.{Store}
use Rattle.def_core.specs.Classes.{class_at, chain}
use Rattle.def_core.specs.Sound.{census, Census, ClassOrModule, Module, Is, OptionIs, AllAre, IsSuperclass, Sound}
use Rattle.def_core.proofs.Roles.{sound_class, superclass_is_class, module_is_class}
use Rattle.def_core.proofs.Chains as chains
use Rattle.def_core.proofs.Chains.{chain_is}
use Rattle.class_model.specs.Chain.{chain_above}

pub chain_behind : (st : Store) → Sound st → (c : ObjId) → Is (census st) ClassOrModule c
    → chain st.objects c ≡ c ∷ (class_at st.objects c).included
    ++ chain_above st.objects (class_at st.objects c).superclass
chain_behind st sound c is = chain_is st sound c is
    ∙ ap (λ rest. c ∷ (class_at st.objects c).included ++ rest) (same (class_at st.objects c).superclass)
  where
    same : (p : Option ObjId) → chains.chain_above st.objects p ≡ chain_above st.objects p
    same None = refl
    same (Some p) = refl

pub above_is_class : (st : Store) → Sound st → (c : ObjId) → Is (census st) ClassOrModule c
    → OptionIs (Is (census st) ClassOrModule) (class_at st.objects c).superclass
above_is_class st sound c is = by (class_at st.objects c).superclass (sound_class st sound c is).superclass
  where
    by : (p : Option ObjId) → OptionIs (IsSuperclass (census st) c.0) p → OptionIs (Is (census st) ClassOrModule) p
    by None h = tt
    by (Some p) h = superclass_is_class st p h.0

pub included_are_classes : (st : Store) → Sound st → (c : ObjId) → Is (census st) ClassOrModule c
    → AllAre (Is (census st) ClassOrModule) (class_at st.objects c).included
included_are_classes st sound c is = by (class_at st.objects c).included (sound_class st sound c is).included
  where
    by : (ms : List ObjId) → AllAre (Is (census st) Module) ms → AllAre (Is (census st) ClassOrModule) ms
    by [] h = tt
    by (m ∷ ms) h = (module_is_class st m h.0, by ms h.1)

pub member_at : (k : Census) (ms : List ObjId) (i : ℕ) (d : ObjId) → AllAre (Is k ClassOrModule) ms → i < length ms
    → Is k ClassOrModule (get_or ms i d)
member_at k [] i d all h = absurd (omega (arith, h))
member_at k (m ∷ ms) zero d all h = all.0
member_at k (m ∷ ms) (suc i) d all h = member_at k ms i d all.1 (omega (arith, h))
