-- The constants of a class or module.
use Rattle.std.proofs.Common.{ℕ, List, [], ◌∷◌, true, false, cond}
use Rattle.std.specs.Prelude.{Some, nat_eq}
use Rattle.rb_value.specs.declared.value.ObjId.{ObjId}
use Rattle.rb_value.specs.declared.value.SymId.{SymId}
use Rattle.rb_value.specs.declared.value.Value.{Value}
use Rattle.def_core.specs.Store.{Store}
use Rattle.def_core.specs.Classes.{class_at}
use Rattle.def_core.specs.Changes.{constant_in}
use Rattle.def_core.specs.Sound.{Census, census, ClassOrModule, Is, IsValue, OptionIs, AllAre, SoundConstant, Sound}
use Rattle.def_core.proofs.Roles.{sound_class}

constant_is_value : (k : Census) (cs : List (ℕ × Value)) (name : SymId) → AllAre (SoundConstant k) cs
    → OptionIs (IsValue k) (constant_in cs name)
constant_is_value k [] name all = tt
constant_is_value k (c ∷ cs) name all = elim (nat_eq name.0 c.0) as
    (λ b. OptionIs (IsValue k) (cond b (Some c.1) (constant_in cs name))) [
      | true ↦ all.0.1
      | false ↦ constant_is_value k cs name all.1
    ]

pub own_is_value : (st : Store) → Sound st → (c : ObjId) (name : SymId) → Is (census st) ClassOrModule c
    → OptionIs (IsValue (census st)) (constant_in (class_at st.objects c).constants name)
own_is_value st sound c name is = constant_is_value (census st) (class_at st.objects c).constants name
    (sound_class st sound c is).constants
