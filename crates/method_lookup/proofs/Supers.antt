-- What a search after an owner finds is of the store.
use Rattle.std.proofs.Common.{suc, List, [], ◌∷◌, true, false, if◌then◌else◌}
use Rattle.std.specs.Prelude.{Some}
use Rattle.rb_value.specs.declared.value.ObjId.{ObjId}
use Rattle.rb_value.specs.declared.value.SymId.{SymId}
use Rattle.def_core.specs.Store.{Store, same_object}
use Rattle.def_core.specs.Classes.{chain}
use Rattle.def_core.specs.Find.{behind, find_super}
use Rattle.def_core.specs.Sound.{census, ClassOrModule, Is, OptionIs, AllAre, IsFound, Sound}
use Rattle.class_model.proofs.Found.{first_is_sound, chain_is_classes}

rest_are : (P : ObjId → Type 0) (owner : ObjId) (cs : List ObjId) → AllAre P cs → AllAre P (behind owner cs)
rest_are P owner [] all = tt
rest_are P owner (c ∷ cs) all = elim (same_object owner c) as
    (λ b. AllAre P (if b then cs else behind owner cs)) [
      | true ↦ all.1
      | false ↦ rest_are P owner cs all.1
    ]

pub super_is_sound : (st : Store) → Sound st → (c owner : ObjId) (name : SymId) → Is (census st) ClassOrModule c
    → OptionIs (IsFound (census st)) (find_super st.objects c owner name)
unfolding find_super chain
super_is_sound st sound c owner name is = first_is_sound st sound (behind owner (chain st.objects c)) name
    (rest_are (Is (census st) ClassOrModule) owner (chain st.objects c) (chain_is_classes st sound (suc c.0) (Some c) is))
