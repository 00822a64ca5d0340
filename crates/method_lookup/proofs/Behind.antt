-- One step of a walk to an owner.
use Rattle.std.proofs.Common.{◌≡◌, List, [], ◌∷◌, false, ◌||◌, refl, if◌then◌else◌}
use Rattle.rb_value.specs.declared.value.ObjId.{ObjId}
use Rattle.def_core.specs.Store.{same_object}
use Rattle.def_core.specs.Classes.{is_member}
use Rattle.def_core.specs.Find.{behind}

pub behind_step : (owner c : ObjId) (before after : List ObjId) → before ≡ c ∷ after
    → behind owner before ≡ (if same_object owner c then after else behind owner after)
behind_step owner c before after h = rw h refl

pub behind_end : (owner : ObjId) (before : List ObjId) → before ≡ [] → behind owner before ≡ []
behind_end owner before h = rw h refl

pub member_step : (owner c : ObjId) (before after : List ObjId) → before ≡ c ∷ after
    → is_member before owner ≡ (same_object owner c || is_member after owner)
member_step owner c before after h = rw h refl

pub member_end : (owner : ObjId) (before : List ObjId) → before ≡ [] → is_member before owner ≡ false
member_end owner before h = rw h refl
