-- Good numbers through the calls of a store.
use Rattle.rb_value.specs.declared.value.ObjId.{ObjId}
use Rattle.def_core.specs.Sound.{IsGood}
use Rattle.def_core.proofs.Good.{good_still}
use Rattle.rb_store.specs.Held.{Held}
use Rattle.rb_store.specs.Keeps.{Keeps}

-- a good number stays good over every call that keeps
pub good_kept : (before after : Held) → Keeps before after → (id : ObjId) → IsGood before.store id → IsGood after.store id
good_kept before after keeps id good = good_still before.store after.store keeps.extends id good
