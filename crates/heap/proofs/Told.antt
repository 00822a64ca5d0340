-- The cause by which a value is refused is told as it is.
use Rattle.std.proofs.Common.{◌≡◌, refl}
use Rattle.rb_value.specs.declared.value.ObjId.{ObjId}
use Rattle.rb_value.specs.declared.core_class.CoreClass.{CoreClass}
use Rattle.rb_value.specs.CoreClass.{is_module}
use Rattle.def_core.specs.declared.cause.Cause.TheVariants as cause
use Rattle.def_core.specs.Store.{Store, core}
use Rattle.def_core.specs.Sound.{Sound, census, Is, ClassOrModule}
use Rattle.def_core.proofs.Roles.{is_plays}
use Rattle.heap.proofs.Spaces.{core_is_space}
use Rattle.heap.specs.Told.{told}

pub expected_told : (st : Store) → Sound st → (c : CoreClass) (got : ObjId) → Is (census st) ClassOrModule got
    → told st (cause.Expected (core c) got) ≡ cause.Expected (core c) got
unfolding told
expected_told st sound c got is = rw (
  is_plays st ClassOrModule (core c) (core_is_space st sound c),
  is_plays st ClassOrModule got is,
) refl
