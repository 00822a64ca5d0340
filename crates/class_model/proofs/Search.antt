-- One step of the search along a walk.
use Rattle.std.proofs.Common.{◌≡◌, ◌<◌, List, [], ◌∷◌, length, refl, subst, arith}
use Rattle.std.specs.Prelude.{None}
use Rattle.rb_value.specs.declared.value.ObjId.{ObjId}
use Rattle.rb_value.specs.declared.value.SymId.{SymId}
use Rattle.rb_value.specs.Object.{Object}
use Rattle.def_core.specs.Find.{entry_of, found_or, first_of}
use Rattle.def_core.specs.Sound.{census, ClassOrModule, Is}
use Rattle.rb_store.specs.Held.{Held}

pub first_step : (objects : List Object) (before after : List ObjId) (c : ObjId) (name : SymId) → before ≡ c ∷ after
    → first_of objects before name ≡ found_or c (entry_of objects c name) (first_of objects after name)
unfolding first_of
first_step objects before after c name h = rw h refl

pub first_none : (objects : List Object) (before : List ObjId) (name : SymId) → before ≡ []
    → first_of objects before name ≡ None
unfolding first_of
first_none objects before name h = rw h refl

pub shorter : (before after : List ObjId) (c : ObjId) → before ≡ c ∷ after → length after < length before
shorter before after c h = rw h (omega arith)

-- a class of one store is one of the same store
pub still_class : (h g : Held) (c : ObjId) → h ≡ g → Is (census h.store) ClassOrModule c
    → Is (census g.store) ClassOrModule c
still_class h g c e is = subst (λ (x : Held). Is (census x.store) ClassOrModule c) e is
