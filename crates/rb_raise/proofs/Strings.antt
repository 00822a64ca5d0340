-- A store with one more String, and one after a failure, is sound.
use Rattle.std.proofs.Common.{◌≡◌, ℕ, List, refl, sym, subst}
use Rattle.rb_value.specs.declared.core_class.CoreClass.TheVariants as class
use Rattle.rb_value.specs.declared.kind.Kind.TheVariants as kind
use Rattle.def_core.specs.declared.cause.Cause.{Cause}
use Rattle.rb_value.specs.declared.value.ObjId.{ObjId}
use Rattle.def_core.specs.Store.{Store, core, fresh, next_number, with_object}
use Rattle.def_core.specs.Texts.{detail_of}
use Rattle.def_core.specs.Changes.{fails}
use Rattle.def_core.specs.Sound.{Sound, census, Is, String, IsValue, Extends}
use Rattle.def_core.proofs.Grows.{sound_with_object, core_is_class, new_role, value_grows}
use Rattle.rb_store.specs.Held.{Held}
use Rattle.rb_store.specs.Keeps.{Keeps}
use Rattle.rb_store.proofs.Keeping.{keeps_added}
use Rattle.rb_raise.specs.Causes.{SoundCause}
use Rattle.rb_raise.proofs.Details.{detail_is}

pub sound_string : (st : Store) → Sound st → (bytes : List ℕ)
    → Sound (with_object st (fresh (core class.String) (kind.String bytes)))
sound_string st sound bytes = sound_with_object st sound _
    (record { class = core_is_class st sound class.String refl; singleton = tt; variables = tt; kind = tt })

-- the store after a failure
pub sound_fails : (st : Store) → Sound st → (c : Cause) → Sound (fails st c).store
unfolding fails
sound_fails st sound c = sound_string st sound _

-- a call that adds a String keeps the store
pub keeps_string : (h g : Held) (bytes : List ℕ) → Sound h.store
    → g.store ≡ with_object h.store (fresh (core class.String) (kind.String bytes)) → g.changes ≡ h.changes → Keeps h g
keeps_string h g bytes sound s e = keeps_added h g _ sound
    (record { class = core_is_class h.store sound class.String refl; singleton = tt; variables = tt; kind = tt }) s e

-- the String is one
pub string_is : (st after : Store) (bytes : List ℕ)
    → after ≡ with_object st (fresh (core class.String) (kind.String bytes)) → Is (census after) String (next_number st)
string_is st after bytes s =
    subst (λ (x : Store). Is (census x) String (next_number st)) (sym s) (new_role st _ String refl)

-- what is raised by a cause of the store belongs to the store after it
pub raised_belongs : (st after : Store) (c : Cause) (message : ObjId) → SoundCause (census st) c
    → Extends (census st) (census after) → Is (census after) String message
    → Is (census after) String message × IsValue (census after) (detail_of c)
raised_belongs st after c message is extends string =
    (string, value_grows (census st) (census after) extends (detail_of c) (detail_is (census st) c is))
