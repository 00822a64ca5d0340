-- When a heap is whole.
use Rattle.std.specs.Prelude.{List}
use Rattle.def_core.specs.Sound.{Sound, census}
use Rattle.rb_store.specs.Held.{Held}
use Rattle.method_lookup.specs.Cache.{Cache, GoesWith}
use Rattle.def_calls.specs.World.{Enclosing}
use Rattle.run_definitions.specs.Enclosing.{AreEnclosing}

-- the store is sound, and the lists of enclosing classes and the cache go with it
pub record IsWhole (held : Held) (around : List Enclosing) (kept : Cache) : Type 0 where
  pub sound : Sound held.store
  pub lists : AreEnclosing (census held.store) around
  pub cache : GoesWith kept held
