-- What a configuration that fits says of what is done in it.
use Rattle.std.specs.Prelude.{◌≡◌, ◌<◌, length, true, is_some}
use Rattle.def_core.specs.Sound.{Sound}
use Rattle.ir_core.specs.CoreForm.{Local}
use Rattle.def_eval.specs.Configuration.{Memory, Config, Run, Halt}
use Rattle.def_eval.specs.Scopes.{value_in, scope_at, scopes_around, last_or, scope_of}
use Rattle.def_calls.specs.World.{World}
use Rattle.world_laws.specs.Fine.{Extends}
use Rattle.eval_laws.specs.Fits.{is_outward, IsHushed}

-- the world goes on from that one, as long as the evaluation does; there is no more output where an exit goes on or a
-- value goes to nothing
abbrev pub GoesOn : World → Config → Type 0
GoesOn w (Run f ks m) = Extends w m.world × IsHushed (m.world.out ≡ w.out) f ks
GoesOn w (Halt e) = Unit {0}

-- the store is sound as long as the evaluation goes on
abbrev pub SoundStore : Config → Type 0
SoundStore (Run f ks m) = Sound m.world.store
SoundStore (Halt e) = Unit {0}

-- The scope in which the local is sought is there. One that blocks see is among its variables; a hidden one that was
-- never set reads as nil.
pub record IsFound (m : Memory) (x : Local) : Type 0 where
  pub scope : scope_of m x < length m.scopes
  pub variable : is_outward x ≡ true → is_some (value_in (scope_at m.scopes (scope_of m x)).variables x) ≡ true

-- the parameter is one of the method around the text
abbrev pub IsOwn : Memory → Local → Type 0
IsOwn m x = is_some (value_in
    (scope_at m.scopes (last_or m.place.scope (scopes_around m.scopes m.place.scope))).variables x) ≡ true
