-- What every call that may change a store keeps.
use Rattle.def_core.specs.Sound.{Sound, census, Extends}
use Rattle.rb_store.specs.Held.{Held}
use Rattle.rb_store.specs.Counted.{IsCounted}

-- the store is sound, each number that was good is good, with each role that it had, and the count tells of both
pub record Keeps (before after : Held) : Type 0 where
  pub sound : Sound after.store
  pub extends : Extends (census before.store) (census after.store)
  pub counted : IsCounted before after
