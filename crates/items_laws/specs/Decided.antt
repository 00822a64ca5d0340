-- Items that decide something without a call.
use Rattle.std.specs.Prelude.{◌≡◌, ℕ, List, []}
use Rattle.rb_value.specs.declared.value.Value.{Value}
use Rattle.rb_store.specs.Held.{Held}
use Rattle.iter_items.specs.declared.source.Source.{Source}
use Rattle.iter_items.specs.Asking.{taken}
use Rattle.items_laws.specs.Dropped.{rest_of}
use Rattle.items_laws.specs.Run.{Turn}

-- The result is that of all items, from a heap on that has the store in which the method was called; nothing is called, and
-- some of the items are made.
pub record Decides (result : List Value → Value) (held : Held) (s : Source) (ts : List Turn) (v : Value) (after : Held)
    : Type 0 where
  pub begun : Held
  pub same : begun.store ≡ held.store
  pub uncalled : ts ≡ []
  pub value : v ≡ result (rest_of begun s).items
  pub made : ℕ
  pub left : after ≡ (taken made begun s).held
