-- What the call of a core method does to a store.
use Rattle.std.specs.Prelude.{◌≡◌, Result, IfOk, OnOk, OnErr}
use Rattle.std.specs.declared.alloc.AllocError.{AllocError}
use Rattle.rb_value.specs.declared.outcome.Outcome.{Outcome}
use Rattle.def_core.specs.Store.{Done}
use Rattle.def_core.specs.Sound.{IsOutcome, census}
use Rattle.rb_store.specs.Held.{Held}
use Rattle.rb_store.specs.Keeps.{Keeps}

-- it gives that outcome and leaves that store; where memory runs out the store is as before
pub record Does (before after : Held) (result : Result Outcome AllocError) (d : Done) : Type 0 where
  pub outcome : IfOk result (λ o. o ≡ d.outcome)
  pub store : OnOk result (after.store ≡ d.store)
  pub changes : after.changes ≡ before.changes
  pub err : OnErr result (after ≡ before)

-- the same, and it keeps the store, to which the outcome belongs
pub record Completes (before after : Held) (result : Result Outcome AllocError) (d : Done) : Type 0 where
  pub does : Does before after result d
  pub keeps : Keeps before after
  pub belongs : IfOk result (IsOutcome (census after.store))
